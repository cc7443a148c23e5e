-- Tables that are the same but for text starts and raw lengths have the same nodes, so an extract has the nodes of the table it was written from.
use mathlib.Core.List.{List, [], ◌∷◌, ◌++◌}
use Rattle.std.specs.Prelude.{◌≡◌, refl, ℕ, T}
use Rattle.std.proofs.Common.{sym, ◌∙◌}
use Rattle.std.proofs.Math.Path.{ap}
use Rattle.extract_spec.specs.Conditions.{SameButRawText, SameTables, no_rows, next_row}
use Rattle.extract_spec.specs.Fields.{write_extract, extract_rows}
use Rattle.extract_spec.specs.Reading.{read_extract}
use Rattle.path_spec.specs.Paths.{LocationPath}
use Rattle.path_spec.specs.Selection.{select, select_rows}
use Rattle.projection_laws.specs.RoundTrip.{extract-same-tables, write_read}
use Rattle.schema_spec.specs.Schemas.{Schema}
use Rattle.schema_spec.specs.Types.{Types, types_of}
use Rattle.table_spec.specs.Nodes.{Node, node_at, nodes_from, nodes_of}
use Rattle.table_spec.specs.Rows.{Row, characters_of}
use Rattle.table_spec.specs.Tables.{well_formed_with}

same-node : (lent lent' : List ℕ) {q r : Row} (before : List Node) → SameButRawText q r → characters_of lent q ≡ characters_of lent' r
    → node_at lent before q ≡ node_at lent' before r
same-node lent lent' before c w = rw (w, c.number, c.name, c.parent)

nodes-from : {lent lent' : List ℕ} {qs rs : List Row} (before : List Node) → SameTables lent lent' qs rs → nodes_from lent before qs ≡ nodes_from lent' before rs
nodes-from before no_rows = refl
nodes-from {lent} {lent'} before (next_row {q} {r} {qs} {rs} c w more) =
    let y = node_at lent' before r in
    ap (λ (z : Node). z ∷ nodes_from lent (before ++ (z ∷ [])) qs) (same-node lent lent' before c w) ∙ ap (λ (l : List Node). y ∷ l)
    (nodes-from (before ++ (y ∷ [])) more)

pub same_nodes : {lent lent' : List ℕ} {qs rs : List Row} → SameTables lent lent' qs rs → nodes_of lent qs ≡ nodes_of lent' rs
unfolding nodes_of
same_nodes c = nodes-from [] c

-- an extract is read as a table with the nodes of the table that was written
pub extract-nodes : (s : Types) (lent : List ℕ) (rows : List Row) → T (well_formed_with s lent rows)
    → nodes_of (write_extract lent rows) (extract_rows lent rows) ≡ nodes_of lent rows
extract-nodes s lent rows t = sym (same_nodes (extract-same-tables s lent rows t))

-- two tables with the same extract have the same nodes, so every path selects the same in both
module _ (s : Schema) (lent lent' : List ℕ) (rows rows' : List Row) (t : T (well_formed_with (types_of s) lent rows)) (t' : T (well_formed_with (types_of s) lent' rows'))
    (same : write_extract lent rows ≡ write_extract lent' rows') where
  pub one-extract-nodes : nodes_of lent rows ≡ nodes_of lent' rows'
  one-extract-nodes =
      let e = write_read s lent rows t in
      let f = ap (read_extract (types_of s)) same ∙ write_read s lent' rows' t' in
      let one : extract_rows lent rows ≡ extract_rows lent' rows' = cc in
      sym (extract-nodes (types_of s) lent rows t) ∙ ap (nodes_of (write_extract lent rows)) one ∙ ap (λ (bs : List ℕ). nodes_of bs (extract_rows lent' rows')) same ∙ extract-nodes (types_of s) lent' rows' t'

  pub one-extract-selects : (p : LocationPath ℕ) → select_rows lent rows p ≡ select_rows lent' rows' p
  unfolding select_rows
  one-extract-selects p = ap (λ (doc : List Node). select doc p) one-extract-nodes
