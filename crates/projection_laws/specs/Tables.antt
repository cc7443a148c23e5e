-- Demand 3 on tables: a path of a bundle selects the same nodes on a well-formed table and on the table cut to any set that has the
-- bundle's needed names; and tables that are the same but for text starts have the same nodes.
use mathlib.Core.List.{List, Memᴰ as In}
use Rattle.std.specs.Prelude.{◌≡◌, ℕ, T}
use Rattle.std.proofs.Common.{sym, ap, ◌∙◌}
use Rattle.extract_spec.specs.Conditions.{SameTables}
use Rattle.extract_spec.specs.Cut.{cut}
use Rattle.inference_spec.specs.Needed.{needed}
use Rattle.path_spec.specs.Paths.{LocationPath}
use Rattle.path_spec.specs.Selection.{select, select_rows}
use Rattle.projection_laws.specs.Cutting.{rows_cut}
use Rattle.projection_laws.specs.Documents.{SubsetOf, Lawful}
use Rattle.projection_laws.specs.Nodes.{select-cut, path-needed}
use Rattle.projection_laws.specs.Rows.{rows-valid}
use Rattle.projection_laws.specs.SameTables.{same_nodes}
use Rattle.schema_spec.specs.Names.{Names}
use Rattle.schema_spec.specs.Types.{Types}
use Rattle.table_spec.specs.Nodes.{Node, nodes_of}
use Rattle.table_spec.specs.Rows.{Row}
use Rattle.table_spec.specs.Tables.{well_formed}

pub cut-selects-same : (s : Types) → Lawful s → (lent : List ℕ) (rows : List Row) → T (well_formed s rows) → (ps : List (LocationPath ℕ)) (p : LocationPath ℕ) → In p ps
    → (set : Names) → SubsetOf (needed s ps) set → select_rows lent (cut set rows) p ≡ select_rows lent rows p
unfolding select_rows
cut-selects-same s law lent rows ok ps p i set enough =
    ap (λ (doc : List Node). select doc p) (rows_cut s set lent rows ok)
    ∙ sym (select-cut s law p (nodes_of lent rows) (rows-valid s lent rows ok) set (λ n j. enough n (path-needed s ps i n j)))

pub same-tables-select : {lent lent' : List ℕ} {qs rs : List Row} → SameTables lent lent' qs rs → (p : LocationPath ℕ) → select_rows lent qs p ≡ select_rows lent' rs p
unfolding select_rows
same-tables-select t p = ap (λ (doc : List Node). select doc p) (same_nodes t)
