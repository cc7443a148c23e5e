-- The chain of tags of a row of a table that is handed in: what is asked, and that the answer is the library's outcome.
use Rattle.std.specs.Prelude.{true, false, List, [], map, ◌≡◌, refl, ℕ, ◌<◌, ◌≤◌, Result, Err, length, take}
use Rattle.std.proofs.Math.Option.{Option, none, some}
use Rattle.std.proofs.Common.{sym, ap₂, subst, ◌∙◌, arith, length-take-le}
use Rattle.std.proofs.Math.Path.{ap}
use Rattle.std.proofs.Math.ListN.{get_elem?}
use Rattle.cells.specs.columns.Columns.{EqualColumns}
use Rattle.cells.specs.columns.Lent.{read_columns}
use Rattle.cells.specs.declared.columns.Columns as reading
use Rattle.cells.specs.lent.Columns.{first_cells}
use Rattle.cells.specs.verdicts.Verdicts.{in_bytes, AnsweredBytes}
use Rattle.chains.specs.declared.tags.ElementNames.{ElementNames}
use Rattle.chains.specs.laws.Names.{compiled-names}
use Rattle.chains.specs.laws.Nodes.{node-chain}
use Rattle.chains.specs.tags.Chains.{chain_at, NamesAt, SizePass}
use Rattle.compiled_schema.specs.Compiled.{CompiledOf}
use Rattle.compiled_schema.specs.declared.CompiledSchema.{CompiledSchema}
use Rattle.handed_tables.specs.calls.Calls.{Holds, table-holds, table-refused, table-held}
use Rattle.handed_tables.specs.columns.Rows.{lent-codes, lent-parents, lent-cells, lent-equal, lent-columns}
use Rattle.library_spec.specs.Chains.{chain}
use Rattle.library_spec.specs.Records.{LentTable, table_held}
use Rattle.schema_spec.specs.Reading.{read_schema}
use Rattle.schema_spec.specs.Schemas.{Schema}
use Rattle.schema_spec.specs.Types.{types_of}
use Rattle.table_laws.specs.Columns.{codes-map}
use Rattle.table_laws.specs.Parents.{nodes-placed}
use Rattle.table_laws.specs.Places.{at_bound, at_some}
use Rattle.table_spec.specs.Columns.{Columns}
use Rattle.table_spec.specs.Nodes.{Node, nodes_of}
use Rattle.table_spec.specs.Rows.{Row}
use Rattle.tables.specs.Handed.{is_held}
use Rattle.text.specs.declared.refusals.Reason.TheVariants.{BadRecord}
use Rattle.text.specs.declared.refusals.Refusal.{Refusal}
use Rattle.text.specs.refusals.Refusals.{refusal}
use Rattle.text_spec.specs.Calls.{handed}
use Rattle.text_spec.specs.Cells.{padded}
use Rattle.text_spec.specs.Refusals.{Outcome, accepted, refused, at, bad_record}
use Rattle.text_spec.specs.Scans.{name_at}

-- ---- definitions
-- how many bytes each of the names at places of a text has
abbrev pub sizes_at : List ℕ → List ℕ → List ℕ
sizes_at text names = map (λ p. length (name_at text p)) names

-- the chain of a row by the first cells of the columns of codes and parents
abbrev pub chain_in : List ℕ → List ℕ → List ℕ → List ℕ → ℕ → ℕ → List ℕ
chain_in text names codes ps count position = chain_at text names (sizes_at text names) (take count codes) (take count ps) position

-- what writing it asks
pub record Chainable (text places codes ps : List ℕ) (count position : ℕ) : Type 0 where
  pub named : count ≤ length codes
  pub parented : count ≤ length ps
  pub names : NamesAt text places (sizes_at text places)
  pub rows : SizePass (sizes_at text places) (take count codes) (take count ps) position

-- a table that is handed in, under a schema
unfoldable pub chain_held : Schema → LentTable → ℕ → ℕ → Outcome (List ℕ)
chain_held s t position size =
    handed (table_held s t) (λ rows. handed (get_elem? (nodes_of [] rows) position) (λ y. in_bytes size (chain s y)))

-- the names at places of a text, and the first rows of a table, as the code has made them
pub record MadeFor (text places : List ℕ) (t : LentTable) (names : ElementNames) (first : reading.Columns) : Type 0 where
  pub text-is : names.text.now ≡ text
  pub starts-are : names.starts.now ≡ places
  pub sizes-are : names.sizes.now ≡ sizes_at text places
  pub rows-are : read_columns first ≡ first_cells t.count t.columns

-- ---- what was made says what the chain's own parts say
module _ {text places : List ℕ} {t : LentTable} {names : ElementNames} {first : reading.Columns} (made : MadeFor text places t names first) (position : ℕ) where
  codes : first.names.now ≡ take t.count t.columns.names
  codes = ap (λ (c : Columns). c.names) made.rows-are

  parents : first.parents.now ≡ take t.count t.columns.parents
  parents = ap (λ (c : Columns). c.parents) made.rows-are

  made-pass : Chainable text places t.columns.names t.columns.parents t.count position
      → NamesAt names.text.now names.starts.now names.sizes.now × SizePass names.sizes.now first.names.now first.parents.now position
  made-pass h = rw (made.text-is, made.starts-are, made.sizes-are, codes, parents) (h.names, h.rows)

  made-chain : chain_at names.text.now names.starts.now names.sizes.now first.names.now first.parents.now position
      ≡ chain_in text places t.columns.names t.columns.parents t.count position
  made-chain = rw (made.text-is, made.starts-are, made.sizes-are, codes, parents) refl

-- nothing is answered but a refusal by 1
pub refused-1 : {o : Outcome (List ℕ)} {size : ℕ} {r : Result ℕ Refusal} {x : List ℕ} → o ≡ refused (at bad_record 0) → r ≡ Err (refusal BadRecord 0) → x ≡ padded size []
    → AnsweredBytes o size r x
refused-1 e v c = rw e (record { answer = v; cells = c })

-- ---- a table that is handed in
module _ (s : Schema) (t : LentTable) (position size : ℕ) where
  pub no_table : is_held s t ≡ false → chain_held s t position size ≡ refused (at bad_record 0)
  unfolding chain_held
  no_table e = table-refused s t _ e

  module _ (held : is_held s t ≡ true) where
    abbrev found : (rows : List Row) × Holds s t rows
    found = table-holds s t held

    abbrev doc : List Node
    doc = nodes_of [] found.0

    row_count : length doc ≡ t.count
    row_count =
        (nodes-placed (types_of s) [] found.0 found.1.passes).size ∙ ap (λ (l : List ℕ). length l) (lent-parents t found.0 found.1.lent)
        ∙ length-take-le t.count t.columns.parents (lent-cells t found.0 found.1.lent).parented

    by-node : (o : Option Node) → get_elem? doc position ≡ o → chain_held s t position size ≡ handed o (λ y. in_bytes size (chain s y))
    unfolding chain_held
    by-node o e =
        table-held s t _ found.0 found.1 ∙ ap (λ (x : Option Node). handed x (λ y. in_bytes size (chain s y))) e

    pub no_row : t.count ≤ position → chain_held s t position size ≡ refused (at bad_record 0)
    no_row l = pick (get_elem? doc position) refl
      where
        pick : (o : Option Node) → get_elem? doc position ≡ o → chain_held s t position size ≡ refused (at bad_record 0)
        pick none e = by-node none e
        pick (some y) e = absurd (omega (arith, at_bound doc position y e, row_count))

    pub first-asked : EqualColumns t.columns × (t.count ≤ length t.columns.numbers)
    first-asked = (lent-equal t found.0 found.1.lent, (lent-cells t found.0 found.1.lent).numbered)

    module _ (text : List ℕ) (read : read_schema text ≡ accepted s) (c : CompiledSchema) (made : CompiledOf text s c) (l : position < t.count) where
      chain-asked : Chainable text c.names t.columns.names t.columns.parents t.count position
      chain-asked =
          let cells = lent-cells t found.0 found.1.lent in
          let k = lent-columns t found.0 found.1.lent s found.1.passes in
          let n = compiled-names text s read c made (sizes_at text c.names) refl in
          record {
            named = cells.named;
            parented = cells.parented;
            names = n;
            rows = record {
              fit = n.fit;
              before = k.before;
              size = k.names-size;
              few = k.few;
              within = omega (arith, length-take-le t.count t.columns.parents cells.parented);
            };
          }

      chain-found : (r : Result ℕ Refusal) (out : List ℕ) → (w : List ℕ) → w ≡ chain_in text c.names t.columns.names t.columns.parents t.count position
          → AnsweredBytes (in_bytes size w) size r out → AnsweredBytes (chain_held s t position size) size r out
      chain-found r out w e h =
          let y = at_some doc position (omega (arith, row_count)) in
          let same : w ≡ chain s y.0 =
          e ∙ ap₂ (λ (a b : List ℕ). chain_at text c.names (sizes_at text c.names) a b position) (sym (sym (codes-map found.0) ∙ lent-codes t found.0 found.1.lent)) (sym (lent-parents t found.0 found.1.lent))
          ∙ node-chain text s read c made (sizes_at text c.names) refl [] found.0 found.1.passes position y.0 y.1 in
          rw (by-node (some y.0) y.1) (subst (λ (x : List ℕ). AnsweredBytes (in_bytes size x) size r out) same h)

      module _ {names : ElementNames} {first : reading.Columns} (parts : MadeFor text c.names t names first) where
        pub chain-pass : NamesAt names.text.now names.starts.now names.sizes.now × SizePass names.sizes.now first.names.now first.parents.now position
        chain-pass = made-pass parts position chain-asked

        pub chain-answered : (r : Result ℕ Refusal) (out : List ℕ)
            → AnsweredBytes (in_bytes size (chain_at names.text.now names.starts.now names.sizes.now first.names.now first.parents.now position)) size r out
            → AnsweredBytes (chain_held s t position size) size r out
        chain-answered r out w = chain-found r out _ (made-chain parts position) w
