-- Selecting from an extract under an accepted schema and bundle: what each stage leaves, and that together they are the library's outcome.
use Rattle.std.specs.Prelude.{Bool, true, false, ◌||◌, List, [], ◌∷◌, ◌≡◌, refl, ℕ, ◌≤◌, T, Result, Ok, Err, length}
use Rattle.std.proofs.Common.{sym, ap, subst, ◌∙◌, arith}
use Rattle.axis_passes.specs.rows.Rows.{TextColumns}
use Rattle.cells.specs.columns.Columns.{EqualColumns}
use Rattle.cells.specs.lent.Columns.{first_cells}
use Rattle.cells.specs.lent.Ends.{Slice}
use Rattle.cells.specs.verdicts.Verdicts.{verdict}
use Rattle.compiled_paths.specs.Paths.{paths_in, Shaped}
use Rattle.compiled_paths.specs.declared.CompiledPaths.{CompiledPaths}
use Rattle.compiled_schema.specs.Compiled.{CompiledOf}
use Rattle.compiled_schema.specs.declared.CompiledSchema.{CompiledSchema}
use Rattle.compiled_schema.specs.held_words.Words.{WordsOf, words-held}
use Rattle.extract_reader.specs.table.Words.{ReadWords, read-words}
use Rattle.extract_spec.specs.Reading.{read_extract}
use Rattle.hosts.specs.columns.Rows.{err_or, ok_or, RowsRead, text-refused, staged-by, sizes-after, first-columns, equal-after, room-after}
use Rattle.hosts.specs.declared.results.Answered.{Answered}
use Rattle.hosts.specs.declared.texts.Texts.{Texts}
use Rattle.hosts.specs.laws.Extracts.{read-well-formed}
use Rattle.hosts.specs.laws.Stages.{chosen_of, chosen_under}
use Rattle.hosts.specs.results.Exits.{lent_of, result_for, Exits}
use Rattle.hosts.specs.results.Settled.{Settled, same-settled, settled-refused, settled-accepted, settled-out}
use Rattle.kept_rows.specs.laws.Cut.{columns_in}
use Rattle.kept_rows.specs.laws.Known.{rows-coded}
use Rattle.library_spec.specs.Calls.{in_columns, columns_after}
use Rattle.library_spec.specs.Hosts.{host_answer}
use Rattle.library_spec.specs.Selections.{asked_paths, Selections, selections}
use Rattle.path_spec.specs.Paths.{LocationPath}
use Rattle.schema_laws.specs.Accepted.{schema_in-length}
use Rattle.schema_spec.specs.Names.{code_of}
use Rattle.schema_spec.specs.Reading.{read_schema}
use Rattle.schema_spec.specs.Records.{schema_in}
use Rattle.schema_spec.specs.Schemas.{Schema}
use Rattle.schema_spec.specs.Types.{Types, types_of}
use Rattle.selection.specs.answers.Answers.{sizes, AnsweredSelections}
use Rattle.selection.specs.declared.answers.Selected.{Selected}
use Rattle.selection.specs.table.Tables.{RowsIn, rows_selected, taken-texts}
use Rattle.table_laws.specs.Columns.{codes_of, tested-columns, TestedColumns}
use Rattle.table_laws.specs.WellFormed.{well-formed-alone}
use Rattle.table_spec.specs.Columns.{Columns, Sizes, sizes_of, columns_of}
use Rattle.table_spec.specs.Rows.{Row}
use Rattle.table_spec.specs.Tables.{well_formed}
use Rattle.text.specs.declared.refusals.Refusal.{Refusal}
use Rattle.text.specs.refusals.Refusals.{refusal_as}
use Rattle.text_laws.specs.Tests.{never}
use Rattle.text_spec.specs.Calls.{in_room}
use Rattle.text_spec.specs.Cells.{padded, too_small}
use Rattle.text_spec.specs.Refusals.{Outcome, accepted, and_then, at, too_few_cells}

-- of every accepted schema that the compiled one stands for
abbrev pub EverySchema : CompiledSchema → (Schema → Type 0) → Type 0
EverySchema compiled holds = (schema : List ℕ) → read_schema schema ≡ accepted (schema_in schema) → CompiledOf schema (schema_in schema) compiled → holds (schema_in schema)

-- ---- what is asked, and what each stage leaves
-- an accepted schema's compiled form and compiled paths, a place that they have, columns of one length
pub record UnderSchema (t : Texts) (place : ℕ) (c : Columns) : Type 0 where
  pub schema : List ℕ
  pub read : read_schema schema ≡ accepted (schema_in schema)
  pub made : CompiledOf schema (schema_in schema) t.schema
  pub shaped : Shaped t.paths
  pub inside : place ≤ t.paths.count
  pub equal : EqualColumns c

-- the first rows of columns, beside a text: rows on which paths select
pub record FirstAsked (c : Columns) (n : ℕ) (text : List ℕ) : Type 0 where
  pub equal : EqualColumns c
  pub room : n ≤ length c.numbers
  pub tested : TestedColumns (first_cells n c).numbers (first_cells n c).names (first_cells n c).parents
  pub texts : TextColumns (first_cells n c).parents (first_cells n c).starts (first_cells n c).lengths (first_cells n c).decoded text

-- what paths select on every well-formed table in the first rows, in cells that held items and counts
abbrev pub SelectsIn : Columns → ℕ → List (LocationPath ℕ) → ℕ → Result Selected Refusal → List ℕ → List ℕ → List ℕ → List ℕ → Type 0
SelectsIn c n paths place r items counts items' counts' =
    (s : Types) (text : List ℕ) (rows : List Row) → RowsIn s rows (first_cells n c).numbers (first_cells n c).names (first_cells n c).parents
    → AnsweredSelections (rows_selected text rows place paths (length items) (length counts)) (length items) (length counts) r items' counts'

-- the same of lent slices
abbrev pub SelectsFirst : Columns → ℕ → List (LocationPath ℕ) → ℕ → Result Selected Refusal → Slice → Slice → Type 0
SelectsFirst c n paths place r items counts = SelectsIn c n paths place r items.entry.now counts.entry.now items.exit.now counts.exit.now

-- the last test
pub record LastAs (n : ℕ) (a : Result Selected Refusal) (c d : Columns) (r : Result Answered Refusal) : Type 0 where
  pub short : (f : Refusal) → a ≡ Err f → (r ≡ Err f) × (d ≡ columns_of (sizes_of c) [])
  pub enough : (x : Selected) → a ≡ Ok x → (r ≡ Ok (record { rows = n; items = x.items; counts = x.counts })) × (d ≡ c)

-- what is selected on the first rows, and the last test
pub record SelectedUnder (paths : CompiledPaths) (place n : ℕ) (c d : Columns) (items counts items' counts' : List ℕ) (r : Result Answered Refusal) : Type 0 where
  pub selected : Result Selected Refusal
  pub answer : SelectsIn c n (paths_in paths) place selected items counts items' counts'
  pub last : LastAs n selected c d r

-- ---- the last test
pub last-short : (n : ℕ) (f : Refusal) (c d : Columns) → d ≡ columns_of (sizes_of c) [] → LastAs n (Err f) c d (Err f)
last-short n f c d e = record { short = λ g h. (ap Err (ap (err_or f) h), e); enough = λ x h. never (cc) }

pub last-enough : (n : ℕ) (x : Selected) (c : Columns) → LastAs n (Ok x) c c (Ok (record { rows = n; items = x.items; counts = x.counts }))
last-enough n x c =
    record {
      short = λ g h. never (cc);
      enough = λ y h. (ap (λ (z : Selected). Ok (record { rows = n; items = z.items; counts = z.counts })) (ap (ok_or x) h), refl);
    }

-- ---- the words are those that reading asks for
pub words-read : (schema : List ℕ) (t : CompiledSchema) → CompiledOf schema (schema_in schema) t → (words : List ℕ) → WordsOf t.relations.«holds» words → ReadWords (schema_in schema) words
words-read schema t made words w = read-words schema words (words-held (schema_in schema) (schema_in-length schema) t.relations.«holds» made.held words w)

-- ---- the extract is refused: nothing is selected
pub refused-chosen : (s : Schema) (extract : List ℕ) (c : Columns) (v : Result ℕ Refusal) (d : Columns) → v ≡ verdict (and_then (read_extract (types_of s) extract) (in_columns (sizes_of c)))
    → d ≡ columns_after (sizes_of c) (λ rows. rows) (and_then (read_extract (types_of s) extract) (in_columns (sizes_of c))) → (ps : List (LocationPath ℕ)) (place : ℕ) → (f : Refusal) → v ≡ Err f
    → (items counts items' counts' : List ℕ) → items' ≡ padded (length items) [] → counts' ≡ padded (length counts) []
    → Settled (chosen_under s ps place extract (lent_of c items counts)) (lent_of c items counts) (Err f) d items' counts'
refused-chosen s extract c v d answer cells ps place f e items counts items' counts' i m =
    let h = text-refused (read_extract (types_of s) extract) (sizes_of c) v d answer cells f e in
    settled-refused f (ap (λ (x : Outcome (List Row)). and_then x (chosen_of ps place extract (length items) (length counts))) h.0) h.1 i m

-- ---- its rows are in the columns
module _ (schema : List ℕ) (s : Schema) (read : read_schema schema ≡ accepted s) (extract : List ℕ) (c : Columns) (equal : EqualColumns c) (n : ℕ) (d : Columns)
    (w : RowsRead (read_extract (types_of s) extract) (sizes_of c) n d) where
  abbrev rows : List Row
  rows = w.rows

  alone : T (well_formed (types_of s) rows)
  alone = well-formed-alone (types_of s) extract rows (read-well-formed (types_of s) extract rows w.read)

  same-columns : first_cells n d ≡ columns_in rows
  same-columns = first-columns (read_extract (types_of s) extract) c equal n d w

  codes_same : (columns_in rows).names ≡ codes_of rows
  codes_same = pick rows
    where
      pick : (rs : List Row) → (columns_in rs).names ≡ codes_of rs
      pick [] = refl
      pick (r ∷ rs) = ap (λ (l : List ℕ). code_of r.name ∷ l) (pick rs)

  rows_in : RowsIn (types_of s) rows (first_cells n d).numbers (first_cells n d).names (first_cells n d).parents
  rows_in =
      record {
        well-formed = alone;
        coded = rows-coded schema s read rows alone;
        numbered = ap (λ (y : Columns). y.numbers) same-columns;
        named = ap (λ (y : Columns). y.names) same-columns ∙ codes_same;
        parented = ap (λ (y : Columns). y.parents) same-columns;
      }

  -- the first rows are rows on which paths select
  pub rows-asked : FirstAsked d n extract
  rows-asked =
      let k = equal-after (read_extract (types_of s) extract) c equal n d w in
      let room = room-after (read_extract (types_of s) extract) c n d w in
      let tested = tested-columns (types_of s) rows alone (rows-coded schema s read rows alone) in
      record {
        equal = k;
        room = room;
        tested = rw (rows_in.numbered, rows_in.named, rows_in.parented) tested;
        texts = taken-texts n d extract (omega (arith, room, k.of-parents)) (omega (arith, room, k.of-starts)) (omega (arith, room, k.of-lengths)) (omega (arith, room, k.of-decoded));
      }

  module _ (paths : CompiledPaths) (place : ℕ) (items counts items' counts' : List ℕ) (e : Columns) (r : Result Answered Refusal)
      (u : SelectedUnder paths place n d e items counts items' counts' r) where
    abbrev chosen : Selections
    chosen = selections extract rows (asked_paths place (paths_in paths))

    pub chosen-settled : Settled (chosen_under s (paths_in paths) place extract (lent_of c items counts)) (lent_of c items counts) r e items' counts'
    chosen-settled =
        same-settled (staged-by (read_extract (types_of s) extract) (sizes_of c) n d w (chosen_of (paths_in paths) place extract (length items) (length counts)))
        (pick (too_small (length items) chosen.items || too_small (length counts) chosen.counts) (u.answer (types_of s) extract rows rows_in))
      where
        pick : (y : Bool) → AnsweredSelections (in_room y chosen) (length items) (length counts) u.selected items' counts'
            → Settled (in_room y (host_answer rows chosen.items chosen.counts)) (lent_of c items counts) r e items' counts'
        pick true a =
            let h = u.last.short (refusal_as (at too_few_cells 0)) a.answer in
            subst (λ (k : Result Answered Refusal). Settled (in_room true (host_answer rows chosen.items chosen.counts)) (lent_of c items counts) k e items' counts') (sym h.0)
            (settled-refused (refusal_as (at too_few_cells 0)) refl (h.1 ∙ ap (λ (z : Sizes). columns_of z []) (ap sizes_of w.columns-are ∙ sizes-after (sizes_of c) rows)) a.items-are a.counts-are)
        pick false a =
            let h = u.last.enough (sizes chosen) a.answer in
            subst (λ (k : Result Answered Refusal). Settled (accepted (host_answer rows chosen.items chosen.counts)) (lent_of c items counts) k e items' counts')
            (sym (h.0 ∙ ap (λ (k : ℕ). Ok (record { rows = k; items = length chosen.items; counts = length chosen.counts })) w.size))
            (settled-accepted (host_answer rows chosen.items chosen.counts) (h.1 ∙ w.columns-are) a.items-are a.counts-are)

    pub chosen-exit : Exits (chosen_under s (paths_in paths) place extract (lent_of c items counts)) (lent_of c items counts) (result_for r) e items' counts'
    chosen-exit = settled-out chosen-settled
