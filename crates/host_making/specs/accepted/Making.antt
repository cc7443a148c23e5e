-- Making an extract under an accepted schema and bundle: what each stage leaves, and that together they are the library's outcome.
use Rattle.std.specs.Prelude.{Bool, true, false, List, [], ◌≡◌, refl, ℕ, ◌<◌, ◌≤◌, T, Result, Ok, Err, length}
use Rattle.std.proofs.Common.{sym, ap, ap₂, subst, ◌∙◌, arith, ltb-true, ltb-false}
use Rattle.std.proofs.lemmas.List.{length-map}
use Rattle.cells.specs.columns.Columns.{EqualColumns}
use Rattle.cells.specs.lent.Columns.{first_cells}
use Rattle.cells.specs.verdicts.Verdicts.{verdict}
use Rattle.compiled_paths.specs.Paths.{paths_in, Shaped}
use Rattle.compiled_paths.specs.declared.CompiledPaths.{CompiledPaths}
use Rattle.compiled_schema.specs.Compiled.{CompiledOf}
use Rattle.compiled_schema.specs.declared.CompiledSchema.{CompiledSchema}
use Rattle.extract_writer.specs.asked.Asked.{text-columns}
use Rattle.extract_writer.specs.row_laws.Written.{cut-extract}
use Rattle.extract_writer.specs.rows.Rows.{ExtractColumns}
use Rattle.extract_writer.specs.writing.Extract.{extract_in, in_lent_bytes, BytesWritten}
use Rattle.hosts.specs.columns.Rows.{RowsRead, text-refused, staged-by, sizes-after, first-columns, equal-after, room-after}
use Rattle.hosts.specs.declared.results.Answered.{Answered}
use Rattle.hosts.specs.declared.texts.Texts.{Texts}
use Rattle.hosts.specs.laws.Stages.{made_of, made_under}
use Rattle.hosts.specs.results.Exits.{lent_of, result_for, Exits}
use Rattle.hosts.specs.results.Settled.{Settled, same-settled, settled-refused, settled-accepted, settled-out}
use Rattle.inference.specs.relations.Compiled.{compiled-needed}
use Rattle.inference_spec.specs.Needed.{needed}
use Rattle.journal_laws.specs.TreeNodes.{accepted-well-formed}
use Rattle.journal_spec.specs.Reading.{read_journal}
use Rattle.kept_rows.specs.Kept.{in_set, kept_marks, KeptColumns}
use Rattle.kept_rows.specs.laws.Codes.{kept-columns, codes-named}
use Rattle.kept_rows.specs.laws.Cut.{columns_in}
use Rattle.kept_rows.specs.laws.Known.{rows-coded, set-passes}
use Rattle.library_spec.specs.Calls.{in_columns, columns_after}
use Rattle.library_spec.specs.Hosts.{HostAnswer, Lent, host_answer, extract_of}
use Rattle.names.specs.declared.NameSet.{NameSet}
use Rattle.needed_names.specs.sets.Needs.{NeededIn}
use Rattle.path_spec.specs.Paths.{LocationPath}
use Rattle.schema_spec.specs.Reading.{read_schema}
use Rattle.schema_spec.specs.Records.{schema_in}
use Rattle.schema_spec.specs.Schemas.{Schema}
use Rattle.schema_spec.specs.Types.{types_of}
use Rattle.table_laws.specs.WellFormed.{well-formed-alone}
use Rattle.table_spec.specs.Columns.{Columns, Sizes, sizes_of, columns_of}
use Rattle.table_spec.specs.Rows.{Row}
use Rattle.table_spec.specs.Tables.{well_formed, well_formed_with}
use Rattle.text.specs.declared.refusals.Reason.TheVariants.{TooFewCells}
use Rattle.text.specs.declared.refusals.Refusal.{Refusal}
use Rattle.text.specs.refusals.Refusals.{refusal}
use Rattle.text_laws.specs.Cells.{padded-length}
use Rattle.text_spec.specs.Calls.{in_room, cells_after}
use Rattle.text_spec.specs.Cells.{padded, too_small}
use Rattle.text_spec.specs.Limits.{max_journal_bytes}
use Rattle.text_spec.specs.Refusals.{Outcome, accepted, and_then}

-- what is made under the two texts, where so much is lent
abbrev pub made_in : Schema → List (LocationPath ℕ) → List ℕ → Lent → Outcome HostAnswer
made_in s paths journal lent = made_under s paths journal lent.columns lent.items

-- ---- what is asked, and what each stage leaves
-- an accepted schema and compiled paths, with columns of one length
pub record UnderTexts (schema : List ℕ) (t : Texts) (c : Columns) : Type 0 where
  pub read : read_schema schema ≡ accepted (schema_in schema)
  pub made : CompiledOf schema (schema_in schema) t.schema
  pub shaped : Shaped t.paths
  pub equal : EqualColumns c

-- the first rows of columns are rows whose extract can be written
pub record FirstAsked (journal : List ℕ) (c : Columns) (n : ℕ) : Type 0 where
  pub equal : EqualColumns c
  pub room : n ≤ length c.numbers
  pub texts : ExtractColumns journal (first_cells n c) (length (first_cells n c).numbers)
  pub kept : KeptColumns (first_cells n c).names (first_cells n c).parents

-- the last test
pub record AnswerAs (n m room : ℕ) (c d : Columns) (r : Result Answered Refusal) : Type 0 where
  pub short : room < m → (r ≡ Err (refusal TooFewCells 0)) × (d ≡ columns_of (sizes_of c) [])
  pub enough : m ≤ room → (r ≡ Ok (record { rows = n; items = m; counts = 0 })) × (d ≡ c)

-- the bytes of the first rows that the paths need, and the last test
pub record WrittenUnder (t : Texts) (journal : List ℕ) (n : ℕ) (c d : Columns) (was out : List ℕ) (r : Result Answered Refusal) : Type 0 where
  pub set : NameSet
  pub need : NeededIn t.schema t.paths set
  pub size : ℕ
  pub bytes : BytesWritten was (extract_in journal (first_cells n c) (kept_marks (in_set set) (first_cells n c).names (first_cells n c).parents)) size out
  pub last : AnswerAs n size (length out) c d r

-- ---- the last test
pub answer-short : (n m room : ℕ) (c d : Columns) (r : Result Answered Refusal) → room < m → r ≡ Err (refusal TooFewCells 0) → d ≡ columns_of (sizes_of c) [] → AnswerAs n m room c d r
answer-short n m room c d r l e f = record { short = λ k. (e, f); enough = λ k. absurd (omega arith) }

pub answer-enough : (n m room : ℕ) (c : Columns) (r : Result Answered Refusal) → m ≤ room → r ≡ Ok (record { rows = n; items = m; counts = 0 }) → AnswerAs n m room c c r
answer-enough n m room c r l e = record { short = λ k. absurd (omega arith); enough = λ k. (e, refl) }

-- ---- the journal is refused: no byte is written
pub refused-made : (s : Schema) (journal : List ℕ) (c : Columns) (v : Result ℕ Refusal) (d : Columns) → v ≡ verdict (and_then (read_journal max_journal_bytes s journal) (in_columns (sizes_of c)))
    → d ≡ columns_after (sizes_of c) (λ rows. rows) (and_then (read_journal max_journal_bytes s journal) (in_columns (sizes_of c))) → (ps : List (LocationPath ℕ)) → (f : Refusal) → v ≡ Err f
    → (was out : List ℕ) → out ≡ padded (length was) [] → Settled (made_under s ps journal (sizes_of c) (length was)) (lent_of c was []) (Err f) d out []
refused-made s journal c v d answer cells ps f e was out w =
    let h = text-refused (read_journal max_journal_bytes s journal) (sizes_of c) v d answer cells f e in
    settled-refused f (ap (λ (x : Outcome (List Row)). and_then x (made_of s ps journal (length was))) h.0) h.1 w refl

-- ---- its rows are in the columns
module _ (schema : List ℕ) (s : Schema) (read : read_schema schema ≡ accepted s) (journal : List ℕ) (c : Columns) (equal : EqualColumns c) (n : ℕ) (d : Columns)
    (w : RowsRead (read_journal max_journal_bytes s journal) (sizes_of c) n d) where
  abbrev rows : List Row
  rows = w.rows

  beside : T (well_formed_with (types_of s) journal rows)
  beside = accepted-well-formed max_journal_bytes s journal rows w.read

  alone : T (well_formed (types_of s) rows)
  alone = well-formed-alone (types_of s) journal rows beside

  same-columns : first_cells n d ≡ columns_in rows
  same-columns = first-columns (read_journal max_journal_bytes s journal) c equal n d w

  pub first-asked : FirstAsked journal d n
  first-asked =
      let coded = rows-coded schema s read rows alone in
      let text = subst (λ (k : ℕ). ExtractColumns journal (columns_in rows) k) (sym (length-map rows (λ r. r.number))) (text-columns (types_of s) journal rows beside coded) in
      let kept = kept-columns (types_of s) journal rows beside coded in
      record {
        equal = equal-after (read_journal max_journal_bytes s journal) c equal n d w;
        room = room-after (read_journal max_journal_bytes s journal) c n d w;
        texts = subst (λ (y : Columns). ExtractColumns journal y (length y.numbers)) (sym same-columns) text;
        kept = subst (λ (y : Columns). KeptColumns y.names y.parents) (sym same-columns) kept;
      }

  -- the bytes of the rows that the bundle needs
  module _ (t : CompiledSchema) (made : CompiledOf schema s t) (paths : CompiledPaths) (x : NameSet) (need : NeededIn t paths x) where
    bytes-needed : extract_in journal (first_cells n d) (kept_marks (in_set x) (first_cells n d).names (first_cells n d).parents) ≡ extract_of s (paths_in paths) journal rows
    unfolding extract_of
    bytes-needed =
        ap (λ (y : Columns). extract_in journal y (kept_marks (in_set x) y.names y.parents)) same-columns
        ∙ cut-extract (types_of s) journal rows alone (codes-named rows (rows-coded schema s read rows alone)) (in_set x) (needed (types_of s) (paths_in paths))
        (set-passes schema s read rows alone x (needed (types_of s) (paths_in paths)) (compiled-needed schema s read t made paths x need.under).0)

  module _ (t : Texts) (made : CompiledOf schema s t.schema) (was out : List ℕ) (e : Columns) (r : Result Answered Refusal) (u : WrittenUnder t journal n d e was out r) where
    abbrev bytes : List ℕ
    bytes = extract_of s (paths_in t.paths) journal rows

    stored : BytesWritten was bytes u.size out
    stored = subst (λ (y : List ℕ). BytesWritten was y u.size out) (bytes-needed t.schema made t.paths u.set u.need) u.bytes

    room_out : length out ≡ length was
    unfolding in_lent_bytes
    room_out = ap length stored.cells ∙ padded-length (length was) _

    pub made-settled : Settled (made_under s (paths_in t.paths) journal (sizes_of c) (length was)) (lent_of c was []) r e out []
    unfolding in_lent_bytes
    made-settled =
        same-settled (staged-by (read_journal max_journal_bytes s journal) (sizes_of c) n d w (made_of s (paths_in t.paths) journal (length was)))
        (pick (too_small (length was) bytes) refl stored.cells)
      where
        pick : (y : Bool) → too_small (length was) bytes ≡ y → out ≡ cells_after (length was) (λ l. l) (in_room y bytes) → Settled (in_room y (host_answer rows bytes [])) (lent_of c was []) r e out []
        pick true q o =
            let few = ltb-true (length was) (length bytes) q in
            let h = u.last.short (omega (arith, room_out, stored.size)) in
            subst (λ (k : Result Answered Refusal). Settled (in_room true (host_answer rows bytes [])) (lent_of c was []) k e out []) (sym h.0)
            (settled-refused (refusal TooFewCells 0) refl (h.1 ∙ ap (λ (z : Sizes). columns_of z []) (ap sizes_of w.columns-are ∙ sizes-after (sizes_of c) rows)) o refl)
        pick false q o =
            let many = ltb-false (length was) (length bytes) q in
            let h = u.last.enough (omega (arith, room_out, stored.size)) in
            subst (λ (k : Result Answered Refusal). Settled (accepted (host_answer rows bytes [])) (lent_of c was []) k e out [])
            (sym (h.0 ∙ ap₂ (λ (x y : ℕ). Ok (record { rows = x; items = y; counts = 0 })) w.size stored.size))
            (settled-accepted (host_answer rows bytes []) (h.1 ∙ w.columns-are) o refl)

    pub made-exit : Exits (made_under s (paths_in t.paths) journal (sizes_of c) (length was)) (lent_of c was []) (result_for r) e out []
    made-exit = settled-out made-settled
