-- Judging a journal into clear columns: the library's outcome for an accepted schema.
use Rattle.std.specs.Prelude.{Bool, true, false, List, [], ◌∷◌, ◌≡◌, refl, ℕ, ◌≤◌, ◌<◌, eqb, ltb, length, Result, Ok, Err}
use Rattle.std.proofs.Common.{true≢false, sym, ap, ◌∙◌, arith, ne_eqb}
use Rattle.cells.specs.verdicts.Verdicts.{verdict}
use Rattle.journal_builder.specs.declared.journal_schema.JournalSchema.{JournalSchema}
use Rattle.journal_builder.specs.journal_schema.Schemas.{SchemaOf}
use Rattle.journal_lexer.specs.run_laws.Findings.{read-empty, read-over}
use Rattle.journal_reader.specs.event_loop.Journals.{JournalRead}
use Rattle.journal_reader.specs.verdict.Verdicts.{in_rows, room-last, room-read}
use Rattle.journal_spec.specs.Reading.{read_journal}
use Rattle.library_spec.specs.Calls.{in_columns, columns_after}
use Rattle.schema_spec.specs.Schemas.{Schema}
use Rattle.table_spec.specs.Columns.{Columns, Sizes, sizes_of, columns_of}
use Rattle.table_spec.specs.Rows.{Row}
use Rattle.text.specs.declared.refusals.Reason.TheVariants.{BadLength}
use Rattle.text.specs.declared.refusals.Refusal.{Refusal}
use Rattle.text.specs.refusals.Refusals.{refusal}
use Rattle.text_spec.specs.Refusals.{Outcome, accepted, refused, and_then, at, bad_length}

-- the library's outcome in columns of these sizes
abbrev pub outcome : Schema → List ℕ → ℕ → Sizes → Outcome (List Row)
outcome s text limit z = and_then (read_journal limit s text) (in_columns z)

-- from clear columns c: the answer, and the columns where nothing is refused
pub record Judged (t : JournalSchema) (text : List ℕ) (limit : ℕ) (c d : Columns) (r : Result ℕ Refusal) : Type 0 where
  pub judged : (s : Schema) → SchemaOf s t → c ≡ columns_of (sizes_of c) [] → r ≡ verdict (outcome s text limit (sizes_of c))
  pub held : (s : Schema) → SchemaOf s t → c ≡ columns_of (sizes_of c) [] → (n : ℕ) → r ≡ Ok n
      → d ≡ columns_after (sizes_of c) (λ rows. rows) (outcome s text limit (sizes_of c))

-- ---- 2
abbrev is_ok : Result ℕ Refusal → Bool
is_ok (Ok n) = true
is_ok (Err f) = false

refused-2 : {t : JournalSchema} {limit : ℕ} {c : Columns} (text : List ℕ) → ((s : Schema) → read_journal limit s text ≡ refused (at bad_length 0))
    → Judged t text limit c c (Err (refusal BadLength 0))
refused-2 text h = record { judged = λ s k z. rw (h s) refl; held = λ s k z n e. absurd (true≢false (sym (ap is_ok e))) }

pub empty-2 : {t : JournalSchema} {limit : ℕ} {c : Columns} {r : Result ℕ Refusal} (text : List ℕ) (b : Bool) → b ≡ eqb (length text) 0 → b ≡ true → r ≡ Err (refusal BadLength 0)
    → Judged t text limit c c r
empty-2 {limit = limit} [] b e h q = rw q (refused-2 [] (λ s. read-empty limit s))
empty-2 (x ∷ text) b e h q = absurd (true≢false (sym h ∙ e ∙ ne_eqb (length (x ∷ text)) 0 (λ z. omega arith)))

pub some-bytes : (text : List ℕ) (b : Bool) → b ≡ eqb (length text) 0 → b ≡ false → 1 ≤ length text
some-bytes [] b e h = absurd (true≢false (sym e ∙ h))
some-bytes (x ∷ text) b e h = omega arith

pub over-2 : {t : JournalSchema} {limit : ℕ} {c : Columns} {r : Result ℕ Refusal} (text : List ℕ) → limit < length text → r ≡ Err (refusal BadLength 0) → Judged t text limit c c r
over-2 {limit = limit} text l q = rw q (refused-2 text (λ s. read-over limit s text l))

-- ---- a text within its limit
kept-rows : (z : Sizes) (o : Outcome (List Row)) (rows : List Row) → o ≡ accepted rows → ltb z.numbers (length rows) ≡ false
    → columns_of z rows ≡ columns_after z (λ rs. rs) (and_then o (in_columns z))
unfolding columns_after
kept-rows z o rows e h = rw (e, h) refl

module _ {t : JournalSchema} {text : List ℕ} {limit : ℕ} {c d : Columns} {read r : Result ℕ Refusal} {room : ℕ} where
  pub judged-within : JournalRead t text c d read → r ≡ in_rows read room → room ≡ length c.numbers → 1 ≤ length text → length text ≤ limit → Judged t text limit c d r
  judged-within j v q filled within =
      record {
        judged = λ s k z. at-room ∙ room-last read (read_journal limit s text) (sizes_of c) (j.answered s (sizes_of c) limit k z filled within).answer;
        held = λ s k z n e.
            let a = j.answered s (sizes_of c) limit k z filled within in
            let o = room-read read (read_journal limit s text) (sizes_of c) n a.answer (sym at-room ∙ e) in
            a.held o.0 o.1 ∙ kept-rows (sizes_of c) (read_journal limit s text) o.0 o.1 o.2;
      }
    where
      at-room : r ≡ in_rows read (sizes_of c).numbers
      at-room = v ∙ ap (in_rows read) q
