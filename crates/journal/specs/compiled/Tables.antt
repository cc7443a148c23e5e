-- Reading a journal into lent columns: the library's outcome for an accepted schema.
use Rattle.std.specs.Prelude.{Bool, true, false, List, [], ◌≡◌, refl, ℕ, length, Result, Ok, Err, is_err}
use Rattle.std.proofs.Common.{true≢false, sym, ap, ◌∙◌}
use Rattle.cells.specs.columns.Columns.{EqualColumns}
use Rattle.cells.specs.columns.Lent.{lent_columns, Left}
use Rattle.cells.specs.declared.columns.ColumnsMut.{ColumnsMut}
use Rattle.cells.specs.verdicts.Verdicts.{verdict}
use Rattle.journal_builder.specs.declared.journal_schema.JournalSchema.{JournalSchema}
use Rattle.journal_builder.specs.journal_schema.Schemas.{SchemaOf}
use Rattle.journal_reader.specs.event_loop.Judging.{outcome, Judged}
use Rattle.journal_reader.specs.rows.Kept.{Kept}
use Rattle.library_spec.specs.Calls.{columns_after}
use Rattle.schema_spec.specs.Schemas.{Schema}
use Rattle.table_spec.specs.Columns.{Columns, Sizes, sizes_of, columns_of}
use Rattle.table_spec.specs.Rows.{Row}
use Rattle.text.specs.declared.refusals.Refusal.{Refusal}
use Rattle.text_laws.specs.Cells.{padded-length}
use Rattle.text_spec.specs.Refusals.{Outcome, accepted, refused}

-- from any columns
pub record TableRead (t : JournalSchema) (text : List ℕ) (limit : ℕ) (c d : Columns) (r : Result ℕ Refusal) : Type 0 where
  pub answer : (s : Schema) → SchemaOf s t → r ≡ verdict (outcome s text limit (sizes_of c))
  pub cells : (s : Schema) → SchemaOf s t → d ≡ columns_after (sizes_of c) (λ rows. rows) (outcome s text limit (sizes_of c))

-- ---- the columns at exit
pub cleared-sizes : (c d : Columns) → d ≡ columns_of (sizes_of c) [] → sizes_of d ≡ sizes_of c
cleared-sizes c d e =
    ap sizes_of e
    ∙ rw (
      padded-length (length c.numbers) [],
      padded-length (length c.names) [],
      padded-length (length c.parents) [],
      padded-length (length c.starts) [],
      padded-length (length c.lengths) [],
      padded-length (length c.decoded) [],
    )

pub cleared-equal : (c d : Columns) → EqualColumns c → d ≡ columns_of (sizes_of c) [] → EqualColumns d
cleared-equal c d q e =
    let z = cleared-sizes c d e in
    record {
      of-names = ap (λ (y : Sizes). y.names) z ∙ q.of-names ∙ sym (ap (λ (y : Sizes). y.numbers) z);
      of-parents = ap (λ (y : Sizes). y.parents) z ∙ q.of-parents ∙ sym (ap (λ (y : Sizes). y.numbers) z);
      of-starts = ap (λ (y : Sizes). y.starts) z ∙ q.of-starts ∙ sym (ap (λ (y : Sizes). y.numbers) z);
      of-lengths = ap (λ (y : Sizes). y.lengths) z ∙ q.of-lengths ∙ sym (ap (λ (y : Sizes). y.numbers) z);
      of-decoded = ap (λ (y : Sizes). y.decoded) z ∙ q.of-decoded ∙ sym (ap (λ (y : Sizes). y.numbers) z);
    }

-- columns that are cleared are kept
pub cleared-kept : {a b : ColumnsMut} → Left a b (columns_of (sizes_of (lent_columns a)) []) → Kept a b
cleared-kept w = record { same = w.same; sizes = cleared-sizes _ _ w.cells }

-- what is answered, by whether it is a refusal
pub not-refused : (r : Result ℕ Refusal) → is_err r ≡ false → (n : ℕ) × (r ≡ Ok n)
not-refused (Ok n) e = (n, refl)
not-refused (Err f) e = absurd (true≢false e)

pub was-refused : (r : Result ℕ Refusal) → is_err r ≡ true → (f : Refusal) × (r ≡ Err f)
was-refused (Ok n) e = absurd (true≢false (sym e))
was-refused (Err f) e = (f, refl)

abbrev is_ok : Result ℕ Refusal → Bool
is_ok (Ok n) = true
is_ok (Err f) = false

-- the answer does not depend on which columns of these sizes are lent
module _ {t : JournalSchema} {text : List ℕ} {limit : ℕ} (c b : Columns) {d : Columns} {r : Result ℕ Refusal} (clear : b ≡ columns_of (sizes_of c) [])
    (j : Judged t text limit b d r) where
  still-clear : b ≡ columns_of (sizes_of b) []
  still-clear = clear ∙ ap (λ (z : Sizes). columns_of z []) (sym (cleared-sizes c b clear))

  answer-of : (s : Schema) → SchemaOf s t → r ≡ verdict (outcome s text limit (sizes_of c))
  answer-of s k = j.judged s k still-clear ∙ ap (λ (z : Sizes). verdict (outcome s text limit z)) (cleared-sizes c b clear)

  pub table_kept : (n : ℕ) → r ≡ Ok n → TableRead t text limit c d r
  table_kept n e =
      record {
        answer = answer-of;
        cells = λ s k.
            j.held s k still-clear n e ∙ ap (λ (z : Sizes). columns_after z (λ rows. rows) (outcome s text limit z)) (cleared-sizes c b clear);
      }

  none_kept : (z : Sizes) (o : Outcome (List Row)) (f : Refusal) → r ≡ verdict o → r ≡ Err f → columns_of z [] ≡ columns_after z (λ rows. rows) o
  unfolding columns_after
  none_kept z (accepted rows) f v e = absurd (differ (sym v ∙ e))
    where
      differ : Ok (length rows) ≡ Err f → ⊥
      differ q = true≢false (ap is_ok q)
  none_kept z (refused g) f v e = refl

  pub table-cleared : {e : Columns} (f : Refusal) → r ≡ Err f → e ≡ columns_of (sizes_of d) [] → sizes_of d ≡ sizes_of c → TableRead t text limit c e r
  table-cleared f q h l =
      record {
        answer = answer-of;
        cells = λ s k. h ∙ ap (λ (z : Sizes). columns_of z []) l ∙ none_kept (sizes_of c) (outcome s text limit (sizes_of c)) f (answer-of s k) q;
      }
