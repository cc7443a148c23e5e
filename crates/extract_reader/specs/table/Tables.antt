-- Reading an extract into lent columns: the library's outcome for a schema.
use Rattle.std.specs.Prelude.{Bool, List, [], ◌∷◌, ◌≡◌, ℕ, ◌<◌, ◌≤◌, Result, Ok, Err, is_err, eqb, ltb, length}
use Rattle.std.proofs.Math.Bool.{true, false, cond}
use Rattle.std.proofs.Math.Option.{Option, none, some}
use Rattle.std.proofs.Math.Path.{refl, sym, ap}
use Rattle.std.proofs.Common.{◌∙◌, arith, lt-ltb, le-ltb, eq-eqb, eqb-true}
use Rattle.cells.specs.columns.Columns.{EqualColumns}
use Rattle.cells.specs.verdicts.Verdicts.{verdict}
use Rattle.extract_reader.specs.field_tests.Tests.{word_types}
use Rattle.extract_reader.specs.rows.ReadLaws.{columns-sizes, hold-by}
use Rattle.extract_reader.specs.rows.Reads.{Hold}
use Rattle.extract_reader.specs.rows.Whole.{RowsRead, no_rows, all-rows}
use Rattle.extract_reader.specs.table.Words.{ReadWords, words-rows}
use Rattle.extract_spec.specs.Reading.{read_extract}
use Rattle.library_spec.specs.Calls.{in_columns, columns_after}
use Rattle.projection_laws.specs.extract_passes.Reading.{rows_outcome, read-in-one-pass}
use Rattle.projection_laws.specs.extract_passes.Steps.{rows_in}
use Rattle.schema_spec.specs.Schemas.{Schema}
use Rattle.schema_spec.specs.Types.{types_of}
use Rattle.table_spec.specs.Columns.{Columns, Sizes, sizes_of, columns_of}
use Rattle.table_spec.specs.Rows.{Row}
use Rattle.text.specs.declared.refusals.Reason.TheVariants.{BadLength, BadExtract, TooFewCells}
use Rattle.text.specs.declared.refusals.Refusal.{Refusal}
use Rattle.text.specs.refusals.Refusals.{refusal}
use Rattle.text_laws.specs.Tests.{never}
use Rattle.text_spec.specs.Lists.{is_empty}
use Rattle.text_spec.specs.Refusals.{Outcome, accepted, refused, and_then, at, bad_length, too_few_cells}

-- the library's outcome in columns of these sizes
abbrev pub outcome : Schema → List ℕ → Sizes → Outcome (List Row)
outcome s bs z = and_then (read_extract (types_of s) bs) (in_columns z)

-- from clear columns c: the verdict, and the columns where nothing is refused
pub record Judged (bs words : List ℕ) (c d : Columns) (r : Result ℕ Refusal) : Type 0 where
  pub judged : (s : Schema) → ReadWords s words → r ≡ verdict (outcome s bs (sizes_of c))
  pub held : (s : Schema) → ReadWords s words → {n : ℕ} → r ≡ Ok n → d ≡ columns_after (sizes_of c) (λ rows. rows) (outcome s bs (sizes_of c))

-- from any columns
pub record TableRead (bs words : List ℕ) (c d : Columns) (r : Result ℕ Refusal) : Type 0 where
  pub answer : (s : Schema) → ReadWords s words → r ≡ verdict (outcome s bs (sizes_of c))
  pub cells : (s : Schema) → ReadWords s words → d ≡ columns_after (sizes_of c) (λ rows. rows) (outcome s bs (sizes_of c))

-- ---- by what the pass gives
pub is-empty : (bs : List ℕ) (b : Bool) → b ≡ eqb (length bs) 0 → b ≡ true → length bs ≡ 0
is-empty bs b e f = eqb-true (length bs) 0 (sym e ∙ f)

pub is-long : (bs : List ℕ) (b : Bool) → b ≡ eqb (length bs) 0 → b ≡ false → length bs ≡ 0 → ⊥
is-long bs b e f l = let z = eq-eqb (length bs) 0 l in never (cc)

filled : (bs : List ℕ) → (length bs ≡ 0 → ⊥) → is_empty bs ≡ false
filled [] n = absurd (n refl)
filled (b ∷ bs) n = refl

bare : (bs : List ℕ) → length bs ≡ 0 → is_empty bs ≡ true
bare [] e = refl
bare (b ∷ bs) e = absurd (omega arith)

abbrev given : Bool → Option (List Row) → Sizes → Outcome (List Row)
given empty o z = and_then (cond empty (refused (at bad_length 0)) (rows_outcome o)) (in_columns z)

outcome-given : (s : Schema) (bs words : List ℕ) (z : Sizes) → ReadWords s words → (b : Bool) (o : Option (List Row)) → is_empty bs ≡ b → rows_in (word_types words) bs ≡ o
    → outcome s bs z ≡ given b o z
outcome-given s bs words z w b o e q =
    ap (λ (x : Outcome (List Row)). and_then x (in_columns z)) (read-in-one-pass s bs)
    ∙ ap (λ (x : Bool). given x (rows_in (types_of s) bs) z) e
    ∙ ap (λ (x : Option (List Row)). given b x z) (words-rows s words w bs ∙ q)

module _ (bs words : List ℕ) (c d : Columns) where
  refusing : (f : Refusal) → ((s : Schema) → ReadWords s words → Err f ≡ verdict (outcome s bs (sizes_of c))) → Judged bs words c d (Err f)
  refusing f e = record { judged = e; held = λ s w {n} q. never (cc) }

  pub judged-empty : length bs ≡ 0 → Judged bs words c d (Err (refusal BadLength 0))
  judged-empty l =
      refusing (refusal BadLength 0) (λ s w. sym (ap verdict (outcome-given s bs words (sizes_of c) w true (rows_in (word_types words) bs) (bare bs l) refl)))

  module _ (long : length bs ≡ 0 → ⊥) where
    pub judged-none : (f : Refusal) → RowsRead bs words (sizes_of c) d (Err f) → Judged bs words c d (Err f)
    judged-none f (no_rows q) =
        refusing (refusal BadExtract 0) (λ s w. sym (ap verdict (outcome-given s bs words (sizes_of c) w false none (filled bs long) q)))

    placed : (rows : List Row) → rows_in (word_types words) bs ≡ some rows → (b : Bool) → ltb (length c.numbers) (length rows) ≡ b → (s : Schema) → ReadWords s words
        → outcome s bs (sizes_of c) ≡ cond b (refused (at too_few_cells 0)) (accepted rows)
    placed rows q b l s w =
        outcome-given s bs words (sizes_of c) w false (some rows) (filled bs long) q
        ∙ ap (λ (x : Bool). cond x (refused (at too_few_cells 0)) (accepted rows)) l

    pub judged-few : (n : ℕ) → RowsRead bs words (sizes_of c) d (Ok n) → length c.numbers < n → Judged bs words c d (Err (refusal TooFewCells 0))
    judged-few n (all-rows rows q h) l =
        refusing (refusal TooFewCells 0) (λ s w. sym (ap verdict (placed rows q true (lt-ltb (length c.numbers) (length rows) l) s w)))

    pub judged-rows : (n : ℕ) → RowsRead bs words (sizes_of c) d (Ok n) → n ≤ length c.numbers → Judged bs words c d (Ok n)
    unfolding columns_after
    judged-rows n (all-rows rows q h) l =
        let fits = placed rows q false (le-ltb (length c.numbers) (length rows) l) in
        record { judged = λ s w. sym (ap verdict (fits s w)); held = λ s w e. h ∙ sym (ap (columns_after (sizes_of c) (λ rows. rows)) (fits s w)) }

-- ---- the columns at exit
pub cleared-sizes : (c b : Columns) → b ≡ columns_of (sizes_of c) [] → sizes_of b ≡ sizes_of c
cleared-sizes c b e = ap sizes_of e ∙ columns-sizes (sizes_of c) []

pub cleared-first : (c b : Columns) → EqualColumns c → b ≡ columns_of (sizes_of c) [] → EqualColumns b × Hold b []
cleared-first c b q e =
    let z = cleared-sizes c b e in (
      record {
        of-names = ap (λ (y : Sizes). y.names) z ∙ q.of-names ∙ sym (ap (λ (y : Sizes). y.numbers) z);
        of-parents = ap (λ (y : Sizes). y.parents) z ∙ q.of-parents ∙ sym (ap (λ (y : Sizes). y.numbers) z);
        of-starts = ap (λ (y : Sizes). y.starts) z ∙ q.of-starts ∙ sym (ap (λ (y : Sizes). y.numbers) z);
        of-lengths = ap (λ (y : Sizes). y.lengths) z ∙ q.of-lengths ∙ sym (ap (λ (y : Sizes). y.numbers) z);
        of-decoded = ap (λ (y : Sizes). y.decoded) z ∙ q.of-decoded ∙ sym (ap (λ (y : Sizes). y.numbers) z);
      },
      hold-by b (sizes_of c) [] e,
    )

none_kept : (z : Sizes) (o : Outcome (List Row)) → is_err (verdict o) ≡ true → columns_of z [] ≡ columns_after z (λ rows. rows) o
unfolding columns_after
none_kept z (accepted rows) v = never (cc)
none_kept z (refused g) v = refl

is-ok : (r : Result ℕ Refusal) → is_err r ≡ false → (n : ℕ) × (r ≡ Ok n)
is-ok (Ok n) e = (n, refl)
is-ok (Err f) e = never (cc)

-- the answer does not depend on which columns of these sizes are lent
module _ (bs words : List ℕ) (c b d : Columns) (r : Result ℕ Refusal) (clear : b ≡ columns_of (sizes_of c) []) (j : Judged bs words b d r) where
  sizes : sizes_of b ≡ sizes_of c
  sizes = cleared-sizes c b clear

  answer-of : (s : Schema) → ReadWords s words → r ≡ verdict (outcome s bs (sizes_of c))
  answer-of s w = j.judged s w ∙ ap (λ (z : Sizes). verdict (outcome s bs z)) sizes

  pub table_kept : is_err r ≡ false → TableRead bs words c d r
  table_kept e =
      let n = is-ok r e in
      record { answer = answer-of; cells = λ s w. j.held s w n.1 ∙ ap (λ (z : Sizes). columns_after z (λ rows. rows) (outcome s bs z)) sizes }

  pub table-cleared : is_err r ≡ true → sizes_of d ≡ sizes_of b → (e : Columns) → e ≡ columns_of (sizes_of d) [] → TableRead bs words c e r
  table-cleared q same e h =
      record {
        answer = answer-of;
        cells = λ s w. h ∙ ap (λ (z : Sizes). columns_of z []) (same ∙ sizes) ∙ none_kept (sizes_of c) (outcome s bs (sizes_of c)) (sym (ap is_err (answer-of s w)) ∙ q);
      }
