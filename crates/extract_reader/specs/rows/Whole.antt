-- From the first field to the last: what stands after each, and what is read in the end.
use Rattle.std.specs.Prelude.{true, false, ◌≡◌, ℕ, zero, suc, ◌-◌, ◌<◌, Some, None, Result, Ok, Err}
use mathlib.Core.List.{List, [], ◌∷◌}
use Rattle.std.proofs.Math.Option as paper
use Rattle.std.proofs.Math.Path.{refl, ap}
use Rattle.std.proofs.Common.{sym, subst, ◌∙◌}
use native.Mathlib.Omega.{arith}
use Rattle.std.proofs.Math.ListN.{length}
use Rattle.std.proofs.lemmas.List.{length-replicate}
use Rattle.cells.specs.columns.Columns.{EqualColumns}
use Rattle.cells.specs.columns.Lent.{lent_columns, Same}
use Rattle.cells.specs.declared.columns.ColumnsMut.{ColumnsMut}
use Rattle.extract_reader.specs.declared.levels.Level.{Level}
use Rattle.extract_reader.specs.declared.reading.Reader.{Reader}
use Rattle.extract_reader.specs.field_tests.Tests.{word_types}
use Rattle.extract_reader.specs.fields.Fields.{FirstAs}
use Rattle.extract_reader.specs.levels.Levels.{level, level_at, levels_in}
use Rattle.extract_reader.specs.reading.Readers.{root_carried, AfterRoot}
use Rattle.extract_reader.specs.rows.Reads.{Hold, Reads, NoRows, AllRead, ReadsNext, ReadOn}
use Rattle.extract_spec.specs.Reading.{Placed, cons_row}
use Rattle.projection_laws.specs.Opens.{placed}
use Rattle.projection_laws.specs.extract_passes.Steps.{state, Step, continued, past_field, rows_from, rows_in}
use Rattle.table_spec.specs.Columns.{Columns, Sizes, sizes_of, columns_of}
use Rattle.table_spec.specs.Rows.{Row, element_row}
use Rattle.text.specs.declared.refusals.Reason.TheVariants.{BadExtract}
use Rattle.text.specs.declared.refusals.Refusal.{Refusal}
use Rattle.text.specs.refusals.Refusals.{refusal}
use Rattle.text_spec.specs.Cells.{padded}
use Rattle.text_spec.specs.Limits.{max_depth}

-- ---- what is read in the end: nothing, or the rows, which the columns hold
pub data RowsRead (bs words : List ℕ) (z : Sizes) (cols : Columns) : Result ℕ Refusal → Type 0 where
  no_rows : rows_in (word_types words) bs ≡ paper.none → RowsRead bs words z cols (Err (refusal BadExtract 0))
  all-rows : (rows : List Row) → rows_in (word_types words) bs ≡ paper.some rows → cols ≡ columns_of z rows → RowsRead bs words z cols (Ok (length rows))

-- ---- laws
pub same-sizes : (c d : Columns) → length d.numbers ≡ length c.numbers → length d.names ≡ length c.names → length d.parents ≡ length c.parents
    → length d.starts ≡ length c.starts → length d.lengths ≡ length c.lengths → length d.decoded ≡ length c.decoded → sizes_of d ≡ sizes_of c
same-sizes c d p q r s t u = rw (p, q, r, s, t, u)

-- a first row of zeros stands in clear columns
padded-zero : (n : ℕ) → padded n [] ≡ padded n (0 ∷ [])
padded-zero zero = refl
padded-zero (suc n) = refl

root-held : (cols : Columns) → Hold cols [] → Hold cols (element_row 0 0 0 ∷ [])
root-held cols h = h ∙ rw (padded-zero (length cols.numbers), padded-zero (length cols.names), padded-zero (length cols.parents), padded-zero (length cols.starts), padded-zero (length cols.lengths), padded-zero (length cols.decoded))

-- a level of zeros is the root's
root-level : (levels : List Level) → level_at levels 0 ≡ level 0 0 0 → levels_in levels 1 ≡ placed 0 0 0 ∷ []
unfolding levels_in
root-level levels e = ap (λ (v : Level). placed v.row v.number v.element ∷ []) e

root-known : (levels : List Level) → level_at levels 0 ≡ level 0 0 0 → (i : ℕ) → i < 1 → (level_at levels i).element < 32
root-known levels e zero l = let z : (level_at levels 0).element ≡ 0 = ap (λ (v : Level). v.element) e in omega (arith, z)
root-known levels e (suc i) l = absurd (omega arith)

module _ (bs words : List ℕ) (cols : Columns) where
  pub first-none : FirstAs bs None → (z : Sizes) → RowsRead bs words z cols (Err (refusal BadExtract 0))
  unfolding rows_in
  first-none a z = no_rows (ap (λ (x : Step). continued x (rows_from (word_types words) bs (length bs - 1) (past_field bs 0))) (a.step (word_types words) refl))

  module _ (clear : Hold cols []) where
    pub first-empty : FirstAs bs (Some false) → RowsRead bs words (sizes_of cols) cols (Ok 0)
    unfolding rows_in
    first-empty a = all-rows [] (ap (λ (x : Step). continued x (rows_from (word_types words) bs (length bs - 1) (past_field bs 0))) (a.step (word_types words) refl)) clear

    first-reads : EqualColumns cols → FirstAs bs (Some true) → (levels : List Level) → level_at levels 0 ≡ level 0 0 0 → length levels ≡ max_depth
        → Reads bs words levels cols root_carried
    unfolding rows_in
    first-reads equal a levels zeros long =
        record {
          equal = equal;
          ready = record {
            field-pass = record { shallow = omega arith; known = root-known levels zeros; inside = a.inside refl };
            bounds = record { small = omega arith; few = omega arith; short = omega arith };
            long = long;
          };
          done = element_row 0 0 0 ∷ [];
          counted = refl;
          held = root-held cols clear;
          fuel = length bs - 1;
          enough = omega arith;
          so_far = ap (λ (x : Step). continued x (rows_from (word_types words) bs (length bs - 1) (past_field bs 0))) (a.step (word_types words) refl)
              ∙ ap (λ (k : ℕ). cons_row (element_row 0 0 0) (rows_from (word_types words) bs (length bs - 1) k (state 1 0 false (placed 0 0 0 ∷ [])))) (a.past refl)
              ∙ ap (λ (l : List Placed). cons_row (element_row 0 0 0) (rows_from (word_types words) bs (length bs - 1) 8 (state 1 0 false l))) (sym (root-level levels zeros));
        }

    pub root-reads : EqualColumns cols → FirstAs bs (Some true) → (r : Reader) → AfterRoot bs words r → Reads bs words r.levels cols r.carried
    root-reads equal a r w =
        subst (Reads bs words r.levels cols) (sym w.carried)
        (first-reads equal a r.levels (ap (λ (l : List Level). level_at l 0) w.levels) (ap length w.levels ∙ length-replicate max_depth (level 0 0 0)))

  pub none-found : (f : Refusal) → NoRows bs words f → (z : Sizes) → RowsRead bs words z cols (Err f)
  none-found f n z = subst (λ (g : Refusal). RowsRead bs words z cols (Err g)) (sym n.refused) (no_rows n.none-read)

  pub all-found : (n : ℕ) → AllRead bs words cols n → (z : Sizes) → sizes_of cols ≡ z → RowsRead bs words z cols (Ok n)
  all-found n a z e =
      subst (λ (k : ℕ). RowsRead bs words z cols (Ok k)) (sym a.counted) (all-rows a.done a.read (a.held ∙ ap (λ (y : Sizes). columns_of y a.done) e))

-- ---- the rows read so far
pub record ReadsRows (bs words : List ℕ) (was : ColumnsMut) (r : Reader) (t : ColumnsMut) : Type 0 where
  pub extract : r.extract.now ≡ bs
  pub words-are : r.words.now ≡ words
  pub same : Same was t
  pub sizes : sizes_of (lent_columns t) ≡ sizes_of (lent_columns was)
  pub reads : ReadsNext r t

module _ (bs words : List ℕ) (was : ColumnsMut) where
  pub rows-begun : EqualColumns (lent_columns was) → Hold (lent_columns was) [] → FirstAs bs (Some true) → (r : Reader) → AfterRoot bs words r → ReadsRows bs words was r was
  rows-begun equal clear first r w =
      record {
        extract = w.extract;
        words-are = w.words-are;
        same = record { numbers = refl; names = refl; parents = refl; starts = refl; lengths = refl; decoded = refl };
        sizes = refl;
        reads =
            subst (λ (x : List ℕ). Reads x r.words.now r.levels (lent_columns was) r.carried) (sym w.extract)
            (subst (λ (x : List ℕ). Reads bs x r.levels (lent_columns was) r.carried) (sym w.words-are) (root-reads bs words (lent_columns was) clear equal first r w));
      }

  module _ (old : Reader) (t : ColumnsMut) (h : ReadsRows bs words was old t) (new : Reader) (u : ColumnsMut) (same : Same t u) where
    still : Same was u
    still =
        record {
          numbers = same.numbers ∙ h.same.numbers;
          names = same.names ∙ h.same.names;
          parents = same.parents ∙ h.same.parents;
          starts = same.starts ∙ h.same.starts;
          lengths = same.lengths ∙ h.same.lengths;
          decoded = same.decoded ∙ h.same.decoded;
        }

    pub rows-more : ReadOn old t new u (Ok true) → ReadsRows bs words was new u
    rows-more r =
        record {
          extract = r.source.extract ∙ h.extract;
          words-are = r.source.words ∙ h.words-are;
          same = still;
          sizes = r.sizes ∙ h.sizes;
          reads =
              subst (λ (x : List ℕ). Reads x new.words.now new.levels (lent_columns u) new.carried) (sym r.source.extract)
              (subst (λ (x : List ℕ). Reads old.extract.now x new.levels (lent_columns u) new.carried) (sym r.source.words) r.after.reads);
        }

    pub fewer-left : ReadOn old t new u (Ok true) → length bs - new.carried.at < length bs - old.carried.at
    fewer-left r = omega (arith, r.after.onward, r.after.inside, ap length h.extract)

    pub rows-refused : (f : Refusal) → ReadOn old t new u (Err f) → RowsRead bs words (sizes_of (lent_columns was)) (lent_columns u) (Err f)
    rows-refused f r = none-found bs words (lent_columns u) f (at-source (λ b w. NoRows b w f) r.after) (sizes_of (lent_columns was))
      where
        at-source : (P : List ℕ → List ℕ → Type 0) → P old.extract.now old.words.now → P bs words
        at-source P p = subst (λ (x : List ℕ). P x words) h.extract (subst (λ (x : List ℕ). P old.extract.now x) h.words-are p)

    pub rows-all : ReadOn old t new u (Ok false) → RowsRead bs words (sizes_of (lent_columns was)) (lent_columns u) (Ok new.carried.rows)
    rows-all r = all-found bs words (lent_columns u) new.carried.rows (at-source (λ b w. AllRead b w (lent_columns u) new.carried.rows) r.after) (sizes_of (lent_columns was)) (r.sizes ∙ h.sizes)
      where
        at-source : (P : List ℕ → List ℕ → Type 0) → P old.extract.now old.words.now → P bs words
        at-source P p = subst (λ (x : List ℕ). P x words) h.extract (subst (λ (x : List ℕ). P old.extract.now x) h.words-are p)
