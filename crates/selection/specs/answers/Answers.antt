-- The outcome of selecting as an answer and as what stands in lent cells.
use Rattle.std.specs.Prelude.{◌||◌, List, [], ◌∷◌, ◌≡◌, refl, ℕ, zero, suc, ◌<◌, ◌≤◌, ◌⊎◌, length, replicate, Result, Ok, Err}
use Rattle.std.proofs.Common.{⊎_elim, sym, ap, ◌∙◌, arith, lt-ltb, le-ltb}
use Rattle.cells.specs.lent.Ends.{Slice}
use Rattle.library_spec.specs.Selections.{Selections}
use Rattle.selection.specs.declared.answers.Selected.{Selected}
use Rattle.selection.specs.declared.answers.SelectedNumbers.{SelectedNumbers}
use Rattle.text.specs.declared.refusals.Reason.TheVariants.{TooFewCells}
use Rattle.text.specs.declared.refusals.Refusal.{Refusal}
use Rattle.text.specs.refusals.Refusals.{refusal, refusal_in, answer_by, refusal_as-in}
use Rattle.text_spec.specs.Calls.{in_room, cells_after}
use Rattle.text_spec.specs.Cells.{padded, too_small}
use Rattle.text_spec.specs.Refusals.{Outcome, refused}

-- ---- definitions
-- how many items and counts are answered
abbrev pub sizes : Selections → Selected
sizes a = record { items = length a.items; counts = length a.counts }

-- an answer in lent cells: 18 where they are too few
abbrev pub in_cells : ℕ → ℕ → Selections → Outcome Selections
in_cells items counts a = in_room (too_small items a.items || too_small counts a.counts) a

-- an outcome is answered so, in so many cells
pub record AnsweredSelections (o : Outcome Selections) (i n : ℕ) (r : Result Selected Refusal) (items counts : List ℕ) : Type 0 where
  pub answer : r ≡ answer_by sizes o
  pub items-are : items ≡ cells_after i (λ a. a.items) o
  pub counts-are : counts ≡ cells_after n (λ a. a.counts) o

-- a call that is lent cells for numbers and for counts, by its outcome for so many of each
abbrev pub AnsweredCells : (ℕ → ℕ → Outcome Selections) → Result Selected Refusal → Slice → Slice → Type 0
AnsweredCells call r items counts =
    AnsweredSelections (call (length items.entry.now) (length counts.entry.now)) (length items.entry.now) (length counts.entry.now) r items.exit.now counts.exit.now

-- a refusal
pub record RefusedBy (f : Refusal) (i n : ℕ) (r : Result Selected Refusal) (items counts : List ℕ) : Type 0 where
  pub answer : r ≡ Err f
  pub items-are : items ≡ padded i []
  pub counts-are : counts ≡ padded n []

-- the same by its number and place, as numbers
pub record RefusedNumbers (number place i n : ℕ) (r : SelectedNumbers) (items counts : List ℕ) : Type 0 where
  pub answer : r ≡ record { number = number; place = place; items = 0; counts = 0 }
  pub items-are : items ≡ padded i []
  pub counts-are : counts ≡ padded n []

-- n items and m counts stand in the cells as far as there is room, and then zeros
pub record Written (a : Selections) (n m : ℕ) (items counts : List ℕ) : Type 0 where
  pub items-long : n ≡ length a.items
  pub counts-long : m ≡ length a.counts
  pub items-are : items ≡ padded (length items) a.items
  pub counts-are : counts ≡ padded (length counts) a.counts

-- ---- laws
-- every cell is cleared
pub cleared-cells : (n : ℕ) → replicate n 0 ≡ padded n []
cleared-cells zero = refl
cleared-cells (suc n) = ap (λ (l : List ℕ). 0 ∷ l) (cleared-cells n)

pub refused_as : (f : Refusal) (i n : ℕ) (r : Result Selected Refusal) (items counts : List ℕ) → RefusedBy f i n r items counts
    → AnsweredSelections (refused (refusal_in f)) i n r items counts
refused_as f i n r items counts h = record { answer = h.answer ∙ ap Err (sym (refusal_as-in f)); items-are = h.items-are; counts-are = h.counts-are }

module _ (a : Selections) (n m : ℕ) (items counts : List ℕ) (w : Written a n m items counts) (r : Result Selected Refusal) where
  module _ (x y : List ℕ) (h : RefusedBy (refusal TooFewCells 0) (length items) (length counts) r x y) where
    pub short-items : length items < n → AnsweredSelections (in_cells (length items) (length counts) a) (length items) (length counts) r x y
    short-items l =
        let few = lt-ltb (length items) (length a.items) (omega (arith, w.items-long)) in
        rw few (refused_as (refusal TooFewCells 0) (length items) (length counts) r x y h)

    pub short-counts : n ≤ length items → length counts < m → AnsweredSelections (in_cells (length items) (length counts) a) (length items) (length counts) r x y
    short-counts k l =
        let enough = le-ltb (length items) (length a.items) (omega (arith, w.items-long)) in
        let few = lt-ltb (length counts) (length a.counts) (omega (arith, w.counts-long)) in
        rw (enough, few) (refused_as (refusal TooFewCells 0) (length items) (length counts) r x y h)

    pub short-cells : (length items < n) ⊎ ((n ≤ length items) × (length counts < m)) → AnsweredSelections (in_cells (length items) (length counts) a) (length items) (length counts) r x y
    short-cells = ⊎_elim short-items (λ p. short-counts p.0 p.1)

  pub all-answered : r ≡ Ok (record { items = n; counts = m }) → n ≤ length items → m ≤ length counts
      → AnsweredSelections (in_cells (length items) (length counts) a) (length items) (length counts) r items counts
  all-answered e k l =
      let items-fit = le-ltb (length items) (length a.items) (omega (arith, w.items-long)) in
      let counts-fit = le-ltb (length counts) (length a.counts) (omega (arith, w.counts-long)) in
      rw (items-fit, counts-fit)
      (record { answer = e ∙ (rw (w.items-long, w.counts-long)); items-are = w.items-are; counts-are = w.counts-are })
