-- What a call answers that fills lent cells: how many cells, or the refusal.
use Rattle.std.specs.Prelude.{List, ◌≡◌, ℕ, Result, length}
use Rattle.cells.specs.lent.Ends.{Slice}
use Rattle.text.specs.declared.refusals.Refusal.{Refusal}
use Rattle.text.specs.refusals.Refusals.{answer_by}
use Rattle.text_spec.specs.Calls.{in_room, cells_after}
use Rattle.text_spec.specs.Cells.{too_small}
use Rattle.text_spec.specs.Refusals.{Outcome}

abbrev pub verdict : {A : Type 0} → Outcome (List A) → Result ℕ Refusal
verdict o = answer_by length o

-- bytes answered in so many lent cells: the verdict, and the cells at exit
pub record AnsweredBytes (o : Outcome (List ℕ)) (size : ℕ) (r : Result ℕ Refusal) (out : List ℕ) : Type 0 where
  pub answer : r ≡ verdict o
  pub cells : out ≡ cells_after size (λ w. w) o

-- bytes answered in so many cells: 18 where they are too few
abbrev pub in_bytes : ℕ → List ℕ → Outcome (List ℕ)
in_bytes size xs = in_room (too_small size xs) xs

-- a call that is lent a slice of bytes, by its outcome for so many cells
abbrev pub AnsweredSlice : (ℕ → Outcome (List ℕ)) → Result ℕ Refusal → Slice → Type 0
AnsweredSlice call r out = AnsweredBytes (call (length out.entry.now)) (length out.entry.now) r out.exit.now
