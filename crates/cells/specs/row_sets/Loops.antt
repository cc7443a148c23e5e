-- A loop from the first row to the last, which writes a cell for each: what it leaves behind it. Marks as numbers.
use Rattle.std.specs.Prelude.{Bool, true, false, ◌&&◌, ◌||◌, List, ◌≡◌, refl, ℕ, ◌+◌, ◌<◌, ◌≤◌, length, get_or, set, replicate}
use Rattle.std.proofs.Common.{sym, ◌∙◌, arith, length-set, ext_get_or}
use Rattle.std.specs.Int.Bits.{bit_or, bit_and}
use Rattle.std.proofs.lemmas.List.{get_or-replicate}
use Rattle.cells.specs.row_sets.Columns.{mark}
use Rattle.text_laws.specs.Loops.{Passed, passed_first, passed-next}

-- ---- a pass with r rows behind it: they have what they should, the others what they had
pub record Forward (goal was : List ℕ) (r : ℕ) (out : List ℕ) : Type 0 where
  pub within : r ≤ length was
  pub size : length out ≡ length was
  pub rows : Passed (λ k x. x ≡ get_or goal k 0) 0 was r out

module _ (goal was : List ℕ) where
  pub forward-none : Forward goal was 0 was
  forward-none = record { within = omega arith; size = refl; rows = passed_first (λ k x. x ≡ get_or goal k 0) 0 was }

  pub forward-next : (r : ℕ) (out : List ℕ) (x : ℕ) → Forward goal was r out → r < length out → x ≡ get_or goal r 0 → Forward goal was (r + 1) (set out r x)
  forward-next r out x w l e =
      record {
        within = omega (arith, w.size);
        size = length-set out r x ∙ w.size;
        rows = passed-next (λ k y. y ≡ get_or goal k 0) 0 was r out x l w.rows e;
      }

  pub forward-all : (r : ℕ) (out : List ℕ) → length was ≡ length goal → Forward goal was r out → length out ≤ r → out ≡ goal
  forward-all r out e w h = ext_get_or 0 out goal (w.size ∙ e) (λ k l. w.rows.done k (omega arith))

pub fill-next : (was : List ℕ) (byte r : ℕ) (out : List ℕ) → Forward (replicate (length was) byte) was r out → r < length out
    → Forward (replicate (length was) byte) was (r + 1) (set out r byte)
fill-next was byte r out w l =
    forward-next (replicate (length was) byte) was r out byte w l (sym (get_or-replicate (length was) r byte 0 (omega (arith, w.size))))

-- ---- marks as numbers
pub or-marks : (a b : Bool) → bit_or (mark a) (mark b) ≡ mark (a || b)
or-marks true true = refl
or-marks true false = refl
or-marks false true = refl
or-marks false false = refl

pub and-marks : (a b : Bool) → bit_and (mark a) (mark b) ≡ mark (a && b)
and-marks true true = refl
and-marks true false = refl
and-marks false true = refl
and-marks false false = refl
