-- Bytes answered in lent cells: refusal 1, 18, or the bytes and then zeros.
use Rattle.std.specs.Prelude.{Bool, List, ◌≡◌, ℕ, ◌<◌, ◌≤◌, Result, Ok, Err, length}
use Rattle.std.proofs.Math.Path.{sym, ap}
use Rattle.std.proofs.Common.{subst, ◌∙◌, arith, lt-ltb, le-ltb}
use Rattle.cells.specs.lent.Cells.{Cleared, all-cleared}
use Rattle.cells.specs.verdicts.Verdicts.{verdict, in_bytes, AnsweredBytes}
use Rattle.extract_writer.specs.writing.Extract.{in_lent_bytes, BytesWritten}
use Rattle.text.specs.declared.refusals.Reason.TheVariants.{BadRecord, TooFewCells}
use Rattle.text.specs.declared.refusals.Refusal.{Refusal}
use Rattle.text.specs.refusals.Refusals.{refusal}
use Rattle.text_spec.specs.Calls.{in_room}
use Rattle.text_spec.specs.Refusals.{Outcome, refused, at, bad_record}

pub same_answer : {o p : Outcome (List ℕ)} (size : ℕ) (r : Result ℕ Refusal) (out : List ℕ) → o ≡ p → AnsweredBytes o size r out → AnsweredBytes p size r out
same_answer size r out e h = subst (λ (x : Outcome (List ℕ)). AnsweredBytes x size r out) e h

pub refused-by-1 : (was out : List ℕ) (r : Result ℕ Refusal) → Cleared was 0 out → r ≡ Err (refusal BadRecord 0) → AnsweredBytes (refused (at bad_record 0)) (length was) r out
refused-by-1 was out r c e = record { answer = e; cells = all-cleared was out c }

-- the bytes, or 18
module _ (was xs : List ℕ) (n : ℕ) (out : List ℕ) (w : BytesWritten was xs n out) (r : Result ℕ Refusal) where
  pub too_few : length was < n → r ≡ Err (refusal TooFewCells 0) → AnsweredBytes (in_bytes (length was) xs) (length was) r out
  unfolding in_lent_bytes
  too_few l e =
      record { answer = e ∙ sym (ap (λ (b : Bool). verdict (in_room b xs)) (lt-ltb (length was) (length xs) (omega (arith, w.size)))); cells = w.cells }

  pub enough : n ≤ length was → r ≡ Ok n → AnsweredBytes (in_bytes (length was) xs) (length was) r out
  unfolding in_lent_bytes
  enough l e =
      record {
        answer = e ∙ ap Ok w.size ∙ sym (ap (λ (b : Bool). verdict (in_room b xs)) (le-ltb (length was) (length xs) (omega (arith, w.size))));
        cells = w.cells;
      }
