-- What is answered to a journal by what was found.
use Rattle.std.specs.Prelude.{Bool, true, false, cond, List, ◌≡◌, refl, ℕ, ◌/◌, ◌%◌, ◌<◌, ltb, length, Option, Some, None, Result, Ok, Err}
use Rattle.std.proofs.Common.{true≢false, sym, ap, ◌∙◌, arith}
use Rattle.cells.specs.verdicts.Verdicts.{verdict}
use Rattle.journal_lexer.specs.run_laws.Findings.{KeyTells, accepts, refuses}
use Rattle.library_spec.specs.Calls.{in_columns}
use Rattle.table_spec.specs.Columns.{Sizes}
use Rattle.table_spec.specs.Rows.{Row}
use Rattle.text.specs.declared.refusals.Reason.TheVariants.{TooFewCells}
use Rattle.text.specs.declared.refusals.Refusal.{Refusal}
use Rattle.text.specs.fault_keys.Keys.{no_key, place_limit, key_of}
use Rattle.text.specs.refusals.Refusals.{refusal, refusal_in, refusal_as, refusal_in-as}
use Rattle.text_spec.specs.Refusals as paper
use Rattle.text_spec.specs.Refusals.{Outcome, accepted, refused, and_then, at, too_few_cells, number_of}

-- the first refusal, or so many rows
abbrev pub answered : Option Refusal → ℕ → Result ℕ Refusal
answered None n = Ok n
answered (Some f) n = Err f

-- the same in columns of so many cells
abbrev pub in_rows : Result ℕ Refusal → ℕ → Result ℕ Refusal
in_rows (Ok n) room = cond (ltb room n) (Err (refusal TooFewCells 0)) (Ok n)
in_rows (Err f) room = Err f

module _ (key n : ℕ) (t : Option Refusal) (some : (f : Refusal) → f.place < place_limit → key ≡ key_of (refusal_in f) → t ≡ Some f) (none : key ≡ no_key → t ≡ None) where
  key-told : (f : paper.Refusal) → key / place_limit ≡ number_of f.reason → key % place_limit ≡ f.place → key ≡ key_of f
  key-told f a p = omega (arith, a, p)

  pub told : (rows : List Row) (o : Outcome (List Row)) → KeyTells key rows o → (key ≡ no_key → n ≡ length rows) → answered t n ≡ verdict o
  told rows (accepted x) (accepts e) c = rw (none e) (ap Ok (c e))
  told rows (refused f) (refuses a p l) c =
      let low : f.place < place_limit = omega (arith, p) in
      let q : t ≡ Some (refusal_as f) = some (refusal_as f) low (key-told f a p ∙ ap key_of (sym (refusal_in-as f))) in
      rw q refl

-- ---- 18 comes last
abbrev is_ok : Result ℕ Refusal → Bool
is_ok (Ok n) = true
is_ok (Err f) = false

pub room-last : (r : Result ℕ Refusal) (o : Outcome (List Row)) (z : Sizes) → r ≡ verdict o → in_rows r z.numbers ≡ verdict (and_then o (in_columns z))
room-last r (accepted rows) z e = rw e (pick (ltb z.numbers (length rows)))
  where
    pick : (t : Bool) → cond t (Err (refusal TooFewCells 0)) (Ok (length rows)) ≡ verdict (cond t (refused (at too_few_cells 0)) (accepted rows))
    pick true = refl
    pick false = refl
room-last r (refused f) z e = rw e refl

-- what is read stays read where there is room
pub room-read : (r : Result ℕ Refusal) (o : Outcome (List Row)) (z : Sizes) (n : ℕ) → r ≡ verdict o → in_rows r z.numbers ≡ Ok n
    → (rows : List Row) × (o ≡ accepted rows) × (ltb z.numbers (length rows) ≡ false)
room-read r (accepted rows) z n e h = (rows, refl, room (ltb z.numbers (length rows)) refl (sym (ap (λ (q : Result ℕ Refusal). in_rows q z.numbers) e) ∙ h))
  where
    room : (t : Bool) → ltb z.numbers (length rows) ≡ t → cond t (Err (refusal TooFewCells 0)) (Ok (length rows)) ≡ Ok n → ltb z.numbers (length rows) ≡ false
    room true q w = absurd (true≢false (sym (ap is_ok w)))
    room false q w = q
room-read r (refused f) z n e h = absurd (true≢false (sym (ap is_ok (sym (ap (λ (q : Result ℕ Refusal). in_rows q z.numbers) e) ∙ h))))
