-- Bytes that are read without an event, all at once: where the lexer comes to, and that none of them fails 3.
use Rattle.std.specs.Prelude.{Bool, true, false, not, ◌&&◌, ◌≡◌, refl, get_or, drop}
use mathlib.Core.List.{List, [], ◌∷◌, ◌++◌}
use Rattle.std.proofs.Common.{sym, ◌∙◌, add-zero, length-drop, drop-cons}
use Rattle.std.proofs.Math.Path.{ap, subst}
use Prim.Native.Nat.{ℕ, suc, ◌+◌, ◌<◌}
use native.Mathlib.Omega.{arith}
use Rattle.std.proofs.Math.ListN.{length}
use Rattle.journal_lexer.specs.loop_laws.Advance.{foreign_below}
use Rattle.journal_lexer.specs.run_laws.Passes.{Passes, reads}
use Rattle.text_laws.specs.Tests.{never as no-case}
use Rattle.text_spec.specs.Bytes.{is_foreign}
use Rattle.text_spec.specs.Lists.{all_of}
use Rattle.token_laws.specs.Events.{told}
use Rattle.token_laws.specs.Passes.{events_over}
use Rattle.token_spec.specs.Characters.{EntityFor, lt, gt, amp, apos, quot}
use Rattle.token_spec.specs.Lexer.{Mode, Event, quiet, starts, empties, ends, runs, tells, lex, mode_after}

-- ---- bytes without an event
told-quiet : (e : Event) (es : List Event) → told e es ≡ [] → (e ≡ quiet) × (es ≡ [])
told-quiet quiet es h = (refl, h)
told-quiet (starts n k) es h = no-case (cc)
told-quiet (empties n k) es h = no-case (cc)
told-quiet (ends n k) es h = no-case (cc)
told-quiet (runs r size) es h = no-case (cc)

-- the first of the bytes that stand at a place
module _ (text : List ℕ) (b : ℕ) (u : List ℕ) (j : ℕ) (s : drop j text ≡ b ∷ u) where
  first-inside : j < length text
  first-inside =
      let n : length (drop j text) ≡ suc (length u) = ap length s in
      omega (arith, length-drop j text, n)

  first-parts : (get_or text j 0 ≡ b) × (drop (suc j) text ≡ u)
  first-parts =
      let e : get_or text j 0 ∷ drop (suc j) text ≡ b ∷ u = sym (drop-cons text j 0 first-inside) ∙ s in
      (cc, cc)

module _ {text : List ℕ} {k : ℕ} {m : Mode} where
  pub over-bytes : (u w : List ℕ) (j : ℕ) (n : Mode) → drop j text ≡ u ++ w → events_over n j u ≡ [] → Passes text k m j n quiet
      → Passes text k m (j + length u) (mode_after n j u) quiet
  unfolding mode_after events_over
  over-bytes [] w j n s e p = subst (λ (i : ℕ). Passes text k m i n quiet) (sym (add-zero j)) p
  over-bytes (b ∷ u) w j n s e p =
      let parts = first-parts text b (u ++ w) j s in
      let told = told-quiet (lex n j b).event (events_over (lex n j b).mode (suc j) u) e in
      let one : lex n j (get_or text j 0) ≡ tells (lex n j b).mode quiet = ap (lex n j) parts.0 ∙ ap (tells (lex n j b).mode) told.0 in
      let i : suc j + length u ≡ j + suc (length u) = omega arith in
      subst (λ (x : ℕ). Passes text k m x (mode_after (lex n j b).mode (suc j) u) quiet) i
      (over-bytes u w (suc j) (lex n j b).mode parts.1 told.1 (reads p (first-inside text b (u ++ w) j s) one))

-- a byte that passes 3
abbrev pub passes_three : ℕ → Bool
passes_three b = not (is_foreign b)

pub no-foreign : (text u w : List ℕ) (j : ℕ) → drop j text ≡ u ++ w → all_of passes_three u ≡ true → foreign_below text (j + length u) ≡ foreign_below text j
unfolding foreign_below
no-foreign text [] w j s e = ap (foreign_below text) (add-zero j)
no-foreign text (b ∷ u) w j s e =
    let parts = first-parts text b (u ++ w) j s in
    let i : j + suc (length u) ≡ suc j + length u = omega arith in
    by (is_foreign b) refl e (λ f. ap (foreign_below text) i ∙ no-foreign text u w (suc j) parts.1 f) parts.0
  where
    by : (t : Bool) → is_foreign b ≡ t → (not t && all_of passes_three u) ≡ true → (all_of passes_three u ≡ true → foreign_below text (j + suc (length u)) ≡ foreign_below text (suc j)) → get_or text j 0 ≡ b
        → foreign_below text (j + suc (length u)) ≡ foreign_below text j
    by true d f on g = no-case (cc)
    by false d f on g =
        let z : is_foreign (get_or text j 0) ≡ false = ap is_foreign g ∙ d in
        on f ∙ rw z

pub entity-passes-three : {u : List ℕ} {c : ℕ} → EntityFor (0x26 ∷ u) c → all_of passes_three (0x26 ∷ u) ≡ true
entity-passes-three lt = refl
entity-passes-three gt = refl
entity-passes-three amp = refl
entity-passes-three apos = refl
entity-passes-three quot = refl
