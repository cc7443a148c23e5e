-- Laws of machines: the state after a text, and what a run says by it.
use Rattle.std.specs.Prelude.{Bool, ◌≡◌}
use Rattle.std.proofs.Math.Bool.{true, false, cond}
use mathlib.Core.List.{List, [], ◌∷◌, ◌++◌}
use Rattle.std.proofs.Math.Option.{Option, none, some}
use Rattle.std.proofs.Math.Path.{refl, ap}
use Rattle.std.proofs.Common.{sym, ◌∙◌, add-suc, suc-add, arith}
use Prim.Native.Nat.{ℕ, suc, ◌+◌}
use Rattle.std.proofs.Math.Nat.{add-zero}
use Rattle.std.proofs.Math.ListN.{length}
use Rattle.text_laws.specs.Tests.{never}
use Rattle.text_spec.specs.Machines.{spells, departs, Machine, spelt, at_end, run}

spelt-some : {A : Type 0} (o : Option A) (k : ℕ) {a : A} → spelt o k ≡ spells a → o ≡ some a
spelt-some none k e = cc
spelt-some (some b) k e = cc

module _ {State A : Type 0} (M : Machine State A) where
  -- the state after a text, from a state at a place
  abbrev pub final : State → List ℕ → ℕ → State
  final q [] k = q
  final q (b ∷ bs) k = final (M.step q k b) bs (suc k)

  pub final-append : (q : State) (u v : List ℕ) (k : ℕ) → final q (u ++ v) k ≡ final (final q u k) v (k + length u)
  final-append q [] v k = rw add-zero
  final-append q (b ∷ u) v k = rw (add-suc, ← suc-add) (final-append (M.step q k b) u v (suc k))

  -- what steps keep holds after a text
  pub final-keeps : (P : State → Type 0) → ((q : State) (k b : ℕ) → P q → P (M.step q k b)) → (q : State) (text : List ℕ) (k : ℕ) → P q → P (final q text k)
  final-keeps P keeps q [] k p = p
  final-keeps P keeps q (b ∷ text) k p = final-keeps P keeps (M.step q k b) text (suc k) (keeps q k b p)

  -- a run that spells something ends in a state that spells it
  pub run-spells : (q : State) (text : List ℕ) (k : ℕ) {a : A} → run M q text k ≡ spells a → M.ends (final q text k) ≡ some a
  unfolding run
  run-spells q [] k e = spelt-some (M.ends q) k e
  run-spells q (b ∷ text) k {a} e = pick (M.is_dead (M.step q k b)) e (run-spells (M.step q k b) text (suc k))
    where
      pick : (d : Bool) → cond d (departs k) (run M (M.step q k b) text (suc k)) ≡ spells a
          → (run M (M.step q k b) text (suc k) ≡ spells a → M.ends (final (M.step q k b) text (suc k)) ≡ some a) → M.ends (final (M.step q k b) text (suc k)) ≡ some a
      pick true e later = cc
      pick false e later = later e

  -- where a run departs: at a byte that leaves the machine dead, or at the end of a text that stops short
  pub data Stopped (q : State) (text : List ℕ) (k j : ℕ) : Type 0 where
    stops_at : (u : List ℕ) (b : ℕ) (v : List ℕ) → text ≡ u ++ (b ∷ v) → j ≡ k + length u → M.is_dead (final q u k) ≡ false → M.is_dead (M.step (final q u k) j b) ≡ true
        → Stopped q text k j
    stops-short : j ≡ k + length text → M.is_dead (final q text k) ≡ false → M.ends (final q text k) ≡ none → Stopped q text k j

  stopped-later : {q : State} {b : ℕ} {text : List ℕ} {k j : ℕ} → Stopped (M.step q k b) text (suc k) j → Stopped q (b ∷ text) k j
  stopped-later {q} {b} {text} {k} {j} (stops_at u c v e p l d) = stops_at (b ∷ u) c v (cc) (omega arith) l d
  stopped-later {q} {b} {text} {k} {j} (stops-short p l d) = stops-short (omega arith) l d

  pub run-departs : (q : State) (text : List ℕ) (k j : ℕ) → M.is_dead q ≡ false → run M q text k ≡ departs j → Stopped q text k j
  unfolding run
  run-departs q [] k j l e = ended (M.ends q) refl e
    where
      ended : (o : Option A) → M.ends q ≡ o → spelt o k ≡ departs j → Stopped q [] k j
      ended none h f = let g : k ≡ j = cc in stops-short (omega arith) l h
      ended (some a) h f = never (cc)
  run-departs q (b ∷ text) k j l e = pick (M.is_dead (M.step q k b)) refl e (run-departs (M.step q k b) text (suc k) j)
    where
      pick : (d : Bool) → M.is_dead (M.step q k b) ≡ d → cond d (departs k) (run M (M.step q k b) text (suc k)) ≡ departs j
          → (M.is_dead (M.step q k b) ≡ false → run M (M.step q k b) text (suc k) ≡ departs j → Stopped (M.step q k b) text (suc k) j) → Stopped q (b ∷ text) k j
      pick true h f later =
          let g : k ≡ j = cc in
          stops_at [] b text refl (omega arith) l (rw (← g) h)
      pick false h f later = stopped-later (later h f)

-- The dead state of a machine: the only one, for ever, and it spells nothing. A text begins in another.
pub record DeadState {State A : Type 0} (M : Machine State A) (dead : State) : Type 0 where
  pub dies : M.is_dead dead ≡ true
  pub only : (q : State) → M.is_dead q ≡ true → q ≡ dead
  pub stays : (k b : ℕ) → M.step dead k b ≡ dead
  pub silent : M.ends dead ≡ none
  pub begins : M.is_dead M.start ≡ false

module _ {State A : Type 0} {M : Machine State A} {dead : State} (D : DeadState M dead) where
  pub dead-final : (v : List ℕ) (k : ℕ) → final M dead v k ≡ dead
  dead-final [] k = refl
  dead-final (b ∷ v) k = rw (D.stays k b) (dead-final v (suc k))

  -- a state that spells something is not dead
  pub spells-live : (q : State) {a : A} → M.ends q ≡ some a → M.is_dead q ≡ false
  spells-live q {a} e = pick (M.is_dead q) refl
    where
      pick : (d : Bool) → M.is_dead q ≡ d → d ≡ false
      pick true h =
          let f : some a ≡ none = sym e ∙ ap M.ends (D.only q h) ∙ D.silent in
          cc
      pick false h = refl

  -- a text that leaves the machine live is judged at its end
  pub run-live : (q : State) (text : List ℕ) (k : ℕ) → M.is_dead (final M q text k) ≡ false → run M q text k ≡ at_end M (final M q text k) (k + length text)
  unfolding run
  run-live q [] k e = rw add-zero
  run-live q (b ∷ text) k e = pick (M.is_dead (M.step q k b)) refl (run-live (M.step q k b) text (suc k))
    where
      pick : (d : Bool) → M.is_dead (M.step q k b) ≡ d
          → (M.is_dead (final M (M.step q k b) text (suc k)) ≡ false → run M (M.step q k b) text (suc k) ≡ at_end M (final M (M.step q k b) text (suc k)) (suc k + length text))
          → cond d (departs k) (run M (M.step q k b) text (suc k)) ≡ at_end M (final M (M.step q k b) text (suc k)) (k + suc (length text))
      pick true h later =
          let f : M.is_dead (final M (M.step q k b) text (suc k)) ≡ true =
          ap (λ (r : State). M.is_dead (final M r text (suc k))) (D.only (M.step q k b) h) ∙ ap M.is_dead (dead-final text (suc k)) ∙ D.dies in
          cc
      pick false h later = rw (add-suc, ← suc-add) (later e)

  -- a text that ends in a state that spells something spells it
  pub final-spells : (q : State) (text : List ℕ) (k : ℕ) {a : A} → M.ends (final M q text k) ≡ some a → run M q text k ≡ spells a
  final-spells q text k e = run-live q text k (spells-live (final M q text k) e) ∙ ap (λ (o : Option A). spelt o (k + length text)) e
