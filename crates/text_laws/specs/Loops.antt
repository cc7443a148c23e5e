-- A loop that replaces each element of a list in turn: those passed are as they should be, the others as they were.
use Rattle.std.specs.Prelude.{List, ◌≡◌, refl, ℕ, ◌+◌, ◌≤◌, ◌<◌, length, get_or, set}
use Rattle.std.proofs.Common.{⊎_elim, sym, subst, ◌∙◌, eq-or-lt_of_le, arith, get_or-set_same, get_or-set_other}

-- Right j x: x is what should stand at j; d stands past the end
module _ {A : Type 0} (Right : ℕ → A → Type 0) (d : A) (before : List A) where
  pub record Passed (i : ℕ) (now : List A) : Type 0 where
    pub done : (j : ℕ) → j < i → Right j (get_or now j d)
    pub kept : (j : ℕ) → i ≤ j → get_or now j d ≡ get_or before j d

  pub passed_first : Passed 0 before
  passed_first = record { done = λ j l. absurd (omega arith); kept = λ j l. refl }

  pub passed-next : (i : ℕ) (now : List A) (x : A) → i < length now → Passed i now → Right i x → Passed (i + 1) (set now i x)
  passed-next i now x inside p r =
      record {
        done = λ j l. ⊎_elim (λ e. here j e) (λ h. earlier j h) (eq-or-lt_of_le (at_most j l));
        kept = λ j l. get_or-set_other now i j x d (λ e. omega arith) ∙ p.kept j (omega arith);
      }
    where
      at_most : (j : ℕ) → j < i + 1 → j ≤ i
      at_most j l = omega arith

      here : (j : ℕ) → j ≡ i → Right j (get_or (set now i x) j d)
      here j e = subst (λ (m : ℕ). Right m (get_or (set now i x) m d)) (sym e) (subst (Right i) (sym (get_or-set_same now i x d inside)) r)

      earlier : (j : ℕ) → j < i → Right j (get_or (set now i x) j d)
      earlier j h = subst (Right j) (sym (get_or-set_other now i j x d (λ e. omega arith))) (p.done j h)
