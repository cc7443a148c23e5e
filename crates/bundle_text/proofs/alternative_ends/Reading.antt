-- Laws of what follows an alternative.
use mathlib.Core.List.{List}
use mathlib.Core.Path.{◌≡◌, refl, ap, ◌∙◌}
use Prim.Native.Nat.{ℕ, ◌+◌, ◌≤◌, ◌<◌}
use native.Mathlib.Omega.{arith}
use borrow.Author.Tests.{ne_eqb}
use lib.ListN.{length}
use Rattle.bundle_text.specs.alternative_ends.Readings.{NoSlash, plain_past, closed, FollowedAs}
use Rattle.std.specs.Prelude.{Result, Ok, Err}
use Rattle.bundle_text.specs.declared.alternative_ends.Follow.TheVariants.{Close, More}
use Rattle.bundle_text.specs.declared.steps.StepRead.{StepRead}
use Rattle.path_laws.specs.Grammar.Machine.{or-keyword}
use Rattle.path_spec.specs.Machine.{Inner, dead, in_or, after_brackets, bracketed, step, bundle_machine}
use Rattle.text.specs.scanning.OutcomeLaws.{spelt-end, spelt-past, spelt-fail}
use Rattle.text.specs.scanning.Outcomes.{Spelt}
use Rattle.text_laws.specs.Scans.{step-at, dead-at, at-end}
use Rattle.text_laws.specs.Tests.{cond_no}
use Rattle.text_spec.specs.Lists.{bytes}
use Rattle.text_spec.specs.Machines.{from}
use Rattle.text_spec.specs.Scans.{byte_at}

module _ (s : List ℕ) (at : ℕ) where
  pub follow-end : length s ≤ at → FollowedAs s at (Err at)
  follow-end l c x = at-end bundle_machine s at (plain_past s c x) l

  module _ (l : at < length s) where
    pub follow-close : byte_at s at ≡ 0x5D → FollowedAs s at (Ok (Close (at + 1)))
    unfolding step
    follow-close e = (
      omega arith,
      omega arith,
      λ c x. step-at bundle_machine s at (plain_past s c x) (after_brackets (bracketed (closed s c x))) l (ap (λ (b : ℕ). step (plain_past s c x) at b) e) refl,
    )

    pub follow-not : NoSlash s at → (byte_at s at ≡ 0x5D → ⊥) → (byte_at s at ≡ 0x20 → ⊥) → FollowedAs s at (Err at)
    unfolding step
    follow-not f d e c x =
        dead-at bundle_machine s at (plain_past s c x) dead l
        (cond_no _ _ (ne_eqb (byte_at s at) 0x2F (f l)) ∙ cond_no _ _ (ne_eqb (byte_at s at) 0x20 e) ∙ cond_no _ _ (ne_eqb (byte_at s at) 0x5D d)) refl

    blank-to : byte_at s at ≡ 0x20 → (c : StepRead) (x : Inner) → from bundle_machine (plain_past s c x) s at ≡ from bundle_machine (in_or (bytes "or ") (closed s c x)) s (at + 1)
    unfolding step
    blank-to e c x = step-at bundle_machine s at (plain_past s c x) (in_or (bytes "or ") (closed s c x)) l (ap (λ (b : ℕ). step (plain_past s c x) at b) e) refl

    module _ (e : byte_at s at ≡ 0x20) {r : Result ℕ ℕ} (W : Spelt (bytes "or ") s (at + 1) r) where
      pub follow-more : {j : ℕ} → r ≡ Ok j → FollowedAs s at (Ok (More j))
      follow-more u =
          let h = spelt-end W u in
          let g = h.0 in
          (omega arith, h.1, λ c x. blank-to e c x ∙ spelt-past W (or-keyword (closed s c x)) u)

      pub follow-stops : {j : ℕ} → r ≡ Err j → FollowedAs s at (Err j)
      follow-stops u c x = blank-to e c x ∙ spelt-fail W (or-keyword (closed s c x)) u
