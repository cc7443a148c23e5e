-- The states of the bundle machine: which is dead, which spell paths, and which are in a keyword or a name.
use Rattle.std.specs.Prelude.{true, List, [], ◌∷◌, reverse, ◌≡◌, refl, ℕ}
use Rattle.std.proofs.Math.Option.{some}
use Rattle.path_spec.specs.Grammar.{PathRead}
use Rattle.path_spec.specs.Machine.{Inner, Context, inside, State, dead, line_start, in_axis, before_test, in_test, in_call, after_call, in_or, after_brackets, is_dead, begin_step, step, ends, bundle_machine}
use Rattle.path_spec.specs.Paths.{WrittenAxis}
use Rattle.text_laws.specs.Machines.{DeadState}
use Rattle.text_laws.specs.Scans.{Keyword, Naming}
use Rattle.text_laws.specs.Tests.{never, cond_yes}

is-dead : (q : State) → is_dead q ≡ true → q ≡ dead
is-dead dead e = refl
is-dead (line_start ps) e = cc
is-dead (in_axis cs x) e = cc
is-dead (before_test a x) e = cc
is-dead (in_test a k n x) e = cc
is-dead (in_call a t x) e = cc
is-dead (after_call a t x) e = cc
is-dead (in_or w i) e = cc
is-dead (after_brackets o) e = cc

pub bundle-dead : DeadState bundle_machine dead
unfolding step
bundle-dead = record { dies = refl; only = is-dead; stays = λ k b. refl; silent = refl; begins = refl }

-- a text that spells paths ends after the last of them
pub ends-line : (q : State) {ps : List PathRead} → ends q ≡ some ps → (p : PathRead) × (before : List PathRead) × (q ≡ line_start (p ∷ before)) × (ps ≡ reverse (p ∷ before))
ends-line (line_start []) e = never (cc)
ends-line (line_start (p ∷ before)) e = (p, before, refl, cc)
ends-line dead e = never (cc)
ends-line (in_axis cs x) e = never (cc)
ends-line (before_test a x) e = never (cc)
ends-line (in_test a k n x) e = never (cc)
ends-line (in_call a t x) e = never (cc)
ends-line (after_call a t x) e = never (cc)
ends-line (in_or w i) e = never (cc)
ends-line (after_brackets o) e = never (cc)

pub or-keyword : (i : Inner) → Keyword bundle_machine dead (begin_step (inside i)) (λ w. in_or w i)
unfolding step
or-keyword i = record { dies = refl; live = refl; lives = λ w. refl; goes = λ w k b. refl; ends = λ w. refl }

pub test-naming : (a : WrittenAxis) (j : ℕ) (x : Context) → Naming bundle_machine dead (λ n. in_test a j n x)
unfolding step
test-naming a j x = record { dies = refl; lives = λ n. refl; goes = λ n k b e. cond_yes _ _ e }
