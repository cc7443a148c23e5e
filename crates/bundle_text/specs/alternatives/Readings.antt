-- What reading an alternative answers, in terms of the bundle machine, and what is noted of it.
use Rattle.std.specs.Prelude.{List, [], ◌∷◌, map, reverse, ◌≡◌, ℕ, ◌≤◌, ◌<◌, length, Result, Ok, Err}
use Rattle.bundle_text.specs.alternative_ends.Readings.{NoSlash, plain_past}
use Rattle.bundle_text.specs.declared.notes.Notes.{Notes}
use Rattle.bundle_text.specs.declared.steps.StepRead.{StepRead}
use Rattle.bundle_text.specs.notes.Notes.{with_inners, Ended, OnlyInner}
use Rattle.bundle_text.specs.steps.Readings.{plain_noted}
use Rattle.path_spec.specs.Machine.{Inner, inside, begin_step, bundle_machine}
use Rattle.text_spec.specs.Machines.{departs, from}

-- ---- an alternative
-- brackets in which the steps cs of an alternative have been read, the last first
abbrev pub in_alternative : List ℕ → List StepRead → Inner → Inner
in_alternative s cs x = record { outer = x.outer; axis = x.axis; test = x.test; alternatives = x.alternatives; steps = map (plain_noted s) cs }

pub record AlternativeRead (s : List ℕ) (at : ℕ) (N N' : Notes) (j : ℕ) : Type 0 where
  pub last : StepRead
  -- the last first
  pub before : List StepRead
  pub low : at < j
  pub high : j ≤ length s
  pub stop : NoSlash s j
  pub ended : Ended (reverse (last ∷ before))
  pub noted : N' ≡ with_inners N (reverse (last ∷ before))
  pub few : N'.inner_count ≤ j
  pub same : (x : Inner) → from bundle_machine (begin_step (inside (in_alternative s [] x))) s at ≡ from bundle_machine (plain_past s last (in_alternative s before x)) s j

abbrev pub AlternativeAs : List ℕ → ℕ → Notes → Notes → Result ℕ ℕ → Type 0
AlternativeAs s at N N' (Ok j) = AlternativeRead s at N N' j
AlternativeAs s at N N' (Err j) = OnlyInner N N' × ((x : Inner) → from bundle_machine (begin_step (inside (in_alternative s [] x))) s at ≡ departs j)

pub record ReadsAlternative (s : List ℕ) (at : ℕ) (N N' : Notes) (r : Result ℕ ℕ) : Type 0 where
  pub says : AlternativeAs s at N N' r
