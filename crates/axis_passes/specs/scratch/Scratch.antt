-- Scratch columns of marks: a byte for each row, behind the same references before and after a call.
use Rattle.std.specs.Prelude.{List, ◌≡◌, ℕ, length}
use Rattle.std.proofs.Common.{◌∙◌}
use Rattle.axis_passes.specs.declared.scratch.Scratch.{Scratch}

pub record Room (ps : List ℕ) (s : Scratch) : Type 0 where
  pub held : length s.held.now ≡ length ps
  pub steps : length s.steps.now ≡ length ps
  pub next : length s.next.now ≡ length ps

-- the same references, to as many cells
pub record Kept (old new : Scratch) : Type 0 where
  pub held : new.held.ghost_name ≡ old.held.ghost_name
  pub steps : new.steps.ghost_name ≡ old.steps.ghost_name
  pub next : new.next.ghost_name ≡ old.next.ghost_name
  pub held-size : length new.held.now ≡ length old.held.now
  pub steps-size : length new.steps.now ≡ length old.steps.now
  pub next-size : length new.next.now ≡ length old.next.now

pub room-kept : {ps : List ℕ} {old new : Scratch} → Room ps old → Kept old new → Room ps new
room-kept r k = record { held = k.held-size ∙ r.held; steps = k.steps-size ∙ r.steps; next = k.next-size ∙ r.next }

pub kept-kept : {a b c : Scratch} → Kept a b → Kept b c → Kept a c
kept-kept x y =
    record {
      held = y.held ∙ x.held;
      steps = y.steps ∙ x.steps;
      next = y.next ∙ x.next;
      held-size = y.held-size ∙ x.held-size;
      steps-size = y.steps-size ∙ x.steps-size;
      next-size = y.next-size ∙ x.next-size;
    }
