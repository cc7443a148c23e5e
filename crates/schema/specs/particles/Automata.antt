-- The position automaton (Glushkov) of a model, part by part as it is read: where each part may begin and end, and in lent cells, its links,
-- the positions that each position may come after.
use Rattle.std.specs.Prelude.{List, [], ◌≡◌, ℕ, ◌+◌, ◌≤◌, length, Option, Some, None}
use Rattle.models.specs.Placing.{Clear, Placed}
use Rattle.models.specs.declared.Ends.{Ends}
use Rattle.schema_spec.specs.Declarations.{Use, Indicator, indicated, Separator, by_bar, by_comma}
use Rattle.schema_spec.specs.Machine.{Frame, fresh, holding, join}
use Rattle.schema_spec.specs.Models.{Particle, uses, rename_in}
use Rattle.schema.specs.declared.particles.Separator.{Separator as Parted}
use Rattle.schema.specs.declared.particles.Separator.TheVariants.{Bar, Comma}

-- A particle whose names are the positions from k on, whatever its names stand for: its links are right if there is a cell for each position,
-- and from k on none was linked before.
pub record Built (k : ℕ) (before after : List ℕ) (p : Particle Use) (e : Ends) : Type 0 where
  pub long : length after ≡ length before
  pub right : length before ≤ 64 → k + length (uses p) ≤ length before → Clear k before → (f : Use → ℕ) → Placed k (rename_in f p) before after e

-- what its indicator makes of it
pub record Repeated (by : Indicator) (e : Ends) (before after : List ℕ) (r : Ends) : Type 0 where
  pub long : length after ≡ length before
  pub built : (k : ℕ) (first : List ℕ) (p : Particle Use) → Built k first before p e → Built k first after (indicated by p) r

-- what parts a group so far
pub data PartedBy : Frame → Option Parted → Type 0 where
  parted-none : PartedBy fresh None
  parted-bar : {p : Particle Use} → PartedBy (holding by_bar p) (Some Bar)
  parted-comma : {p : Particle Use} → PartedBy (holding by_comma p) (Some Comma)

-- an open group: the names read of it, and their automaton
abbrev pub frame_uses : Frame → List Use
frame_uses fresh = []
frame_uses (holding s p) = uses p

pub data FrameBuilt (k : ℕ) (before after : List ℕ) (e : Ends) : Frame → Type 0 where
  built-fresh : after ≡ before → FrameBuilt k before after e fresh
  built-holding : {s : Separator} {p : Particle Use} → Built k before after p e → FrameBuilt k before after e (holding s p)

-- one more particle in an open group
pub record Joined (sep : Option Parted) (a b : Ends) (before after : List ℕ) (r : Ends) : Type 0 where
  pub long : length after ≡ length before
  pub built : (k : ℕ) (first middle : List ℕ) (f : Frame) (p : Particle Use) → PartedBy f sep → FrameBuilt k first middle a f
      → Built (k + length (frame_uses f)) middle before p b → Built k first after (join f p) r
