-- What parts a group, by the byte that a reader may keep for it: 0 while nothing does.
use Rattle.std.specs.Prelude.{cond, List, ◌≡◌, ℕ, ◌+◌, ◌≤◌, ◌<◌, eqb, length, Option, Some, None, Result, Ok, Err}
use Rattle.models.specs.declared.Ends.{Ends}
use Rattle.schema_spec.specs.Declarations.{Use, by_bar, by_comma}
use Rattle.schema_spec.specs.Machine.{Frame, fresh, holding, join, from}
use Rattle.schema_spec.specs.Models.{Particle}
use Rattle.schema.specs.declared.particles.Follow.{Follow}
use Rattle.schema.specs.declared.particles.Follow.TheVariants.{Close, More}
use Rattle.schema.specs.declared.particles.Separator.{Separator}
use Rattle.schema.specs.declared.particles.Separator.TheVariants.{Bar, Comma}
use Rattle.schema.specs.particles.Automata.{Built, PartedBy, parted-none, parted-bar, parted-comma, frame_uses, FrameBuilt, Joined}
use Rattle.schema.specs.particles.Readings.{Inside, particle_due, particle_past, group_closed, parted, FollowedAs, Followed}
use Rattle.text_spec.specs.Machines.{departs}

pub data PartedByByte : Frame → ℕ → Type 0 where
  byte-none : PartedByByte fresh 0
  byte-bar : {p : Particle Use} → PartedByByte (holding by_bar p) 0x7C
  byte-comma : {p : Particle Use} → PartedByByte (holding by_comma p) 0x2C

-- a byte that parts no group is taken for `|`, as joining takes it
abbrev pub separator_in : ℕ → Option Separator
separator_in b = cond (eqb b 0) None (cond (eqb b 0x2C) (Some Comma) (Some Bar))

-- the byte of a separator
abbrev pub byte_of : Separator → ℕ
byte_of Bar = 0x7C
byte_of Comma = 0x2C

pub parted-by-byte : {f : Frame} {b : ℕ} → PartedByByte f b → PartedBy f (separator_in b)
parted-by-byte byte-none = parted-none
parted-by-byte byte-bar = parted-bar
parted-by-byte byte-comma = parted-comma

-- ---- what follows a particle in a group that the byte parts
abbrev pub ByteFollowedAs : List ℕ → ℕ → ℕ → Result Follow ℕ → Type 0
ByteFollowedAs s at sep (Ok (Close j)) =
    (at < j) × (j ≤ length s) × ((p : Particle Use) (x : Inside) → from (particle_past p x) s at ≡ from (group_closed (join x.frame p) x.around) s j)
ByteFollowedAs s at sep (Ok (More b j)) =
    (at < j) × (j ≤ length s) × ((p : Particle Use) (x : Inside) → PartedByByte x.frame sep → PartedByByte (parted b p x).frame (byte_of b))
    × ((p : Particle Use) (x : Inside) → PartedByByte x.frame sep → from (particle_past p x) s at ≡ from (particle_due (parted b p x)) s j)
ByteFollowedAs s at sep (Err j) = (p : Particle Use) (x : Inside) → PartedByByte x.frame sep → from (particle_past p x) s at ≡ departs j

pub byte-followed : (s : List ℕ) (at sep : ℕ) (r : Result Follow ℕ) → FollowedAs s at (separator_in sep) r → ByteFollowedAs s at sep r
byte-followed s at sep (Ok (Close j)) F = F
byte-followed s at sep (Ok (More Bar j)) F = (F.0, F.1, (λ p x H. byte-bar), λ p x H. F.3 p x (parted-by-byte H))
byte-followed s at sep (Ok (More Comma j)) F = (F.0, F.1, (λ p x H. byte-comma), λ p x H. F.3 p x (parted-by-byte H))
byte-followed s at sep (Err j) F = λ p x H. F p x (parted-by-byte H)

-- ---- one more particle in a group that the byte parts
pub record ByteJoined (sep : ℕ) (a b : Ends) (before after : List ℕ) (r : Ends) : Type 0 where
  pub long : length after ≡ length before
  pub built : (k : ℕ) (first middle : List ℕ) (f : Frame) (p : Particle Use) → PartedByByte f sep → FrameBuilt k first middle a f
      → Built (k + length (frame_uses f)) middle before p b → Built k first after (join f p) r

pub byte-joined : {sep : ℕ} {a b : Ends} {before after : List ℕ} {r : Ends} → Joined (separator_in sep) a b before after r → ByteJoined sep a b before after r
byte-joined J = record { long = J.long; built = λ k first middle f p H. J.built k first middle f p (parted-by-byte H) }
