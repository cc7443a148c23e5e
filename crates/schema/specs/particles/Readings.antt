-- What reading a part of a content model answers, in terms of the definition's machine: judging on from where the part starts is judging
-- on from where it ends.
use Rattle.std.specs.Prelude.{Bool, true, false, cond, ◌||◌, List, [], ◌∷◌, map, ◌≡◌, ℕ, suc, ◌+◌, ◌-◌, ◌≤◌, ◌<◌, eqb, length, Option, Some, None, Result, Ok, Err}
use Rattle.std.proofs.lemmas.List.Edits.{sets}
use Rattle.models.specs.declared.Ends.{Ends}
use Rattle.schema_spec.specs.Declarations.{Use, Indicator, once, optional, any, one_or_more, indicated, Separator, by_bar, by_comma}
use Rattle.schema_spec.specs.Machine.{Frame, fresh, holding, join, Head, State, expecting, in_use, closed, past, from}
use Rattle.schema_spec.specs.Models.{Particle, named, uses}
use Rattle.schema.specs.declared.parsing.Parser.{Parser}
use Rattle.schema.specs.declared.particles.Follow.{Follow}
use Rattle.schema.specs.declared.particles.Follow.TheVariants.{Close, More}
use Rattle.schema.specs.declared.particles.Part.{Part}
use Rattle.schema.specs.declared.particles.Separator.{Separator as Parted}
use Rattle.schema.specs.declared.particles.Separator.TheVariants.{Bar, Comma}
use Rattle.schema.specs.particles.Automata.{Built, Repeated, PartedBy}
use Rattle.text_spec.specs.Bytes.{continues_name}
use Rattle.text_spec.specs.Machines.{departs}
use Rattle.text_spec.specs.Scans.{byte_at, Stops, name_at}

-- ---- names and their places
abbrev pub use_at : List ℕ → ℕ → Use
use_at s p = record { place = p; name = name_at s p }

-- places in rising order, from `low` on and before `high`
abbrev pub Between : ℕ → ℕ → List ℕ → Type 0
Between low high [] = low ≤ high
Between low high (p ∷ ps) = (low ≤ p) × Between (suc p) high ps

-- uses of names from `at` up to `end`, whose places were noted in cells from n on
pub record Noted (s : List ℕ) (at n : ℕ) (cells cells' : List ℕ) (end count : ℕ) (us : List Use) : Type 0 where
  pub places : List ℕ
  pub names : us ≡ map (use_at s) places
  pub rise : Between at end places
  pub counted : count ≡ n + length places
  pub wrote : cells' ≡ sets cells n places

-- ---- a part of a text
-- A part from `at` up to `end` that is read as a tree: the names in it are noted, and what was made of it fits the tree. Whatever stands
-- around it, judging on from the state before it is judging on from the state after it.
pub record Reading {X T : Type 0} (before : X → State) (after : T → X → State) (names : T → List Use) (Made : T → Type 0) (s : List ℕ) (at n : ℕ) (cells cells' : List ℕ) (end count : ℕ) : Type 0 where
  pub high : end ≤ length s
  pub few : count ≤ end
  pub tree : T
  pub noted : Noted s at n cells cells' end count (names tree)
  pub made : Made tree
  pub same : (x : X) → from (before x) s at ≡ from (after tree x) s end

-- there is no such part: the text departs from the grammar at j
abbrev pub Fails : {X : Type 0} → (X → State) → List ℕ → ℕ → ℕ → Type 0
Fails {X} before s at j = (x : X) → from (before x) s at ≡ departs j

-- a parser goes on over the same text and the same lent cells, as many as before
pub record Kept (old new : Parser) : Type 0 where
  pub text : new.text.now ≡ old.text.now
  pub uses : new.uses.ghost_name ≡ old.uses.ghost_name
  pub predecessors : new.predecessors.ghost_name ≡ old.predecessors.ghost_name
  pub uses-size : length new.uses.now ≡ length old.uses.now
  pub predecessors-size : length new.predecessors.now ≡ length old.predecessors.now

-- a part of a model, whose positions are counted from the model's first name on
abbrev pub PartAs : {X : Type 0} → (X → State) → (Particle Use → X → State) → ℕ → Parser → Parser → Result Part ℕ → Type 0
PartAs before after at old new (Ok p) =
    Reading before after uses (λ t. Built (old.count - old.start) old.predecessors.now new.predecessors.now t p.ends) old.text.now at old.count old.uses.now new.uses.now p.at new.count
PartAs before after at old new (Err j) = Fails before old.text.now at j

pub record ReadsPart {X : Type 0} (before : X → State) (after : Particle Use → X → State) (at : ℕ) (old new : Parser) (r : Result Part ℕ) : Type 0 where
  pub kept : Kept old new
  pub start : new.start ≡ old.start
  pub says : PartAs before after at old new r

-- ---- groups, particles and names
-- the open groups around a part, the innermost first, and the head of the declaration
pub record Around : Type 0 where
  pub frames : List Frame
  pub head : Head

-- the group in which a particle stands, and what is around it
pub record Inside : Type 0 where
  pub frame : Frame
  pub around : Around

-- around the particle
abbrev pub outside : Inside → Around
outside x = record { frames = x.frame ∷ x.around.frames; head = x.around.head }

-- with so many groups around
abbrev pub AroundAt : ℕ → Type 0
AroundAt depth = (x : Around) × (length x.frames ≡ depth)

abbrev pub InsideAt : ℕ → Type 0
InsideAt depth = (x : Inside) × (length x.around.frames ≡ depth)

abbrev pub particle_due : Inside → State
particle_due x = expecting x.frame x.around.frames x.around.head

abbrev pub particle_past : Particle Use → Inside → State
particle_past t x = past t (outside x).frames (outside x).head

abbrev pub group_due : Around → State
group_due x = expecting fresh x.frames x.head

abbrev pub group_closed : Particle Use → Around → State
group_closed t x = closed t x.frames x.head

-- a particle, from where it is due
abbrev pub ReadsParticle : ℕ → ℕ → Parser → Parser → Result Part ℕ → Type 0
ReadsParticle at depth = ReadsPart {X = InsideAt depth} (λ x. particle_due x.0) (λ t x. particle_past t x.0) at

-- one that is a name at i
abbrev pub ReadsName : ℕ → Parser → Parser → Result Part ℕ → Type 0
ReadsName i = ReadsPart particle_due particle_past i

-- a group, from after its `(`
abbrev pub ReadsGroup : ℕ → ℕ → Parser → Parser → Result Part ℕ → Type 0
ReadsGroup at depth = ReadsPart {X = AroundAt depth} (λ x. group_due x.0) (λ t x. group_closed t x.0) at

-- ---- indicators
-- q stands just after the particle p, a name or a group
pub data Ended (s : List ℕ) (at : ℕ) : State → Particle Use → Around → Type 0 where
  at_name : {j : ℕ} {n : List ℕ} {x : Inside} → Stops continues_name s at
      → Ended s at (in_use j n x.frame x.around.frames x.around.head) (named (record { place = j; name = n })) (outside x)
  at-closed : {p : Particle Use} {x : Around} → Ended s at (group_closed p x) p x

abbrev pub is_indicator : ℕ → Bool
is_indicator b = eqb b 0x3F || (eqb b 0x2A || eqb b 0x2B)

-- what a byte says after a particle, and the byte at a place
abbrev pub indicator_of : ℕ → Indicator
indicator_of b = cond (eqb b 0x3F) optional (cond (eqb b 0x2A) any (cond (eqb b 0x2B) one_or_more once))

abbrev pub indicator_at : List ℕ → ℕ → Indicator
indicator_at s at = indicator_of (byte_at s at)

pub record Indicated (s : List ℕ) (at r : ℕ) : Type 0 where
  pub low : at ≤ r
  pub high : r ≤ length s
  pub same : (q : State) (p : Particle Use) (x : Around) → Ended s at q p x
      → from q s at ≡ from (past (indicated (indicator_at s at) p) x.frames x.head) s r

-- what an indicator makes of the ends of the particle before it, if one stands at a place
abbrev pub RepeatedAs : List ℕ → ℕ → Ends → List ℕ → List ℕ → Option Ends → Type 0
RepeatedAs s at ends links links' (Some r) = (at < length s) × (is_indicator (byte_at s at) ≡ true) × Repeated (indicator_at s at) ends links links' r
RepeatedAs s at ends links links' None = (links' ≡ links) × (is_indicator (byte_at s at) ≡ false)

-- nothing but the links of the automaton is written
pub record OnlyLinks (old new : Parser) : Type 0 where
  pub kept : Kept old new
  pub uses : new.uses.now ≡ old.uses.now
  pub count : new.count ≡ old.count
  pub start : new.start ≡ old.start

pub record MayRepeat (at : ℕ) (ends : Ends) (old new : Parser) (r : Option Ends) : Type 0 where
  pub only : OnlyLinks old new
  pub says : RepeatedAs old.text.now at ends old.predecessors.now new.predecessors.now r

-- a particle and then the same with its indicator
pub record PartIndicated (p : Part) (old new : Parser) (r : Part) : Type 0 where
  pub only : OnlyLinks old new
  pub by : Indicated old.text.now p.at r.at
  pub repeated : Repeated (indicator_at old.text.now p.at) p.ends old.predecessors.now new.predecessors.now r.ends

-- ---- separators
-- what parts a group
abbrev pub separator_of : Parted → Separator
separator_of Bar = by_bar
separator_of Comma = by_comma

-- what may part a group that is parted so
abbrev pub same : Parted → Parted → Bool
same Bar Bar = true
same Bar Comma = false
same Comma Bar = false
same Comma Comma = true

abbrev pub may_part : Option Parted → Parted → Bool
may_part None b = true
may_part (Some a) b = same a b

-- the group in which one more particle was read and then a separator
abbrev pub parted : Parted → Particle Use → Inside → Inside
parted b p x = record { frame = holding (separator_of b) (join x.frame p); around = x.around }

-- what follows a particle: the end of its group, or a separator
abbrev pub FollowedAs : List ℕ → ℕ → Option Parted → Result Follow ℕ → Type 0
FollowedAs s at sep (Ok (Close j)) =
    (at < j) × (j ≤ length s) × ((p : Particle Use) (x : Inside) → from (particle_past p x) s at ≡ from (group_closed (join x.frame p) x.around) s j)
FollowedAs s at sep (Ok (More b j)) =
    (at < j) × (j ≤ length s) × ((p : Particle Use) (x : Inside) → PartedBy x.frame sep → PartedBy (parted b p x).frame (Some b))
    × ((p : Particle Use) (x : Inside) → PartedBy x.frame sep → from (particle_past p x) s at ≡ from (particle_due (parted b p x)) s j)
FollowedAs s at sep (Err j) = (p : Particle Use) (x : Inside) → PartedBy x.frame sep → from (particle_past p x) s at ≡ departs j

pub record Followed (s : List ℕ) (at : ℕ) (sep : Option Parted) (r : Result Follow ℕ) : Type 0 where
  pub says : FollowedAs s at sep r
