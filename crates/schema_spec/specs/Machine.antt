-- The machine that reads a schema text: its state holds what has been read, with a stack of open groups.
use Rattle.std.specs.Prelude.{Bool, true, false, cond, ◌&&◌, List, [], ◌∷◌, reverse, ℕ, suc, eqb, ltb, length}
use Rattle.std.proofs.Math.Option.{Option, none, some}
use Rattle.schema_spec.specs.Declarations.{Use, Declaration, element_keyword, empty_keyword, pcdata_keyword, optional, any, one_or_more, indicated, Separator, unparted, by_bar, by_comma, join_by}
use Rattle.schema_spec.specs.Models.{Particle, named, Content, empty, pcdata, children}
use Rattle.text_spec.specs.Bytes.{is_blank, starts_name, continues_name}
use Rattle.text_spec.specs.Limits.{max_groups}
use Rattle.text_spec.specs.Machines as machines

-- an open group: nothing read of it, or what was read and what parts it
pub data Frame : Type 0 where
  fresh : Frame
  holding : Separator → Particle Use → Frame

-- a declaration that is being read: the place of its `<`, and the declarations before it, the last first
pub record Opening : Type 0 where
  pub place : ℕ
  pub done : List Declaration

-- the same with its name
pub record Head : Type 0 where
  pub opening : Opening
  pub name : Use

pub data State : Type 0 where
  -- no schema text goes on like this
  dead : State
  -- blanks between declarations
  between : List Declaration → State
  -- inside `<!ELEMENT`, of which this is still to come
  in_keyword : List ℕ → Opening → State
  -- a blank must follow the keyword; then blanks may
  after_keyword : Opening → State
  before_name : Opening → State
  -- in the declared name: its place and its bytes so far
  in_name : ℕ → List ℕ → Opening → State
  before_content : Head → State
  in_empty : List ℕ → Head → State
  -- after the outermost `(`
  after_open : Head → State
  in_pcdata : List ℕ → Head → State
  after_pcdata : Head → State
  -- a particle must come: the innermost open group, and those around it
  expecting : Frame → List Frame → Head → State
  -- in a name of the model
  in_use : ℕ → List ℕ → Frame → List Frame → Head → State
  -- a group was closed, and an indicator may follow
  closed : Particle Use → List Frame → Head → State
  -- after a particle and its indicator
  past : Particle Use → List Frame → Head → State
  -- the content is complete
  after_content : Content Use → Head → State

abbrev pub is_dead : State → Bool
is_dead dead = true
is_dead (between ds) = false
is_dead (in_keyword w o) = false
is_dead (after_keyword o) = false
is_dead (before_name o) = false
is_dead (in_name k n o) = false
is_dead (before_content h) = false
is_dead (in_empty w h) = false
is_dead (after_open h) = false
is_dead (in_pcdata w h) = false
is_dead (after_pcdata h) = false
is_dead (expecting f fs h) = false
is_dead (in_use k n f fs h) = false
is_dead (closed p fs h) = false
is_dead (past p fs h) = false
is_dead (after_content c h) = false

abbrev pub declared : Content Use → Head → Declaration
declared c h = record { place = h.opening.place; name = h.name; content = c }

-- the content is complete: blanks, then `>`
abbrev pub closing : Content Use → Head → ℕ → State
closing c h b = cond (is_blank b) (after_content c h) (cond (eqb b 0x3E) (between (declared c h ∷ h.opening.done)) dead)

abbrev pub join : Frame → Particle Use → Particle Use
join fresh p = p
join (holding s q) p = join_by s q p

-- a separator after a particle: the group must be unparted, or parted by the same
abbrev pub separated : Separator → Frame → Particle Use → List Frame → Head → State
separated s fresh p fs h = expecting (holding s p) fs h
separated by_bar (holding by_bar q) p fs h = expecting (holding by_bar (join_by by_bar q p)) fs h
separated by_comma (holding by_comma q) p fs h = expecting (holding by_comma (join_by by_comma q p)) fs h
separated by_bar (holding by_comma q) p fs h = dead
separated by_comma (holding by_bar q) p fs h = dead
separated by_bar (holding unparted q) p fs h = dead
separated by_comma (holding unparted q) p fs h = dead
separated unparted (holding s q) p fs h = dead

-- after a particle and its indicator
abbrev pub following : Particle Use → List Frame → Head → ℕ → State
following p [] h b = closing (children p) h b
following p (f ∷ fs) h b =
    cond (is_blank b) (past p (f ∷ fs) h)
    (cond (eqb b 0x29) (closed (join f p) fs h)
    (cond (eqb b 0x7C) (separated by_bar f p fs h)
    (cond (eqb b 0x2C) (separated by_comma f p fs h) dead)))

-- after a name or a group: an indicator, or what follows a particle
abbrev pub indicating : Particle Use → List Frame → Head → ℕ → State
indicating p fs h b =
    cond (eqb b 0x3F) (past (indicated optional p) fs h)
    (cond (eqb b 0x2A) (past (indicated any p) fs h)
    (cond (eqb b 0x2B) (past (indicated one_or_more p) fs h) (following p fs h b)))

-- a particle begins, or a blank stands before it
abbrev pub beginning : Frame → List Frame → Head → ℕ → ℕ → State
beginning f fs h k b =
    cond (is_blank b) (expecting f fs h)
    (cond (starts_name b) (in_use k (b ∷ []) f fs h)
    (cond (eqb b 0x28 && ltb (suc (length fs)) max_groups) (expecting fresh (f ∷ fs) h) dead))

abbrev pub headed : ℕ → List ℕ → Opening → Head
headed k n o = record { opening = o; name = record { place = k; name = n } }

abbrev pub matching : List ℕ → ℕ → State → (List ℕ → State) → State
matching = machines.matching dead

abbrev pub longer : List ℕ → ℕ → (List ℕ → State) → State
longer = machines.longer dead

-- the byte b at the place k
unfoldable pub step : State → ℕ → ℕ → State
step dead k b = dead
step (between ds) k b = cond (is_blank b) (between ds) (matching element_keyword b dead (λ w. in_keyword w (record { place = k; done = ds })))
step (in_keyword w o) k b = matching w b (after_keyword o) (λ v. in_keyword v o)
step (after_keyword o) k b = cond (is_blank b) (before_name o) dead
step (before_name o) k b = cond (is_blank b) (before_name o) (cond (starts_name b) (in_name k (b ∷ []) o) dead)
step (in_name j n o) k b =
    cond (continues_name b) (longer n b (λ m. in_name j m o)) (cond (is_blank b) (before_content (headed j n o)) dead)
step (before_content h) k b =
    cond (is_blank b) (before_content h) (cond (eqb b 0x28) (after_open h) (matching empty_keyword b dead (λ w. in_empty w h)))
step (in_empty w h) k b = matching w b (after_content empty h) (λ v. in_empty v h)
step (after_open h) k b =
    cond (is_blank b) (after_open h) (cond (eqb b 0x23) (matching pcdata_keyword b dead (λ w. in_pcdata w h)) (beginning fresh [] h k b))
step (in_pcdata w h) k b = matching w b (after_pcdata h) (λ v. in_pcdata v h)
step (after_pcdata h) k b = cond (is_blank b) (after_pcdata h) (cond (eqb b 0x29) (after_content pcdata h) dead)
step (expecting f fs h) k b = beginning f fs h k b
step (in_use j n f fs h) k b =
    cond (continues_name b) (longer n b (λ m. in_use j m f fs h)) (indicating (named (record { place = j; name = n })) (f ∷ fs) h b)
step (closed p fs h) k b = indicating p fs h b
step (past p fs h) k b = following p fs h b
step (after_content c h) k b = closing c h b

-- a text ends after at least one declaration
abbrev pub ends : State → Option (List Declaration)
ends (between []) = none
ends (between (d ∷ ds)) = some (reverse (d ∷ ds))
ends dead = none
ends (in_keyword w o) = none
ends (after_keyword o) = none
ends (before_name o) = none
ends (in_name j n o) = none
ends (before_content h) = none
ends (in_empty w h) = none
ends (after_open h) = none
ends (in_pcdata w h) = none
ends (after_pcdata h) = none
ends (expecting f fs h) = none
ends (in_use j n f fs h) = none
ends (closed p fs h) = none
ends (past p fs h) = none
ends (after_content c h) = none

abbrev pub schema_machine : machines.Machine State (List Declaration)
schema_machine = record { start = between []; is_dead = is_dead; step = step; ends = ends }

abbrev pub at_end : State → ℕ → machines.Parsed (List Declaration)
at_end = machines.at_end schema_machine

abbrev pub run : State → List ℕ → ℕ → machines.Parsed (List Declaration)
run = machines.run schema_machine

abbrev pub from : State → List ℕ → ℕ → machines.Parsed (List Declaration)
from = machines.from schema_machine

unfoldable pub parse : List ℕ → machines.Parsed (List Declaration)
parse = machines.parse schema_machine
