-- The machine that reads a bundle text: its state holds the paths that have been read, and what has been read of the last one.
use Rattle.std.specs.Prelude.{Bool, true, false, cond, List, [], ◌∷◌, ◌++◌, map, reverse, ℕ, ◌-◌, eqb, drop}
use Rattle.std.proofs.Math.Option.{Option, none, some}
use Rattle.path_spec.specs.Grammar.{PathRead, path_read, node_call, text_call, or_word}
use Rattle.path_spec.specs.Paths.{WrittenAxis, written_axes, spell_axis, NodeTest, named, any_node, any_text, WrittenStep, PlainStep, Condition, unconditional, alternatives}
use Rattle.schema_spec.specs.Declarations.{Use}
use Rattle.text_spec.specs.Bytes.{starts_name, continues_name}
use Rattle.text_spec.specs.Lists.{bytes, is_empty, same_bytes}
use Rattle.text_spec.specs.Machines as machines

-- an axis that may still be meant, and what is to come of it
pub record Choice : Type 0 where
  pub axis : WrittenAxis
  pub rest : List ℕ

-- axis names are judged byte by byte, all at once
abbrev pub all_choices : List Choice
all_choices = map (λ a. record { axis = a; rest = spell_axis a }) written_axes

-- a path that is being read: the paths before it (the last first), its first byte, its complete steps (the last first)
pub record Outer : Type 0 where
  pub paths : List PathRead
  pub start : ℕ
  pub steps : List (WrittenStep Use (Condition Use))

-- brackets that are being read: the step that carries them, the complete alternatives and the steps of this one (the last first)
pub record Inner : Type 0 where
  pub outer : Outer
  pub axis : WrittenAxis
  pub test : NodeTest Use
  pub alternatives : List (List (PlainStep Use))
  pub steps : List (PlainStep Use)

pub data Context : Type 0 where
  outside : Outer → Context
  inside : Inner → Context

pub data State : Type 0 where
  -- no bundle goes on like this
  dead : State
  -- a path begins, or the text ends
  line_start : List PathRead → State
  in_axis : List Choice → Context → State
  before_test : WrittenAxis → Context → State
  -- in a name: its place and its bytes so far
  in_test : WrittenAxis → ℕ → List ℕ → Context → State
  -- after `node(` or `text(`
  in_call : WrittenAxis → NodeTest Use → Context → State
  after_call : WrittenAxis → NodeTest Use → Context → State
  -- in ` or `, of which this is still to come
  in_or : List ℕ → Inner → State
  -- after `]`
  after_brackets : Outer → State

abbrev pub is_dead : State → Bool
is_dead dead = true
is_dead (line_start ps) = false
is_dead (in_axis cs x) = false
is_dead (before_test a x) = false
is_dead (in_test a k n x) = false
is_dead (in_call a t x) = false
is_dead (after_call a t x) = false
is_dead (in_or w i) = false
is_dead (after_brackets o) = false

-- the choices that go on with this byte
abbrev pub goes_on : ℕ → WrittenAxis → List ℕ → List Choice → List Choice
goes_on b a [] later = later
goes_on b a (d ∷ w) later = cond (eqb b d) (record { axis = a; rest = w } ∷ later) later

abbrev pub going_on : ℕ → List Choice → List Choice
going_on b [] = []
going_on b (c ∷ cs) = goes_on b c.axis c.rest (going_on b cs)

-- an axis is complete when nothing of it is to come
abbrev pub axis_by : List Choice → Context → State
axis_by [] x = dead
axis_by (c ∷ cs) x = cond (is_empty c.rest) (before_test c.axis x) (in_axis (c ∷ cs) x)

abbrev pub axis_byte : List Choice → Context → ℕ → State
axis_byte cs x b = axis_by (going_on b cs) x

abbrev pub begin_step : Context → State
begin_step x = in_axis all_choices x

abbrev pub with_step : WrittenAxis → NodeTest Use → Condition Use → Outer → Outer
with_step a t c o = record { paths = o.paths; start = o.start; steps = record { axis = a; test = t; condition = c } ∷ o.steps }

abbrev pub with_plain : WrittenAxis → NodeTest Use → Inner → Inner
with_plain a t i =
    record { outer = i.outer; axis = i.axis; test = i.test; alternatives = i.alternatives; steps = record { axis = a; test = t; condition = tt } ∷ i.steps }

-- an alternative is complete
abbrev pub with_alternative : Inner → Inner
with_alternative i =
    record { outer = i.outer; axis = i.axis; test = i.test; alternatives = reverse i.steps ∷ i.alternatives; steps = [] }

-- the brackets are complete, and with them their step
abbrev pub bracketed : Inner → Outer
bracketed i = with_step i.axis i.test (alternatives (reverse i.alternatives)) i.outer

-- a step is complete: `/` and another, or the line feed that ends the path
abbrev pub step_done : Outer → ℕ → ℕ → State → State
step_done o k b otherwise =
    cond (eqb b 0x2F) (begin_step (outside o))
    (cond (eqb b 0x0A) (line_start (path_read o.start (k - o.start) (reverse o.steps) ∷ o.paths)) otherwise)

-- the byte after a step's axis and test
abbrev pub tested : WrittenAxis → NodeTest Use → Context → ℕ → ℕ → State
tested a t (outside o) k b =
    step_done (with_step a t unconditional o) k b
    (cond (eqb b 0x5B) (begin_step (inside (record { outer = o; axis = a; test = t; alternatives = []; steps = [] }))) dead)
tested a t (inside i) k b =
    cond (eqb b 0x2F) (begin_step (inside (with_plain a t i)))
    (cond (eqb b 0x20) (in_or (drop 1 or_word) (with_alternative (with_plain a t i)))
    (cond (eqb b 0x5D) (after_brackets (bracketed (with_alternative (with_plain a t i)))) dead))

-- `node` and `text` before `(`: what comes before the `)`
abbrev pub call_of : WrittenAxis → List ℕ → Context → State
call_of a n x = cond (same_bytes (n ++ bytes "()") node_call) (in_call a any_node x) (cond (same_bytes (n ++ bytes "()") text_call) (in_call a any_text x) dead)

-- the byte b at the place k
unfoldable pub step : State → ℕ → ℕ → State
step dead k b = dead
step (line_start ps) k b = axis_byte all_choices (outside (record { paths = ps; start = k; steps = [] })) b
step (in_axis cs x) k b = axis_byte cs x b
step (before_test a x) k b = cond (starts_name b) (in_test a k (b ∷ []) x) dead
step (in_test a j n x) k b =
    cond (continues_name b) (machines.longer dead n b (λ m. in_test a j m x))
    (cond (eqb b 0x28) (call_of a n x) (tested a (named (record { place = j; name = n })) x k b))
step (in_call a t x) k b = cond (eqb b 0x29) (after_call a t x) dead
step (after_call a t x) k b = tested a t x k b
step (in_or w i) k b = machines.matching dead w b (begin_step (inside i)) (λ v. in_or v i)
step (after_brackets o) k b = step_done o k b dead

-- a text ends after at least one path
abbrev pub ends : State → Option (List PathRead)
ends (line_start []) = none
ends (line_start (p ∷ ps)) = some (reverse (p ∷ ps))
ends dead = none
ends (in_axis cs x) = none
ends (before_test a x) = none
ends (in_test a j n x) = none
ends (in_call a t x) = none
ends (after_call a t x) = none
ends (in_or w i) = none
ends (after_brackets o) = none

abbrev pub bundle_machine : machines.Machine State (List PathRead)
bundle_machine = record { start = line_start []; is_dead = is_dead; step = step; ends = ends }

unfoldable pub parse : List ℕ → machines.Parsed (List PathRead)
parse = machines.parse bundle_machine
