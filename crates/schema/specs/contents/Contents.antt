-- What reading a content answers, and what was built of it.
use Rattle.std.specs.Prelude.{List, ◌∷◌, ◌≡◌, ℕ, ◌≤◌, ◌<◌, length, Result, Ok, Err}
use Rattle.models.specs.declared.Content.{Content as Contents}
use Rattle.models.specs.declared.Content.TheVariants.{Empty, Pcdata, Children}
use Rattle.models.specs.declared.Ends.{Ends}
use Rattle.schema_spec.specs.Declarations.{Use}
use Rattle.schema_spec.specs.Machine.{Head, State, between, in_pcdata, after_content, declared, from}
use Rattle.schema_spec.specs.Models.{Particle, Content, empty, pcdata, children, uses_in}
use Rattle.schema.specs.declared.contents.ContentEnd.{ContentEnd}
use Rattle.schema.specs.declared.parsing.Parser.{Parser}
use Rattle.schema.specs.particles.Automata.{Built}
use Rattle.schema.specs.particles.Readings.{Reading, Fails, Kept}
use Rattle.text_spec.specs.Lists.{bytes}

-- A part without names, from the state before it to the state after it; of the place past it `End` is known.
abbrev pub PassesAs : {X : Type 0} → (X → State) → (X → State) → (ℕ → Type 0) → List ℕ → ℕ → Result ℕ ℕ → Type 0
PassesAs {X} before after End s at (Ok j) = (at < j) × End j × ((x : X) → from (before x) s at ≡ from (after x) s j)
PassesAs before after End s at (Err j) = Fails before s at j

pub record Passes {X : Type 0} (before after : X → State) (End : ℕ → Type 0) (s : List ℕ) (at : ℕ) (r : Result ℕ ℕ) : Type 0 where
  pub says : PassesAs before after End s at r

-- `PCDATA` and the `)` after it
abbrev pub ReadsPcdata : List ℕ → ℕ → Result ℕ ℕ → Type 0
ReadsPcdata s = Passes (in_pcdata (bytes "PCDATA")) (after_content pcdata) (λ j. j ≤ length s) s

-- what was built of a content: of a children model its automaton
pub data ContentBuilt (before after : List ℕ) : Content Use → Contents → Type 0 where
  built-empty : after ≡ before → ContentBuilt before after empty Empty
  built-pcdata : after ≡ before → ContentBuilt before after pcdata Pcdata
  built-children : {p : Particle Use} {e : Ends} → Built 0 before after p e → ContentBuilt before after (children p) (Children e)

-- a content, from a state that knows its declaration's head; after it comes the state `next`
abbrev pub ContentAs : (Head → State) → (Content Use → Head → State) → ℕ → Parser → Parser → Result ContentEnd ℕ → Type 0
ContentAs before next at old new (Ok p) =
    Reading before next uses_in (λ c. ContentBuilt old.predecessors.now new.predecessors.now c p.content) old.text.now at old.count old.uses.now new.uses.now p.at new.count
ContentAs before next at old new (Err j) = Fails before old.text.now at j

pub record ReadsContent (before : Head → State) (next : Content Use → Head → State) (at : ℕ) (old new : Parser) (r : Result ContentEnd ℕ) : Type 0 where
  pub kept : Kept old new
  pub says : ContentAs before next at old new r

-- after the whole declaration
abbrev pub ended : Content Use → Head → State
ended c h = between (declared c h ∷ h.opening.done)
