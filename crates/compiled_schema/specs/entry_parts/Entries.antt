-- The entry of an element: its content, and the position automaton of its model, in cells of a fixed number.
use Rattle.std.specs.Prelude.{Bool, true, false, ◌&&◌, List, ◌≡◌, ℕ, ◌≤◌, ◌<◌, eqb, ltb, length, get_or, replicate}
use Rattle.compiled_schema.specs.declared.entry_parts.ElementEntry.{ElementEntry}
use Rattle.models.specs.Building.{EndsOf}
use Rattle.models.specs.Positions.{is_next}
use Rattle.models.specs.declared.Content.{Content as ContentRead}
use Rattle.models.specs.declared.Content.TheVariants.{Empty, Pcdata, Children}
use Rattle.models.specs.declared.Ends.{Ends}
use Rattle.schema_spec.specs.Models.{Particle, Content, empty, pcdata, children, uses_in}
use Rattle.schema_spec.specs.Names.{Name, element, text, has_bit}
use Rattle.text_spec.specs.Cells.{padded}
use Rattle.text_spec.specs.Limits.{max_model_names}
use Rattle.text_spec.specs.Lists.{any_of}

-- a content as the code has it is that of a declaration: of the same kind, and a children model with where it may begin and end
abbrev pub ContentOf : Content ℕ → ContentRead → Type 0
ContentOf c Empty = c ≡ empty
ContentOf c Pcdata = c ≡ pcdata
ContentOf c (Children e) = (p : Particle ℕ) × (c ≡ children p) × EndsOf 0 p e

-- which positions of a content's model may follow which: any but a children model has no position
abbrev pub is_next_in : Content ℕ → ℕ → ℕ → Bool
is_next_in empty i j = false
is_next_in pcdata i j = false
is_next_in (children p) i j = is_next 0 p i j

-- An entry is that of a content. Nothing is open: the sets are words of 64 bits, and past the model's positions no bit is set.
pub record EntryOf (c : Content ℕ) (x : ElementEntry) : Type 0 where
  pub few : length (uses_in c) ≤ max_model_names
  pub content : ContentOf c x.content
  pub size : x.size ≡ length (uses_in c)
  pub elements : x.elements ≡ padded max_model_names (uses_in c)
  pub room : length x.predecessors ≡ max_model_names
  pub next : (i j : ℕ) → i < max_model_names → has_bit (get_or x.predecessors j 0) i ≡ is_next_in c i j

-- the entry of EMPTY
abbrev pub empty_entry : ElementEntry
empty_entry = record { content = Empty; size = 0; elements = replicate max_model_names 0; predecessors = replicate max_model_names 0 }

-- where the model of a content may begin and end: any but a children model has no position
abbrev pub ends_in : ContentRead → Ends
ends_in Empty = record { first = 0; last = 0; nullable = false }
ends_in Pcdata = record { first = 0; last = 0; nullable = false }
ends_in (Children e) = e

-- ---- what an element holds, by what was read of its declaration
abbrev pub is_text : ContentRead → Bool
is_text Empty = false
is_text Pcdata = true
is_text (Children e) = false

-- a name is one of these elements, of which only those below 64 count
abbrev pub is_one_of : List ℕ → Name → Bool
is_one_of elements (element b) = any_of (λ e. eqb b e && ltb e 64) elements
is_one_of elements (text b) = false

-- a name is held by element a, from its content and the elements of its model
abbrev pub is_held : ℕ → ContentRead → List ℕ → Name → Bool
is_held a c model (element b) = is_one_of model (element b)
is_held a c model (text b) = (eqb b a && ltb a 64) && is_text c
