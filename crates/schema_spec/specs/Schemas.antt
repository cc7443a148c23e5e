-- The schema that declarations give: elements by index, their names, contents and models.
use Rattle.std.specs.Prelude.{Bool, true, false, cond, List, [], ◌∷◌, map, ℕ, suc}
use Rattle.std.proofs.Math.Option.{Option, none, some}
use Rattle.std.proofs.Math.ListN.{get_elem?}
use Rattle.schema_spec.specs.Declarations.{Declaration}
use Rattle.schema_spec.specs.Models.{Content, empty, pcdata, children, rename_content, uses_in}
use Rattle.text_spec.specs.Lists.{same_bytes, value_or}

-- an element: its name, and its content with the elements of a model by their index
pub record Element : Type 0 where
  pub name : List ℕ
  pub content : Content ℕ

-- "Elements are indexed 0, 1, .. in order", "the first declared element is the root"
abbrev pub Schema : Type 0
Schema = List Element

-- the index, counted from k, of the first name that is this one
abbrev pub index_from : ℕ → List ℕ → List (List ℕ) → Option ℕ
index_from k n [] = none
index_from k n (m ∷ ms) = cond (same_bytes n m) (some k) (index_from (suc k) n ms)

abbrev pub declared_names : List Declaration → List (List ℕ)
declared_names ds = map (λ d. d.name.name) ds

-- an undeclared name gets index 0, which is never seen: refusal 7 applies
abbrev pub resolved : List (List ℕ) → Declaration → Element
resolved ns d = record { name = d.name.name; content = rename_content (λ u. value_or 0 (index_from 0 u.name ns)) d.content }

unfoldable pub schema_of : List Declaration → Schema
schema_of ds = map (resolved (declared_names ds)) ds

-- the element with this name
unfoldable pub element_named : Schema → List ℕ → Option ℕ
element_named s n = index_from 0 n (map (λ e. e.name) s)

abbrev pub content_or : Option Element → Content ℕ
content_or none = empty
content_or (some e) = e.content

abbrev pub name_or : Option Element → List ℕ
name_or none = []
name_or (some e) = e.name

-- the content and the name of an element by its index
abbrev pub content_at : Schema → ℕ → Content ℕ
content_at s a = content_or (get_elem? s a)

abbrev pub name_at : Schema → ℕ → List ℕ
name_at s a = name_or (get_elem? s a)

abbrev pub is_pcdata : Content ℕ → Bool
is_pcdata empty = false
is_pcdata pcdata = true
is_pcdata (children p) = false

-- the elements that occur in the model of an element
abbrev pub model_at : Schema → ℕ → List ℕ
model_at s a = uses_in (content_at s a)
