-- A relation from elements to names, as the image of each element: the set of names that it is related to.
use Rattle.std.specs.Prelude.{Bool, false, ◌&&◌, ◌||◌, List, ◌≡◌, ℕ, ◌≤◌, ◌<◌, T, ltb, get_or}
use Rattle.names.specs.Sets.{member, overlap, nothing}
use Rattle.names.specs.declared.NameSet.{NameSet}
use Rattle.schema_spec.specs.Names.{Name, element, text}
use Rattle.text_spec.specs.Lists.{any_below}

-- element a is related to b
abbrev pub relates : List NameSet → ℕ → Name → Bool
relates images a b = member (get_or images a nothing) b

-- b is reached from element a in one or more steps of the relation, by way of elements below n
pub data Reachable (images : List NameSet) (n : ℕ) : ℕ → Name → Type 0 where
  one : {a : ℕ} {b : Name} → T (relates images a b) → Reachable images n a b
  more : {a m : ℕ} {b : Name} → T (relates images a (element m)) → m < n → Reachable images n m b → Reachable images n a b

-- related directly, or by way of element k
abbrev pub through_element : List NameSet → ℕ → ℕ → Name → Bool
through_element images k a b = relates images a b || (relates images a (element k) && relates images k b)

-- of so many elements, some element of the set is related to b
abbrev pub related_from : ℕ → List NameSet → NameSet → Name → Bool
related_from count images s b = any_below count (λ a. member s (element a) && relates images a b)

-- a is one of so many elements, and related to some name of the set
abbrev pub related_to : ℕ → List NameSet → NameSet → Name → Bool
related_to count images s (element a) = ltb a count && overlap (get_or images a nothing) s
related_to count images s (text a) = false

-- no element past so many is related to a name
abbrev pub NonePast : ℕ → List NameSet → Type 0
NonePast count images = (a : ℕ) (b : Name) → count ≤ a → relates images a b ≡ false
