-- Lists as texts and as finite sets: tests, filters, places, parts.
use Rattle.std.specs.Prelude.{Bool, true, false, cond, ◌&&◌, ◌||◌, List, [], ◌∷◌, ◌++◌, ℕ, zero, suc, eqb, take, drop}
use Rattle.std.proofs.Math.Option.{Option, none, some}
use Prim.Native.Char.{code}
use Prim.Native.String as Text
use Prim.Native.String.{String}

-- the bytes of a quoted text
abbrev pub bytes : String → List ℕ
bytes Text.[] = []
bytes (Text.◌∷◌ c s) = code c ∷ bytes s

module _ {A : Type 0} where
  abbrev pub any_of : (A → Bool) → List A → Bool
  any_of f [] = false
  any_of f (x ∷ xs) = f x || any_of f xs

  abbrev pub all_of : (A → Bool) → List A → Bool
  all_of f [] = true
  all_of f (x ∷ xs) = f x && all_of f xs

  -- the elements that pass the test, in their order
  abbrev pub filter_by : (A → Bool) → List A → List A
  filter_by f [] = []
  filter_by f (x ∷ xs) = cond (f x) (x ∷ filter_by f xs) (filter_by f xs)

  abbrev pub is_empty : List A → Bool
  is_empty [] = true
  is_empty (x ∷ xs) = false

  -- two lists have the same elements in the same order, by a test for elements
  abbrev pub same_by : (A → A → Bool) → List A → List A → Bool
  same_by same [] [] = true
  same_by same [] (y ∷ ys) = false
  same_by same (x ∷ xs) [] = false
  same_by same (x ∷ xs) (y ∷ ys) = same x y && same_by same xs ys

  -- the places, counted from k, of the elements that pass the test
  abbrev pub places_from : ℕ → (A → Bool) → List A → List ℕ
  places_from k f [] = []
  places_from k f (x ∷ xs) = cond (f x) (k ∷ places_from (suc k) f xs) (places_from (suc k) f xs)

  abbrev pub first : List A → Option A
  first [] = none
  first (x ∷ xs) = some x

  abbrev pub is_none : Option A → Bool
  is_none none = true
  is_none (some x) = false

  abbrev pub list_of : Option A → List A
  list_of none = []
  list_of (some x) = x ∷ []

  abbrev pub value_or : A → Option A → A
  value_or d none = d
  value_or d (some x) = x

module _ {A B : Type 0} where
  -- the lists that f gives, one after the other
  abbrev pub gather : (A → List B) → List A → List B
  gather f [] = []
  gather f (x ∷ xs) = f x ++ gather f xs

-- some number below a bound passes a test
unfoldable pub any_below : ℕ → (ℕ → Bool) → Bool
any_below zero f = false
any_below (suc n) f = any_below n f || f n

abbrev pub same_bytes : List ℕ → List ℕ → Bool
same_bytes u v = same_by eqb u v

-- the part of a text that starts at a place and has a length
abbrev pub part : ℕ → ℕ → List ℕ → List ℕ
part start size text = take size (drop start text)

-- a text begins with another
abbrev pub begins_with : List ℕ → List ℕ → Bool
begins_with [] text = true
begins_with (b ∷ bs) [] = false
begins_with (b ∷ bs) (c ∷ cs) = eqb b c && begins_with bs cs
