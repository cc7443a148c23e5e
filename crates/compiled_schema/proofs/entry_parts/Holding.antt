-- Laws of what an element holds: the elements of its model, one by one, or its text name.
use mathlib.Core.Bool.{Bool, true, false, ◌&&◌, ◌||◌, or-false, or_assoc, and-true, and-false}
use mathlib.Core.List.{List}
use mathlib.Core.Path.{◌≡◌, refl, sym, ap, ◌∙◌}
use Prim.Native.Nat.{ℕ, suc, ◌+◌, ◌≤◌, ◌<◌}
use native.Mathlib.Numerals.{add-one}
use lib.Dec.{eqb, ltb}
use lib.ListN.{length, drop, get_or, drop_of_length-le}
use lib.Seq.{drop-cons}
use Rattle.compiled_schema.specs.entry_parts.Entries.{is_text, is_one_of, is_held}
use Rattle.models.specs.declared.Content.{Content}
use Rattle.names.specs.Sets.{member}
use Rattle.names.specs.declared.NameSet.{NameSet}
use Rattle.schema_spec.specs.Names.{Name, element, text, same_name}

-- one element more
module _ (elements : List ℕ) where
  pub among_first : (set : NameSet) → ((n : Name) → member set n ≡ false) → (n : Name) → (member set n || is_one_of elements n) ≡ is_one_of elements n
  among_first set h n = ap (λ (b : Bool). b || is_one_of elements n) (h n)

  pub among_next : (i : ℕ) (set next : NameSet) → i < length elements → ((n : Name) → (member set n || is_one_of (drop i elements) n) ≡ is_one_of elements n)
      → ((n : Name) → member next n ≡ (member set n || (same_name n (element (get_or elements i 0)) && ltb (get_or elements i 0) 64)))
      → (n : Name) → (member next n || is_one_of (drop (i + 1) elements) n) ≡ is_one_of elements n
  among_next i set next l inv new n = ap (λ (b : Bool). b || is_one_of (drop (i + 1) elements) n) (new n) ∙ rw (add-one i) (go n) ∙ inv n
    where
      go : (m : Name) → ((member set m || (same_name m (element (get_or elements i 0)) && ltb (get_or elements i 0) 64)) || is_one_of (drop (suc i) elements) m)
          ≡ (member set m || is_one_of (drop i elements) m)
      go (element b) =
          or_assoc (member set (element b)) (eqb b (get_or elements i 0) && ltb (get_or elements i 0) 64) (is_one_of (drop (suc i) elements) (element b))
          ∙ ap (λ (es : List ℕ). member set (element b) || is_one_of es (element b)) (sym (drop-cons elements i 0 l))
      go (text b) = or_assoc (member set (text b)) false false

  pub among-all : (i : ℕ) (set : NameSet) → length elements ≤ i → ((n : Name) → (member set n || is_one_of (drop i elements) n) ≡ is_one_of elements n)
      → (n : Name) → member set n ≡ is_one_of elements n
  among-all i set l inv n = sym (or-false (member set n)) ∙ ap (λ (b : Bool). member set n || b) (sym (none n)) ∙ inv n
    where
      none : (m : Name) → is_one_of (drop i elements) m ≡ false
      none (element b) = ap (λ (es : List ℕ). is_one_of es (element b)) (drop_of_length-le elements l)
      none (text b) = refl

-- with the text name, or without it
module _ (a : ℕ) (c : Content) (elements : List ℕ) (set : NameSet) (from : (n : Name) → member set n ≡ is_one_of elements n) where
  pub held-text : is_text c ≡ true → (next : NameSet) → ((n : Name) → member next n ≡ (member set n || (same_name n (text a) && ltb a 64)))
      → (n : Name) → member next n ≡ is_held a c elements n
  held-text e next new (element b) = new (element b) ∙ or-false (member set (element b)) ∙ from (element b)
  held-text e next new (text b) =
      new (text b) ∙ ap (λ (t : Bool). t || (eqb b a && ltb a 64)) (from (text b)) ∙ sym (ap (λ (t : Bool). (eqb b a && ltb a 64) && t) e ∙ and-true (eqb b a && ltb a 64))

  pub held_none : is_text c ≡ false → (n : Name) → member set n ≡ is_held a c elements n
  held_none e (element b) = from (element b)
  held_none e (text b) = from (text b) ∙ sym (ap (λ (t : Bool). (eqb b a && ltb a 64) && t) e ∙ and-false (eqb b a && ltb a 64))
