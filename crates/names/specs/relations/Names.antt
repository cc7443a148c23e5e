-- The names of a schema, element by element: the elements before one, and the text names that they hold.
use Rattle.std.specs.Prelude.{Bool, true, false, ◌&&◌, ◌||◌, List, ◌≡◌, refl, ℕ, ◌+◌, ◌<◌, T, eqb, ltb, length}
use Rattle.std.proofs.Math.Bool.{and-true, or-false}
use Rattle.std.proofs.Common.{sym, ap, ap₂, subst, ◌∙◌, arith, lt-ltb, le-ltb, ltb→lt, lt→ltb}
use Rattle.std.proofs.Math.Dec.{eqb_refl}
use Rattle.names.specs.Sets.{member}
use Rattle.names.specs.closures.Relations.{relates}
use Rattle.names.specs.closures.Schemas.{RelationOf}
use Rattle.names.specs.declared.NameSet.{NameSet}
use Rattle.schema_laws.specs.Names.{has_in, in-has, element-in, in-element, text_in, in-text}
use Rattle.schema_spec.specs.Names.{Name, element, text, same_name, has, names_of}
use Rattle.schema_spec.specs.Schemas.{Schema, content_at, is_pcdata}
use Rattle.schema_spec.specs.Types.{holds}
use Rattle.text_laws.specs.Searches.{one_more}
use Rattle.text_laws.specs.Tests.{and_intro, and_cases, same_test}

-- the names of the element i: itself, and its text name if its image has it
abbrev pub of_element : NameSet → ℕ → Name → Bool
of_element image i (element e) = eqb e i
of_element image i (text e) = eqb e i && member image (text i)

-- the first i elements, and the text names that their images have
abbrev pub of_elements_before : List NameSet → ℕ → Name → Bool
of_elements_before images i (element e) = ltb e i
of_elements_before images i (text e) = ltb e i && relates images e (text e)

-- ---- one element
module _ (out elements : NameSet) (image : NameSet) (i : ℕ) (small : i < 64) (one : (n : Name) → member elements n ≡ (member out n || (same_name n (element i) && ltb i 64))) where
  low : ltb i 64 ≡ true
  low = lt-ltb i 64 small

  pub element-and-text : (r : NameSet) → member image (text i) ≡ true → ((n : Name) → member r n ≡ (member elements n || (same_name n (text i) && ltb i 64)))
      → (n : Name) → member r n ≡ (member out n || of_element image i n)
  element-and-text r t two (element e) =
      two (element e) ∙ or-false (member elements (element e)) ∙ one (element e) ∙ ap (λ (b : Bool). member out (element e) || (eqb e i && b)) low
      ∙ ap (λ (b : Bool). member out (element e) || b) (and-true (eqb e i))
  element-and-text r t two (text e) =
      two (text e) ∙ ap₂ (λ (a b : Bool). a || (eqb e i && b)) (one (text e) ∙ or-false (member out (text e))) (low ∙ sym t)

  pub element-alone : member image (text i) ≡ false → (n : Name) → member elements n ≡ (member out n || of_element image i n)
  element-alone f (element e) =
      one (element e) ∙ ap (λ (b : Bool). member out (element e) || (eqb e i && b)) low ∙ ap (λ (b : Bool). member out (element e) || b) (and-true (eqb e i))
  element-alone f (text e) = one (text e) ∙ sym (ap (λ (b : Bool). member out (text e) || (eqb e i && b)) f ∙ none (eqb e i))
    where
      none : (b : Bool) → (member out (text e) || (b && false)) ≡ (member out (text e) || false)
      none true = refl
      none false = refl

-- ---- all elements
pub before-none : (images : List NameSet) (n : Name) → false ≡ of_elements_before images 0 n
before-none images (element e) = sym (le-ltb e 0 (omega arith))
before-none images (text e) = sym (ap (λ (b : Bool). b && relates images e (text e)) (le-ltb e 0 (omega arith)))

pub before-next : (images : List NameSet) (image out r : NameSet) (i : ℕ) → ((n : Name) → member image n ≡ relates images i n) → ((n : Name) → member out n ≡ of_elements_before images i n)
    → ((n : Name) → member r n ≡ (member out n || of_element image i n)) → (n : Name) → member r n ≡ of_elements_before images (i + 1) n
before-next images image out r i same inv new (element e) =
    new (element e) ∙ ap₂ ◌||◌ (inv (element e) ∙ sym (and-true (ltb e i))) (sym (and-true (eqb e i))) ∙ one_more (λ j. true) i e ∙ and-true (ltb e (i + 1))
before-next images image out r i same inv new (text e) =
    new (text e) ∙ ap₂ (λ (a b : Bool). a || (eqb e i && b)) (inv (text e)) (same (text i)) ∙ one_more (λ j. relates images j (text j)) i e

-- the names of the schema whose holdings the images are
pub before-all : (s : Schema) (images : List NameSet) → RelationOf (holds s) images → (count : ℕ) → count ≡ length s → (n : Name) → of_elements_before images count n ≡ has n (names_of s)
unfolding holds
before-all s images relation count e (element a) =
    same_test (ltb a count) (has (element a) (names_of s)) (λ t. let l = ltb→lt a count t in in-has (element-in s a (omega arith)))
    (λ t. let l = in-element s a (has_in (element a) (names_of s) t) in lt→ltb a count (omega arith))
before-all s images relation count e (text a) =
    same_test (ltb a count && relates images a (text a)) (has (text a) (names_of s)) (λ t. in-has (text_in s a (pcdata (subst T (relation a (text a)) (and_cases (ltb a count) (relates images a (text a)) t).1))))
    (λ t.
    let r = in-text s a (has_in (text a) (names_of s) t) in
    let l = r.0 in
    and_intro (ltb a count) (relates images a (text a)) (lt→ltb a count (omega arith)) (subst T (sym (relation a (text a))) (held r.1)))
  where
    pcdata : T (holds s (element a) (text a)) → T (is_pcdata (content_at s a))
    pcdata t = (and_cases (eqb a a) (is_pcdata (content_at s a)) t).1

    held : T (is_pcdata (content_at s a)) → T (holds s (element a) (text a))
    held t = and_intro (eqb a a) (is_pcdata (content_at s a)) (eqb_refl a) t
