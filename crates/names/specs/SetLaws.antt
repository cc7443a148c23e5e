-- Laws of sets of names as lists: what a filter has, and which names `every_name` has.
use Rattle.std.specs.Prelude.{Bool, true, false, ◌&&◌, ◌↔◌, ◌≡◌, refl, ℕ, zero, suc, ◌≤◌, ◌<◌, length}
use Rattle.std.proofs.Math.Bool.{not, ◌||◌, and-true}
use mathlib.Core.List.Memᴰ.{head as here}
use mathlib.Core.List.{[], ◌∷◌, Memᴰ as In}
use Rattle.std.proofs.Common.{⊎_elim, ap, ap₂, ◌∙◌, arith}
use Rattle.std.proofs.Math.Path.{sym, subst}
use Rattle.std.proofs.Math.Dec.{T}
use Rattle.names.specs.Sets.{member, set_of, set_in, NamesOf, Known, nothing, largest, every_name, overlap}
use Rattle.names.specs.bits.Bits.{bit-none}
use Rattle.names.specs.declared.NameSet.{NameSet}
use Rattle.schema_laws.specs.Names.{has_in, in-has, element-in, in-element, text_in, in-text}
use Rattle.schema_laws.specs.Words.{Coded, schema-coded}
use Rattle.schema_spec.specs.Names.{Name, Names, element, text, same_name, has, within, names_of}
use Rattle.schema_spec.specs.Schemas.{Schema, content_at, is_pcdata}
use Rattle.text_laws.specs.Lists.{in-filter, filter-in, filter-cong, filter-filter, member-fills}
use Rattle.text_laws.specs.Searches.{any_below_lem, below-any}
use Rattle.text_laws.specs.Tests.{or_left, or_right, or_cases, and_intro, and_cases, failed, false_of, true_of, same_test}
use Rattle.text_spec.specs.Limits.{max_declarations}
use Rattle.text_spec.specs.Lists.{filter_by, is_empty, any_below}

-- a name is in a filtered set if it is in the set and passes
pub has-filter : (f : Name → Bool) (names : Names) (n : Name) → has n (filter_by f names) ≡ (has n names && f n)
has-filter f names n =
    same_test (has n (filter_by f names)) (has n names && f n)
    (λ t.
    let r = filter-in f names (has_in n (filter_by f names) t) in
    and_intro (has n names) (f n) (in-has r.0) r.1)
    (λ t.
    let r = and_cases (has n names) (f n) t in
    in-has (in-filter f (has_in n names r.0) r.1))

pub nothing-in : (n : Name) → member nothing n ≡ false
nothing-in (element e) = bit-none e
nothing-in (text e) = bit-none e

pub in-set_of : {n : Name} {names : Names} (s : NameSet) → In n names → T (member s n) → In n (set_of names s)
unfolding set_of
in-set_of s i t = in-filter (member s) i t

pub set_of-in : {n : Name} (names : Names) (s : NameSet) → In n (set_of names s) → In n names × T (member s n)
unfolding set_of
set_of-in names s i = filter-in (member s) names i

-- among its names, a name is in the set exactly if it is a member
pub has-set_of : (names : Names) (s : NameSet) (n : Name) → In n names → has n (set_of names s) ≡ member s n
has-set_of names s n i =
    same_test (has n (set_of names s)) (member s n) (λ t. (set_of-in names s (has_in n (set_of names s) t)).1) (λ t. in-has (in-set_of s i t))

largest-data : (n e : ℕ) → e < n → T (is_pcdata (content_at (largest n) e))
largest-data zero e h = absurd (omega arith)
largest-data (suc n) zero h = tt
largest-data (suc n) (suc e) h = largest-data n e (omega arith)

-- it has the elements below 32, and their text names
pub element-every : (e : ℕ) → e < max_declarations → In (element e) every_name
unfolding every_name
element-every e h = element-in (largest max_declarations) e h

pub every_element : (e : ℕ) → In (element e) every_name → e < max_declarations
unfolding every_name
every_element e i = in-element (largest max_declarations) e i

pub text-every : (e : ℕ) → e < max_declarations → In (text e) every_name
unfolding every_name
text-every e h = text_in (largest max_declarations) e (largest-data max_declarations e h)

pub every-text : (e : ℕ) → In (text e) every_name → e < max_declarations
unfolding every_name
every-text e i = (in-text (largest max_declarations) e i).0

pub every-coded : Coded every_name
unfolding every_name
every-coded = schema-coded (largest max_declarations) (omega arith)

-- so it has each name of a schema with at most 32 elements
pub schema-every : (s : Schema) → length s ≤ max_declarations → (n : Name) → In n (names_of s) → In n every_name
schema-every s l (element e) i =
    let h = in-element s e i in
    element-every e (omega arith)
schema-every s l (text e) i =
    let h = (in-text s e i).0 in
    text-every e (omega arith)

-- What a set that has these members is, among some names: the lists that the definitions name.
module _ (names : Names) (a b r : NameSet) where
  pub set_of-union : ((n : Name) → member r n ≡ (member a n || member b n)) → set_of names r ≡ filter_by (λ n. has n (set_of names a) || has n (set_of names b)) names
  unfolding set_of
  set_of-union h =
      filter-cong (member r) (λ n. has n (set_of names a) || has n (set_of names b)) names
      (λ n i. h n ∙ sym (ap₂ ◌||◌ (has-set_of names a n i) (has-set_of names b n i)))

  pub set_of-common : ((n : Name) → member r n ≡ (member a n && member b n)) → set_of names r ≡ within (set_of names a) (set_of names b)
  unfolding set_of
  set_of-common h =
      filter-filter (member r) (λ n. has n (set_of names b)) (member a) names
      (λ n i t.
      let p = and_cases (member a n) (member b n) (subst T (h n) t) in
      (p.0, subst T (sym (has-set_of names b n i)) p.1))
      (λ n i s t. subst T (sym (h n)) (and_intro (member a n) (member b n) s (subst T (has-set_of names b n i) t)))

  pub set_of-without : ((n : Name) → member r n ≡ (member a n && not (member b n))) → set_of names r ≡ filter_by (λ n. not (has n (set_of names b))) (set_of names a)
  unfolding set_of
  set_of-without h =
      filter-filter (member r) (λ n. not (has n (set_of names b))) (member a) names
      (λ n i t.
      let p = and_cases (member a n) (not (member b n)) (subst T (h n) t) in
      (p.0, subst (λ (x : Bool). T (not x)) (sym (has-set_of names b n i)) p.1))
      (λ n i s t. subst T (sym (h n)) (and_intro (member a n) (not (member b n)) s (subst (λ (x : Bool). T (not x)) (has-set_of names b n i) t)))

pub set_of-insert : (names : Names) (a r : NameSet) (m : Name) → ((n : Name) → member r n ≡ (member a n || (same_name n m && true)))
    → set_of names r ≡ filter_by (λ n. has n (set_of names a) || same_name n m) names
unfolding set_of
set_of-insert names a r m h =
    filter-cong (member r) (λ n. has n (set_of names a) || same_name n m) names
    (λ n i. h n ∙ ap₂ ◌||◌ (sym (has-set_of names a n i)) (and-true (same_name n m)))

-- a set of some names has no member exactly if its list is empty
pub empty-decides : (names : Names) (s : NameSet) → ((n : Name) → T (member s n) → In n names) → T (is_empty (set_of names s)) ↔ ((n : Name) → member s n ≡ false)
empty-decides names s only = (bare, λ h. none (set_of names s) (λ n i. failed (h n) (set_of-in names s i).1))
  where
    bare : T (is_empty (set_of names s)) → (n : Name) → member s n ≡ false
    bare t n = false_of (member s n) (λ m. member-fills (in-set_of s (only n m) m) t)

    none : (ns : Names) → ((n : Name) → In n ns → ⊥) → T (is_empty ns)
    none [] h = tt
    none (n ∷ ns) h = h n (here refl)

-- two sets overlap exactly if a name with an index below 64 is in both
pub overlap-some : (s t : NameSet) → T (overlap s t) → (n : Name) × T (member s n) × T (member t n)
unfolding overlap
overlap-some s t h =
    ⊎_elim (λ u. at element (below-any 64 (λ e. member s (element e) && member t (element e)) u))
    (λ u. at text (below-any 64 (λ e. member s (text e) && member t (text e)) u))
    (or_cases (any_below 64 (λ e. member s (element e) && member t (element e))) (any_below 64 (λ e. member s (text e) && member t (text e))) h)
  where
    at : (k : ℕ → Name) → (e : ℕ) × (e < 64) × T (member s (k e) && member t (k e)) → (n : Name) × T (member s n) × T (member t n)
    at k r =
        let c = and_cases (member s (k r.0)) (member t (k r.0)) r.2 in
        (k r.0, c.0, c.1)

pub element-overlap : (s t : NameSet) (e : ℕ) → e < 64 → T (member s (element e)) → T (member t (element e)) → T (overlap s t)
unfolding overlap
element-overlap s t e l p q =
    or_left (any_below 64 (λ i. member s (element i) && member t (element i))) (any_below 64 (λ i. member s (text i) && member t (text i)))
    (any_below_lem 64 (λ i. member s (element i) && member t (element i)) e l (and_intro (member s (element e)) (member t (element e)) p q))

pub text-overlap : (s t : NameSet) (e : ℕ) → e < 64 → T (member s (text e)) → T (member t (text e)) → T (overlap s t)
unfolding overlap
text-overlap s t e l p q =
    or_right (any_below 64 (λ i. member s (element i) && member t (element i))) (any_below 64 (λ i. member s (text i) && member t (text i)))
    (any_below_lem 64 (λ i. member s (text i) && member t (text i)) e l (and_intro (member s (text e)) (member t (text e)) p q))

-- ---- a set cut to the names of a schema
pub common-known : (s : Schema) (all h g : NameSet) → NamesOf s all → ((n : Name) → member g n ≡ (member h n && member all n)) → Known s g
common-known s all h g are common n t = has_in n (names_of s) (subst T (are n) (and_cases (member h n) (member all n) (subst T (common n) t)).1)

pub common-set_in : (s : Schema) (all h g : NameSet) → NamesOf s all → ((n : Name) → member g n ≡ (member h n && member all n)) → set_in s g ≡ set_in s h
unfolding set_of
common-set_in s all h g are common =
    filter-cong (member g) (member h) (names_of s)
    (λ n i. common n ∙ ap (λ (b : Bool). member h n && b) (are n ∙ true_of (has n (names_of s)) (in-has i)) ∙ and-true (member h n))
