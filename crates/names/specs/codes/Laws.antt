-- Laws of names by their codes, and of the set of one name.
use Rattle.std.specs.Prelude.{Bool, true, false, cond, ◌&&◌, ◌||◌, ◌≡◌, refl, ℕ, ◌+◌, ◌-◌, ◌<◌, ◌≤◌, T, eqb, ltb}
use Rattle.std.proofs.Math.Bool.{and-true}
use mathlib.Core.List.Memᴰ.{head as here}
use mathlib.Core.List.Memᴰ.{tail as there}
use mathlib.Core.List.{[], ◌∷◌, Memᴰ as In}
use Rattle.std.proofs.Common.{sym, ap, ap₂, subst, ◌∙◌, arith, ne_eqb, lt-ltb, le-ltb, ltb-true, ltb-false, eqb→eq}
use Rattle.std.proofs.Math.Dec.{eqb_refl}
use Rattle.names.specs.SetLaws.{every_element, every-text}
use Rattle.names.specs.Sets.{member, set_of, every_name}
use Rattle.names.specs.codes.Codes.{name_of_code}
use Rattle.names.specs.declared.NameSet.{NameSet}
use Rattle.schema_laws.specs.Lists.{Distinct, none-twice, next}
use Rattle.schema_laws.specs.Names.{same-equal, same-name, names-distinct}
use Rattle.schema_spec.specs.Names.{Name, Names, element, text, same_name, code_of, names_of}
use Rattle.schema_spec.specs.Schemas.{Schema}
use Rattle.text_laws.specs.Lists.{filter-cong, filter-in, memberless}
use Rattle.text_laws.specs.Tests.{passed, failed, same_test}
use Rattle.text_spec.specs.Limits.{max_declarations}
use Rattle.text_spec.specs.Lists.{filter_by}

pub element-of-code : (c : ℕ) → c < max_declarations → name_of_code c ≡ element c
unfolding name_of_code
element-of-code c l = rw (lt-ltb c 32 l)

pub text-of-code : (c : ℕ) → max_declarations ≤ c → name_of_code c ≡ text (c - 32)
unfolding name_of_code
text-of-code c l = rw (le-ltb c 32 l)

pub single-element : (c : ℕ) (none r : NameSet) → c < max_declarations → ((n : Name) → member none n ≡ false) → ((n : Name) → member r n ≡ (member none n || (same_name n (element c) && ltb c 64)))
    → (n : Name) → member r n ≡ same_name n (name_of_code c)
single-element c none r l bare one n =
    one n ∙ ap₂ (λ (x y : Bool). x || (same_name n (element c) && y)) (bare n) (lt-ltb c 64 (omega arith)) ∙ and-true (same_name n (element c)) ∙ ap (same_name n) (sym (element-of-code c l))

pub single-text : (c : ℕ) (none r : NameSet) → max_declarations ≤ c → c < 64 → ((n : Name) → member none n ≡ false)
    → ((n : Name) → member r n ≡ (member none n || (same_name n (text (c - 32)) && ltb (c - 32) 64))) → (n : Name) → member r n ≡ same_name n (name_of_code c)
single-text c none r l h bare one n =
    one n ∙ ap₂ (λ (x y : Bool). x || (same_name n (text (c - 32)) && y)) (bare n) (lt-ltb (c - 32) 64 (omega arith)) ∙ and-true (same_name n (text (c - 32)))
    ∙ ap (same_name n) (sym (text-of-code c l))

-- a code, and the name that has it
pub code_below : (n : Name) → In n every_name → code_of n < 64
code_below (element e) i =
    let l = every_element e i in
    omega arith
code_below (text e) i =
    let l = every-text e i in
    omega arith

pub same-name-code : (n : Name) (c : ℕ) → In n every_name → same_name n (name_of_code c) ≡ eqb (code_of n) c
same-name-code (element e) c i = pick (ltb c 32) refl
  where
    pick : (b : Bool) → ltb c 32 ≡ b → same_name (element e) (name_of_code c) ≡ eqb e c
    pick true d = ap (same_name (element e)) (element-of-code c (ltb-true c 32 d))
    pick false d =
        let l = every_element e i in
        let g = ltb-false c 32 d in
        ap (same_name (element e)) (text-of-code c g) ∙ sym (ne_eqb e c (λ q. omega arith))
same-name-code (text e) c i = pick (ltb c 32) refl
  where
    to : max_declarations ≤ c → T (eqb e (c - 32)) → T (eqb (32 + e) c)
    to g t =
        let q : e ≡ c - 32 = eqb→eq e (c - 32) t in
        let r : 32 + e ≡ c = omega arith in
        subst (λ (x : ℕ). T (eqb (32 + e) x)) r (eqb_refl (32 + e))

    of : T (eqb (32 + e) c) → T (eqb e (c - 32))
    of t =
        let q : 32 + e ≡ c = eqb→eq (32 + e) c t in
        let r : e ≡ c - 32 = omega arith in
        subst (λ (x : ℕ). T (eqb e x)) r (eqb_refl e)

    pick : (b : Bool) → ltb c 32 ≡ b → same_name (text e) (name_of_code c) ≡ eqb (32 + e) c
    pick true d =
        let g = ltb-true c 32 d in
        ap (same_name (text e)) (element-of-code c g) ∙ sym (ne_eqb (32 + e) c (λ q. omega arith))
    pick false d = ap (same_name (text e)) (text-of-code c (ltb-false c 32 d)) ∙ same_test (eqb e (c - 32)) (eqb (32 + e) c) (to (ltb-false c 32 d)) of

pub name-of-its-code : (n : Name) → In n every_name → n ≡ name_of_code (code_of n)
name-of-its-code n i = same-equal n (name_of_code (code_of n)) (subst T (sym (same-name-code n (code_of n) i)) (eqb_refl (code_of n)))

-- one name of a list in which no name stands twice
only_one : (a : Name) {xs : Names} → Distinct xs → In a xs → filter_by (λ n. same_name n a) xs ≡ a ∷ []
only_one a none-twice i = elim i [ ]
only_one a (next {x = x} {xs = xs} new d) i = pick (same_name x a) refl i (λ j. only_one a d j)
  where
    gone : x ≡ a → filter_by (λ n. same_name n a) xs ≡ []
    gone e =
        memberless (filter_by (λ n. same_name n a) xs) (λ n j.
        let r = filter-in (λ m. same_name m a) xs j in
        new (subst (λ (z : Name). In z xs) (same-equal n a r.1 ∙ sym e) r.0))

    later : (T (same_name x a) → ⊥) → In a (x ∷ xs) → In a xs
    later h (here e) = absurd (h (subst (λ (z : Name). T (same_name x z)) (sym e) (same-name x)))
    later h (there j) = j

    pick : (b : Bool) → same_name x a ≡ b → In a (x ∷ xs) → (In a xs → filter_by (λ n. same_name n a) xs ≡ a ∷ []) → cond b (x ∷ filter_by (λ n. same_name n a) xs) (filter_by (λ n. same_name n a) xs) ≡ a ∷ []
    pick true q j rec =
        let e = same-equal x a (passed q) in
        ap₂ (λ (y : Name) (l : Names). y ∷ l) e (gone e)
    pick false q j rec = rec (later (failed q) j)

-- the set of one name of a schema
pub single-list : (s : Schema) (a : Name) (r : NameSet) → In a (names_of s) → ((n : Name) → member r n ≡ same_name n a) → set_of (names_of s) r ≡ a ∷ []
unfolding set_of
single-list s a r i h = filter-cong (member r) (λ n. same_name n a) (names_of s) (λ n j. h n) ∙ only_one a (names-distinct s) i
