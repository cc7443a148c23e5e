-- A node test as a range of codes of names.
use Rattle.std.specs.Prelude.{Bool, true, false, cond, ◌&&◌, List, [], ◌∷◌, ◌≡◌, refl, ℕ, suc, ◌+◌, ◌-◌, ◌<◌, ◌≤◌, T, eqb, leb, ltb}
use Rattle.std.proofs.Common.{sym, ap, subst, ◌∙◌, arith, ltb-true, ltb-false, eqb→eq, leb→le, le→leb}
use Rattle.std.proofs.Math.Dec.{eqb_refl}
use Rattle.axis_passes.specs.name_tests.Tests.{name_with_code, names_in}
use Rattle.cells.specs.row_sets.Columns.{mark, marks, intersection}
use Rattle.path_spec.specs.Paths.{NodeTest, named, any_node, any_text}
use Rattle.path_spec.specs.Selection.{passes}
use Rattle.schema_spec.specs.Names.{element, text}
use Rattle.selection_laws.specs.marks.Passes.{range_marks}
use Rattle.selection_laws.specs.marks.Selection.{test_marks}
use Rattle.table_laws.specs.Columns.{Coded}
use Rattle.text_laws.specs.Tests.{and_intro, and_cases, same_test}
use Rattle.text_spec.specs.Limits.{max_declarations}

-- the codes that pass a test are those of a range
abbrev pub InRange : ℕ → ℕ → NodeTest ℕ → Type 0
InRange low high t = (c : ℕ) → c < max_declarations + max_declarations → (leb low c && leb c high) ≡ passes t (name_with_code c)

between : (low high c : ℕ) (b : Bool) → (T b → (low ≤ c) × (c ≤ high)) → (low ≤ c → c ≤ high → T b) → (leb low c && leb c high) ≡ b
between low high c b to from =
    same_test (leb low c && leb c high) b (λ t. let d = and_cases (leb low c) (leb c high) t in from (leb→le low c d.0) (leb→le c high d.1))
    (λ t. let d = to t in and_intro (leb low c) (leb c high) (le→leb low c d.0) (le→leb c high d.1))

-- an element's name, or a text name
by_code : (t : NodeTest ℕ) (low high c : ℕ) → (c < max_declarations → (leb low c && leb c high) ≡ passes t (element c))
    → (max_declarations ≤ c → (leb low c && leb c high) ≡ passes t (text (c - max_declarations))) → (leb low c && leb c high) ≡ passes t (name_with_code c)
unfolding name_with_code
by_code t low high c e x = pick (ltb c max_declarations) refl
  where
    pick : (b : Bool) → ltb c max_declarations ≡ b → (leb low c && leb c high) ≡ passes t (cond b (element c) (text (c - max_declarations)))
    pick true q = e (ltb-true c max_declarations q)
    pick false q = x (ltb-false c max_declarations q)

pub element-range : (e : ℕ) → e < max_declarations → InRange e e (named e)
element-range e l c b =
    by_code (named e) e e c
    (λ h.
    between e e c (eqb e c) (λ t. let z : e ≡ c = eqb→eq e c t in (omega arith, omega arith))
    (λ x y. let z : e ≡ c = omega arith in subst (λ (k : ℕ). T (eqb e k)) z (eqb_refl e)))
    (λ h. between e e c false (λ t. absurd t) (λ x y. absurd (omega arith)))

-- no row has the name of an element past the limit
pub no-range : (e : ℕ) → max_declarations ≤ e → InRange 1 0 (named e)
no-range e l c b =
    by_code (named e) 1 0 c (λ h. between 1 0 c (eqb e c) (λ t. let z : e ≡ c = eqb→eq e c t in absurd (omega arith)) (λ x y. absurd (omega arith)))
    (λ h. between 1 0 c false (λ t. absurd t) (λ x y. absurd (omega arith)))

pub node-range : InRange 0 63 any_node
node-range c b = by_code any_node 0 63 c (λ h. between 0 63 c true (λ t. (omega arith, omega arith)) (λ x y. tt)) (λ h. between 0 63 c true (λ t. (omega arith, omega arith)) (λ x y. tt))

pub text-range : InRange 32 63 any_text
text-range c b =
    by_code any_text 32 63 c (λ h. between 32 63 c false (λ t. absurd t) (λ x y. absurd (omega arith)))
    (λ h. between 32 63 c true (λ t. (omega arith, omega arith)) (λ x y. tt))

pub in-range-of : (low high : ℕ) (s t : NodeTest ℕ) → t ≡ s → InRange low high s → InRange low high t
in-range-of low high s t e h = rw e h

-- the rows of a range are those that pass the test
pub range-test : (low high : ℕ) (t : NodeTest ℕ) (codes : List ℕ) → InRange low high t → Coded codes → range_marks low high codes ≡ test_marks t (names_in codes)
unfolding range_marks test_marks marks
range-test low high t [] h k = refl
range-test low high t (c ∷ codes) h k =
    ap (λ (b : Bool). mark b ∷ range_marks low high codes) (h c (k 0))
    ∙ ap (λ (l : List ℕ). mark (passes t (name_with_code c)) ∷ l) (range-test low high t codes h (λ r. k (suc r)))

-- so the marked rows that pass a test are those of its range
pub range-marked : (low high : ℕ) (t : NodeTest ℕ) (codes m out : List ℕ) → Coded codes → out ≡ intersection m (test_marks t (names_in codes)) → InRange low high t
    → out ≡ intersection m (range_marks low high codes)
range-marked low high t codes m out k e h = e ∙ ap (intersection m) (sym (range-test low high t codes h k))
