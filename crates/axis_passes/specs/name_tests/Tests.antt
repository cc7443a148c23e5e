-- The tests of nodes by the codes of their names.
use Rattle.std.specs.Prelude.{Bool, true, false, cond, ◌&&◌, List, [], ◌∷◌, map, ◌≡◌, refl, ℕ, zero, suc, ◌+◌, ◌-◌, ◌<◌, eqb, leb, ltb, get_or, set, length}
use Rattle.std.specs.Int.{from_bool}
use Rattle.std.specs.Int.Bits.{bit_and}
use Rattle.std.proofs.Common.{sym, ap, ◌∙◌, arith, le-leb, ltb-true, ltb-false, eq-eqb, ne_eqb}
use Rattle.std.proofs.lemmas.Bool.{lt-leb}
use Rattle.cells.specs.row_sets.Columns.{mark, is_marked, intersection, mark-test, mark-at, marks-at, marks-length}
use Rattle.cells.specs.row_sets.Loops.{Forward, forward-next, and-marks}
use Rattle.path_spec.specs.Paths.{NodeTest, named, any_text}
use Rattle.path_spec.specs.Selection.{passes}
use Rattle.schema_spec.specs.Names.{Name, element, text}
use Rattle.selection_laws.specs.marks.Passes.{FilterPass}
use Rattle.selection_laws.specs.marks.Selection.{test_marks}
use Rattle.table_laws.specs.Columns.{Coded}
use Rattle.text_spec.specs.Limits.{max_declarations}

-- the names of codes
unfoldable pub name_with_code : ℕ → Name
name_with_code c = cond (ltb c max_declarations) (element c) (text (c - max_declarations))

abbrev pub names_in : List ℕ → List Name
names_in codes = map name_with_code codes

-- what the filter asks
pub record TestPass (codes m out : List ℕ) : Type 0 where
  pub columns : FilterPass codes m out
  pub coded : Coded codes

-- ---- one name: a text's, that of the element e, or another
pub text-passes : (c : ℕ) → leb max_declarations c ≡ passes any_text (name_with_code c)
unfolding name_with_code
text-passes c = pick (ltb c max_declarations) refl
  where
    pick : (b : Bool) → ltb c max_declarations ≡ b → leb max_declarations c ≡ passes any_text (cond b (element c) (text (c - max_declarations)))
    pick true q = lt-leb max_declarations c (ltb-true c max_declarations q)
    pick false q = le-leb max_declarations c (ltb-false c max_declarations q)

pub element-passes : (e c : ℕ) → c ≡ e → ltb c max_declarations ≡ passes (named e) (name_with_code c)
unfolding name_with_code
element-passes e c i = pick (ltb c max_declarations)
  where
    pick : (b : Bool) → b ≡ passes (named e) (cond b (element c) (text (c - max_declarations)))
    pick true = sym (eq-eqb e c (sym i))
    pick false = refl

pub other-fails : (e c : ℕ) → (c ≡ e → ⊥) → eqb c e ≡ passes (named e) (name_with_code c)
unfolding name_with_code
other-fails e c d = ne_eqb c e d ∙ pick (ltb c max_declarations)
  where
    pick : (b : Bool) → false ≡ passes (named e) (cond b (element c) (text (c - max_declarations)))
    pick true = sym (ne_eqb e c (λ i. d (sym i)))
    pick false = refl

-- ---- the rows whose names pass a test, one by one
module _ (t : NodeTest ℕ) where
  test-length : (codes : List ℕ) → length (test_marks t (names_in codes)) ≡ length codes
  unfolding test_marks
  test-length [] = refl
  test-length (c ∷ codes) = ap suc (test-length codes)

  test-at : (codes : List ℕ) (r : ℕ) → r < length codes → get_or (test_marks t (names_in codes)) r 0 ≡ mark (passes t (name_with_code (get_or codes r 0)))
  unfolding test_marks
  test-at [] r l = absurd (omega arith)
  test-at (c ∷ codes) zero l = refl
  test-at (c ∷ codes) (suc r) l = test-at codes r (omega arith)

pub bool-mark : (b : Bool) → from_bool b ≡ mark b
bool-mark true = refl
bool-mark false = refl

module _ (t : NodeTest ℕ) (codes m was : List ℕ) (h : TestPass codes m was) where
  abbrev kept : List ℕ
  kept = intersection m (test_marks t (names_in codes))

  kept-at : (r : ℕ) → r < length m → get_or kept r 0 ≡ mark (is_marked m r && passes t (name_with_code (get_or codes r 0)))
  unfolding intersection
  kept-at r l =
      marks-at (length m) (λ q. is_marked m q && is_marked (test_marks t (names_in codes)) q) r l
      ∙ ap (λ (b : Bool). mark (is_marked m r && b)) (ap (λ (x : ℕ). eqb x 1) (test-at t codes r (omega (arith, h.columns.size, h.columns.codes-size)))
      ∙ mark-test (passes t (name_with_code (get_or codes r 0))))

  pub kept-length : length was ≡ length kept
  unfolding intersection
  kept-length = sym (marks-length (length m) (λ q. is_marked m q && is_marked (test_marks t (names_in codes)) q) ∙ h.columns.size)

  pub kept-next : (r : ℕ) (out : List ℕ) (b : Bool) → r < length out → b ≡ passes t (name_with_code (get_or codes r 0)) → Forward kept was r out
      → Forward kept was (r + 1) (set out r (bit_and (get_or m r 0) (from_bool b)))
  kept-next r out b l e w =
      let i : r < length m = omega (arith, w.size, h.columns.size) in
      forward-next kept was r out (bit_and (get_or m r 0) (from_bool b)) w l
      (ap (λ (x : ℕ). bit_and x (from_bool b)) (mark-at m h.columns.marked r i) ∙ ap (bit_and (mark (is_marked m r))) (bool-mark b ∙ ap mark e)
      ∙ and-marks (is_marked m r) (passes t (name_with_code (get_or codes r 0))) ∙ sym (kept-at r i))
