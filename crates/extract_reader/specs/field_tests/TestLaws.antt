-- The tests of a row are those of the pass.
use Rattle.std.proofs.Math.Bool.{Bool, true, false, not}
use Rattle.std.specs.Prelude.{◌&&◌, List, ◌≡◌, eqb, ltb, get_or}
use Rattle.std.proofs.Math.Path.{refl, sym, ap}
use Rattle.std.proofs.Common.{ap₂, ◌∙◌, lt-ltb, le-ltb, le-leb, eq-eqb, ne_eqb}
use Prim.Native.Nat.{ℕ, zero, suc, ◌+◌, ◌-◌, ◌<◌, ◌≤◌}
use native.Mathlib.Omega.{arith}
use Rattle.std.proofs.lemmas.Bool.{lt-leb}
use Rattle.std.proofs.Math.Dec.{leb}
use Rattle.extract_reader.specs.field_tests.Tests.{held_by, word_types, LevelPass, element_under, text_under}
use Rattle.extract_reader.specs.declared.levels.Level.{Level}
use Rattle.extract_reader.specs.levels.LevelLaws.{levels-length}
use Rattle.extract_reader.specs.levels.Levels.{level_at, levels_in, last_element}
use Rattle.projection_laws.specs.extract_passes.Steps.{State, element_fits, text_fits}
use Rattle.schema_spec.specs.Names.{element, text, has_bit}
use Rattle.text_spec.specs.Bytes.{is_foreign}
use Rattle.text_spec.specs.Limits.{max_declarations, max_nodes, max_depth, max_text_bytes}
use Rattle.text_spec.specs.Lists.{all_of, is_empty, part}

pub and-nothing : (a : Bool) → (a && false) ≡ false
and-nothing true = refl
and-nothing false = refl

and-all : (h : Bool) → (true && (h && true)) ≡ h
and-all true = refl
and-all false = refl

-- ---- a row's number
pub number-low : (before number : ℕ) → number ≤ before → false ≡ (ltb before number && ltb number max_nodes)
number-low before number l = sym (ap (λ (b : Bool). b && ltb number max_nodes) (le-ltb before number l))

pub number-high : (before number : ℕ) → before < number → ltb number max_nodes ≡ (ltb before number && ltb number max_nodes)
number-high before number l = sym (ap (λ (b : Bool). b && ltb number max_nodes) (lt-ltb before number l))

-- ---- an element among those of a schema, or past them
pub held-past : (words : List ℕ) (a b : ℕ) → max_declarations ≤ b → false ≡ held_by words (element a) (element b)
held-past words a b l = sym (ap (λ (x : Bool). x && has_bit (get_or words a 0) b) (le-ltb b max_declarations l))

pub held_low : (words : List ℕ) (a b : ℕ) → b < max_declarations → has_bit (get_or words a 0) b ≡ held_by words (element a) (element b)
held_low words a b l = sym (ap (λ (x : Bool). x && has_bit (get_or words a 0) b) (lt-ltb b max_declarations l))

-- ---- under a level
pub level-known : (levels : List Level) (d : ℕ) → LevelPass levels d → (d ≡ 0 → ⊥) → (e : ℕ) → e ≡ last_element levels d → e < max_declarations
level-known levels d h z e q = omega (arith, h.known (d - 1) (omega arith))

module _ (words : List ℕ) (levels : List Level) (d e : ℕ) where
  abbrev holds : Bool
  holds = held_by words (element (last_element levels d)) (element e)

  pub element-none : d ≡ 0 → false ≡ element_under words levels d e
  unfolding element_under
  element-none z = sym (ap (λ (b : Bool). not b && (holds && leb (suc d) max_depth)) (eq-eqb d 0 z))

  pub element-deep : d ≡ max_depth → false ≡ element_under words levels d e
  unfolding element_under
  element-deep z =
      sym (ap (λ (b : Bool). not (eqb d 0) && (holds && b)) (lt-leb (suc d) max_depth (omega arith)) ∙ ap (λ (b : Bool). not (eqb d 0) && b) (and-nothing holds) ∙ and-nothing (not (eqb d 0)))

  pub element-held : (d ≡ 0 → ⊥) → (d ≡ max_depth → ⊥) → d ≤ max_depth → (r : Bool) (p : ℕ) → r ≡ held_by words (element p) (element e) → p ≡ last_element levels d
      → r ≡ element_under words levels d e
  unfolding element_under
  element-held z y l r p q f = q ∙ ap (λ (x : ℕ). held_by words (element x) (element e)) f ∙ sym (ap₂ (λ (a b : Bool). not a && (holds && b)) (ne_eqb d 0 z) (le-leb (suc d) max_depth (omega arith)) ∙ and-all holds)

module _ (words : List ℕ) (levels : List Level) (d : ℕ) (after : Bool) where
  abbrev own : Bool
  own = held_by words (element (last_element levels d)) (text (last_element levels d))

  pub text-none : d ≡ 0 → false ≡ text_under words levels d after
  unfolding text_under
  text-none z = sym (ap (λ (b : Bool). not b && (own && not after)) (eq-eqb d 0 z))

  pub text-after : after ≡ true → false ≡ text_under words levels d after
  unfolding text_under
  text-after z = sym (ap (λ (b : Bool). not (eqb d 0) && (own && not b)) z ∙ ap (λ (b : Bool). not (eqb d 0) && b) (and-nothing own) ∙ and-nothing (not (eqb d 0)))

  pub text-held : (d ≡ 0 → ⊥) → after ≡ false → (r : Bool) (p : ℕ) → r ≡ has_bit (get_or words p 0) (p + max_declarations) → p ≡ last_element levels d → r ≡ text_under words levels d after
  unfolding text_under
  text-held z y r p q f = q ∙ ap (λ (x : ℕ). held_by words (element x) (text x)) f ∙ sym (ap₂ (λ (a b : Bool). not a && (own && not b)) (ne_eqb d 0 z) y ∙ and-all own)

-- ---- as the pass tests a row
module _ (words bs : List ℕ) (levels : List Level) (st : State) (number : ℕ) where
  abbrev number_test : Bool
  number_test = ltb st.number number && ltb number max_nodes

  pub element-test : (d e : ℕ) → (not (is_empty (levels_in levels d)) && element_fits (word_types words) st number (levels_in levels d) e) ≡ (number_test && element_under words levels d e)
  unfolding element_under levels_in
  element-test zero e = sym (and-nothing number_test)
  element-test (suc d) e =
      let i : suc d - 1 ≡ d = omega arith in
      ap (λ (n : ℕ). number_test && (held_by words (element ((level_at levels d).element)) (element e) && leb (suc (suc n)) max_depth)) (levels-length levels d)
      ∙ ap (λ (k : ℕ). number_test && (held_by words (element ((level_at levels k).element)) (element e) && leb (suc (suc d)) max_depth)) (sym i)
      ∙ ap (λ (b : Bool). number_test && (not b && (held_by words (element (last_element levels (suc d))) (element e) && leb (suc (suc d)) max_depth))) (sym (ne_eqb (suc d) 0 (λ z. omega arith)))

  -- the bytes of a text: how many, and which
  abbrev bytes_test : ℕ → ℕ → Bool
  bytes_test start size = leb 1 size && (leb size max_text_bytes && all_of (λ b. not (is_foreign b)) (part start size bs))

  pub text-test : (d start size : ℕ) → (not (is_empty (levels_in levels d)) && text_fits (word_types words) bs st number (levels_in levels d) start size)
      ≡ (number_test && (text_under words levels d st.after_text && bytes_test start size))
  unfolding text_under levels_in
  text-test zero start size = sym (and-nothing number_test)
  text-test (suc d) start size =
      let i : suc d - 1 ≡ d = omega arith in
      let held : ℕ → Bool = λ k. held_by words (element ((level_at levels k).element)) (text ((level_at levels k).element)) in
      ap (λ (k : ℕ). number_test && (held k && (not st.after_text && bytes_test start size))) (sym i)
      ∙ ap (λ (b : Bool). number_test && b) (joined (held (suc d - 1)) (not st.after_text) (bytes_test start size))
      ∙ ap (λ (b : Bool). number_test && ((not b && (held (suc d - 1) && not st.after_text)) && bytes_test start size)) (sym (ne_eqb (suc d) 0 (λ z. omega arith)))
    where
      joined : (a b z : Bool) → (a && (b && z)) ≡ ((true && (a && b)) && z)
      joined true true z = refl
      joined true false z = refl
      joined false b z = refl
