-- Laws of the open elements: what a cell says, the nearest of them, one more, the climb.
use Rattle.std.specs.Prelude.{cond, Bool, ◌≡◌, refl, ℕ, zero, suc, ◌+◌, ◌*◌, ◌-◌, ◌/◌, ◌%◌, ◌<◌, ◌≤◌, length, set}
use mathlib.Core.List.{List, ◌∷◌}
use Rattle.std.proofs.Common.{⊎_elim, sym, subst, ◌∙◌, eq-or-lt_of_le, mod-eq_of_lt, add-one, arith, eq-eqb, ne_eqb, get_or-set_same, get_or-set_other}
use Rattle.std.proofs.lemmas.Bool.{cases_eq}
use Rattle.std.proofs.Math.Path.{ap, ap₂}
use Rattle.std.proofs.Math.Nat.{div-eq_of_lt, mul-add-div_right, mul-add-mod_self_right}
use Rattle.extract_reader.specs.declared.levels.Level.{Level}
use Rattle.extract_reader.specs.levels.Levels.{level, level_word, row_in, number_in, element_in, level_in, level_at, levels_in, last_row, last_element, Known, InBytes, LevelOf}
use Rattle.extract_spec.specs.Reading.{Placed, open_from, top_row, top_element}
use Rattle.projection_laws.specs.Opens.{placed}
use Rattle.text_spec.specs.Limits.{max_declarations}

-- ---- what a cell says
low_part : (a b : ℕ) → b < 65536 → (a * 65536 + b) % 65536 ≡ b
low_part a b l = mul-add-mod_self_right a 65536 b ∙ mod-eq_of_lt l

high_part : (a b : ℕ) → b < 65536 → (a * 65536 + b) / 65536 ≡ a
high_part a b l =
    let z : a + b / 65536 ≡ a = omega (arith, div-eq_of_lt l) in
    mul-add-div_right (omega arith) a b ∙ z

module _ (row number e : ℕ) (r : row < 65536) (n : number < 65536) where
  word_row : row_in (level_word row number e) ≡ row
  unfolding row_in level_word
  word_row = low_part (e * 65536 + number) row r

  word_number : number_in (level_word row number e) ≡ number
  unfolding number_in level_word
  word_number = ap (λ (x : ℕ). x % 65536) (high_part (e * 65536 + number) row r) ∙ low_part e number n

  pub word-element : element_in (level_word row number e) ≡ e
  unfolding element_in level_word
  word-element = ap (λ (x : ℕ). x / 65536) (high_part (e * 65536 + number) row r) ∙ high_part e number n

  pub word-level : level_in (level_word row number e) ≡ level row number e
  word-level = ap₂ (λ (a b : ℕ). level a b (element_in (level_word row number e))) word_row word_number ∙ ap (level row number) word-element

-- ---- the nearest
pub levels-length : (levels : List Level) (d : ℕ) → length (levels_in levels d) ≡ d
unfolding levels_in
levels-length levels zero = refl
levels-length levels (suc d) = ap suc (levels-length levels d)

pub top-row : (levels : List Level) (d : ℕ) → 0 < d → top_row (levels_in levels d) ≡ last_row levels d
unfolding levels_in
top-row levels zero l = absurd (omega arith)
top-row levels (suc d) l = let e : d ≡ suc d - 1 = omega arith in ap (λ (k : ℕ). (level_at levels k).row) e

pub top-element : (levels : List Level) (d : ℕ) → 0 < d → top_element (levels_in levels d) ≡ last_element levels d
unfolding levels_in
top-element levels zero l = absurd (omega arith)
top-element levels (suc d) l = let e : d ≡ suc d - 1 = omega arith in ap (λ (k : ℕ). (level_at levels k).element) e

-- ---- one more
levels-set : (levels : List Level) (d : ℕ) (x : Level) (k : ℕ) → k ≤ d → levels_in (set levels d x) k ≡ levels_in levels k
unfolding levels_in
levels-set levels d x zero l = refl
levels-set levels d x (suc k) l =
    ap₂ (λ (v : Level) (ps : List Placed). placed v.row v.number v.element ∷ ps) (get_or-set_other levels d k x (level 0 0 0) (λ e. omega arith)) (levels-set levels d x k (omega arith))

module _ (levels : List Level) (d row number e : ℕ) (room : d < length levels) where
  pub levels-opened : levels_in (set levels d (level row number e)) (d + 1) ≡ placed row number e ∷ levels_in levels d
  unfolding levels_in
  levels-opened =
      ap (levels_in (set levels d (level row number e))) (add-one d)
      ∙ ap₂ (λ (v : Level) (ps : List Placed). placed v.row v.number v.element ∷ ps) (get_or-set_same levels d (level row number e) (level 0 0 0) room)
      (levels-set levels d (level row number e) d (omega arith))

  pub known-opened : Known levels d → e < max_declarations → Known (set levels d (level row number e)) (d + 1)
  known-opened known small i l =
      ⊎_elim
      (λ f. omega (arith, small, ap (λ (v : Level). v.element) (ap (λ (k : ℕ). level_at (set levels d (level row number e)) k) f ∙ get_or-set_same levels d (level row number e) (level 0 0 0) room)))
      (λ f. omega (arith, known i f, ap (λ (v : Level). v.element) (get_or-set_other levels d i (level row number e) (level 0 0 0) (λ w. omega arith)))) (eq-or-lt_of_le at_most)
    where
      at_most : i ≤ d
      at_most = omega arith

  pub bytes-opened : InBytes levels → e < 256 → InBytes (set levels d (level row number e))
  bytes-opened bytes small i =
      ⊎_elim
      (λ f. omega (arith, small, ap (λ (v : Level). v.element) (ap (λ (k : ℕ). level_at (set levels d (level row number e)) k) f ∙ get_or-set_same levels d (level row number e) (level 0 0 0) room)))
      (λ w. omega (arith, bytes i, ap (λ (v : Level). v.element) (get_or-set_other levels d i (level row number e) (level 0 0 0) w))) (cases_eq i d)

-- ---- the climb
module _ (levels : List Level) (number : ℕ) where
  level-here : (k : ℕ) → (level_at levels k).number ≡ number → open_from number (levels_in levels (suc k)) ≡ levels_in levels (suc k)
  unfolding levels_in
  level-here k e = ap (λ (b : Bool). cond b (levels_in levels (suc k)) (open_from number (levels_in levels k))) (eq-eqb (level_at levels k).number number e)

  level-up : (k : ℕ) → ((level_at levels k).number ≡ number → ⊥) → open_from number (levels_in levels (suc k)) ≡ open_from number (levels_in levels k)
  unfolding levels_in
  level-up k e = ap (λ (b : Bool). cond b (levels_in levels (suc k)) (open_from number (levels_in levels k))) (ne_eqb (level_at levels k).number number e)

  -- the one at k has the number, and none after it
  pub level-found : (depth k : ℕ) → k < depth → (level_at levels k).number ≡ number → ((j : ℕ) → k < j → j < depth → (level_at levels j).number ≡ number → ⊥)
      → open_from number (levels_in levels depth) ≡ levels_in levels (suc k)
  level-found zero k l e past = absurd (omega arith)
  level-found (suc d) k l e past =
      ⊎_elim
      (λ f. subst (λ (i : ℕ). open_from number (levels_in levels (suc i)) ≡ levels_in levels (suc k)) f (level-here k e))
      (λ f. level-up d (past d f (omega arith)) ∙ level-found d k f e (λ j a b. past j a (omega arith)))
      (eq-or-lt_of_le {n = k} {m = d} (omega arith))

  -- none has the number
  pub level-none : (depth : ℕ) → ((j : ℕ) → j < depth → (level_at levels j).number ≡ number → ⊥) → open_from number (levels_in levels depth) ≡ levels_in levels 0
  unfolding levels_in
  level-none zero past = refl
  level-none (suc d) past = level-up d (past d (omega arith)) ∙ level-none d (λ j b. past j (omega arith))

module _ (levels : List Level) (depth number : ℕ) where
  pub level-found-in : (k : ℕ) → k < depth → (level_at levels k).number ≡ number → ((j : ℕ) → k < j → j < depth → (level_at levels j).number ≡ number → ⊥)
      → LevelOf levels depth number (k + 1) × (0 < k + 1)
  level-found-in k l e past =
      (record { within = omega arith; found = ap (levels_in levels) (add-one k) ∙ sym (level-found levels number depth k l e past) }, omega arith)

  pub level-none-in : ((j : ℕ) → j < depth → (level_at levels j).number ≡ number → ⊥) → LevelOf levels depth number 0
  level-none-in past = record { within = omega arith; found = none ∙ sym (level-none levels number depth past) }
    where
      none : levels_in levels 0 ≡ levels_in levels 0
      none = refl
