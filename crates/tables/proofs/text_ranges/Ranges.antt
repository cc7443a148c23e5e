-- One row more.
use mathlib.Core.Bool.{Bool, true, false, not, ◌&&◌, ◌||◌}
use mathlib.Core.List.{List}
use mathlib.Core.Path.{◌≡◌, refl, sym, ap, subst, ◌∙◌}
use Prim.Native.Nat.{ℕ, zero, suc, ◌+◌, ◌-◌, ◌<◌, ◌≤◌}
use native.Mathlib.Omega.{arith}
use lib.Dec.{eqb}
use Rattle.std.specs.List.{list_all, range_with_len}
use Rattle.std.specs.Option.{MatchOption, unwrap_or}
use Rattle.std.specs.Prelude.{Option, Some, None}
use Rattle.table_laws.specs.passes.Passes.{is_text_code}
use Rattle.table_laws.specs.passes.Texts.{range_passes, range_decodes, texts_pass}
use Rattle.table_spec.specs.Columns.{Columns, cells_at}
use Rattle.table_spec.specs.Rows.{Cells}
use Rattle.table_spec.specs.Tables.{is_size}
use Rattle.tables.specs.text_ranges.Left.{copied, text_fits, Left}
use Rattle.text_laws.specs.Tests.{never}
use Rattle.text_spec.specs.Lists.{part}
use Rattle.token_spec.specs.Texts.{decoded_size}

-- what is copied passes
copied-passes : (lent : List ℕ) (x : Cells) → copied lent x ≡ true → text_fits lent x ≡ true
unfolding range_decodes
copied-passes lent x e = pick (is_text_code x.name) (range_passes lent x.start x.size) (eqb x.decoded x.size) e
  where
    pick : (text range equal : Bool) → (not text || (range && equal)) ≡ true → (not text || (range && (equal || is_size x.decoded (decoded_size (part x.start x.size lent))))) ≡ true
    pick false range equal f = refl
    pick true true true f = refl
    pick true true false f = never (cc)
    pick true false equal f = never (cc)

module _ (lent : List ℕ) (c : Columns) where
  abbrev this : ℕ → Bool
  this i = text_fits lent (cells_at c i)

  abbrev from : ℕ → ℕ → Bool
  from i n = texts_pass lent c.names c.starts c.lengths c.decoded i n

  turn : (count i : ℕ) → i < count → from i (count - i) ≡ (this i && from (i + 1) (count - (i + 1)))
  turn count i l =
      let n : count - i ≡ suc (count - (i + 1)) = omega arith in
      let m : suc i ≡ i + 1 = omega arith in
      ap (from i) n ∙ ap (λ (x : ℕ). this i && from x (count - (i + 1))) m

  pub left-first : (count : ℕ) → Left lent c count 0
  left-first count = let e : count - 0 ≡ count = omega arith in record { most = omega arith; rest = ap (from 0) e }

  module _ (count i : ℕ) (l : Left lent c count i) where
    pub left-next : i < count → this i ≡ true → Left lent c count (i + 1)
    left-next m e =
        record {
          most = omega arith;
          rest = sym (ap (λ (b : Bool). b && from (i + 1) (count - (i + 1))) e) ∙ sym (turn count i m) ∙ l.rest;
        }

    pub left-copied : i < count → copied lent (cells_at c i) ≡ true → Left lent c count (i + 1)
    left-copied m e = left-next m (copied-passes lent (cells_at c i) e)

  -- the first n rows are copied
  pub left-run : (count n : ℕ) → n ≤ count → ((k : ℕ) → k < n → copied lent (cells_at c k) ≡ true) → Left lent c count n
  left-run count zero l h = left-first count
  left-run count (suc n) l h =
      let more : n + 1 ≡ suc n = omega arith in
      subst (λ (x : ℕ). Left lent c count x) more
      (left-copied count n (left-run count n (omega arith) (λ k b. h k (omega arith))) (omega arith) (h n (omega arith)))

  pub left-found : (count : ℕ) (o : Option ℕ)
      → MatchOption o ((k : ℕ) → 0 ≤ k → k < count → copied lent (cells_at c k) ≡ true) (λ i. (0 ≤ i) × (i < count) × (i ≡ i) × ((k : ℕ) → 0 ≤ k → k < i → copied lent (cells_at c k) ≡ true))
      → Left lent c count (unwrap_or o count)
  left-found count None h = left-run count count (omega arith) (λ k b. h k (omega arith) b)
  left-found count (Some i) h = left-run count i (omega (arith, h.1)) (λ k b. h.3 k (omega arith) b)

  -- a test of each row from i on
  pub all-from : (i n : ℕ) → list_all this (range_with_len i n) ≡ from i n
  all-from i zero = refl
  all-from i (suc n) =
      let m : i + 1 ≡ suc i = omega arith in
      ap (λ (b : Bool). this i && b) (all-from (i + 1) n ∙ ap (λ (x : ℕ). from x n) m)
