-- What stands at marked rows, written row by row into lent cells.
use Rattle.std.specs.Prelude.{Bool, true, false, cond, List, [], ◌∷◌, ◌++◌, ◌≡◌, refl, ℕ, zero, suc, ◌+◌, ◌*◌, ◌<◌, ◌≤◌, eqb, length, get_or, take}
use Rattle.std.proofs.Common.{append-nil, ⊎_elim, sym, ap, ◌∙◌, eq-or-lt_of_le, add-one, arith, length-append, take_all}
use Rattle.std.proofs.Math.ListN.{get_or-append}
use Rattle.std.proofs.Math.Seq.{get_or-append_seam}
pub use Rattle.cells.specs.lent.Cells.{Cleared}
use Rattle.cells.specs.lent.Appended.{written, written-length, written-other, written_same, Appended}
use Rattle.cells.specs.row_sets.Columns.{mark, is_marked, OnlyMarks, picked, mark-at}
use Rattle.text_spec.specs.Limits.{max_nodes, max_paths}

nothing-picked : (xs : List ℕ) → picked [] xs ≡ []
unfolding picked
nothing-picked [] = refl
nothing-picked (x ∷ xs) = refl

-- one row more
picked_more : (m xs : List ℕ) (r : ℕ) → r < length m → length m ≡ length xs
    → picked (take (suc r) m) xs ≡ picked (take r m) xs ++ cond (is_marked m r) (get_or xs r 0 ∷ []) []
unfolding picked
picked_more [] xs r l e = absurd (omega arith)
picked_more (b ∷ m) [] r l e = absurd (omega arith)
picked_more (b ∷ m) (x ∷ xs) zero l e = first (eqb b 1)
  where
    first : (t : Bool) → cond t (x ∷ picked [] xs) (picked [] xs) ≡ cond t (x ∷ []) []
    first true = ap (λ (l : List ℕ). x ∷ l) (nothing-picked xs)
    first false = nothing-picked xs
picked_more (b ∷ m) (x ∷ xs) (suc r) l e = pick (eqb b 1) (picked_more m xs r (omega arith) (omega arith))
  where
    tail : List ℕ
    tail = cond (is_marked m r) (get_or xs r 0 ∷ []) []

    pick : (t : Bool) → picked (take (suc r) m) xs ≡ picked (take r m) xs ++ tail
        → cond t (x ∷ picked (take (suc r) m) xs) (picked (take (suc r) m) xs) ≡ cond t (x ∷ picked (take r m) xs) (picked (take r m) xs) ++ tail
    pick true h = ap (λ (l : List ℕ). x ∷ l) h
    pick false h = h

-- ---- numbers appended
-- what appending asks: the sums fit
pub record AppendPass (numbers m : List ℕ) (at : ℕ) : Type 0 where
  pub marked : OnlyMarks m
  pub size : length m ≡ length numbers
  pub few : length m ≤ max_nodes
  pub low : at ≤ max_paths * max_nodes

-- and there is a cell for each row
pub record RoomPass (numbers m out : List ℕ) (at : ℕ) : Type 0 where
  pub pass : AppendPass numbers m at
  pub room : at + length m ≤ length out

-- r rows behind the loop
pub record Appending (m xs was : List ℕ) (at r n : ℕ) (out : List ℕ) : Type 0 where
  pub within : r ≤ length m
  pub few : n ≤ at + r
  pub so_far : Appended was at (picked (take r m) xs) n out

pub appending-none : (m xs was : List ℕ) (at : ℕ) → Appending m xs was at 0 at was
appending-none m xs was at =
    record {
      within = omega arith;
      few = omega arith;
      so_far = record {
        long = refl;
        count = omega (arith, ap length (nothing-picked xs));
        kept = λ k l. refl;
        cells = λ k l b. absurd (omega (arith, ap length (nothing-picked xs)));
      };
    }

module _ (m xs was : List ℕ) (at : ℕ) (h : AppendPass xs m at) (r n : ℕ) (out : List ℕ) (w : Appending m xs was at r n out) (l : r < length m) where
  pub appending-next : (x : List ℕ) → x ≡ written out n (get_or xs r 0) → Appending m xs was at (r + 1) (n + get_or m r 0) x
  appending-next x e = by (is_marked m r) refl
    where
      before : List ℕ
      before = picked (take r m) xs

      one : get_or m r 0 ≡ mark (is_marked m r)
      one = mark-at m h.marked r l

      now-picked : picked (take (r + 1) m) xs ≡ before ++ cond (is_marked m r) (get_or xs r 0 ∷ []) []
      now-picked = ap (λ (k : ℕ). picked (take k m) xs) (add-one r) ∙ picked_more m xs r l h.size

      long : length x ≡ length was
      long = ap length e ∙ written-length out n (get_or xs r 0) ∙ w.so_far.long

      count : n ≡ at + length before
      count = w.so_far.count

      kept : (k : ℕ) → k < at → get_or x k 0 ≡ get_or was k 0
      kept k b = ap (λ (o : List ℕ). get_or o k 0) e ∙ written-other out n (get_or xs r 0) k (omega (arith, count)) ∙ w.so_far.kept k b

      old : (k : ℕ) → k < length before → at + k < length was → get_or x (at + k) 0 ≡ get_or before k 0
      old k a b = ap (λ (o : List ℕ). get_or o (at + k) 0) e ∙ written-other out n (get_or xs r 0) (at + k) (omega (arith, count)) ∙ w.so_far.cells k a b

      by : (t : Bool) → is_marked m r ≡ t → Appending m xs was at (r + 1) (n + get_or m r 0) x
      by true q =
          let more : picked (take (r + 1) m) xs ≡ before ++ (get_or xs r 0 ∷ []) = now-picked ∙ ap (λ (b : Bool). before ++ cond b (get_or xs r 0 ∷ []) []) q in
          let c : get_or m r 0 ≡ 1 = one ∙ ap mark q in
          record {
            within = omega arith;
            few = omega (arith, w.few);
            so_far = record {
              long = long;
              count = omega (arith, count, ap length more, length-append before (get_or xs r 0 ∷ []));
              kept = kept;
              cells = λ k a b.
                  ⊎_elim (λ z. (let g : k ≡ length before = omega (arith, z) in
                  let f : at + k ≡ n = omega (arith, count) in
                  ap (λ (o : List ℕ). get_or o (at + k) 0) e ∙ ap (λ (i : ℕ). get_or (written out n (get_or xs r 0)) i 0) f
                  ∙ written_same out n (get_or xs r 0) (omega (arith, w.so_far.long, f))
                  ∙ sym (ap (λ (i : ℕ). get_or (before ++ (get_or xs r 0 ∷ [])) i 0) g ∙ get_or-append_seam before (get_or xs r 0) [] 0)))
                  (λ z. (let g : k < length before = omega arith in
                  old k g b ∙ sym (get_or-append before (get_or xs r 0 ∷ []) 0 k g)))
                  (eq-or-lt_of_le {n = suc k} {m = length before + 1} (omega (arith, ap length more, length-append before (get_or xs r 0 ∷ []))))
                  ∙ sym (ap (λ (o : List ℕ). get_or o k 0) more);
            };
          }
      by false q =
          let more : picked (take (r + 1) m) xs ≡ before = now-picked ∙ ap (λ (b : Bool). before ++ cond b (get_or xs r 0 ∷ []) []) q ∙ append-nil before in
          let c : get_or m r 0 ≡ 0 = one ∙ ap mark q in
          record {
            within = omega arith;
            few = omega (arith, w.few);
            so_far = record {
              long = long;
              count = omega (arith, count, ap length more);
              kept = kept;
              cells = λ k a b. old k (omega (arith, ap length more)) b ∙ sym (ap (λ (o : List ℕ). get_or o k 0) more);
            };
          }

pub appending-all : (m xs was : List ℕ) (at r n : ℕ) (out : List ℕ) → Appending m xs was at r n out → length m ≤ r → Appended was at (picked m xs) n out
appending-all m xs was at r n out w l = rw (← whole) w.so_far
  where
    whole : picked (take r m) xs ≡ picked m xs
    whole = ap (λ (k : List ℕ). picked k xs) (take_all r m l)

pub mark-small : (m : List ℕ) → OnlyMarks m → (r : ℕ) → r < length m → get_or m r 0 < 2
mark-small m h r l = rw (mark-at m h r l) (by (is_marked m r))
  where
    by : (b : Bool) → mark b < 2
    by true = omega arith
    by false = omega arith
