-- The position of each kept row among the kept ones, counted from 1; 0 where a row is not kept.
use Rattle.std.specs.Prelude.{Bool, true, false, cond, not, ◌&&◌, ◌≡◌, refl, eqb, length, get_or, set}
use Rattle.std.proofs.Math.Bool.{and-false}
use mathlib.Core.List.{List, [], ◌∷◌}
use Rattle.std.proofs.Math.Path.{sym}
use Rattle.std.proofs.Common.{ap, ap₂, subst, ◌∙◌, arith, eq-eqb, ne_eqb}
use Prim.Native.Nat.{ℕ, zero, suc, ◌+◌, ◌<◌, ◌≤◌, max}
use Rattle.cells.specs.row_sets.Columns.{is_marked, marks, mark-test, marks-length, marks-marked}
use Rattle.cells.specs.row_sets.Loops.{Forward, forward-none, forward-next, forward-all}
use Rattle.kept_rows.specs.Joined.{rank, total-none, total-marked, total-unmarked, total-bound}
use Rattle.kept_rows.specs.Kept.{is_kept, kept_marks, kept-root, kept-later, KeptPass, code_count, code-mark, forward-first}
use Rattle.text_spec.specs.Limits.{max_nodes}

-- ---- definitions
-- a column of n cells by their rows
unfoldable pub column : ℕ → (ℕ → ℕ) → List ℕ
column zero f = []
column (suc n) f = f 0 ∷ column n (λ r. f (suc r))

abbrev pub position_of : List ℕ → ℕ → ℕ
position_of m r = cond (is_marked m r) (rank m r + 1) 0

unfoldable pub positions : List ℕ → List ℕ
positions m = column (length m) (position_of m)

-- the next position, of a row whose name and whose parent's row are kept
unfoldable pub next_position : ℕ → ℕ → ℕ → ℕ
next_position named above n = cond (eqb named 1 && not (eqb above 0)) (n + 1) 0

-- ---- laws
pub column-length : (n : ℕ) (f : ℕ → ℕ) → length (column n f) ≡ n
unfolding column
column-length zero f = refl
column-length (suc n) f = ap suc (column-length n (λ r. f (suc r)))

pub column-at : (n : ℕ) (f : ℕ → ℕ) (r : ℕ) → r < n → get_or (column n f) r 0 ≡ f r
unfolding column
column-at zero f r l = absurd (omega arith)
column-at (suc n) f zero l = refl
column-at (suc n) f (suc r) l = column-at n (λ q. f (suc q)) r (omega arith)

pub positions-length : (m : List ℕ) → length (positions m) ≡ length m
unfolding positions
positions-length m = column-length (length m) (position_of m)

pub positions-at : (m : List ℕ) (r : ℕ) → r < length m → get_or (positions m) r 0 ≡ position_of m r
unfolding positions
positions-at m r l = column-at (length m) (position_of m) r l

pub position-unnamed : (named above n : ℕ) → (named ≡ 1 → ⊥) → 0 ≡ next_position named above n
unfolding next_position
position-unnamed named above n d = sym (ap (λ (b : Bool). cond (b && not (eqb above 0)) (n + 1) 0) (ne_eqb named 1 d))

pub position-cut : (named above n : ℕ) → above ≡ 0 → 0 ≡ next_position named above n
unfolding next_position
position-cut named above n e =
    sym (ap (λ (b : Bool). cond (eqb named 1 && not b) (n + 1) 0) (eq-eqb above 0 e) ∙ ap (λ (b : Bool). cond b (n + 1) 0) (and-false (eqb named 1)))

pub position-given : (named above n : ℕ) → named ≡ 1 → (above ≡ 0 → ⊥) → n + 1 ≡ next_position named above n
unfolding next_position
position-given named above n e d = sym (ap₂ (λ (a b : Bool). cond (a && not b) (n + 1) 0) (eq-eqb named 1 e) (ne_eqb above 0 d))

-- a position says whether the row is marked, and where it stands
pub position-marked : (m : List ℕ) (r : ℕ) → (position_of m r ≡ 0 → ⊥) → is_marked m r ≡ true
position-marked m r d = pick (is_marked m r) d
  where
    pick : (b : Bool) → (cond b (rank m r + 1) 0 ≡ 0 → ⊥) → b ≡ true
    pick true h = refl
    pick false h = absurd (h refl)

pub position-unmarked : (m : List ℕ) (r : ℕ) → position_of m r ≡ 0 → is_marked m r ≡ false
position-unmarked m r e = pick (is_marked m r) e
  where
    pick : (b : Bool) → cond b (rank m r + 1) 0 ≡ 0 → b ≡ false
    pick true h = absurd (omega arith)
    pick false h = refl

pub marked-position : (m : List ℕ) (r : ℕ) → is_marked m r ≡ true → position_of m r ≡ rank m r + 1
marked-position m r e = ap (λ (b : Bool). cond b (rank m r + 1) 0) e

pub rank-bound : (m : List ℕ) (r : ℕ) → rank m r ≤ r
rank-bound m r = let h = total-bound (λ q. 1) m 1 r (λ q l. omega arith) in omega arith

-- a test on a position is the mark
pub nonzero-position : (m : List ℕ) (r : ℕ) → not (eqb (position_of m r) 0) ≡ is_marked m r
nonzero-position m r = pick (is_marked m r)
  where
    pick : (b : Bool) → not (eqb (cond b (rank m r + 1) 0) 0) ≡ b
    pick true = ap not (ne_eqb (rank m r + 1) 0 (λ e. omega arith))
    pick false = refl

-- the count goes on with a position that is given
rank-next : (m : List ℕ) (r n : ℕ) → n ≡ rank m r → rank m (r + 1) ≡ max n (position_of m r)
rank-next m r n e = pick (is_marked m r) refl
  where
    pick : (b : Bool) → is_marked m r ≡ b → rank m (r + 1) ≡ max n (cond b (rank m r + 1) 0)
    pick true q = omega (arith, total-marked (λ k. 1) m r q)
    pick false q = omega (arith, total-unmarked (λ k. 1) m r q)

-- ---- the pass
-- r rows behind it, of which n are kept
pub record Numbering (m was : List ℕ) (r n : ℕ) (out : List ℕ) : Type 0 where
  pub forward : Forward (positions m) was r out
  pub counted : n ≡ rank m r

-- what it leaves: the positions, and how many rows are kept
pub record Numbered (m : List ℕ) (n : ℕ) (out : List ℕ) : Type 0 where
  pub cells : out ≡ positions m
  pub counted : n ≡ rank m (length m)

pub numbering-none : (m was : List ℕ) → Numbering m was 0 0 was
numbering-none m was = record { forward = forward-none (positions m) was; counted = sym (total-none (λ q. 1) m) }

numbering-more : (m was : List ℕ) → length was ≡ length m → (r n : ℕ) (out : List ℕ) (x : ℕ) → Numbering m was r n out → r < length out → x ≡ position_of m r
    → Numbering m was (r + 1) (max n x) (set out r x)
numbering-more m was e r n out x w l q =
    record {
      forward = forward-next (positions m) was r out x w.forward l (q ∙ sym (positions-at m r (omega (arith, w.forward.size))));
      counted = ap (λ (y : ℕ). max n y) q ∙ sym (rank-next m r n w.counted);
    }

pub numbering-all : (m was : List ℕ) → length was ≡ length m → (r n : ℕ) (out : List ℕ) → Numbering m was r n out → length out ≤ r → Numbered m n out
numbering-all m was e r n out w l =
    let z : r ≡ length m = omega (arith, w.forward.size, w.forward.within) in
    record { cells = forward-all (positions m) was r out (e ∙ sym (positions-length m)) w.forward l; counted = w.counted ∙ ap (rank m) z }

pub numbered-same : (m k : List ℕ) (n : ℕ) (out : List ℕ) → m ≡ k → Numbered m n out → Numbered k n out
numbered-same m k n out e w = subst (λ (x : List ℕ). Numbered x n out) e w

module _ (f : ℕ → Bool) (codes ps was : List ℕ) (h : KeptPass codes ps was) where
  pub kept-size : length was ≡ length (kept_marks f codes ps)
  unfolding kept_marks
  kept-size = h.room ∙ sym (marks-length (length ps) (is_kept f codes ps))

  kept-marked : (r : ℕ) → r < length ps → is_marked (kept_marks f codes ps) r ≡ is_kept f codes ps r
  unfolding kept_marks
  kept-marked r l = marks-marked (length ps) (is_kept f codes ps) r l

  pub numbering-few : (r n : ℕ) (out : List ℕ) → Numbering (kept_marks f codes ps) was r n out → r < length out → n < max_nodes
  numbering-few r n out w l = omega (arith, w.counted, w.forward.size, h.room, h.columns.few, rank-bound (kept_marks f codes ps) r)

  pub numbered-none : length was ≡ 0 → Numbered (kept_marks f codes ps) 0 was
  numbered-none e = numbering-all (kept_marks f codes ps) was kept-size 0 0 was (numbering-none (kept_marks f codes ps) was) (omega arith)

  module _ (table : List ℕ) (e : table ≡ marks code_count f) where
    pub numbering-begun : 0 < length was
        → Numbering (kept_marks f codes ps) (set was 0 (get_or table (get_or codes 0 0) 0)) 1 (get_or table (get_or codes 0 0) 0) (set was 0 (get_or table (get_or codes 0 0) 0))
    numbering-begun l =
        record {
          forward = forward-first (positions m) was x l (first ∙ sym (positions-at m 0 (omega (arith, kept-size))));
          counted = omega (arith, first, rank-next m 0 0 (sym (total-none (λ q. 1) m)));
        }
      where
        m : List ℕ
        m = kept_marks f codes ps

        x : ℕ
        x = get_or table (get_or codes 0 0) 0

        first : x ≡ position_of m 0
        first =
            code-mark f table (get_or codes 0 0) e (h.columns.coded 0)
            ∙ sym (ap (λ (b : Bool). cond b (rank m 0 + 1) 0) (kept-marked 0 (omega (arith, h.room)) ∙ kept-root f codes ps)
            ∙ ap (λ (k : ℕ). cond (f (get_or codes 0 0)) (k + 1) 0) (total-none (λ q. 1) m))

    numbering-next : (r n : ℕ) (out : List ℕ) (x : ℕ) → 0 < r → r < length out → Numbering (kept_marks f codes ps) was r n out
        → x ≡ next_position (get_or table (get_or codes r 0) 0) (get_or out (get_or ps r 0) 0) n
        → Numbering (kept_marks f codes ps) was (r + 1) (max n x) (set out r x)
    unfolding next_position
    numbering-next r n out x p l w q = numbering-more m was kept-size r n out x w l (q ∙ next)
      where
        m : List ℕ
        m = kept_marks f codes ps

        inside : r < length ps
        inside = omega (arith, w.forward.size, h.room)

        up : get_or ps r 0 < r
        up = h.columns.before r p inside

        above : get_or out (get_or ps r 0) 0 ≡ position_of m (get_or ps r 0)
        above = w.forward.rows.done (get_or ps r 0) up ∙ positions-at m (get_or ps r 0) (omega (arith, up, kept-size, w.forward.size))

        named : eqb (get_or table (get_or codes r 0) 0) 1 ≡ f (get_or codes r 0)
        named = ap (λ (k : ℕ). eqb k 1) (code-mark f table (get_or codes r 0) e (h.columns.coded r)) ∙ mark-test (f (get_or codes r 0))

        parted : not (eqb (get_or out (get_or ps r 0) 0) 0) ≡ is_kept f codes ps (get_or ps r 0)
        parted = ap (λ (k : ℕ). not (eqb k 0)) above ∙ nonzero-position m (get_or ps r 0) ∙ kept-marked (get_or ps r 0) (omega (arith, up, inside))

        next : next_position (get_or table (get_or codes r 0) 0) (get_or out (get_or ps r 0) 0) n ≡ position_of m r
        next =
            ap₂ (λ (a b : Bool). cond (a && b) (n + 1) 0) named parted
            ∙ ap (λ (b : Bool). cond b (n + 1) 0) (sym (kept-later f codes ps h.columns.before r p inside) ∙ sym (kept-marked r inside))
            ∙ ap (λ (k : ℕ). cond (is_marked m r) (k + 1) 0) w.counted

    pub numbering-again : (r n : ℕ) (out : List ℕ) → 0 < r → r < length out → Numbering (kept_marks f codes ps) was r n out → (x k : ℕ)
        → x ≡ next_position (get_or table (get_or codes r 0) 0) (get_or out (get_or ps r 0) 0) n → k ≡ max n x → Numbering (kept_marks f codes ps) was (r + 1) k (set out r x)
    numbering-again r n out p l w x k q d = rw d (numbering-next r n out x p l w q)
