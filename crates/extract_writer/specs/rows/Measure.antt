-- How many bytes and rows the marked rows of a table have: measured before they are written.
use Rattle.std.specs.Prelude.{Bool, true, false, cond, List, ◌≡◌, ℕ, ◌+◌, ◌*◌, ◌<◌, ◌≤◌, eqb, ltb, length}
use Rattle.std.proofs.Math.Path.{sym, ap}
use Rattle.std.proofs.Common.{◌∙◌, add-one, arith, eq-eqb, ne_eqb}
use Rattle.std.proofs.Math.ListN.{get_or}
use Rattle.cells.specs.row_sets.Columns.{mark, is_marked, OnlyMarks, mark-at}
use Rattle.extract_writer.specs.rows.Rows.{field_size}
use Rattle.kept_rows.specs.Joined.{total, rank, total-none}
use Rattle.kept_rows.specs.Positions.{rank-bound}
use Rattle.text_spec.specs.Limits.{max_declarations, max_nodes}

abbrev pub sizes_in : List ℕ → List ℕ → ℕ → ℕ
sizes_in codes decoded r = field_size (get_or codes r 0) (get_or decoded r 0)

-- the size of a row's field, if its mark is set
unfoldable pub marked_size : ℕ → ℕ → ℕ → ℕ
marked_size mark code size = cond (eqb mark 1) (field_size code size) 0

pub size-marked : (mark code size : ℕ) → mark ≡ 1 → field_size code size ≡ marked_size mark code size
unfolding marked_size
size-marked mark code size e = sym (ap (λ (b : Bool). cond b (field_size code size) 0) (eq-eqb mark 1 e))

pub size-unmarked : (mark code size : ℕ) → (mark ≡ 1 → ⊥) → 0 ≡ marked_size mark code size
unfolding marked_size
size-unmarked mark code size d = sym (ap (λ (b : Bool). cond b (field_size code size) 0) (ne_eqb mark 1 d))

-- a field has no more bytes than the head of a text's and as many as a length can say
abbrev pub most_bytes : ℕ
most_bytes = 65543

pub marked-bound : (mark code size n : ℕ) → n ≡ marked_size mark code size → size < 65536 → n ≤ most_bytes
unfolding marked_size field_size
marked-bound mark code size n e l = rw e (pick (eqb mark 1) (ltb code max_declarations))
  where
    pick : (a b : Bool) → cond a (cond b 8 (7 + size)) 0 ≤ most_bytes
    pick true true = omega arith
    pick true false = omega arith
    pick false b = omega arith

pub record MeasurePass (codes decoded m : List ℕ) : Type 0 where
  pub marked : OnlyMarks m
  pub few : length m ≤ max_nodes
  pub names : length codes ≡ length m
  pub sizes : length decoded ≡ length m

-- r rows behind
pub record Measuring (codes decoded m : List ℕ) (r bytes rows : ℕ) : Type 0 where
  pub within : r ≤ length m
  pub bytes-are : bytes ≡ total (sizes_in codes decoded) m r
  pub rows_are : rows ≡ rank m r
  pub low : bytes ≤ r * most_bytes

pub record MeasuredAs (codes decoded m : List ℕ) (bytes rows : ℕ) : Type 0 where
  pub bytes-are : bytes ≡ total (sizes_in codes decoded) m (length m)
  pub rows_are : rows ≡ rank m (length m)

module _ (codes decoded m : List ℕ) where
  pub measuring-none : Measuring codes decoded m 0 0 0
  measuring-none =
      record { within = omega arith; bytes-are = sym (total-none (sizes_in codes decoded) m); rows_are = sym (total-none (λ q. 1) m); low = omega arith }

  module _ (h : MeasurePass codes decoded m) (r bytes rows : ℕ) (w : Measuring codes decoded m r bytes rows) (l : r < length m) where
    pub rows_few : rows ≤ r
    rows_few = omega (arith, w.rows_are, rank-bound m r)

    pub mark-low : get_or m r 0 < 2
    mark-low = rw (mark-at m h.marked r l) (pick (is_marked m r))
      where
        pick : (b : Bool) → mark b < 2
        pick true = omega arith
        pick false = omega arith

    pub measuring-next : (n : ℕ) → n ≡ marked_size (get_or m r 0) (get_or codes r 0) (get_or decoded r 0) → n ≤ most_bytes
        → Measuring codes decoded m (r + 1) (bytes + n) (rows + get_or m r 0)
    unfolding marked_size total
    measuring-next n e b =
        record {
          within = omega arith;
          bytes-are = ap (λ (k : ℕ). k + n) w.bytes-are ∙ ap (λ (k : ℕ). total (sizes_in codes decoded) m r + k) e ∙ sym (ap (total (sizes_in codes decoded) m) (add-one r));
          rows_are =
              ap (λ (k : ℕ). k + get_or m r 0) w.rows_are ∙ ap (λ (k : ℕ). rank m r + k) (mark-at m h.marked r l) ∙ sym (ap (rank m) (add-one r));
          low = omega (arith, w.low);
        }

  pub measured : (r bytes rows : ℕ) → Measuring codes decoded m r bytes rows → length m ≤ r → MeasuredAs codes decoded m bytes rows
  measured r bytes rows w l =
      let z : r ≡ length m = omega (arith, w.within) in
      record { bytes-are = w.bytes-are ∙ ap (total (sizes_in codes decoded) m) z; rows_are = w.rows_are ∙ ap (rank m) z }
