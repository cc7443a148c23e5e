-- The rows of a table that a set of names keeps, by the columns of codes and of parents.
use Rattle.std.specs.Prelude.{Bool, true, false, ◌&&◌, List, [], ◌∷◌, ◌≡◌, refl, ℕ, ◌+◌, ◌<◌, ◌≤◌, length, get_or, set}
use Rattle.std.proofs.Math.Bool.{and-true}
use Rattle.std.proofs.Math.Path.{sym}
use Rattle.std.proofs.Common.{ap, ap₂, ◌∙◌, arith, length-set, get_or-set_same}
use Rattle.std.specs.Int.Bits.{bit_and}
use Rattle.cells.specs.row_sets.Ancestors.{ancestors_of, root-ancestors, later-ancestors}
use Rattle.cells.specs.row_sets.Columns.{RowSet, mark, is_marked, marks, marks-length, marks-at, marks-marked, marks-cong}
use Rattle.cells.specs.row_sets.Loops.{Forward, forward-none, forward-next, forward-all, and-marks}
use Rattle.names.specs.Sets.{member}
use Rattle.names.specs.codes.Codes.{name_of_code}
use Rattle.names.specs.declared.NameSet.{NameSet}
use Rattle.table_laws.specs.Parents.{ParentsBefore}
use Rattle.text_spec.specs.Limits.{max_declarations, max_nodes}
use Rattle.text_spec.specs.Lists.{all_of}

-- ---- definitions
-- the codes of the names of a set
abbrev pub in_set : NameSet → ℕ → Bool
in_set t c = member t (name_of_code c)

-- how many codes there are
abbrev pub code_count : ℕ
code_count = max_declarations + max_declarations

-- the code of row r, and those of all rows above it, pass
unfoldable pub is_kept : (ℕ → Bool) → List ℕ → List ℕ → RowSet
is_kept f codes ps r = f (get_or codes r 0) && all_of (λ q. f (get_or codes q 0)) (ancestors_of ps r)

unfoldable pub kept_marks : (ℕ → Bool) → List ℕ → List ℕ → List ℕ
kept_marks f codes ps = marks (length ps) (is_kept f codes ps)

-- ---- a row is kept exactly if its code passes and its parent's row is kept
pub kept-root : (f : ℕ → Bool) (codes ps : List ℕ) → is_kept f codes ps 0 ≡ f (get_or codes 0 0)
unfolding is_kept
kept-root f codes ps = ap (λ (l : List ℕ). f (get_or codes 0 0) && all_of (λ q. f (get_or codes q 0)) l) (root-ancestors ps) ∙ and-true (f (get_or codes 0 0))

pub kept-later : (f : ℕ → Bool) (codes ps : List ℕ) → ParentsBefore ps → (r : ℕ) → 0 < r → r < length ps → is_kept f codes ps r ≡ (f (get_or codes r 0) && is_kept f codes ps (get_or ps r 0))
unfolding is_kept
kept-later f codes ps before r p l =
    ap (λ (k : List ℕ). f (get_or codes r 0) && all_of (λ q. f (get_or codes q 0)) k) (later-ancestors ps before r p l)

-- ---- the passes
-- the columns of codes and parents of a table
pub record KeptColumns (codes ps : List ℕ) : Type 0 where
  pub before : ParentsBefore ps
  pub coded : (r : ℕ) → get_or codes r 0 < code_count
  pub size : length codes ≡ length ps
  pub few : length ps ≤ max_nodes

-- with room for a cell for each row
pub record KeptPass (codes ps out : List ℕ) : Type 0 where
  pub columns : KeptColumns codes ps
  pub room : length out ≡ length ps

-- a column whose first row is done
pub pass-first : (codes ps was : List ℕ) (x : ℕ) → KeptPass codes ps was → KeptPass codes ps (set was 0 x)
pass-first codes ps was x h = record { columns = h.columns; room = length-set was 0 x ∙ h.room }

pub forward-first : (goal was : List ℕ) (x : ℕ) → 0 < length was → x ≡ get_or goal 0 0 → Forward goal (set was 0 x) 1 (set was 0 x)
forward-first goal was x l e =
    record {
      within = omega (arith, length-set was 0 x);
      size = refl;
      rows = record { done = λ k b. (let z : k ≡ 0 = omega arith in rw z (get_or-set_same was 0 x 0 l ∙ e)); kept = λ k b. refl };
    }

-- the marks of codes in a table of all codes
pub code-mark : (f : ℕ → Bool) (table : List ℕ) (c : ℕ) → table ≡ marks code_count f → c < code_count → get_or table c 0 ≡ mark (f c)
code-mark f table c e l = ap (λ (t : List ℕ). get_or t c 0) e ∙ marks-at code_count f c l

pub code-mark-small : (f : ℕ → Bool) (table : List ℕ) (c : ℕ) → table ≡ marks code_count f → c < code_count → get_or table c 0 < 2
code-mark-small f table c e l = rw (code-mark f table c e l) (pick (f c))
  where
    pick : (b : Bool) → mark b < 2
    pick true = omega arith
    pick false = omega arith

-- the codes that a table marks are those of the set that it was made of
pub table-marks : (f : ℕ → Bool) (table : List ℕ) → table ≡ marks code_count f → table ≡ marks code_count (is_marked table)
table-marks f table e =
    e ∙ marks-cong code_count f (is_marked table) (λ c l. sym (ap (λ (t : List ℕ). is_marked t c) e ∙ marks-marked code_count f c l))

all-cong : (f g : ℕ → Bool) (qs : List ℕ) → ((q : ℕ) → f q ≡ g q) → all_of f qs ≡ all_of g qs
all-cong f g [] h = refl
all-cong f g (q ∷ qs) h = ap₂ ◌&&◌ (h q) (all-cong f g qs h)

pub kept_table : (f : ℕ → Bool) (table codes ps : List ℕ) → table ≡ marks code_count f → KeptColumns codes ps
    → kept_marks (is_marked table) codes ps ≡ kept_marks f codes ps
unfolding kept_marks is_kept
kept_table f table codes ps e h =
    marks-cong (length ps) (is_kept (is_marked table) codes ps) (is_kept f codes ps)
    (λ r l. ap₂ ◌&&◌ (same r) (all-cong (λ q. is_marked table (get_or codes q 0)) (λ q. f (get_or codes q 0)) (ancestors_of ps r) same))
  where
    same : (r : ℕ) → is_marked table (get_or codes r 0) ≡ f (get_or codes r 0)
    same r = ap (λ (t : List ℕ). is_marked t (get_or codes r 0)) e ∙ marks-marked code_count f (get_or codes r 0) (h.coded r)

-- one code more
pub codes-next : (f : ℕ → Bool) (was : List ℕ) (c : ℕ) (out : List ℕ) (b : Bool) (x : ℕ) → c < code_count → Forward (marks code_count f) was c out
    → x ≡ mark b → b ≡ f c → length was ≡ code_count → Forward (marks code_count f) was (c + 1) (set out c x)
codes-next f was c out b x l w e d z =
    forward-next (marks code_count f) was c out x w (omega (arith, w.size)) (e ∙ ap mark d ∙ sym (marks-at code_count f c l))

module _ (f : ℕ → Bool) (codes ps was : List ℕ) (h : KeptPass codes ps was) where
  pub kept-length : length was ≡ length (kept_marks f codes ps)
  unfolding kept_marks
  kept-length = h.room ∙ sym (marks-length (length ps) (is_kept f codes ps))

  kept_at : (r : ℕ) → r < length ps → get_or (kept_marks f codes ps) r 0 ≡ mark (is_kept f codes ps r)
  unfolding kept_marks
  kept_at r l = marks-at (length ps) (is_kept f codes ps) r l

  module _ (table : List ℕ) (e : table ≡ marks code_count f) where
    pub kept-begun : 0 < length was → Forward (kept_marks f codes ps) (set was 0 (get_or table (get_or codes 0 0) 0)) 1 (set was 0 (get_or table (get_or codes 0 0) 0))
    kept-begun l =
        forward-first (kept_marks f codes ps) was _ l
        (code-mark f table (get_or codes 0 0) e (h.columns.coded 0) ∙ ap mark (sym (kept-root f codes ps)) ∙ sym (kept_at 0 (omega (arith, h.room))))

    pub kept_next : (r : ℕ) (out : List ℕ) → 0 < r → r < length out → Forward (kept_marks f codes ps) was r out
        → Forward (kept_marks f codes ps) was (r + 1) (set out r (bit_and (get_or table (get_or codes r 0) 0) (get_or out (get_or ps r 0) 0)))
    kept_next r out p l w =
        let b : r < length ps = omega (arith, w.size, h.room) in
        let u : get_or ps r 0 < r = h.columns.before r p b in
        forward-next (kept_marks f codes ps) was r out _ w l
        (ap₂ bit_and (code-mark f table (get_or codes r 0) e (h.columns.coded r)) (w.rows.done (get_or ps r 0) u ∙ kept_at (get_or ps r 0) (omega arith))
        ∙ and-marks (f (get_or codes r 0)) (is_kept f codes ps (get_or ps r 0)) ∙ ap mark (sym (kept-later f codes ps h.columns.before r p b)) ∙ sym (kept_at r b))

    pub kept-all : (r : ℕ) (out : List ℕ) → Forward (kept_marks f codes ps) was r out → length out ≤ r → out ≡ kept_marks f codes ps
    kept-all r out w l = forward-all (kept_marks f codes ps) was r out kept-length w l

  -- an empty table
  pub kept-none : length was ≡ 0 → was ≡ kept_marks f codes ps
  kept-none e = forward-all (kept_marks f codes ps) was 0 was kept-length (forward-none (kept_marks f codes ps) was) (omega arith)
