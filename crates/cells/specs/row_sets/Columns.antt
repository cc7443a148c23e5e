-- Sets of rows, and columns that have a mark for each row: 1 where the row is in the set, else 0.
use Rattle.std.specs.Prelude.{Bool, true, false, cond, ◌&&◌, ◌||◌, List, [], ◌∷◌, ◌≡◌, refl, ℕ, zero, suc, ◌<◌, eqb, length, get_or}
use Rattle.std.proofs.Common.{sym, ap, ◌∙◌, arith, ext_get_or}
use Rattle.text_laws.specs.Searches.{any_below_lem}
use Rattle.text_laws.specs.Tests.{failed, false_of}
use Rattle.text_spec.specs.Lists.{any_below}

-- ---- definitions
abbrev pub RowSet : Type 0
RowSet = ℕ → Bool

abbrev pub mark : Bool → ℕ
mark b = cond b 1 0

-- the rows that a column marks
abbrev pub is_marked : List ℕ → RowSet
is_marked m r = eqb (get_or m r 0) 1

-- the column of a set, for n rows
unfoldable pub marks : ℕ → RowSet → List ℕ
marks zero f = []
marks (suc n) f = mark (f 0) ∷ marks n (λ r. f (suc r))

-- a column that has nothing but marks
abbrev pub OnlyMarks : List ℕ → Type 0
OnlyMarks m = m ≡ marks (length m) (is_marked m)

-- the rows of either column, and those of both
unfoldable pub union : List ℕ → List ℕ → List ℕ
union m k = marks (length m) (λ r. is_marked m r || is_marked k r)

unfoldable pub intersection : List ℕ → List ℕ → List ℕ
intersection m k = marks (length m) (λ r. is_marked m r && is_marked k r)

-- what stands at the marked rows of a column
unfoldable pub picked : {A : Type 0} → List ℕ → List A → List A
picked m [] = []
picked [] (x ∷ xs) = []
picked (b ∷ m) (x ∷ xs) = cond (eqb b 1) (x ∷ picked m xs) (picked m xs)

-- ---- laws
pub mark-test : (b : Bool) → eqb (mark b) 1 ≡ b
mark-test true = refl
mark-test false = refl

pub marks-length : (n : ℕ) (f : RowSet) → length (marks n f) ≡ n
unfolding marks
marks-length zero f = refl
marks-length (suc n) f = ap suc (marks-length n (λ r. f (suc r)))

pub marks-at : (n : ℕ) (f : RowSet) (r : ℕ) → r < n → get_or (marks n f) r 0 ≡ mark (f r)
unfolding marks
marks-at zero f r l = absurd (omega arith)
marks-at (suc n) f zero l = refl
marks-at (suc n) f (suc r) l = marks-at n (λ q. f (suc q)) r (omega arith)

pub marks-marked : (n : ℕ) (f : RowSet) (r : ℕ) → r < n → is_marked (marks n f) r ≡ f r
marks-marked n f r l = ap (λ (x : ℕ). eqb x 1) (marks-at n f r l) ∙ mark-test (f r)

pub marks-cong : (n : ℕ) (f g : RowSet) → ((r : ℕ) → r < n → f r ≡ g r) → marks n f ≡ marks n g
unfolding marks
marks-cong zero f g h = refl
marks-cong (suc n) f g h =
    ap (λ (b : Bool). mark b ∷ marks n (λ r. f (suc r))) (h 0 (omega arith))
    ∙ ap (λ (l : List ℕ). mark (g 0) ∷ l) (marks-cong n (λ r. f (suc r)) (λ r. g (suc r)) (λ r l. h (suc r) (omega arith)))

-- a list that has a set's mark at each row is its column
pub marks-by-rows : (n : ℕ) (f : RowSet) (m : List ℕ) → length m ≡ n → ((r : ℕ) → r < n → get_or m r 0 ≡ mark (f r)) → m ≡ marks n f
marks-by-rows n f m e h =
    ext_get_or 0 m (marks n f) (e ∙ sym (marks-length n f)) (λ r l. let b : r < n = omega arith in h r b ∙ sym (marks-at n f r b))

pub only-marks : (n : ℕ) (f : RowSet) → OnlyMarks (marks n f)
only-marks n f = rw (marks-length n f) (marks-cong n f (is_marked (marks n f)) (λ r l. sym (marks-marked n f r l)))

-- the mark at a row of a column of marks
pub mark-at : (m : List ℕ) → OnlyMarks m → (r : ℕ) → r < length m → get_or m r 0 ≡ mark (is_marked m r)
mark-at m e r l = ap (λ (k : List ℕ). get_or k r 0) e ∙ marks-at (length m) (is_marked m) r l

-- a column with no marked row
pub no-row-marked : (m : List ℕ) → OnlyMarks m → any_below (length m) (is_marked m) ≡ false → m ≡ marks (length m) (λ r. false)
no-row-marked m h e =
    h ∙ marks-cong (length m) (is_marked m) (λ r. false) (λ r l. false_of (is_marked m r) (λ t. failed e (any_below_lem (length m) (is_marked m) r l t)))
