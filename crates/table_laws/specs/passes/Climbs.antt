-- Climbing a column of parents: from a row up to the first row that passes a test. Row 0 is the root, above which nothing stands.
use Rattle.std.specs.Prelude.{Bool, true, false, cond, List, ◌⊎◌, ◌≡◌, refl, ℕ, zero, suc, ◌<◌, T, eqb, get_or}
use Rattle.std.proofs.Common.{inl, inr, sym, subst, arith, eqb→eq}
use Rattle.std.proofs.Math.Dec.{eqb_refl}
use Rattle.text_laws.specs.Tests.{never, passed, failed}

-- ---- definitions
-- where a climb ends: at a row, with the number of rows from it up to the root; or past the root
pub data Climbed : Type 0 where
  stopped : ℕ → ℕ → Climbed
  nowhere : Climbed

-- the climb from a row from which there are `depth` rows up to the root, itself among them
abbrev pub climb : (ℕ → Bool) → List ℕ → ℕ → ℕ → Climbed
climb found parents row zero = nowhere
climb found parents row (suc depth) = cond (found row) (stopped row (suc depth)) (climb found parents (get_or parents row 0) depth)

-- there are so many rows from a row up to the root
pub data Line (parents : List ℕ) : ℕ → ℕ → Type 0 where
  root_line : Line parents 0 1
  next-line : {i d : ℕ} → Line parents (get_or parents (suc i) 0) d → Line parents (suc i) (suc d)

-- row p is the row itself or above it
pub data OnLine (parents : List ℕ) (p : ℕ) : ℕ → Type 0 where
  itself : OnLine parents p p
  higher : {i : ℕ} → OnLine parents p (get_or parents (suc i) 0) → OnLine parents p (suc i)

-- row p of a row's line passes a test, and has its own number of rows up to the root
pub record StoppedAt (found : ℕ → Bool) (parents : List ℕ) (row p e : ℕ) : Type 0 where
  pub passes : T (found p)
  pub on : OnLine parents p row
  pub line : Line parents p e

-- ---- laws
module _ {parents : List ℕ} where
  -- the number of rows up to the root is one number, and not 0
  pub line-once : {i d e : ℕ} → Line parents i d → Line parents i e → d ≡ e
  line-once root_line root_line = refl
  line-once (next-line l) (next-line m) = let h = line-once l m in cc

  pub line-some : {i d : ℕ} → Line parents i d → 0 < d
  line-some root_line = omega arith
  line-some (next-line l) = omega arith

  -- what is above the root is the root
  pub root-only : {p i : ℕ} → OnLine parents p i → i ≡ 0 → p ≡ 0
  root-only itself e = e
  root-only (higher o) e = never (cc)

  -- a row on a row's line is that row or on its parent's line
  pub line-cases : {p i : ℕ} → OnLine parents p i → (p ≡ i) ⊎ OnLine parents p (get_or parents i 0)
  line-cases itself = inl refl
  line-cases (higher o) = inr o

  pub line-above : {p q i : ℕ} → OnLine parents p q → OnLine parents q i → OnLine parents p i
  line-above o itself = o
  line-above o (higher u) = higher (line-above o u)

  module _ (found : ℕ → Bool) where
    -- a climb that stops does so at such a row
    pub climb-stopped : {row d : ℕ} → Line parents row d → (p e : ℕ) → climb found parents row d ≡ stopped p e → StoppedAt found parents row p e
    climb-stopped root_line p e q = pick (found 0) refl q
      where
        pick : (b : Bool) → found 0 ≡ b → cond b (stopped 0 1) nowhere ≡ stopped p e → StoppedAt found parents 0 p e
        pick true h s =
            let r : 0 ≡ p = cc in
            let k : 1 ≡ e = cc in
            subst (λ (x : ℕ). StoppedAt found parents 0 p x) k
            (subst (λ (x : ℕ). StoppedAt found parents 0 x 1) r (record { passes = passed h; on = itself; line = root_line }))
        pick false h s = never (cc)
    climb-stopped (next-line {i = i} {d = d} l) p e q = pick (found (suc i)) refl q (λ s. climb-stopped l p e s)
      where
        pick : (b : Bool) → found (suc i) ≡ b → cond b (stopped (suc i) (suc d)) (climb found parents (get_or parents (suc i) 0) d) ≡ stopped p e
            → (climb found parents (get_or parents (suc i) 0) d ≡ stopped p e → StoppedAt found parents (get_or parents (suc i) 0) p e) → StoppedAt found parents (suc i) p e
        pick true h s rest =
            let r : suc i ≡ p = cc in
            let k : suc d ≡ e = cc in
            subst (λ (x : ℕ). StoppedAt found parents (suc i) p x) k
            (subst (λ (x : ℕ). StoppedAt found parents (suc i) x (suc d)) r (record { passes = passed h; on = itself; line = next-line l }))
        pick false h s rest =
            let c = rest s in
            record { passes = c.passes; on = higher c.on; line = c.line }

    -- a climb that does not stop has passed each row of the line
    pub climb-nowhere : {row d : ℕ} → Line parents row d → climb found parents row d ≡ nowhere → (p : ℕ) → OnLine parents p row → T (found p) → ⊥
    climb-nowhere root_line q p o t = pick (found 0) refl q
      where
        pick : (b : Bool) → found 0 ≡ b → cond b (stopped 0 1) nowhere ≡ nowhere → ⊥
        pick true h s = never (cc)
        pick false h s = failed h (subst (λ (x : ℕ). T (found x)) (root-only o refl) t)
    climb-nowhere (next-line {i = i} {d = d} l) q p o t = pick (found (suc i)) refl q (line-cases o) (λ s u. climb-nowhere l s p u t)
      where
        pick : (b : Bool) → found (suc i) ≡ b → cond b (stopped (suc i) (suc d)) (climb found parents (get_or parents (suc i) 0) d) ≡ nowhere
            → (p ≡ suc i) ⊎ OnLine parents p (get_or parents (suc i) 0) → (climb found parents (get_or parents (suc i) 0) d ≡ nowhere → OnLine parents p (get_or parents (suc i) 0) → ⊥) → ⊥
        pick true h s u rest = never (cc)
        pick false h s (inl e) rest = failed h (subst (λ (x : ℕ). T (found x)) e t)
        pick false h s (inr u) rest = rest s u

    -- so it finds the one row of the line that passes the test
    pub climb-finds : {row d : ℕ} → Line parents row d → (p : ℕ) → OnLine parents p row → T (found p) → ((q : ℕ) → OnLine parents q row → T (found q) → q ≡ p)
        → (e : ℕ) × (climb found parents row d ≡ stopped p e) × Line parents p e
    climb-finds {row} {d} l p o t only = pick (climb found parents row d) refl
      where
        pick : (c : Climbed) → climb found parents row d ≡ c → (e : ℕ) × (climb found parents row d ≡ stopped p e) × Line parents p e
        pick nowhere s = absurd (climb-nowhere l s p o t)
        pick (stopped q e) s =
            let c = climb-stopped l q e s in
            let same : q ≡ p = only q c.on c.passes in
            (e, subst (λ (x : ℕ). climb found parents row d ≡ stopped x e) same s, subst (λ (x : ℕ). Line parents x e) same c.line)

  -- the climb to a row itself
  pub climb-to : {row d : ℕ} → Line parents row d → (p : ℕ) → OnLine parents p row → (e : ℕ) × (climb (eqb p) parents row d ≡ stopped p e) × Line parents p e
  climb-to l p o = climb-finds (eqb p) l p o (eqb_refl p) (λ q u t. sym (eqb→eq p q t))
