-- The open elements of a table: from a row up to the root, each an element that its parent holds.
use Rattle.std.specs.Prelude.{List, ◌⊎◌, ◌≡◌, refl, ℕ, suc, ◌≤◌, T, get_or}
use Rattle.std.proofs.Common.{inl, inr, ⊎_elim, sym, ap, subst, ◌∙◌, arith}
use Rattle.schema_spec.specs.Names.{Name, element, text}
use Rattle.schema_spec.specs.Types.{Types}
use Rattle.table_laws.specs.passes.Climbs.{Line, root_line, next-line, OnLine, itself, higher, root-only, line-cases}
use Rattle.table_laws.specs.passes.Codes.{Coded}
use Rattle.table_spec.specs.Columns.{Columns, cells_at}
use Rattle.table_spec.specs.Conditions.{RowAt, RowAbove, DepthAt, root-depth, element-depth, text-depth}
use Rattle.table_spec.specs.Conditions as Conditions
use Rattle.table_spec.specs.Nodes.{deeper}
use Rattle.table_spec.specs.Rows.{Row, Cells, cells_of}
use Rattle.text_laws.specs.Tests.{never}

-- the cells of row i are this row's
pub record Stands (c : Columns) (i : ℕ) (r : Row) : Type 0 where
  pub cells : cells_at c i ≡ cells_of r
  pub coded : Coded r.name

pub parent-cell : {c : Columns} {i : ℕ} {r : Row} → Stands c i r → get_or c.parents i 0 ≡ r.parent
parent-cell h = ap (λ (x : Cells). x.parent) h.cells

-- a row above another is on its line
pub above-on-line : {rows : List Row} (c : Columns) → ((i : ℕ) (r : Row) → RowAt rows i r → Stands c i r) → {p i : ℕ} → RowAbove rows p i → OnLine c.parents p i
above-on-line c stands (Conditions.parent {i = i} {r = r} g) =
    higher (subst (OnLine c.parents r.parent) (sym (parent-cell (stands (suc i) r g))) itself)
above-on-line c stands {p} (Conditions.higher {i = i} {r = r} g a) =
    higher (subst (OnLine c.parents p) (sym (parent-cell (stands (suc i) r g))) (above-on-line c stands a))

-- row i is an open element of this depth
pub data Open (s : Types) (rows : List Row) : ℕ → ℕ → Type 0 where
  open-root : {e : ℕ} {r : Row} → RowAt rows 0 r → r.name ≡ element e → Open s rows 0 1
  open_next : {i d e : ℕ} {q r : Row} → RowAt rows (suc i) r → r.name ≡ element e → r.parent ≤ i → RowAt rows r.parent q → T (s.holds q.name (element e))
      → Open s rows r.parent d → Open s rows (suc i) (suc d)

-- the element of an open row
pub record ElementAt (rows : List Row) (i : ℕ) : Type 0 where
  pub row : Row
  pub index : ℕ
  pub is_row : RowAt rows i row
  pub name : row.name ≡ element index

-- row p holds an element
abbrev pub HoldsElement : Types → List Row → ℕ → Type 0
HoldsElement s rows p = (b : ℕ) × (q : Row) × RowAt rows p q × T (s.holds q.name (element b))

module _ {s : Types} {rows : List Row} where
  pub open-element : {i d : ℕ} → Open s rows i d → ElementAt rows i
  open-element (open-root {e = e} {r = r} g q) = record { row = r; index = e; is_row = g; name = q }
  open-element (open_next {e = e} {r = r} g q b k h o) = record { row = r; index = e; is_row = g; name = q }

  pub open-depth : {i d : ℕ} → Open s rows i d → DepthAt rows i d
  open-depth (open-root g q) = root-depth
  open-depth (open_next g q b k h o) = element-depth g q (open-depth o)

  -- its depth is one number
  pub open-one-depth : {i d e : ℕ} → Open s rows i d → DepthAt rows i e → e ≡ d
  open-one-depth (open-root g q) root-depth = refl
  open-one-depth (open_next {r = r} g q b k h o) (element-depth {d = d} {r = z} a v w) =
      let one : z ≡ r = cc in
      ap suc (open-one-depth o (subst (λ (x : Row). DepthAt rows x.parent d) one w))
  open-one-depth (open_next {e = e} {r = r} g q b k h o) (text-depth {e = x} {r = z} a v w) =
      let one : z ≡ r = cc in
      let same : text x ≡ element e = sym v ∙ ap (λ (x : Row). x.name) one ∙ q in
      never (cc)

  module _ (c : Columns) (stands : (i : ℕ) (r : Row) → RowAt rows i r → Stands c i r) where
    pub open-line : {i d : ℕ} → Open s rows i d → Line c.parents i d
    open-line (open-root g q) = root_line
    open-line (open_next {i = i} {d = d} {r = r} g q b k h o) =
        next-line (subst (λ (x : ℕ). Line c.parents x d) (sym (parent-cell (stands (suc i) r g))) (open-line o))

    -- no row on its line stands after it
    pub open-low : {p i d : ℕ} → Open s rows i d → OnLine c.parents p i → p ≤ i
    open-low (open-root g q) o = let e = root-only o refl in omega arith
    open-low {p} (open_next {i = i} {r = r} g q b k h o) u =
        ⊎_elim (λ e. omega arith) (λ w. let l = open-low o (subst (OnLine c.parents p) (parent-cell (stands (suc i) r g)) w) in omega arith) (line-cases u)

    -- every row on its line is open, and each but the row itself holds an element
    pub open_above : {p i d : ℕ} → Open s rows i d → OnLine c.parents p i → (e : ℕ) × Open s rows p e
    open_above (open-root g q) o = (1, subst (λ (x : ℕ). Open s rows x 1) (sym (root-only o refl)) (open-root g q))
    open_above {p} (open_next {i = i} {d = d} {r = r} g q b k h o) u =
        pick (line-cases u) (λ w. open_above o (subst (OnLine c.parents p) (parent-cell (stands (suc i) r g)) w))
      where
        pick : (p ≡ suc i) ⊎ OnLine c.parents p (get_or c.parents (suc i) 0) → (OnLine c.parents p (get_or c.parents (suc i) 0) → (e : ℕ) × Open s rows p e)
            → (e : ℕ) × Open s rows p e
        pick (inl e) rest = (suc d, subst (λ (x : ℕ). Open s rows x (suc d)) (sym e) (open_next g q b k h o))
        pick (inr w) rest = rest w

    pub open-holds : {p i d : ℕ} → Open s rows i d → OnLine c.parents p i → (p ≡ i) ⊎ HoldsElement s rows p
    open-holds (open-root g q) o = inl (root-only o refl)
    open-holds {p} (open_next {i = i} {e = e} {q = z} {r = r} g q b k h o) u =
        pick (line-cases u) (λ w. open-holds o (subst (OnLine c.parents p) (parent-cell (stands (suc i) r g)) w))
      where
        pick : (p ≡ suc i) ⊎ OnLine c.parents p (get_or c.parents (suc i) 0)
            → (OnLine c.parents p (get_or c.parents (suc i) 0) → (p ≡ r.parent) ⊎ HoldsElement s rows p)
            → (p ≡ suc i) ⊎ HoldsElement s rows p
        pick (inl f) rest = inl f
        pick (inr w) rest = ⊎_elim (λ f. inr (e, z, subst (λ (x : ℕ). RowAt rows x z) (sym f) k, h)) (λ f. inr f) (rest w)

    -- a row on its line is the row itself or above it
    pub open-row-above : {p i d : ℕ} → Open s rows i d → OnLine c.parents p i → (p ≡ i) ⊎ RowAbove rows p i
    open-row-above (open-root g q) o = inl (root-only o refl)
    open-row-above {p} (open_next {i = i} {r = r} g q b k h o) u =
        pick (line-cases u) (λ w. open-row-above o (subst (OnLine c.parents p) (parent-cell (stands (suc i) r g)) w))
      where
        pick : (p ≡ suc i) ⊎ OnLine c.parents p (get_or c.parents (suc i) 0)
            → (OnLine c.parents p (get_or c.parents (suc i) 0) → (p ≡ r.parent) ⊎ RowAbove rows p r.parent) → (p ≡ suc i) ⊎ RowAbove rows p (suc i)
        pick (inl f) rest = inl f
        pick (inr w) rest =
            inr (⊎_elim (λ f. subst (λ (x : ℕ). RowAbove rows x (suc i)) (sym f) (Conditions.parent g)) (λ f. Conditions.higher g f) (rest w))

  -- the depth of a row whose parent is open
  pub depth-under : {i p d : ℕ} {r : Row} → RowAt rows (suc i) r → r.parent ≡ p → Open s rows p d → DepthAt rows (suc i) (deeper r.name d)
  depth-under {i} {p} {d} {r} g e o = by_name r.name refl
    where
      by_name : (n : Name) → r.name ≡ n → DepthAt rows (suc i) (deeper n d)
      by_name (element a) q = element-depth g q (subst (λ (x : ℕ). DepthAt rows x d) (sym e) (open-depth o))
      by_name (text a) q = text-depth g q (subst (λ (x : ℕ). DepthAt rows x d) (sym e) (open-depth o))

  pub one-depth-under : {i p d e : ℕ} {r : Row} → RowAt rows (suc i) r → r.parent ≡ p → Open s rows p d → DepthAt rows (suc i) e → e ≡ deeper r.name d
  one-depth-under {r = r} g f o (element-depth {d = k} {e = b} {r = z} a v w) =
      let one : z ≡ r = cc in
      let deep = open-one-depth o (subst (λ (x : ℕ). DepthAt rows x k) (ap (λ (y : Row). y.parent) one ∙ f) w) in
      let name : r.name ≡ element b = ap (λ (y : Row). y.name) (sym one) ∙ v in
      rw name (ap suc deep)
  one-depth-under {r = r} g f o (text-depth {d = k} {e = b} {r = z} a v w) =
      let one : z ≡ r = cc in
      let deep = open-one-depth o (subst (λ (x : ℕ). DepthAt rows x k) (ap (λ (y : Row). y.parent) one ∙ f) w) in
      let name : r.name ≡ text b = ap (λ (y : Row). y.name) (sym one) ∙ v in
      rw name deep
