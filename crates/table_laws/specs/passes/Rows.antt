-- What is carried from row to row in a pass, and one row more: it fits exactly if what document 01 says of a later row holds.
use Rattle.std.specs.Prelude.{true, false, List, ◌⊎◌, ◌≡◌, refl, ℕ, zero, suc, ◌<◌, ◌≤◌, T, eqb, get_or}
use Rattle.std.proofs.Common.{inl, inr, ⊎_elim, sym, ap, subst, ◌∙◌, eq-or-lt_of_le, arith, eqb→eq}
use Rattle.schema_spec.specs.Names.{Name, element, text, is_text, has_bit, code_of}
use Rattle.schema_spec.specs.Types.{Types}
use Rattle.table_laws.specs.WellFormed.{cells-mean, mean-cells}
use Rattle.table_laws.specs.passes.Climbs.{stopped, climb, Line, OnLine, itself, StoppedAt, line-once, line-cases, climb-stopped, climb-to}
use Rattle.table_laws.specs.passes.Codes.{HeldWords, code-text, FitsAfter}
use Rattle.table_laws.specs.passes.Lines.{Stands, parent-cell, above-on-line, Open, open_next, HoldsElement, ElementAt, open-element, open-line, open-low, open_above, open-holds, open-row-above, depth-under, one-depth-under}
use Rattle.table_laws.specs.passes.Passes.{is_text_code, depth_under, open_after, code_at, parent_at}
use Rattle.table_spec.specs.Columns.{Columns}
use Rattle.table_spec.specs.Conditions.{RowAt, RowAbove, LaterRow}
use Rattle.table_spec.specs.Conditions as Conditions
use Rattle.table_spec.specs.Nodes.{deeper}
use Rattle.table_spec.specs.Rows.{Row, Cells}
use Rattle.text_laws.specs.Tests.{never, passed, failed}

-- after row i, which is q, row p is the innermost open element: the row itself, or the parent of a text
abbrev pub Innermost : ℕ → Row → ℕ → Type 0
Innermost i q p = ((p ≡ i) × (is_text q.name ≡ false)) ⊎ ((q.parent ≡ p) × (is_text q.name ≡ true) × (0 < i))

-- what is carried from row i, which is q: the innermost open element and its depth
pub record Carried (s : Types) (rows : List Row) (i : ℕ) (q : Row) (p d : ℕ) : Type 0 where
  pub is_open : Open s rows p d
  pub low : p ≤ i
  pub place : Innermost i q p
  -- each parent stands before its row
  pub before : (j : ℕ) (z : Row) → RowAt rows (suc j) z → j < i → z.parent ≤ j

name-cell : {c : Columns} {i : ℕ} {r : Row} → Stands c i r → code_at c i ≡ code_of r.name
name-cell h = ap (λ (x : Cells). x.name) h.cells

module _ (s : Types) (words : List ℕ) (hw : HeldWords s words) (rows : List Row) (c : Columns) (stands : (i : ℕ) (r : Row) → RowAt rows i r → Stands c i r) where
  -- what an open element's word says of a name is what the element holds
  word_holds : (p : ℕ) (u r : Row) (i : ℕ) (e : ℕ) → RowAt rows p u → u.name ≡ element e → RowAt rows i r
      → has_bit (get_or words (code_at c p) 0) (code_of r.name) ≡ s.holds u.name r.name
  word_holds p u r i e g q h =
      let k = name-cell (stands p u g) ∙ ap code_of q in
      rw (k, q) (hw.held e (code_of r.name) r.name (stands i r h).coded)

  module _ (i : ℕ) (q r : Row) (p d : ℕ) (k : Carried s rows i q p d) (g : RowAt rows i q) (h : RowAt rows (suc i) r) where
    -- row i + 1, whose parent is an open element of depth e that holds it
    module _ (e : ℕ) (on : OnLine c.parents r.parent p) (o : Open s rows r.parent e)
        (u : Row) (parent : RowAt rows r.parent u) (held : T (s.holds u.name r.name)) where
      up : r.parent ≤ i
      up = let l = open-low c stands k.is_open on in let m = k.low in omega arith

      -- what is carried to the next row
      pub carried-next : Carried s rows (suc i) r (open_after (code_at c (suc i)) (suc i) r.parent) (depth_under (code_at c (suc i)) e)
      carried-next = pick r.name refl
        where
          earlier : (j : ℕ) (z : Row) → RowAt rows (suc j) z → j < suc i → z.parent ≤ j
          earlier j z w l = ⊎_elim this (λ f. k.before j z w f) (eq-or-lt_of_le at_most)
            where
              at_most : j ≤ i
              at_most = omega arith

              this : j ≡ i → z.parent ≤ j
              this f =
                  let w' : RowAt rows (suc i) z = subst (λ (x : ℕ). RowAt rows (suc x) z) f w in
                  let one : z ≡ r = cc (w', h) in
                  rw (one, f) up

          code : code_at c (suc i) ≡ code_of r.name
          code = name-cell (stands (suc i) r h)

          is-text : is_text_code (code_at c (suc i)) ≡ is_text r.name
          is-text = ap is_text_code code ∙ code-text (code_of r.name) r.name (stands (suc i) r h).coded

          pick : (n : Name) → r.name ≡ n → Carried s rows (suc i) r (open_after (code_at c (suc i)) (suc i) r.parent) (depth_under (code_at c (suc i)) e)
          pick (element a) f =
              let no : is_text_code (code_at c (suc i)) ≡ false = is-text ∙ ap is_text f in
              rw no (record {
                is_open = open_next h f up parent (subst (λ (n : Name). T (s.holds u.name n)) f held) o;
                low = omega arith;
                place = inl (refl, ap is_text f);
                before = earlier;
              })
          pick (text a) f =
              let yes : is_text_code (code_at c (suc i)) ≡ true = is-text ∙ ap is_text f in
              let l = up in
              rw yes (record { is_open = o; low = omega arith; place = inr (refl, ap is_text f, omega arith); before = earlier })

      -- an element that holds a text name is the innermost open one
      pub text-innermost : T (is_text r.name) → r.parent ≡ p
      text-innermost t = ⊎_elim (λ f. f) (λ f. absurd (other f)) (open-holds c stands k.is_open on)
        where
          by_name : (a b : ℕ) (n : Name) → T (is_text n) → u.name ≡ element a → T (s.holds (element a) (element b)) → T (s.holds u.name n) → ⊥
          by_name a b (element x) v f w y = v
          by_name a b (text x) v f w y = hw.apart a b x w (subst (λ (m : Name). T (s.holds m (text x))) f y)

          other : HoldsElement s rows r.parent → ⊥
          other (b, z, w, y) =
              let x = open-element o in
              let one : z ≡ u = cc (w, parent) in
              let two : x.row ≡ u = cc (x.is_row, parent) in
              let name : u.name ≡ element x.index = ap (λ (m : Row). m.name) (sym two) ∙ x.name in
              by_name x.index b r.name t name (subst (λ (m : Name). T (s.holds m (element b))) (ap (λ (m : Row). m.name) one ∙ name) y) held

    target : parent_at c (suc i) ≡ r.parent
    target = parent-cell (stands (suc i) r h)

    -- a row on the line of the innermost open element is row i or above it
    open-or-above : (x : ℕ) → OnLine c.parents x p → (x ≡ i) ⊎ RowAbove rows x i
    open-or-above x on = pick k.place (open-row-above c stands k.is_open on)
      where
        at_next : (n : ℕ) → i ≡ n → 0 < n → q.parent ≡ p → (x ≡ p) ⊎ RowAbove rows x p → RowAbove rows x i
        at_next zero e l f w = absurd (omega arith)
        at_next (suc j) e l f (inl w) =
            subst (λ (y : ℕ). RowAbove rows y i) (f ∙ sym w) (subst (RowAbove rows q.parent) (sym e) (Conditions.parent (subst (λ (y : ℕ). RowAt rows y q) e g)))
        at_next (suc j) e l f (inr w) =
            subst (RowAbove rows x) (sym e) (Conditions.higher (subst (λ (y : ℕ). RowAt rows y q) e g) (subst (RowAbove rows x) (sym f) w))

        pick : Innermost i q p → (x ≡ p) ⊎ RowAbove rows x p → (x ≡ i) ⊎ RowAbove rows x i
        pick (inl e) w = subst (λ (y : ℕ). (x ≡ y) ⊎ RowAbove rows x y) e.0 w
        pick (inr e) w = inr (at_next i refl e.2 e.0 w)

    -- row i or one above it is row i itself or on that line
    open-cases : (x : ℕ) → (x ≡ i) ⊎ RowAbove rows x i → ((x ≡ i) × (is_text q.name ≡ true)) ⊎ OnLine c.parents x p
    open-cases x w = pick k.place (on_line w)
      where
        on_line : (x ≡ i) ⊎ RowAbove rows x i → OnLine c.parents x i
        on_line (inl e) = subst (λ (y : ℕ). OnLine c.parents y i) (sym e) itself
        on_line (inr y) = above-on-line c stands y

        pick : Innermost i q p → OnLine c.parents x i
            → ((x ≡ i) × (is_text q.name ≡ true)) ⊎ OnLine c.parents x p
        pick (inl e) o = inr (subst (OnLine c.parents x) (sym e.0) o)
        pick (inr e) o =
            ⊎_elim (λ f. inl (f, e.1)) (λ f. inr (subst (OnLine c.parents x) (parent-cell (stands i q g) ∙ e.0) f)) (line-cases o)

    row_of : (x : ℕ) → ((x ≡ i) × (is_text q.name ≡ true)) ⊎ OnLine c.parents x p → (u : Row) × RowAt rows x u
    row_of x (inl e) = (q, subst (λ (y : ℕ). RowAt rows y q) (sym e.0) g)
    row_of x (inr o) = let w = open-element (open_above c stands k.is_open o).1 in (w.row, w.is_row)

    -- a row that holds a name is no text, so it is on that line
    holder-open : (x : ℕ) (u : Row) (n : Name) → RowAt rows x u → T (s.holds u.name n) → ((x ≡ i) × (is_text q.name ≡ true)) ⊎ OnLine c.parents x p
        → OnLine c.parents x p
    holder-open x u n a v w = ⊎_elim (λ e. absurd (itself-not e.0 e.1)) (λ o. o) w
      where
        no_text : (m : Name) → u.name ≡ m → is_text m ≡ true → ⊥
        no_text (element b) e f = never (cc)
        no_text (text b) e f = hw.leaf b n (subst (λ (y : Name). T (s.holds y n)) e v)

        itself-not : x ≡ i → is_text q.name ≡ true → ⊥
        itself-not e f =
            let one : u ≡ q = cc (subst (λ (y : ℕ). RowAt rows y u) e a, g) in
            no_text u.name refl (ap (λ (y : Row). is_text y.name) one ∙ f)

    abbrev Next : ℕ → ℕ → Type 0
    Next x e = Carried s rows (suc i) r (open_after (code_at c (suc i)) (suc i) x) (depth_under (code_at c (suc i)) e)

    -- The row fits under the row where the climb stops: what is said of it holds.
    pub fits-later : (x e : ℕ) → climb (eqb (parent_at c (suc i))) c.parents p d ≡ stopped x e → FitsAfter q (get_or words (code_at c x) 0) e r
        → LaterRow s rows i q r × Next x e
    fits-later x e stop f = (meant, subst (λ (y : ℕ). Next y e) same (carried-next e on o u parent held))
      where
        at : StoppedAt (eqb (parent_at c (suc i))) c.parents p x e
        at = climb-stopped (eqb (parent_at c (suc i))) (open-line c stands k.is_open) x e stop

        same : r.parent ≡ x
        same = sym target ∙ eqb→eq (parent_at c (suc i)) x at.passes

        on : OnLine c.parents r.parent p
        on = subst (λ (y : ℕ). OnLine c.parents y p) (sym same) at.on

        o : Open s rows r.parent e
        o =
            let w = open_above c stands k.is_open on in
            subst (Open s rows r.parent) (line-once (open-line c stands w.1) (subst (λ (y : ℕ). Line c.parents y e) (sym same) at.line)) w.1

        found : ElementAt rows r.parent
        found = open-element o

        u : Row
        u = found.row

        parent : RowAt rows r.parent u
        parent = found.is_row

        held : T (s.holds u.name r.name)
        held =
            subst T (word_holds r.parent u r (suc i) found.index parent found.name h)
            (subst (λ (y : ℕ). T (has_bit (get_or words (code_at c y) 0) (code_of r.name))) (sym same) f.held)

        lone : T (is_text r.name) → (j : ℕ) (z : Row) → j < i → RowAt rows (suc j) z → T (is_text z.name) → z.parent ≡ r.parent → ⊥
        lone t j z l w v y = pick k.place
          where
            pick : Innermost i q p → ⊥
            pick (inl a) =
                let b = k.before j z w l in
                let n = text-innermost e on o u parent held t in
                omega (arith, a.0)
            pick (inr a) = f.lone t (passed a.1)

        meant : LaterRow s rows i q r
        meant =
            record {
              rises = f.rises;
              small = f.small;
              parent_open = open-or-above r.parent on;
              held = λ z w. (let one : z ≡ u = cc (w, parent) in rw one held);
              shallow = λ n w. (let b = f.shallow in rw (one-depth-under h refl o w) b);
              one_text = lone;
              cells = cells-mean r.name r refl f.cells;
            }

    -- What is said of the row holds: the climb finds its parent, and it fits there.
    pub later-fits : LaterRow s rows i q r
        → (e : ℕ) × (climb (eqb (parent_at c (suc i))) c.parents p d ≡ stopped r.parent e) × FitsAfter q (get_or words (code_at c r.parent) 0) e r × Next r.parent e
    later-fits f = (e, climbed.1, fits, carried-next e on o u parent held)
      where
        place : ((r.parent ≡ i) × (is_text q.name ≡ true)) ⊎ OnLine c.parents r.parent p
        place = open-cases r.parent f.parent_open

        u : Row
        u = (row_of r.parent place).0

        parent : RowAt rows r.parent u
        parent = (row_of r.parent place).1

        held : T (s.holds u.name r.name)
        held = f.held u parent

        on : OnLine c.parents r.parent p
        on = holder-open r.parent u r.name parent held place

        climbed : (e : ℕ) × (climb (eqb (parent_at c (suc i))) c.parents p d ≡ stopped r.parent e) × Line c.parents r.parent e
        climbed = rw target (climb-to (open-line c stands k.is_open) r.parent on)

        e : ℕ
        e = climbed.0

        o : Open s rows r.parent e
        o =
            let w = open_above c stands k.is_open on in
            subst (Open s rows r.parent) (line-once (open-line c stands w.1) climbed.2) w.1

        found : ElementAt rows r.parent
        found = open-element o

        name : u.name ≡ element found.index
        name =
            let one : found.row ≡ u = cc (found.is_row, parent) in
            ap (λ (y : Row). y.name) (sym one) ∙ found.name

        lone : T (is_text r.name) → T (is_text q.name) → ⊥
        lone t v = pick k.place
          where
            at_next : (n : ℕ) → i ≡ n → 0 < n → q.parent ≡ r.parent → ⊥
            at_next zero a l b = absurd (omega arith)
            at_next (suc j) a l b = f.one_text t j q (omega arith) (subst (λ (y : ℕ). RowAt rows y q) a g) v b

            pick : Innermost i q p → ⊥
            pick (inl a) = failed a.1 v
            pick (inr a) = at_next i refl a.2 (a.0 ∙ sym (text-innermost e on o u parent held t))

        fits : FitsAfter q (get_or words (code_at c r.parent) 0) e r
        fits =
            record {
              rises = f.rises;
              small = f.small;
              held = subst T (sym (word_holds r.parent u r (suc i) found.index parent name h)) held;
              shallow = f.shallow (deeper r.name e) (depth-under h refl o);
              lone = lone;
              cells = mean-cells r f.cells;
            }
