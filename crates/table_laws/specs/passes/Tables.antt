-- The pass over the columns is the test of well-formed tables on the rows in them.
use Rattle.std.specs.Prelude.{Bool, false, ◌&&◌, ◌⊎◌, ◌≡◌, ltb, get_or}
use mathlib.Core.List.{List, [], ◌∷◌}
use Rattle.std.proofs.Common.{inl, ⊎_elim, ap, ◌∙◌, eq-or-lt_of_le}
use Rattle.std.proofs.Math.Option.{Option, none, some}
use Rattle.std.proofs.Math.Path.{refl, sym, subst}
use Prim.Native.Nat.{ℕ, zero, suc, ◌+◌, ◌≤◌}
use native.Mathlib.Omega.{arith}
use Rattle.std.proofs.Math.Dec.{T, eqb, eqb→eq}
use Rattle.std.proofs.Math.ListN.{length}
use Rattle.schema_laws.specs.Words.{code_of-name_of_code}
use Rattle.schema_spec.specs.Names.{Name, element, text, has_bit, code_of, name_of_code}
use Rattle.schema_spec.specs.Types.{Types}
use Rattle.table_laws.specs.Places.{at_bound, at_some}
use Rattle.table_laws.specs.WellFormed.{table-means, table-tests}
use Rattle.table_laws.specs.passes.Climbs.{Climbed, stopped, nowhere, climb}
use Rattle.table_laws.specs.passes.Codes.{HeldWords, named-coded, later-parts, parts-later}
use Rattle.table_laws.specs.passes.Lines.{Stands, open-root}
use Rattle.table_laws.specs.passes.Passes.{root_fits, later_fits, root_cells, later_cells, fits_under, later_pass, rows_pass, open_after, depth_under, code_at, parent_at}
use Rattle.table_laws.specs.passes.Rows.{Carried, fits-later, later-fits}
use Rattle.table_spec.specs.Columns.{Columns, cells_at, cells_from}
use Rattle.table_spec.specs.Conditions.{RowAt, TextCells, of-element, of-text, LaterRow, WellFormed}
use Rattle.table_spec.specs.Rows.{Row, Cells, row, cells_of, row_with, row_of, cons_of, rows_of}
use Rattle.table_spec.specs.Tables.{well_formed}
use Rattle.text_laws.specs.Tests.{never, failed, false_of, and_intro, and_cases, same_test}
use Rattle.text_spec.specs.Limits.{max_nodes}

-- rows that pass a test; none where a code is one that no name has
abbrev pub passes_rows : (List Row → Bool) → Option (List Row) → Bool
passes_rows test none = false
passes_rows test (some rows) = test rows

-- ---- the rows in columns
pub record Consed (a : Option Row) (b : Option (List Row)) (rows : List Row) : Type 0 where
  pub first : Row
  pub later : List Row
  pub one : a ≡ some first
  pub rest : b ≡ some later
  pub is : rows ≡ first ∷ later

pub consed : (a : Option Row) (b : Option (List Row)) (rows : List Row) → cons_of a b ≡ some rows → Consed a b rows
consed none b rows e = never (cc)
consed (some r) none rows e = never (cc)
consed (some r) (some rs) rows e = record { first = r; later = rs; one = refl; rest = refl; is = cc }

cell-stands : (c : Columns) (k : ℕ) (o : Option Name) (r : Row) → name_of_code (code_at c k) ≡ o → row_with (cells_at c k) o ≡ some r → Stands c k r
cell-stands c k none r e q = never (cc)
cell-stands c k (some n) r e q =
    let x = cells_at c k in
    let one : r ≡ row x.number n x.parent x.start x.size x.decoded = cc in
    let code : code_of n ≡ code_at c k = code_of-name_of_code (code_at c k) n e in
    rw one (record { cells = rw code; coded = named-coded (code_at c k) n e })

-- as many rows as cells, each in its own
pub record StandFrom (c : Columns) (k n : ℕ) (rows : List Row) : Type 0 where
  pub size : length rows ≡ n
  pub each : (i : ℕ) (r : Row) → RowAt rows i r → Stands c (k + i) r

pub rows-stand : (c : Columns) (k n : ℕ) (rows : List Row) → rows_of (cells_from c k n) ≡ some rows → StandFrom c k n rows
rows-stand c k zero rows e =
    let q : [] ≡ rows = cc in
    rw (← q) (record { size = refl; each = λ i r g. absurd (omega (arith, at_bound {A = Row} [] i r g)) })
rows-stand c k (suc n) rows e =
    let x = consed (row_of (cells_at c k)) (rows_of (cells_from c (suc k) n)) rows e in
    let rest = rows-stand c (suc k) n x.later x.rest in
    rw x.is (record { size = ap suc rest.size; each = each x.first x.later (cell-stands c k (name_of_code (code_at c k)) x.first refl x.one) rest })
  where
    each : (a : Row) (rs : List Row) → Stands c k a → StandFrom c (suc k) n rs → (i : ℕ) (r : Row) → RowAt (a ∷ rs) i r → Stands c (k + i) r
    each a rs s t zero r g =
        let one : r ≡ a = cc in
        let w : k ≡ k + 0 = omega arith in
        rw (one, ← w) s
    each a rs s t (suc i) r g =
        let w : suc k + i ≡ k + suc i = omega arith in
        subst (λ (x : ℕ). Stands c x r) w (t.each i r g)

-- ---- the pass on rows that stand in columns
cells_fit : {a b x y : Cells} → a ≡ x → b ≡ y → (word depth : ℕ) → T (later_cells a word depth b) → T (later_cells x word depth y)
cells_fit {b = b} {x = x} e f word depth t = subst (λ (z : Cells). T (later_cells x word depth z)) f (subst (λ (z : Cells). T (later_cells z word depth b)) e t)

module _ (s : Types) (words : List ℕ) (hw : HeldWords s words) (c : Columns) where
  module _ (rows : List Row) (stands : (i : ℕ) (r : Row) → RowAt rows i r → Stands c i r) where
    -- one row of a pass
    pass_step : (n i p d : ℕ) (q r : Row) → Carried s rows i q p d → RowAt rows i q → RowAt rows (suc i) r → T (later_pass words c (suc n) i p d)
        → LaterRow s rows i q r × ((x : ℕ) × (e : ℕ) × Carried s rows (suc i) r x e × T (later_pass words c n (suc i) x e))
    pass_step n i p d q r k g h t = pick (climb (eqb (parent_at c (suc i))) c.parents p d) refl t
      where
        pick : (o : Climbed) → climb (eqb (parent_at c (suc i))) c.parents p d ≡ o → T (fits_under words c i (λ x e. later_pass words c n (suc i) x e) o)
            → LaterRow s rows i q r × ((x : ℕ) × (e : ℕ) × Carried s rows (suc i) r x e × T (later_pass words c n (suc i) x e))
        pick nowhere z u = absurd u
        pick (stopped x e) z u =
            let code = code_at c (suc i) in
            let w = get_or words (code_at c x) 0 in
            let a = and_cases (later_cells (cells_at c i) w e (cells_at c (suc i))) (later_pass words c n (suc i) (open_after code (suc i) x) (depth_under code e)) u in
            let f = later-parts q w e r (stands i q g).coded (stands (suc i) r h).coded (cells_fit (stands i q g).cells (stands (suc i) r h).cells w e a.0) in
            let m = fits-later s words hw rows c stands i q r p d k g h x e z f in
            (m.0, (open_after code (suc i) x, depth_under code e, m.1, a.1))

    pass-means : (n i p d : ℕ) (q : Row) → Carried s rows i q p d → RowAt rows i q → suc i + n ≡ length rows → T (later_pass words c n i p d)
        → (j : ℕ) (a b : Row) → i ≤ j → RowAt rows j a → RowAt rows (suc j) b → LaterRow s rows j a b
    pass-means zero i p d q k g l t j a b m u v = absurd (omega (arith, at_bound rows (suc j) b v))
    pass-means (suc n) i p d q k g l t j a b m u v =
        let h = at_some rows (suc i) (omega arith) in
        let w = pass_step n i p d q h.0 k g h.1 t in
        ⊎_elim (λ e. now h.0 h.1 w.0 e)
        (λ e. pass-means n (suc i) w.1.0 w.1.1 h.0 w.1.2 h.1 (omega arith) w.1.3 j a b (omega arith) u v) (eq-or-lt_of_le m)
      where
        now : (r : Row) → RowAt rows (suc i) r → LaterRow s rows i q r → i ≡ j → LaterRow s rows j a b
        now r h f e =
            let one : a ≡ q = cc (subst (λ (x : ℕ). RowAt rows x a) (sym e) u, g) in
            let two : b ≡ r = cc (subst (λ (x : ℕ). RowAt rows (suc x) b) (sym e) v, h) in
            rw (one, two, ← e) f

    means-pass : (n i p d : ℕ) (q : Row) → Carried s rows i q p d → RowAt rows i q → suc i + n ≡ length rows → WellFormed s rows → T (later_pass words c n i p d)
    means-pass zero i p d q k g l w = tt
    means-pass (suc n) i p d q k g l w =
        let h = at_some rows (suc i) (omega arith) in
        let r = h.0 in
        let m = later-fits s words hw rows c stands i q r p d k g h.1 (w.later_row i q r g h.1) in
        let code = code_at c (suc i) in
        let e = m.0 in
        let x = get_or words (code_at c r.parent) 0 in
        let fit = parts-later q x e r (stands i q g).coded (stands (suc i) r h.1).coded m.2 in
        rw m.1 (and_intro (later_cells (cells_at c i) x e (cells_at c (suc i))) (later_pass words c n (suc i) (open_after code (suc i) r.parent) (depth_under code e))
        (cells_fit (sym (stands i q g).cells) (sym (stands (suc i) r h.1).cells) x e fit)
        (means-pass n (suc i) (open_after code (suc i) r.parent) (depth_under code e) r m.3 h.1 (omega arith) w))

  root-carried : (rows : List Row) (r : Row) → RowAt rows 0 r → r.name ≡ element 0 → Carried s rows 0 r 0 1
  root-carried rows r g e = record { is_open = open-root g e; low = omega arith; place = inl (refl, rw e); before = λ j z w l. absurd (omega arith) }

  root-named : (n : Name) → name_of_code (code_of n) ≡ some n → code_of n ≡ 0 → n ≡ element 0
  root-named n k e =
      let one : name_of_code 0 ≡ some n = subst (λ (x : ℕ). name_of_code x ≡ some n) e k in
      cc

  module _ (r : Row) (rs : List Row) (n : ℕ) (size : length rs ≡ n) (stands : (i : ℕ) (z : Row) → RowAt (r ∷ rs) i z → Stands c i z) where
    first : cells_at c 0 ≡ cells_of r
    first = (stands 0 r refl).cells

    passed-means : T (root_cells (cells_at c 0) && later_pass words c n 0 0 1) → WellFormed s (r ∷ rs)
    unfolding root_fits
    passed-means t =
        let x = subst (λ (z : Cells). T (root_cells z)) first (and_cases (root_cells (cells_at c 0)) (later_pass words c n 0 0 1) t).0 in
        let later = (and_cases (root_cells (cells_at c 0)) (later_pass words c n 0 0 1) t).1 in
        let rest₃ = eqb r.size 0 && eqb r.decoded 0 in
        let rest₂ = eqb r.start 0 && rest₃ in
        let rest₁ = eqb r.parent 0 && rest₂ in
        let c₀ = and_cases (eqb r.number 0) (eqb (code_of r.name) 0 && rest₁) x in
        let c₁ = and_cases (eqb (code_of r.name) 0) rest₁ c₀.1 in
        let c₂ = and_cases (eqb r.parent 0) rest₂ c₁.1 in
        let c₃ = and_cases (eqb r.start 0) rest₃ c₂.1 in
        let c₄ = and_cases (eqb r.size 0) (eqb r.decoded 0) c₃.1 in
        let name : r.name ≡ element 0 = root-named r.name (stands 0 r refl).coded (eqb→eq (code_of r.name) 0 c₁.0) in
        let known : (r.number ≡ 0) × (r.name ≡ s.root) × (r.parent ≡ 0) × TextCells r
        = (eqb→eq r.number 0 c₀.0, name ∙ sym hw.root, eqb→eq r.parent 0 c₂.0, of-element name (eqb→eq r.start 0 c₃.0) (eqb→eq r.size 0 c₄.0) (eqb→eq r.decoded 0 c₄.1)) in
        record {
          root_row = λ z g. (let one : z ≡ r = cc in rw one known);
          later_row = λ j a b u v. pass-means (r ∷ rs) stands n 0 0 1 r (root-carried (r ∷ rs) r refl name) refl (omega arith) later j a b (omega arith) u v;
        }

    means-passed : WellFormed s (r ∷ rs) → T (root_cells (cells_at c 0) && later_pass words c n 0 0 1)
    unfolding root_fits
    means-passed w =
        let k = w.root_row r refl in
        let name : r.name ≡ element 0 = k.1 ∙ hw.root in
        and_intro (root_cells (cells_at c 0)) (later_pass words c n 0 0 1) (subst (λ (z : Cells). T (root_cells z)) (sym first) (cells name k.3))
        (means-pass (r ∷ rs) stands n 0 0 1 r (root-carried (r ∷ rs) r refl name) refl (omega arith) w)
      where
        cells : r.name ≡ element 0 → TextCells r → T (root_cells (cells_of r))
        cells name (of-element e a b d) = rw ((w.root_row r refl).0, name, (w.root_row r refl).2, a, b, d) tt
        cells name (of-text {e = x} e a b d f) = let same : text x ≡ element 0 = sym e ∙ name in never (cc)

  rows-tested : (rows : List Row) (n : ℕ) → StandFrom c 0 n rows → rows_pass words c n ≡ well_formed s rows
  unfolding rows_pass well_formed
  rows-tested [] zero f = refl
  rows-tested [] (suc n) f = absurd (omega (arith, f.size))
  rows-tested (r ∷ rs) zero f = absurd (omega (arith, f.size))
  rows-tested (r ∷ rs) (suc n) f =
      let size : length rs ≡ n = omega (arith, f.size) in
      let stands : (i : ℕ) (z : Row) → RowAt (r ∷ rs) i z → Stands c i z = λ i z g. (let e : 0 + i ≡ i = omega arith in subst (λ (x : ℕ). Stands c x z) e (f.each i z g)) in
      same_test (root_cells (cells_at c 0) && later_pass words c n 0 0 1) (well_formed s (r ∷ rs)) (λ t. table-tests s (r ∷ rs) (passed-means r rs n size stands t))
      (λ t. means-passed r rs n size stands (table-means s (r ∷ rs) t))

  -- ---- rows that pass have names
  fits-named : (before : Cells) (a depth : ℕ) (r : Cells) → T (later_cells before (get_or words a 0) depth r) → T (has_bit (get_or words a 0) r.name)
  unfolding later_fits
  fits-named before a depth r t =
      let c₀ = and_cases (ltb before.number r.number) _ t in
      let c₁ = and_cases (ltb r.number max_nodes) _ c₀.1 in
      (and_cases (has_bit (get_or words a 0) r.name) _ c₁.1).0

  named-row : (k : ℕ) (o : Option Name) → name_of_code (code_at c k) ≡ o → (o ≡ none → ⊥) → (r : Row) × (row_of (cells_at c k) ≡ some r)
  named-row k none e h = absurd (h refl)
  named-row k (some n) e h = let x = cells_at c k in (row x.number n x.parent x.start x.size x.decoded, rw e)

  cons-some : (a : Option Row) (b : Option (List Row)) → (r : Row) × (a ≡ some r) → (rs : List Row) × (b ≡ some rs) → (rows : List Row) × (cons_of a b ≡ some rows)
  cons-some a b (r, e) (rs, f) = (r ∷ rs, rw (e, f))

  later-named : (n i p d : ℕ) → T (later_pass words c n i p d) → (rows : List Row) × (rows_of (cells_from c (suc i) n) ≡ some rows)
  later-named zero i p d t = ([], refl)
  later-named (suc n) i p d t = pick (climb (eqb (parent_at c (suc i))) c.parents p d) t (λ x e u. later-named n (suc i) x e u)
    where
      pick : (o : Climbed) → T (fits_under words c i (λ x e. later_pass words c n (suc i) x e) o)
          → ((x e : ℕ) → T (later_pass words c n (suc i) x e) → (rows : List Row) × (rows_of (cells_from c (suc (suc i)) n) ≡ some rows))
          → (rows : List Row) × (cons_of (row_of (cells_at c (suc i))) (rows_of (cells_from c (suc (suc i)) n)) ≡ some rows)
      pick nowhere u rest = absurd u
      pick (stopped x e) u rest =
          let code = code_at c (suc i) in
          let w = code_at c x in
          let a = and_cases (later_cells (cells_at c i) (get_or words w 0) e (cells_at c (suc i))) (later_pass words c n (suc i) (open_after code (suc i) x) (depth_under code e)) u in
          let bit = fits-named (cells_at c i) w e (cells_at c (suc i)) a.0 in
          cons-some (row_of (cells_at c (suc i))) (rows_of (cells_from c (suc (suc i)) n))
          (named-row (suc i) (name_of_code code) refl (λ h. failed (hw.unnamed w code h) bit)) (rest (open_after code (suc i) x) (depth_under code e) a.1)

  pass-named : (n : ℕ) → T (rows_pass words c n) → (rows : List Row) × (rows_of (cells_from c 0 n) ≡ some rows)
  unfolding rows_pass root_fits
  pass-named zero t = ([], refl)
  pass-named (suc n) t =
      let x = cells_at c 0 in
      let a = and_cases (root_cells x) (later_pass words c n 0 0 1) t in
      let b = and_cases (eqb x.number 0) _ a.0 in
      let e : code_at c 0 ≡ 0 = eqb→eq _ _ (and_cases (eqb x.name 0) _ b.1).0 in
      cons-some (row_of x) (rows_of (cells_from c 1 n)) (named-row 0 (name_of_code (code_at c 0)) refl (λ h. never (cc (ap name_of_code e)))) (later-named n 0 0 1 a.1)

  -- The pass is the test of well-formed tables, on the rows that the columns hold.
  pub rows_pass_lem : (n : ℕ) → rows_pass words c n ≡ passes_rows (well_formed s) (rows_of (cells_from c 0 n))
  rows_pass_lem n = pick (rows_of (cells_from c 0 n)) refl
    where
      pick : (o : Option (List Row)) → rows_of (cells_from c 0 n) ≡ o → rows_pass words c n ≡ passes_rows (well_formed s) o
      pick none e = false_of (rows_pass words c n) (λ t. let w = pass-named n t in never (cc w.1))
      pick (some rows) e = rows-tested rows n (rows-stand c 0 n rows e)
