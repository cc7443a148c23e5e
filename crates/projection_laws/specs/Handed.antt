-- Refusal 1 on tables: lent columns hold rows exactly if their first cells are a well-formed table, beside its text where one is lent.
use Rattle.std.specs.Prelude.{Bool, true, false, cond, ◌&&◌, List, ◌≡◌, ℕ, T, eqb, leb, length}
use Rattle.std.proofs.Math.Option.{Option, none, some}
use Rattle.std.proofs.Common.{sym, ap, subst, ◌∙◌, eqb→eq, leb→le, le→leb}
use Rattle.std.proofs.Math.Dec.{eqb_refl}
use Rattle.library_spec.specs.Conditions.{EqualSizes, equal-sizes, RowsLent, TableHanded, TableBeside}
use Rattle.library_spec.specs.Records.{LentTable, rows_lent, kept_if, table_held, table_beside}
use Rattle.schema_spec.specs.Schemas.{Schema}
use Rattle.schema_spec.specs.Types.{types_of}
use Rattle.table_laws.specs.WellFormed.{table-means, table-tests, well-formed-beside}
use Rattle.table_spec.specs.Columns.{Sizes, sizes_of, equal_sizes, cells_from}
use Rattle.table_spec.specs.Rows.{Row, rows_of}
use Rattle.table_spec.specs.Tables.{well_formed, well_formed_with}
use Rattle.text_laws.specs.Tests.{never, true_of, cond_yes, and_intro, and_cases}

abbrev sized : ℕ → ℕ → ℕ → ℕ → ℕ → ℕ → Sizes
sized numbers names parents starts lengths decoded = record { numbers = numbers; names = names; parents = parents; starts = starts; lengths = lengths; decoded = decoded }

pub sizes-equal : (z : Sizes) → T (equal_sizes z) → EqualSizes z
sizes-equal z t =
    let n = z.numbers in
    let a = and_cases (eqb z.names n) _ t in
    let b = and_cases (eqb z.parents n) _ a.1 in
    let c = and_cases (eqb z.starts n) _ b.1 in
    let d = and_cases (eqb z.lengths n) (eqb z.decoded n) c.1 in
    subst EqualSizes
    (ap (λ (k : ℕ). sized n k n n n n) (sym (eqb→eq z.names n a.0))
    ∙ (ap (λ (k : ℕ). sized n z.names k n n n) (sym (eqb→eq z.parents n b.0))
    ∙ (ap (λ (k : ℕ). sized n z.names z.parents k n n) (sym (eqb→eq z.starts n c.0))
    ∙ (ap (λ (k : ℕ). sized n z.names z.parents z.starts k n) (sym (eqb→eq z.lengths n d.0))
    ∙ ap (λ (k : ℕ). sized n z.names z.parents z.starts z.lengths k) (sym (eqb→eq z.decoded n d.1))))))
    (equal-sizes {n = n})

pub equal-sized : {z : Sizes} → EqualSizes z → T (equal_sizes z)
equal-sized (equal-sizes {n = n}) =
    and_intro (eqb n n) _ (eqb_refl n)
    (and_intro (eqb n n) _ (eqb_refl n) (and_intro (eqb n n) _ (eqb_refl n) (and_intro (eqb n n) (eqb n n) (eqb_refl n) (eqb_refl n))))

-- what a test chooses of something or nothing is that, where the test passes
pub chosen-if : {A : Type 0} (b : Bool) (h : Option A) {a : A} → cond b h none ≡ some a → T b × (h ≡ some a)
chosen-if true h e = (tt, e)
chosen-if false h e = never (cc)

module _ {A : Type 0} (test : A → Bool) where
  kept_if_lem : (h : Option A) {a : A} → kept_if test h ≡ some a → (h ≡ some a) × T (test a)
  kept_if_lem none e = never (cc)
  kept_if_lem (some b) {a} e =
      let c = chosen-if (test b) (some b) e in
      let same : b ≡ a = cc in
      (c.1, subst (λ (x : A). T (test x)) same c.0)

  if_kept : (h : Option A) {a : A} → h ≡ some a → T (test a) → kept_if test h ≡ some a
  if_kept h {a} e t = ap (kept_if test) e ∙ cond_yes (some a) none (true_of (test a) t)

rows-lent : (t : LentTable) {rows : List Row} → rows_lent t ≡ some rows → RowsLent t rows
rows-lent t e =
    let c = chosen-if (equal_sizes (sizes_of t.columns) && leb t.count (length t.columns.numbers)) (rows_of (cells_from t.columns 0 t.count)) e in
    let b = and_cases (equal_sizes (sizes_of t.columns)) (leb t.count (length t.columns.numbers)) c.0 in
    record { equal = sizes-equal (sizes_of t.columns) b.0; enough = leb→le t.count (length t.columns.numbers) b.1; named = c.1 }

lent_rows : (t : LentTable) {rows : List Row} → RowsLent t rows → rows_lent t ≡ some rows
lent_rows t h =
    cond_yes (rows_of (cells_from t.columns 0 t.count)) none
    (true_of (equal_sizes (sizes_of t.columns) && leb t.count (length t.columns.numbers))
    (and_intro (equal_sizes (sizes_of t.columns)) (leb t.count (length t.columns.numbers)) (equal-sized h.equal) (le→leb t.count (length t.columns.numbers) h.enough)))
    ∙ h.named

module _ (s : Schema) (t : LentTable) {rows : List Row} where
  pub table-handed : table_held s t ≡ some rows → TableHanded s t rows
  unfolding table_held
  table-handed e =
      let c = kept_if_lem (well_formed (types_of s)) (rows_lent t) e in
      record { lent = rows-lent t c.0; well_formed = table-means (types_of s) rows c.1 }

  pub handed-table : TableHanded s t rows → table_held s t ≡ some rows
  unfolding table_held
  handed-table h = if_kept (well_formed (types_of s)) (rows_lent t) (lent_rows t h.lent) (table-tests (types_of s) rows h.well_formed)

  module _ (text : List ℕ) where
    pub table_beside_lem : table_beside s text t ≡ some rows → TableBeside s text t rows
    unfolding table_beside
    table_beside_lem e =
        let c = kept_if_lem (well_formed_with (types_of s) text) (rows_lent t) e in
        record { lent = rows-lent t c.0; well_formed = (well-formed-beside (types_of s) text rows).0 c.1 }

    pub beside-table : TableBeside s text t rows → table_beside s text t ≡ some rows
    unfolding table_beside
    beside-table h = if_kept (well_formed_with (types_of s) text) (rows_lent t) (lent_rows t h.lent) ((well-formed-beside (types_of s) text rows).1 h.well_formed)
