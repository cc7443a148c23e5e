-- The texts of a table beside a lent text, row by row over the columns.
use Rattle.std.specs.Prelude.{Bool, true, not, ◌&&◌, ◌||◌, List, [], ◌∷◌, ◌≡◌, refl, ℕ, zero, suc, ◌+◌, eqb, leb, length, get_or}
use Rattle.std.proofs.Math.Option.{Option, none, some}
use Rattle.std.proofs.Common.{ap, ap₂, subst, ◌∙◌, arith}
use Rattle.schema_spec.specs.Names.{code_of}
use Rattle.schema_spec.specs.Types.{Types}
use Rattle.table_laws.specs.passes.Codes.{HeldWords, code-text}
use Rattle.table_laws.specs.passes.Lines.{Stands}
use Rattle.table_laws.specs.passes.Passes.{is_text_code, rows_pass}
use Rattle.table_laws.specs.passes.Tables.{passes_rows, StandFrom, rows-stand, rows_pass_lem}
use Rattle.table_spec.specs.Columns.{Columns, cells_at, cells_from}
use Rattle.table_spec.specs.Rows.{Row, Cells, rows_of}
use Rattle.table_spec.specs.Tables.{is_size, text_inside, well_formed, well_formed_with}
use Rattle.text_spec.specs.Bytes.{is_foreign}
use Rattle.text_spec.specs.Lists.{part, all_of}
use Rattle.token_spec.specs.Texts.{decoded_size}

-- ---- definitions
abbrev pub passes : ℕ → Bool
passes b = not (is_foreign b)

-- a range lies inside a text, and each of its bytes passes 3
unfoldable pub range_passes : List ℕ → ℕ → ℕ → Bool
range_passes lent start size = leb start (length lent) && (eqb (length (part start size lent)) size && all_of passes (part start size lent))

-- a range is copied, or it is one journal text of so many characters
unfoldable pub range_decodes : List ℕ → ℕ → ℕ → ℕ → Bool
range_decodes lent start size decoded = eqb decoded size || is_size decoded (decoded_size (part start size lent))

-- a row that is a text has such a range, which is copied or decoded
abbrev pub text_passes : List ℕ → ℕ → ℕ → ℕ → ℕ → Bool
text_passes lent code start size decoded = not (is_text_code code) || (range_passes lent start size && range_decodes lent start size decoded)

-- the n rows from row i on, by the columns of their codes, starts, lengths and decoded lengths
abbrev pub texts_pass : List ℕ → List ℕ → List ℕ → List ℕ → List ℕ → ℕ → ℕ → Bool
texts_pass lent names starts lengths decoded i zero = true
texts_pass lent names starts lengths decoded i (suc n) =
    text_passes lent (get_or names i 0) (get_or starts i 0) (get_or lengths i 0) (get_or decoded i 0) && texts_pass lent names starts lengths decoded (suc i) n

-- ---- laws
abbrev cells_pass : List ℕ → Cells → Bool
cells_pass lent x = text_passes lent x.name x.start x.size x.decoded

row-passes : (lent : List ℕ) (c : Columns) (i : ℕ) (r : Row) → Stands c i r → cells_pass lent (cells_at c i) ≡ text_inside lent r
unfolding range_passes range_decodes
row-passes lent c i r s =
    ap (cells_pass lent) s.cells ∙ ap (λ (b : Bool). not b || (range_passes lent r.start r.size && range_decodes lent r.start r.size r.decoded)) (code-text (code_of r.name) r.name s.coded)

texts-pass : (lent : List ℕ) (c : Columns) (k n : ℕ) (rows : List Row) → StandFrom c k n rows → texts_pass lent c.names c.starts c.lengths c.decoded k n ≡ all_of (text_inside lent) rows
texts-pass lent c k zero [] f = refl
texts-pass lent c k zero (r ∷ rs) f = absurd (omega (arith, f.size))
texts-pass lent c k (suc n) [] f = absurd (omega (arith, f.size))
texts-pass lent c k (suc n) (r ∷ rs) f =
    let zeroth : k + 0 ≡ k = omega arith in
    let this = subst (λ (x : ℕ). Stands c x r) zeroth (f.each 0 r refl) in
    ap₂ ◌&&◌ (row-passes lent c k r this)
    (texts-pass lent c (suc k) n rs
    (record { size = omega (arith, f.size); each = λ i z g. (let e : k + suc i ≡ suc k + i = omega arith in subst (λ (x : ℕ). Stands c x z) e (f.each (suc i) z g)) }))

-- Both passes are the test of a table with the text lent beside it, on the rows that the columns hold.
pub beside-pass : (s : Types) (words : List ℕ) → HeldWords s words → (c : Columns) (lent : List ℕ) (n : ℕ)
    → (rows_pass words c n && texts_pass lent c.names c.starts c.lengths c.decoded 0 n) ≡ passes_rows (well_formed_with s lent) (rows_of (cells_from c 0 n))
unfolding well_formed_with
beside-pass s words hw c lent n =
    ap (λ (b : Bool). b && texts_pass lent c.names c.starts c.lengths c.decoded 0 n) (rows_pass_lem s words hw c n) ∙ pick (rows_of (cells_from c 0 n)) refl
  where
    pick : (o : Option (List Row)) → rows_of (cells_from c 0 n) ≡ o → (passes_rows (well_formed s) o && texts_pass lent c.names c.starts c.lengths c.decoded 0 n) ≡ passes_rows (well_formed_with s lent) o
    pick none e = refl
    pick (some rows) e = ap (λ (b : Bool). well_formed s rows && b) (texts-pass lent c 0 n rows (rows-stand c 0 n rows e))
