-- The lines of a listing: a refusal, a selected node, and nothing for a row that no path selects.
use Rattle.std.specs.Prelude.{Bool, cond, List, [], ◌≡◌, refl, ℕ, ◌<◌, eqb, length, get_or}
use Rattle.std.proofs.Common.{sym, ap, subst, arith, eq-eqb, ne_eqb}
use Rattle.cells.specs.written_text.Written.{WrittenAt}
use Rattle.cells.specs.declared.columns.Columns.{Columns}
use Rattle.chains.specs.declared.tags.ElementNames.{ElementNames}
use Rattle.chains.specs.tags.Chains.{chain_at}
use Rattle.listing_text.specs.nodes.Nodes.{LinePass}
pub use Rattle.listing_text.specs.nodes.Nodes.{line_of}
pub use Rattle.listing_text.specs.parts.Parts.{refusal, refusal-line}

-- the line of a row: nothing where no path selects it
unfoldable pub row_line : List ℕ → List ℕ → (ℕ → List ℕ) → ℕ → List ℕ
row_line numbers firsts chain_of r = cond (eqb (get_or firsts r 0) 0) [] (line_of (get_or numbers r 0) (get_or firsts r 0) (chain_of r))

-- the same by the names and the columns as values
abbrev pub line_in : ElementNames → Columns → List ℕ → ℕ → List ℕ
line_in names table firsts r = row_line table.numbers.now firsts (chain_at names.text.now names.starts.now names.sizes.now table.names.now table.parents.now) r

-- ---- the line of a row
pub record RowPass (text starts sizes codes ps numbers firsts : List ℕ) (row : ℕ) (out : List ℕ) : Type 0 where
  pub line : LinePass text starts sizes codes ps row out
  pub numbered : row < length numbers
  pub noted : row < length firsts

pub no_line : (numbers firsts : List ℕ) (chain_of : ℕ → List ℕ) (r : ℕ) (out : List ℕ) → get_or firsts r 0 ≡ 0 → WrittenAt out 0 (row_line numbers firsts chain_of r) 0 out
unfolding row_line
no_line numbers firsts chain_of r out e =
    subst (λ (l : List ℕ). WrittenAt out 0 l 0 out)
    (sym (ap (λ (b : Bool). cond b [] (line_of (get_or numbers r 0) (get_or firsts r 0) (chain_of r))) (eq-eqb (get_or firsts r 0) 0 e))) (record { after = omega arith; cells = refl })

pub some-line : (numbers firsts : List ℕ) (chain_of : ℕ → List ℕ) (r n : ℕ) (was out : List ℕ) → (get_or firsts r 0 ≡ 0 → ⊥)
    → WrittenAt was 0 (line_of (get_or numbers r 0) (get_or firsts r 0) (chain_of r)) n out → WrittenAt was 0 (row_line numbers firsts chain_of r) n out
unfolding row_line
some-line numbers firsts chain_of r n was out d w =
    subst (λ (l : List ℕ). WrittenAt was 0 l n out)
    (sym (ap (λ (b : Bool). cond b [] (line_of (get_or numbers r 0) (get_or firsts r 0) (chain_of r))) (ne_eqb (get_or firsts r 0) 0 d))) w
