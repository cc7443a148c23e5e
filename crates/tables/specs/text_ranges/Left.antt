-- The rows of texts that are left to decide, after those that pass without being decoded.
use Rattle.std.specs.Prelude.{Bool, not, ◌&&◌, ◌||◌, List, ◌≡◌, ℕ, ◌-◌, ◌≤◌, eqb}
use Rattle.table_laws.specs.passes.Passes.{is_text_code}
use Rattle.table_laws.specs.passes.Texts.{range_passes, text_passes, texts_pass}
use Rattle.table_spec.specs.Columns.{Columns}
use Rattle.table_spec.specs.Rows.{Cells}

-- a row that is a text has a range that passes, and two equal lengths
abbrev pub copied : List ℕ → Cells → Bool
copied lent x = not (is_text_code x.name) || (range_passes lent x.start x.size && eqb x.decoded x.size)

-- a row that is a text has such a range, which is copied or decoded
abbrev pub text_fits : List ℕ → Cells → Bool
text_fits lent x = text_passes lent x.name x.start x.size x.decoded

-- the texts of the first rows of columns pass
abbrev pub texts_in : List ℕ → Columns → ℕ → Bool
texts_in lent c count = texts_pass lent c.names c.starts c.lengths c.decoded 0 count

-- the texts from row i on decide on all
pub record Left (lent : List ℕ) (c : Columns) (count i : ℕ) : Type 0 where
  pub most : i ≤ count
  pub rest : texts_pass lent c.names c.starts c.lengths c.decoded i (count - i) ≡ texts_in lent c count
