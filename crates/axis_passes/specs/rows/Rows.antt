-- A table that is selected on: the columns that passes read, and the texts of its rows.
use Rattle.std.specs.Prelude.{List, ◌≡◌, ℕ, length}
use Rattle.axis_passes.specs.declared.rows.Rows.{Rows}
use Rattle.axis_passes.specs.name_tests.Tests.{names_in}
use Rattle.schema_spec.specs.Names.{Name}

abbrev pub parents_in : Rows → List ℕ
parents_in t = t.columns.parents.now

abbrev pub codes_in : Rows → List ℕ
codes_in t = t.columns.names.now

abbrev pub names_of : Rows → List Name
names_of t = names_in (codes_in t)

-- ---- the texts of a table's rows: where each starts in the lent text, and its two lengths. No pass reads them, and no selection depends on them.
-- a cell for each row
pub record TextColumns (ps starts lengths decoded lent : List ℕ) : Type 0 where
  pub starts-size : length starts ≡ length ps
  pub lengths-size : length lengths ≡ length ps
  pub decoded-size : length decoded ≡ length ps

-- the same, as a `requires` names them
abbrev pub HeldTexts : Rows → Type 0
HeldTexts t = TextColumns (parents_in t) t.columns.starts.now t.columns.lengths.now t.columns.decoded.now t.text.now
