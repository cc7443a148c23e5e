-- The columns of a table as one value: what they hold, and that a call leaves them behind the same references.
use Rattle.std.specs.Prelude.{◌≡◌}
use Rattle.cells.specs.declared.columns.Columns as reading
use Rattle.cells.specs.declared.columns.ColumnsMut as writing
use Rattle.table_spec.specs.Columns.{Columns, columns}

-- what columns hold that are read, and what columns hold that are written
abbrev pub read_columns : reading.Columns → Columns
read_columns t = columns t.numbers.now t.names.now t.parents.now t.starts.now t.lengths.now t.decoded.now

abbrev pub lent_columns : writing.ColumnsMut → Columns
lent_columns t = columns t.numbers.now t.names.now t.parents.now t.starts.now t.lengths.now t.decoded.now

-- the same six references
pub record Same (old new : writing.ColumnsMut) : Type 0 where
  pub numbers : new.numbers.ghost_name ≡ old.numbers.ghost_name
  pub names : new.names.ghost_name ≡ old.names.ghost_name
  pub parents : new.parents.ghost_name ≡ old.parents.ghost_name
  pub starts : new.starts.ghost_name ≡ old.starts.ghost_name
  pub lengths : new.lengths.ghost_name ≡ old.lengths.ghost_name
  pub decoded : new.decoded.ghost_name ≡ old.decoded.ghost_name

-- what a call leaves in them
pub record Left (old new : writing.ColumnsMut) (x : Columns) : Type 0 where
  pub same : Same old new
  pub cells : lent_columns new ≡ x
