-- What has been read of an extract: the rows done, which the columns hold; the fields left give the rest.
use Rattle.std.specs.Prelude.{Bool, true, false, List, [], ◌∷◌, ◌≡◌, ℕ, ◌-◌, ◌<◌, ◌≤◌, Result, Ok, Err, length}
use Rattle.std.proofs.Math.Option.{Option, none, some}
use Rattle.cells.specs.columns.Columns.{EqualColumns}
use Rattle.cells.specs.columns.Lent.{lent_columns}
use Rattle.cells.specs.declared.columns.ColumnsMut.{ColumnsMut}
use Rattle.extract_reader.specs.declared.levels.Level.{Level}
use Rattle.extract_reader.specs.declared.reading.Carried.{Carried}
use Rattle.extract_reader.specs.declared.reading.Reader.{Reader}
use Rattle.extract_reader.specs.field_rows.Steps.{Ready}
use Rattle.extract_reader.specs.field_tests.Tests.{word_types}
use Rattle.extract_reader.specs.field_values.Fields.{state_in}
use Rattle.extract_reader.specs.reading.Readers.{SameSource}
use Rattle.extract_spec.specs.Reading.{cons_row}
use Rattle.projection_laws.specs.extract_passes.Steps.{rows_from, rows_in}
use Rattle.table_spec.specs.Columns.{Columns, sizes_of, columns_of}
use Rattle.table_spec.specs.Rows.{Row}
use Rattle.text.specs.declared.refusals.Reason.TheVariants.{BadExtract}
use Rattle.text.specs.declared.refusals.Refusal.{Refusal}
use Rattle.text.specs.refusals.Refusals.{refusal}

-- rows before those of an answer
abbrev pub prepended : List Row → Option (List Row) → Option (List Row)
prepended [] o = o
prepended (r ∷ rs) o = cons_row r (prepended rs o)

-- the columns hold these rows, and then zeros
abbrev pub Hold : Columns → List Row → Type 0
Hold cols rows = cols ≡ columns_of (sizes_of cols) rows

module _ (bs words : List ℕ) where
  pub record Reads (levels : List Level) (cols : Columns) (c : Carried) : Type 0 where
    pub equal : EqualColumns cols
    pub ready : Ready bs levels c
    pub done : List Row
    pub counted : c.rows ≡ length done
    pub held : Hold cols done
    pub fuel : ℕ
    pub enough : length bs - c.at ≤ fuel
    pub so_far : rows_in (word_types words) bs ≡ prepended done (rows_from (word_types words) bs fuel c.at (state_in levels c))

  -- the bytes are no extract
  pub record NoRows (f : Refusal) : Type 0 where
    pub none-read : rows_in (word_types words) bs ≡ none
    pub refused : f ≡ refusal BadExtract 0

  -- all rows are read, so many
  pub record AllRead (cols : Columns) (n : ℕ) : Type 0 where
    pub done : List Row
    pub read : rows_in (word_types words) bs ≡ some done
    pub counted : n ≡ length done
    pub held : Hold cols done

  -- one row more is read, of a field past a place
  pub record OneRead (at : ℕ) (levels : List Level) (cols : Columns) (c : Carried) : Type 0 where
    pub reads : Reads levels cols c
    pub onward : at < c.at
    pub inside : c.at ≤ length bs

-- a reader goes on in columns
abbrev pub ReadsNext : Reader → ColumnsMut → Type 0
ReadsNext r t = Reads r.extract.now r.words.now r.levels (lent_columns t) r.carried

abbrev pub AfterField : List ℕ → List ℕ → ℕ → List Level → Columns → Carried → Result Bool Refusal → Type 0
AfterField bs words at levels cols c (Ok true) = OneRead bs words at levels cols c
AfterField bs words at levels cols c (Ok false) = AllRead bs words cols c.rows
AfterField bs words at levels cols c (Err f) = NoRows bs words f

pub record ReadOn (old : Reader) (was : ColumnsMut) (new : Reader) (now : ColumnsMut) (r : Result Bool Refusal) : Type 0 where
  pub source : SameSource old new
  pub sizes : sizes_of (lent_columns now) ≡ sizes_of (lent_columns was)
  pub after : AfterField old.extract.now old.words.now old.carried.at new.levels (lent_columns now) new.carried r
