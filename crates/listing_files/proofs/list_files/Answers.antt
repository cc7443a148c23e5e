-- `list_files` meets its contract: the two texts, the journal, its rows.
use Rattle.std.proofs.Common.{refl, sym, ap, ◌∙◌, subst}
use Rattle.std.specs.Prelude.{length}
use Rattle.std.proofs.lemmas.Result.{err_from_is_err_and}
use native.Mathlib.Omega.{arith}
use lib.Seq.{take_at}
use Rattle.cells.specs.columns.Columns.{EqualColumns}
use Rattle.cells.specs.lent.Columns.{first_cells}
use Rattle.hosts.specs.columns.Rows.{sizes-left}
use Rattle.listing_files.specs.contents.FileLaws.{texts-refused-lists, journal-refused-lists, columns-equal, columns-room, firsts-room, first-texts, rows-asked, noted-size, rows-list, taken-size}
use Rattle.table_spec.specs.Columns.{Columns}
use Rattle.listing_files.proofs.list_files.Goals as goal

pub returns-in_err-texts-clause-listed : goal.returns-in_err-texts-clause-listed
returns-in_err-texts-clause-listed c =
    let p = err_from_is_err_and c.from_residual.result c.from_residual.ensures.1 in
    rw (p.1, p.2) (record { says = texts-refused-lists _ _ _ _ c.in_err-texts.ensures.says })

pub read_compiled-requires : goal.read_compiled-requires
read_compiled-requires c =
    (c.in_ok-texts.ensures.says.compiled, omega arith, c.requires.equal)

pub returns-in_err-count-clause-listed : goal.returns-in_err-count-clause-listed
returns-in_err-count-clause-listed c =
    let p = err_from_is_err_and c.from_residual-in_err-count.result c.from_residual-in_err-count.ensures.1 in
    let taken = c.in_ok-texts.ensures.says in
    let w = c.in_err-count.ensures.read in
    rw (p.1, p.2) (record { says = journal-refused-lists _ _ _ _ taken _ _ _ c.requires _ (w.answer taken.read) (w.cells taken.read) _ refl })

pub returns-in_err-count-clause-sizes : goal.returns-in_err-count-clause-sizes
returns-in_err-count-clause-sizes c = sizes-left _ _ _ (c.in_err-count.ensures.read.cells c.in_ok-texts.ensures.says.read)

pub first-table-requires-clause-equal : goal.first-table-requires-clause-equal
first-table-requires-clause-equal c =
    let taken = c.in_ok-texts.ensures.says in
    let w = c.in_ok-count.ensures.read in
    subst EqualColumns (sym c.as_columns.ensures) (columns-equal _ _ _ _ taken _ _ _ c.requires _ (w.answer taken.read) (w.cells taken.read) _ refl)

pub first-table-requires-clause-room : goal.first-table-requires-clause-room
first-table-requires-clause-room c =
    let taken = c.in_ok-texts.ensures.says in
    let w = c.in_ok-count.ensures.read in
    omega (arith, ap (λ (x : Columns). length x.numbers) c.as_columns.ensures, columns-room _ _ _ _ taken _ _ _ c.requires _ (w.answer taken.read) (w.cells taken.read) _ refl)

pub slice_bounds-list_rows-end : goal.slice_bounds-list_rows-end
slice_bounds-list_rows-end c =
    let taken = c.in_ok-texts.ensures.says in
    let w = c.in_ok-count.ensures.read in
    firsts-room _ _ _ _ taken _ _ _ c.requires _ (w.answer taken.read) (w.cells taken.read) _ refl

pub list_rows-requires : goal.list_rows-requires
list_rows-requires c =
    let taken = c.in_ok-texts.ensures.says in
    let w = c.in_ok-count.ensures.read in
    let answer = w.answer taken.read in
    let cells = w.cells taken.read in
    let is = c.first-table.ensures ∙ ap (first_cells c.in_ok-count.count) c.as_columns.ensures in
    let room = firsts-room _ _ _ _ taken _ _ _ c.requires _ answer cells _ refl in (
      rows-asked _ _ _ _ taken _ _ _ c.requires _ answer cells _ refl c.first-table.result is _ (sym (taken-size _ _ room)),
      first-texts _ _ _ _ taken _ _ _ c.requires _ answer cells _ refl c.first-table.result is,
    )

pub returns-clause-listed : goal.returns-clause-listed
returns-clause-listed c =
    let taken = c.in_ok-texts.ensures.says in
    let w = c.in_ok-count.ensures.read in
    let answer = w.answer taken.read in
    let cells = w.cells taken.read in
    let is = c.first-table.ensures ∙ ap (first_cells c.in_ok-count.count) c.as_columns.ensures in
    let l = c.list_rows.ensures in
    let noted = noted-size _ _ _ _ taken _ _ _ c.requires _ answer cells _ refl c.first-table.result is _ _ l in
    record { says = rows-list _ _ _ _ taken _ _ _ c.requires _ answer cells _ refl c.first-table.result is _ _ l _ (take_at _ _ _ noted) }

pub returns-clause-sizes : goal.returns-clause-sizes
returns-clause-sizes c = sizes-left _ _ _ (c.in_ok-count.ensures.read.cells c.in_ok-texts.ensures.says.read)
