use Rattle.std.proofs.Common.{refl, sym, ap, ◌∙◌, Err, ltb-true}
use Rattle.cells.specs.columns.Lent.{lent_columns}
use Rattle.journal.specs.records.Records.{no-record, no-columns, both-pass, refused-1, cleared-1, lent-part, lent-equal, read_answer, read-cells}
use Rattle.table_spec.specs.Columns.{sizes_of, equal_sizes}
use Rattle.journal.proofs.records.read_journal.Goals.{then-not-is_schema_record-via-then-not-is_schema_record, then-not-is_schema_record-via-else-not-is_schema_record+then-not-are_equal}
use Rattle.journal.proofs.records.read_journal.Goals as goal

pub returns-then-not-is_schema_record-clause-value : goal.returns-then-not-is_schema_record-clause-value
returns-then-not-is_schema_record-clause-value c =
    let s = c.args.schema in
    let z = sizes_of (lent_columns c.args.columns.now) in
    elim c.then-not-is_schema_record.branch [
      | then-not-is_schema_record-via-then-not-is_schema_record w ↦
          refused-1 s.bytes s.len c.args.text.now z (no-record s.bytes s.len z (sym c.is_schema_record.ensures ∙ w.if-not-is_schema_record.true)) _ (ap Err c.of.ensures)
      | then-not-is_schema_record-via-else-not-is_schema_record+then-not-are_equal w ↦
          refused-1 s.bytes s.len c.args.text.now z (no-columns s.bytes s.len z _ w.are_equal.ensures w.if-not-are_equal.true) _ (ap Err c.of.ensures)
    ]

pub returns-then-not-is_schema_record-clause-left : goal.returns-then-not-is_schema_record-clause-left
returns-then-not-is_schema_record-clause-left c =
    let s = c.args.schema in
    let z = sizes_of (lent_columns c.args.columns.now) in
    elim c.then-not-is_schema_record.branch [
      | then-not-is_schema_record-via-then-not-is_schema_record w ↦
          record {
            same = c.clear.ensures.same;
            cells = c.clear.ensures.cells ∙ cleared-1 s.bytes s.len c.args.text.now z (no-record s.bytes s.len z (sym c.is_schema_record.ensures ∙ w.if-not-is_schema_record.true));
          }
      | then-not-is_schema_record-via-else-not-is_schema_record+then-not-are_equal w ↦
          record {
            same = c.clear.ensures.same;
            cells = c.clear.ensures.cells ∙ cleared-1 s.bytes s.len c.args.text.now z (no-columns s.bytes s.len z _ w.are_equal.ensures w.if-not-are_equal.true);
          }
    ]

pub slice_bounds-declared-end : goal.slice_bounds-declared-end
slice_bounds-declared-end c =
    let s = c.args.schema in
    let z = sizes_of (lent_columns c.args.columns.now) in
    lent-part s.bytes s.len (equal_sizes z) (both-pass s.bytes s.len z _ (sym c.is_schema_record.ensures ∙ c.if-not-is_schema_record.false) c.are_equal.ensures c.if-not-are_equal.false)

pub read_compiled-requires : goal.read_compiled-requires
read_compiled-requires c =
    let s = c.args.schema in
    let t = lent_columns c.args.columns.now in
    let lent = both-pass s.bytes s.len (sizes_of t) _ (sym c.is_schema_record.ensures ∙ c.if-not-is_schema_record.false) c.are_equal.ensures c.if-not-are_equal.false in
    (c.compile-compiled.ensures, ltb-true _ _ refl, lent-equal s.bytes s.len t lent)

pub returns-clause-value : goal.returns-clause-value
returns-clause-value c =
    let s = c.args.schema in
    let t = lent_columns c.args.columns.now in
    let lent = both-pass s.bytes s.len (sizes_of t) _ (sym c.is_schema_record.ensures ∙ c.if-not-is_schema_record.false) c.are_equal.ensures c.if-not-are_equal.false in
    read_answer s.bytes s.len t lent c.read_compiled.ensures.read

pub returns-clause-left : goal.returns-clause-left
returns-clause-left c =
    let s = c.args.schema in
    let t = lent_columns c.args.columns.now in
    let lent = both-pass s.bytes s.len (sizes_of t) _ (sym c.is_schema_record.ensures ∙ c.if-not-is_schema_record.false) c.are_equal.ensures c.if-not-are_equal.false in
    record { same = c.read_compiled.ensures.same.same; cells = read-cells s.bytes s.len t lent c.read_compiled.ensures.read }
