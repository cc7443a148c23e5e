-- `cut_table` meets its contract: the record, then the rest.
use Rattle.std.proofs.Common.{sym, ◌∙◌}
use Rattle.compiled_schema.specs.records.Records.{passes-schema}
use Rattle.cut_table.specs.laws.Answers.{refused-1, no_record, by-record}
use Rattle.cut_table.proofs.records.cut_table.Goals as goal

pub returns-then-not-is_schema_record : goal.returns-then-not-is_schema_record
returns-then-not-is_schema_record c =
    let none = no_record _ _ _ _ (sym (passes-schema _ _) ∙ sym c.is_schema_record.ensures ∙ c.if-not-is_schema_record.true) in
    record { same = c.refuse.ensures.left.same; table = refused-1 none c.refuse.ensures.answer c.refuse.ensures.left.cells }

pub returns : goal.returns
returns c =
    let cut = c.cut_lent.ensures _ c.schema_sets.ensures in
    record { same = cut.same; table = by-record _ _ _ _ (sym (passes-schema _ _) ∙ sym c.is_schema_record.ensures ∙ c.if-not-is_schema_record.false) _ _ cut.table }
