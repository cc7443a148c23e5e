-- `row_chain` meets its contract: the record, then the rest.
use Rattle.std.proofs.Common.{refl, sym, ◌∙◌, ◌≡◌, true}
use Rattle.chains.specs.handed.Answers.{refused-1}
use Rattle.chains.specs.records.Answers.{no_record, by-record, record-read}
use Rattle.compiled_schema.specs.records.Records.{passes-schema}
use Rattle.schema_reader.specs.Records.{passes_record}
use Rattle.text_laws.specs.Cells.{padded-zeros}
use Rattle.chains.proofs.records.row_chain.Goals.{Else-not-is_schema_record}
use Rattle.chains.proofs.records.row_chain.Goals as goal

-- the record passes its test
passes : (c : Else-not-is_schema_record) → passes_record c.args.schema.bytes c.args.schema.len ≡ true
passes c = sym c.is_schema_record.ensures ∙ c.if-not-is_schema_record.false

pub returns-then-not-is_schema_record : goal.returns-then-not-is_schema_record
returns-then-not-is_schema_record c =
    let none = no_record _ _ _ _ (sym (passes-schema _ _) ∙ sym c.is_schema_record.ensures ∙ c.if-not-is_schema_record.true) in
    rw c.of.ensures (refused-1 none refl (c.fill.ensures.after (λ y e. e) ∙ sym (padded-zeros _)))

pub chain_lent-requires : goal.chain_lent-requires
chain_lent-requires c =
    let schema = c.args.schema in
    record-read schema.bytes schema.len (passes (goal.at.chain_lent-requires c).Else-not-is_schema_record)

pub returns : goal.returns
returns c = by-record _ _ _ _ (sym (passes-schema _ _) ∙ passes (goal.at.returns c).Else-not-is_schema_record) _ _ c.chain_lent.ensures
