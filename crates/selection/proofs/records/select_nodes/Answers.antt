use Rattle.std.proofs.Common.{sym, ◌∙◌}
use borrow.Author.Tests.{not-true, not-false}
use Rattle.selection.specs.records.Records.{not-records, both-records}
use Rattle.selection.proofs.records.select_nodes.Goals as goal

pub returns-then-not-is_bundle_record : goal.returns-then-not-is_bundle_record
returns-then-not-is_bundle_record c =
    not-records _ _ _ _ _ _ _ _ _ _ _ _ (sym c.is_bundle_record.ensures ∙ not-true _ c.if-not-is_bundle_record.true-raw) (rw c.of.ensures at c.refused.ensures)

pub returns : goal.returns
returns c = both-records _ _ _ _ _ _ _ _ _ _ _ _ (sym c.is_bundle_record.ensures ∙ not-false _ c.if-not-is_bundle_record.false-raw) c.select_texts.ensures
