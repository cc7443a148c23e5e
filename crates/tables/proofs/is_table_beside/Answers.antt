-- `is_table_beside` meets its contract: a table whose texts pass.
use Rattle.std.proofs.Common.{true, false, sym, ◌∙◌, refl}
use Rattle.tables.specs.Handed.{beside-held}
use Rattle.tables.proofs.is_table_beside.Goals as goal

pub returns-then-is_table : goal.returns-then-is_table
returns-then-is_table c =
    λ s h. beside-held c.args.words.now _ s h c.args.lent.now true _ (sym c.if-is_table.true ∙ c.is_table.ensures.held s h) c.texts_pass.ensures

pub returns-else-is_table : goal.returns-else-is_table
returns-else-is_table c =
    λ s h. c.if-is_table.false ∙ beside-held c.args.words.now _ s h c.args.lent.now false _ (sym c.if-is_table.false ∙ c.is_table.ensures.held s h) refl
