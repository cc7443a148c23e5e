use Rattle.journal_builder.specs.fillings.FillingLaws.{new-filling}
use Rattle.journal_builder.proofs.fillings.Filling.of.Goals as goal

pub returns-in-Empty : goal.returns-in-Empty
returns-in-Empty c s k d = new-filling s c.args.schema.now k c.in-Some.e c.args.e _ c.in-Some.is d c.in-Empty.ensures

pub returns-in-Pcdata : goal.returns-in-Pcdata
returns-in-Pcdata c s k d = new-filling s c.args.schema.now k c.in-Some.e c.args.e _ c.in-Some.is d c.in-Pcdata.ensures

pub returns-in-Children : goal.returns-in-Children
returns-in-Children c s k d = new-filling s c.args.schema.now k c.in-Some.e c.args.e _ c.in-Some.is d c.in-Children.ensures
