-- `join` meets its contract: nothing, `,` or `|` parts the group.
use Rattle.std.proofs.Common.{rules}
use Rattle.schema.specs.particles.AutomataLaws.{joined-first, joined-comma, joined-bar}
use Rattle.schema.proofs.separators.join.Goals as goal

pub returns-in-None : goal.returns-in-None
returns-in-None c = joined-first _ _ _ c.in-None.is

pub returns-in-Some-Comma : goal.returns-in-Some-Comma
returns-in-Some-Comma c = joined-comma _ _ _ (search rules) _ _ c.link.ensures c.in_sequence.ensures

pub returns-in-Some-Bar : goal.returns-in-Some-Bar
returns-in-Some-Bar c = joined-bar _ _ _ (search rules) _ c.in_choice.ensures
