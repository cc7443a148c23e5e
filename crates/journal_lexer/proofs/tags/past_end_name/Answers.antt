-- `past_end_name` meets its contract: by the kind of the byte.
use Rattle.journal_lexer.specs.tags.Laws.{end-blank, end-closed, end-stop}
use Rattle.journal_lexer.proofs.tags.past_end_name.Goals as goal

pub returns-in-Blank : goal.returns-in-Blank
returns-in-Blank c = end-blank c.requires c.in-Blank.is c.goes.ensures

pub returns-in-Greater : goal.returns-in-Greater
returns-in-Greater c = end-closed c.requires c.in-Greater.is c.tells.ensures

pub returns-in_default : goal.returns-in_default
returns-in_default c =
    λ n g. end-stop c.requires c.in_default.not-Blank c.in_default.not-Greater c.stop.ensures.0 c.stop.ensures.1 n
