-- `past_name` meets its contract: by the kind of the byte.
use Rattle.journal_lexer.specs.tags.Laws.{tag-blank, tag-closed, tag-slash, tag-stop}
use Rattle.journal_lexer.proofs.tags.past_name.Goals as goal

pub returns-in-Blank : goal.returns-in-Blank
returns-in-Blank c = tag-blank c.requires c.in-Blank.is c.goes.ensures

pub returns-in-Greater : goal.returns-in-Greater
returns-in-Greater c = tag-closed c.requires c.in-Greater.is c.tells.ensures

pub returns-in-Slash : goal.returns-in-Slash
returns-in-Slash c = tag-slash c.requires c.in-Slash.is c.goes-in-Slash.ensures

pub returns-in_default : goal.returns-in_default
returns-in_default c =
    λ n g. tag-stop c.requires c.in_default.not-Blank c.in_default.not-Greater c.in_default.not-Slash c.stop.ensures.0 c.stop.ensures.1 n
