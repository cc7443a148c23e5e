-- `data_byte` meets its contract: by the kind of the byte.
use Rattle.journal_lexer.specs.declared.kinds.ByteKind.TheVariants.{Blank}
use Rattle.journal_lexer.proofs.Tests.{kind-is, kind-not}
use Rattle.journal_lexer.proofs.data_runs.Runs.{data-blank, data-entity, data-bracket, data-solid}
use Rattle.journal_lexer.proofs.data_runs.data_byte.Goals as goal

pub returns-then-eq : goal.returns-then-eq
returns-then-eq c = data-blank c.requires c.args.start (kind-is c.args.c Blank c.if-eq.ensures) c.goes.ensures

pub returns-in-Ampersand : goal.returns-in-Ampersand
returns-in-Ampersand c = data-entity c.requires c.args.start c.in-Ampersand.is c.entity_begins.ensures.0 c.entity_begins.ensures.1

pub returns-in-Bracket : goal.returns-in-Bracket
returns-in-Bracket c = data-bracket c.requires c.args.start c.in-Bracket.is c.goes-in-Bracket.ensures

pub returns-in_default : goal.returns-in_default
returns-in_default c =
    data-solid c.requires c.args.start (kind-not c.args.c Blank c.if-eq.ensures) c.in_default.not-Ampersand c.in_default.not-Bracket c.goes-in_default.ensures c.note_foreign.ensures
