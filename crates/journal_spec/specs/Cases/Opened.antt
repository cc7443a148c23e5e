-- One name that opens all definitions with which a case of journals computes: `unfolding computing`.
use Rattle.journal_spec.specs.Builder.{on_event}
use Rattle.journal_spec.specs.Reading.{step, run, read_journal}
use Rattle.table_spec.specs.Cases.Opened.{computing as tables}
use Rattle.token_spec.specs.Cases.Opened.{computing as tokens}

unfoldable pub computing : Unit {0}
unfolding tables tokens on_event step run read_journal
computing = tt
