-- The modes that loops over character data read in.
use Rattle.journal_lexer.specs.declared.state.Mode.{Mode}
use Rattle.journal_lexer.specs.declared.state.Mode.TheVariants.{Between, Blanks, Solid, InEntity}
use Rattle.journal_lexer.specs.loop_laws.Advance.{only, either}

abbrev pub DataMode : Mode → Type 0
DataMode = either (only Between) (either (only Blanks) (either (only Solid) (only InEntity)))
