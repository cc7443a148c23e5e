-- The modes of character data.
use Rattle.std.specs.Prelude.{Bool, true, false}
use Rattle.journal_lexer.specs.declared.state.Mode.{Mode}
use Rattle.journal_lexer.specs.declared.state.Mode.TheVariants.{Blanks, Solid, AfterBracket, AfterBrackets}

abbrev pub is_data_mode : Mode → Bool
is_data_mode Blanks = true
is_data_mode Solid = true
is_data_mode AfterBracket = true
is_data_mode AfterBrackets = true
is_data_mode m = false
