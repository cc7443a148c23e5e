-- One name that opens all definitions with which a case of tokens computes: `unfolding computing`.
use Rattle.token_spec.specs.Characters.{decode}
use Rattle.token_spec.specs.Lexer.{lex, mode_after}
use Rattle.token_spec.specs.Texts.{decoded_size}

unfoldable pub computing : Unit {0}
unfolding decode lex mode_after decoded_size
computing = tt
