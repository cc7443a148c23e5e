-- One journal text: the spelling of character data, whole, with the characters that it stands for, and how many they are by the lexer.
use Rattle.std.specs.Prelude.{cond, List, ℕ, ◌-◌, eqb, length}
use Rattle.std.proofs.Math.Option.{Option, none, some}
use Rattle.token_spec.specs.Characters.{Decodes}
use Rattle.token_spec.specs.Lexer.{Mode, between, in_data, in_entity, opened, in_name, after_name, after_slash, ending, in_end_name, after_end_name, stopped, mode_after}
use Rattle.token_spec.specs.Tokens.{characters, Spelt}

-- the bytes are one text, which stands for these characters; no machine is mentioned
pub record OneText (w v : List ℕ) : Type 0 where
  pub spelt : Spelt (characters w)
  pub stands : Decodes w v

-- how many characters so many bytes are that leave a run open which began with the first of them
abbrev pub run_size : ℕ → Mode → Option ℕ
run_size size between = none
run_size size (in_data r brackets) = cond (eqb r.start 0) (some (size - r.saved)) none
run_size size (in_entity rests at r) = none
run_size size (opened at) = none
run_size size (in_name at n) = none
run_size size (after_name at n) = none
run_size size (after_slash at n) = none
run_size size (ending at) = none
run_size size (in_end_name at n) = none
run_size size (after_end_name at n) = none
run_size size (stopped at) = none

-- how many characters bytes stand for, if they are one text
unfoldable pub decoded_size : List ℕ → Option ℕ
decoded_size w = run_size (length w) (mode_after between 0 w)
