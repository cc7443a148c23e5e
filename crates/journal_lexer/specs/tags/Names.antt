-- One byte more of a name.
use Rattle.std.specs.Prelude.{List, [], ◌∷◌, ◌++◌, ◌≡◌, ℕ, ◌+◌, ◌≤◌, ◌<◌, length}
use Rattle.journal_lexer.specs.declared.state.Event.TheVariants.{Quiet}
use Rattle.journal_lexer.specs.declared.state.Lex.{Lex}
use Rattle.journal_lexer.specs.declared.state.Mode.{Mode}
use Rattle.journal_lexer.specs.declared.state.Mode.TheVariants.{Stopped}
use Rattle.journal_lexer.specs.state.Relation.{stepped, named}
use Rattle.text.specs.declared.name_words.Name.{Name}
use Rattle.text.specs.name_words.Words.{words_of}
use Rattle.text_spec.specs.Limits.{max_name_bytes}

-- the name is longer, or too long
pub data Longer (mode : Mode) (l : Lex) (n : List ℕ) (b : ℕ) (r : Lex) : Type 0 where
  fits : length n < max_name_bytes → (w : Name) → w ≡ words_of (n ++ (b ∷ [])) → r ≡ named mode (l.count + 1) w l → Longer mode l n b r
  over : max_name_bytes ≤ length n → r ≡ stepped Stopped Quiet l → Longer mode l n b r
