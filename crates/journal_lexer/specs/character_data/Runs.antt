-- A byte of a run that has a byte that is not a blank.
use Rattle.std.specs.Prelude.{Bool, true, false, ℕ, zero, suc, ◌≡◌}
use Rattle.journal_lexer.specs.declared.kinds.ByteKind.{ByteKind}
use Rattle.journal_lexer.specs.declared.kinds.ByteKind.TheVariants.{Greater, Bracket}
use Rattle.journal_lexer.specs.declared.state.Lex.{Lex}
use Rattle.journal_lexer.specs.declared.state.Places.{Places}
use Rattle.journal_lexer.specs.kinds.Kinds.{lex_by}
use Rattle.journal_lexer.specs.state.Places.{run_of, HasSolid}
use Rattle.journal_lexer.specs.state.Relation.{Meant}
use Rattle.token_spec.specs.Lexer.{in_data}

-- a byte of the kind c after n brackets is read as after none
abbrev pub plain_after : ℕ → ByteKind → Bool
plain_after zero c = true
plain_after (suc n) Bracket = false
plain_after (suc zero) c = true
plain_after (suc (suc n)) Greater = false
plain_after (suc (suc n)) c = true

pub record Plain (l : Lex) (p : Places) (b : ℕ) (c : ByteKind) (r : Lex) (q : Places) : Type 0 where
  pub plain : (n : ℕ) → HasSolid p → plain_after n c ≡ true → Meant l p b r q (lex_by (in_data (run_of p) n) l.place c b)
