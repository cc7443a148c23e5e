-- What a loop in one mode asks of the byte function that it is passed.
use Rattle.std.specs.Prelude.{ℕ}
use Rattle.std.specs.Borrow.{MutBor}
use Rattle.journal_lexer.specs.declared.kinds.ByteKind.{ByteKind}
use Rattle.journal_lexer.specs.declared.state.Lex.{Lex}
use Rattle.journal_lexer.specs.declared.state.Mode.{Mode}
use Rattle.journal_lexer.specs.declared.state.Places.{Places}
use Rattle.journal_lexer.specs.state.Relation.{Handed, Steps}

abbrev pub Callable : (MutBor Places → Lex → ℕ → ByteKind → Type 0) → Type 0
Callable pre = (p : MutBor Places) (l : Lex) (b : ℕ) (c : ByteKind) → Handed l p.now b c → pre p l b c

-- each call reads its byte as the definition reads it in this mode
abbrev pub Reads : Mode → (MutBor Places → Lex → ℕ → ByteKind → Lex → MutBor Places → Type 0) → Type 0
Reads mode post =
    (p : MutBor Places) (l : Lex) (b : ℕ) (c : ByteKind) (r : Lex) (q : MutBor Places) → Handed l p.now b c → post p l b c r q → Steps mode l p.now b r q.now
