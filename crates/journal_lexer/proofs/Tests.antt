-- What tests by `==` and `!=` say of kinds, modes and events.
use Rattle.std.specs.Prelude.{true, false, not, ◌≡◌}
use Rattle.std.proofs.Common.{sym, rules}
use denote.Enum.Bare.{sameb, same_true, same_false, differs_false}
use Rattle.journal_lexer.specs.contracts.entities.EntityRest as rests
use Rattle.journal_lexer.specs.contracts.kinds.ByteKind as kinds
use Rattle.journal_lexer.specs.contracts.state.Event as events
use Rattle.journal_lexer.specs.contracts.state.Mode as modes
use Rattle.journal_lexer.specs.declared.entities.EntityRest.{EntityRest}
use Rattle.journal_lexer.specs.declared.kinds.ByteKind.{ByteKind}
use Rattle.journal_lexer.specs.declared.state.Event.{Event}
use Rattle.journal_lexer.specs.declared.state.Mode.{Mode}

pub kind-is : (a b : ByteKind) → true ≡ sameb kinds.the_type a b → a ≡ b
kind-is a b e = same_true kinds.the_type (search rules) a b (sym e)

pub kind-not : (a b : ByteKind) → false ≡ sameb kinds.the_type a b → a ≡ b → ⊥
kind-not a b e = same_false kinds.the_type a b (sym e)

pub mode-no-other : (a b : Mode) → false ≡ not (sameb modes.the_type a b) → a ≡ b
mode-no-other a b e = differs_false modes.the_type (search rules) a b (sym e)

pub event-no-other : (a b : Event) → false ≡ not (sameb events.the_type a b) → a ≡ b
event-no-other a b e = differs_false events.the_type (search rules) a b (sym e)

pub rest-no-other : (a b : EntityRest) → false ≡ not (sameb rests.the_type a b) → a ≡ b
rest-no-other a b e = differs_false rests.the_type (search rules) a b (sym e)
