-- `call` meets its contract: the name is one of the two, or neither.
use Rattle.std.proofs.Common.{sym, ◌∙◌}
use Rattle.bundle_text.proofs.steps.Steps.{call-node, call-text, call-not}
use Rattle.bundle_text.proofs.steps.call.Goals as goal

pub returns-then-is_named : goal.returns-then-is_named
returns-then-is_named c = call-node _ _ _ c.requires.0 c.requires.1 (sym c.is_named.ensures ∙ c.if-is_named.true) c.close.ensures

pub returns-then-is_named-2 : goal.returns-then-is_named-2
returns-then-is_named-2 c = call-text _ _ _ c.requires.0 c.requires.1 (sym c.is_named-2.ensures ∙ c.if-is_named-2.true) c.close-then-is_named-2.ensures

pub returns : goal.returns
returns c = call-not _ _ _ c.requires.0 c.requires.1 (sym c.is_named.ensures ∙ c.if-is_named.false) (sym c.is_named-2.ensures ∙ c.if-is_named-2.false)
