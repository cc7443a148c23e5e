-- `bracket_after` meets its contract.
use Rattle.std.proofs.Common.{refl, sym, ◌∙◌}
use Rattle.journal_lexer.specs.whole_entities.Entities.{whole, itself}
use Rattle.text_spec.specs.Lists.{bytes}
use Rattle.token_spec.specs.Characters.{lt, gt}
use Rattle.journal_lexer.proofs.whole_entities.bracket_after.Goals as goal

pub returns-then-begins_at : goal.returns-then-begins_at
returns-then-begins_at c other = whole (bytes "lt;") lt (sym c.begins_at.ensures ∙ c.if-begins_at.true) refl

pub returns-then-begins_at-2 : goal.returns-then-begins_at-2
returns-then-begins_at-2 c other = whole (bytes "gt;") gt (sym c.begins_at-2.ensures ∙ c.if-begins_at-2.true) refl

pub returns : goal.returns
returns c other = itself other (sym c.begins_at.ensures ∙ c.if-begins_at.false) (sym c.begins_at-2.ensures ∙ c.if-begins_at-2.false) refl refl
