-- `entity_after` meets its contract.
use Rattle.std.proofs.Common.{refl, sym, ◌∙◌}
use Rattle.journal_lexer.specs.whole_entities.Entities.{whole}
use Rattle.text_spec.specs.Lists.{bytes}
use Rattle.token_spec.specs.Characters.{amp, apos, quot}
use Rattle.journal_lexer.proofs.whole_entities.entity_after.Goals as goal

pub returns-then-begins_at : goal.returns-then-begins_at
returns-then-begins_at c = whole (bytes "amp;") amp (sym c.begins_at.ensures ∙ c.if-begins_at.true) refl

pub returns-then-begins_at-2 : goal.returns-then-begins_at-2
returns-then-begins_at-2 c = whole (bytes "apos;") apos (sym c.begins_at-2.ensures ∙ c.if-begins_at-2.true) refl

pub returns-then-begins_at-3 : goal.returns-then-begins_at-3
returns-then-begins_at-3 c = whole (bytes "quot;") quot (sym c.begins_at-3.ensures ∙ c.if-begins_at-3.true) refl

pub returns : goal.returns
returns c =
    c.bracket_after.ensures
    (record {
      amp = sym c.begins_at.ensures ∙ c.if-begins_at.false;
      apos = sym c.begins_at-2.ensures ∙ c.if-begins_at-2.false;
      quot = sym c.begins_at-3.ensures ∙ c.if-begins_at-3.false;
    })
