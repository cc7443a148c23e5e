-- `held_words` meets its contract: the words that the loop has passed are those of their sets.
use Rattle.std.proofs.Common.{◌≡◌, ◌∙◌, arith, rules, length, length-set}
use Rattle.std.proofs.Math.ListN.{get_or-eq_default}
use Rattle.compiled_schema.specs.held_words.Words.{WordAt}
use Rattle.text_laws.specs.Loops.{passed_first, passed-next}
use Rattle.text_spec.specs.Limits.{max_declarations}
use Rattle.compiled_schema.proofs.held_words.held_words.Goals as goal

pub loop-i-init : goal.loop-i-init
loop-i-init c = (search rules, passed_first (WordAt c.args.sets.now) 0 _)

pub loop-i-preserved : goal.loop-i-preserved
loop-i-preserved c =
    let at = c.loop-i in (
      length-set at.out at.i c.to_word.result ∙ at.invariant.0,
      passed-next (WordAt c.args.sets.now) 0 _ at.i at.out c.to_word.result (omega arith) at.invariant.1 c.to_word.ensures,
    )

pub returns : goal.returns
returns c =
    let at = c.loop-i in
    let start : length at.out ≡ max_declarations = at.invariant.0 in
    record { each = λ a l. at.invariant.1.done a (omega arith); past = λ a l. get_or-eq_default at.out 0 (omega arith) }
