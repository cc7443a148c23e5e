use Rattle.std.proofs.Common.{arith, ◌∙◌, sym}
use Rattle.chains.specs.lent.Answers.{answered-short, answered-whole}
use Rattle.text_laws.specs.Cells.{padded-zeros}
use Rattle.chains.proofs.lent.put_chain.Goals as goal

pub returns-then-out-size : goal.returns-then-out-size
returns-then-out-size c =
    rw c.of.ensures (answered-short _ _ _ _ _ _ _ c.requires.0 c.chain_size-size.ensures _ _ c.if-out-size.true (c.fill.ensures.after (λ y e. e) ∙ sym (padded-zeros _)))

pub write_chain-end-requires : goal.write_chain-end-requires
write_chain-end-requires c =
    record { named = c.requires.0; table = c.requires.1; room = omega (arith, c.chain_size-size.ensures, c.if-out-size.false) }

pub returns : goal.returns
returns c =
    answered-whole _ _ _ _ _ _ _ c.requires.0 c.chain_size-size.ensures _ _ _ _ (omega (arith, c.if-out-size.false)) c.write_chain-end.ensures c.fill_from.ensures
