-- `all_kinds` meets its contract: a kind more at each turn.
use Rattle.std.proofs.Common.{◌∙◌, below_more, arith, get_or-set_same, get_or-set_other, length-set}
use Rattle.journal_lexer.specs.declared.kinds.ByteKind.TheVariants.{Letter}
use Rattle.journal_lexer.proofs.kinds.all_kinds.Goals as goal

pub loop-b-preserved : goal.loop-b-preserved
loop-b-preserved c =
    let kinds = c.loop-b.kinds in
    let b = c.loop-b.b in
    let old = c.loop-b.invariant in
    record {
      long = length-set kinds b c.kind_of.result ∙ old.long;
      done =
          below_more _ _ (λ k h. get_or-set_other kinds b k c.kind_of.result Letter (λ e. omega arith) ∙ old.done k h)
          (get_or-set_same kinds b c.kind_of.result Letter (omega arith) ∙ c.kind_of.ensures);
    }
