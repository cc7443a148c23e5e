use Rattle.std.proofs.Common.{refl}
use Rattle.selection.proofs.answers.refused.Goals as goal

pub returns : goal.returns
returns c =
    record {
      answer = refl;
      items-are = c.refused_by.ensures.items-are;
      counts-are = c.refused_by.ensures.counts-are;
    }
