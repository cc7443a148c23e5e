use Rattle.std.proofs.Common.{refl, ◌∙◌}
use Rattle.selection.specs.answers.Answers.{cleared-cells}
use Rattle.selection.proofs.answers.refused_by.Goals as goal

pub returns : goal.returns
returns c =
    record {
      answer = refl;
      items-are = c.fill.ensures.after (λ y e. e) ∙ cleared-cells _;
      counts-are = c.fill-2.ensures.after (λ y e. e) ∙ cleared-cells _;
    }
