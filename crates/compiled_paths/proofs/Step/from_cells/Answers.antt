-- `Step::from_cells` meets its contract.
use Rattle.std.proofs.Common.{arith, sym, ap, ◌∙◌}
use Rattle.compiled_paths.specs.Columns.{written_of, number-going-on, number-of-last}
use Rattle.compiled_paths.proofs.Step.from_cells.Goals as goal
use Rattle.compiled_paths.proofs.Step.from_cells.Goals.{then-ends_alternative, else-ends_alternative}

pub returns-clause-axis : goal.returns-clause-axis
returns-clause-axis c =
    elim c.if-ends_alternative.branch [
      | then-ends_alternative w ↦ c.from_number.ensures ∙ ap written_of (w.number-is ∙ sym (number-of-last c.args.axis (omega arith)))
      | else-ends_alternative w ↦ c.from_number.ensures ∙ ap written_of (w.number-is ∙ sym (number-going-on c.args.axis (omega arith)))
    ]
