use Rattle.std.proofs.Common.{subst}
use Rattle.journal_builder.specs.declared.fillings.Filling.{Filling}
use Rattle.journal_builder.specs.fillings.FillingLaws.{child-advances}
use Rattle.journal_builder.specs.fillings.Fillings.{FillingOf}
use Rattle.journal_builder.proofs.fillings.Filling.with_child.Goals as goal

pub returns-in-Some : goal.returns-in-Some
returns-in-Some c s x k h =
    let own = subst (λ (f : Filling). FillingOf s f x) c.in-ByChildren.is h in
    rw c.in-Some.is (child-advances s c.args.schema.now _ _ x own k c.automaton.result c.automaton.ensures _ _ c.step.ensures)
