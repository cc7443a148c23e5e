use Rattle.std.proofs.Common.{subst, ◌∙◌}
use Rattle.journal_builder.specs.declared.fillings.Filling.{Filling}
use Rattle.journal_builder.specs.fillings.FillingLaws.{end-decides}
use Rattle.journal_builder.specs.fillings.Fillings.{FillingOf}
use Rattle.journal_builder.proofs.fillings.Filling.fits_at_end.Goals as goal

pub returns-in-ByChildren : goal.returns-in-ByChildren
returns-in-ByChildren c s x k h =
    let own = subst (λ (f : Filling). FillingOf s f x) c.in-ByChildren.is h in
    c.may_end.ensures ∙ end-decides s c.args.schema.now _ _ x own k c.ends.result c.ends.ensures
