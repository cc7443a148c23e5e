use Rattle.std.proofs.Common.{sym, ◌∙◌, arith}
use Rattle.journal_builder.specs.element_names.Names.{found_at}
use Rattle.schema_spec.specs.Schemas.{name_at}
use Rattle.journal_builder.proofs.element_names.ElementNames.find.Goals as goal

pub returns-then-same : goal.returns-then-same
returns-then-same c s n names p =
    let l = c.if-i-self.true in
    found_at s c.args.self.now n names _ (omega (arith, names.counted)) (sym (c.same.ensures n (name_at s _) p (names.spelt _ (omega (arith, names.counted)))) ∙ c.if-same.true)
