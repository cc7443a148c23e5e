use Rattle.std.proofs.Common.{sym, ◌∙◌, arith}
use Rattle.journal_builder.specs.element_names.Names.{found_at, none_more, none_found}
use Rattle.schema_spec.specs.Schemas.{name_at}
use Rattle.journal_builder.proofs.element_names.ElementNames.scan.Goals as goal

pub returns-then-same : goal.returns-then-same
returns-then-same c s n names p =
    let l = c.loop-e-test.true in
    let e = c.loop-e.e in
    found_at s c.args.self.now n names e (omega (arith, names.counted)) (sym (c.same.ensures n (name_at s e) p (names.spelt e (omega (arith, names.counted)))) ∙ c.if-same.true)

pub loop-e-preserved : goal.loop-e-preserved
loop-e-preserved c s n names p =
    let l = c.loop-e-test.true in
    let e = c.loop-e.e in
    none_more s c.args.self.now n names e (c.loop-e.invariant s n names p) (sym (c.same.ensures n (name_at s e) p (names.spelt e (omega (arith, names.counted)))) ∙ c.if-same.false)

pub returns : goal.returns
returns c s n names p =
    let l = c.loop-e-test.false in
    none_found s c.args.self.now n names c.loop-e.e (omega (arith, names.counted)) (c.loop-e.invariant s n names p)
