-- `all_declarations` meets its contract: what was read up to i.
use Rattle.std.proofs.Common.{refl, arith, rules}
use Rattle.std.proofs.lemmas.Result.{err_from_is_err_and}
use Rattle.schema.proofs.places.Limits.{all_start, all_none, all-spelt, all-fail, all_known, all-next}
use Rattle.schema.proofs.places.all_declarations.Goals as goal

pub loop-i-init : goal.loop-i-init
loop-i-init c = (all_start c.skip-i.ensures c.requires.0 c.requires.1, refl)

pub declaration-requires : goal.declaration-requires
declaration-requires c =
    (c.loop-i-test.true, c.loop-i.invariant.0.few-uses, c.loop-i.invariant.0.no-blank)

pub returns-in_err-read : goal.returns-in_err-read
returns-in_err-read c =
    let p = err_from_is_err_and c.from_residual.result c.from_residual.ensures.1 in
    rw (p.1, p.2) (record { says = all-fail c.loop-i.invariant.0 c.loop-i-test.true c.in_err-read.ensures refl })

pub over_limit-requires : goal.over_limit-requires
over_limit-requires c = (all_known c.loop-i.invariant.0 c.loop-i-test.true c.in_ok-read.ensures refl).0

pub skip-i-requires-in-loop-i : goal.skip-i-requires-in-loop-i
skip-i-requires-in-loop-i c = (all_known c.loop-i.invariant.0 c.loop-i-test.true c.in_ok-read.ensures refl).1

pub loop-i-smaller : goal.loop-i-smaller
loop-i-smaller c =
    let x = all-next c.loop-i.invariant.0 c.loop-i-test.true c.in_ok-read.ensures refl c.note.ensures refl c.skip-i-in-loop-i.ensures in
    let y = x.0 in
    let z = x.1.high in
    omega arith

pub loop-i-preserved : goal.loop-i-preserved
loop-i-preserved c = (
  (all-next c.loop-i.invariant.0 c.loop-i-test.true c.in_ok-read.ensures refl c.note.ensures (search rules) c.skip-i-in-loop-i.ensures).1,
  search rules,
)

pub returns-then-d-eq0 : goal.returns-then-d-eq0
returns-then-d-eq0 c = record { says = all_none c.loop-i.invariant.0 c.loop-i-test.false c.if-d-eq0.true }

pub returns : goal.returns
returns c = record { says = all-spelt c.loop-i.invariant.0 c.loop-i-test.false c.if-d-eq0.false }
