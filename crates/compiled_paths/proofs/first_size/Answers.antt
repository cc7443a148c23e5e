use Rattle.std.proofs.Common.{◌≡◌, ◌+◌, ◌-◌, arith, ap₂}
use Rattle.compiled_paths.specs.Steps.{first_size, first-size-none, first-size-last, first-size-next}
use Rattle.compiled_paths.proofs.first_size.Goals as goal

pub returns-then-steps-k : goal.returns-then-steps-k
returns-then-steps-k c =
    let i = c.loop-i.i in
    let last = first-size-last c.args.steps.now (c.args.n - i) (c.args.k + i) (λ e. omega arith) c.if-steps-k.true in
    omega (arith, c.loop-i.invariant)

pub loop-i-preserved : goal.loop-i-preserved
loop-i-preserved c =
    let steps = c.args.steps.now in
    let i = c.loop-i.i in
    let next = first-size-next steps (c.args.n - i) (c.args.k + i) (λ e. omega arith) c.if-steps-k.false in
    let fewer : c.args.n - i - 1 ≡ c.args.n - (i + 1) = omega arith in
    let later : c.args.k + i + 1 ≡ c.args.k + (i + 1) = omega arith in
    let same = ap₂ (first_size steps) fewer later in
    omega (arith, c.loop-i.invariant)

pub returns : goal.returns
returns c =
    let i = c.loop-i.i in
    let none = first-size-none c.args.steps.now (c.args.n - i) (c.args.k + i) (omega arith) in
    omega (arith, c.loop-i.invariant)
