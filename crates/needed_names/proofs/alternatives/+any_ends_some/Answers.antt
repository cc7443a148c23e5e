-- No step is left, or the first alternative ends with some name, or those after it decide.
use Rattle.std.proofs.Common.{arith, sym, ap}
use Rattle.compiled_paths.specs.Steps.{first-size-fits, alternatives-none}
use Rattle.inference.specs.type_steps.Envs.{env_in}
use Rattle.needed_names.specs.alternatives.Alternatives.{any_ends_some}
use Rattle.needed_names.specs.alternatives.Laws.{fewer-steps, first_ends, later-ends}
use Rattle.needed_names.proofs.alternatives.+any_ends_some.Goals as goal

pub ends_some-requires : goal.ends_some-requires
ends_some-requires t c =
    let fits = first-size-fits c.args.asked.now.paths.now.steps c.args.n c.args.k in
    omega (arith, c.first_size-size.ensures)

pub overflow_sub-n : goal.overflow_sub-n
overflow_sub-n t c =
    let fits = first-size-fits c.args.asked.now.paths.now.steps c.args.n c.args.k in
    omega (arith, c.first_size-size.ensures)

pub overflow_add-k : goal.overflow_add-k
overflow_add-k t c =
    let fits = first-size-fits c.args.asked.now.paths.now.steps c.args.n c.args.k in
    omega (arith, c.first_size-size.ensures)

pub any_ends_some-requires : goal.any_ends_some-requires
any_ends_some-requires t c =
    let size = c.first_size-size in
    let fits = first-size-fits c.args.asked.now.paths.now.steps c.args.n c.args.k in
    let fewer = fewer-steps c.args.asked.now.paths.now.steps c.args.n c.args.k size.result size.ensures c.if-n-eq0.false in
    (omega arith, omega (arith, size.ensures))

pub returns-then-n-eq0 : goal.returns-then-n-eq0
returns-then-n-eq0 t c = λ s k. sym (ap (any_ends_some s (env_in s c.args.e)) (alternatives-none c.args.asked.now.paths.now.steps c.args.n c.args.k c.if-n-eq0.true))

pub returns-then-ends_some : goal.returns-then-ends_some
returns-then-ends_some t c = λ s k.
    let size = c.first_size-size in
    first_ends c.args.asked.now.paths.now.steps c.args.n c.args.k size.result size.ensures s (env_in s c.args.e) c.if-n-eq0.false
    c.ends_some.result c.if-ends_some.true (c.ends_some.ensures s k)

pub returns : goal.returns
returns t c = λ s k.
    let size = c.first_size-size in
    later-ends c.args.asked.now.paths.now.steps c.args.n c.args.k size.result size.ensures s (env_in s c.args.e) c.if-n-eq0.false
    c.ends_some.result c.any_ends_some.result c.if-ends_some.false (c.ends_some.ensures s k) (c.any_ends_some.ensures s k)
