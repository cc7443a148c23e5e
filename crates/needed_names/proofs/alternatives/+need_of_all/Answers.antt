-- No step is left, or what the first alternative needs comes before what those after it need.
use mathlib.Core.List.{List, []}
use Rattle.std.proofs.Common.{arith, ℕ, ◌+◌, ◌-◌, sym, ap, ◌∙◌}
use Rattle.compiled_paths.specs.Steps.{first-size-fits, plain_in, alternatives_in, alternatives-none}
use Rattle.inference.specs.back_steps.Laws.{set_in-within, empty-set_in, union-append}
use Rattle.inference.specs.type_steps.Envs.{env_in}
use Rattle.inference_spec.specs.Needed.{keeps_all, wants_nothing, need}
use Rattle.needed_names.specs.alternatives.Alternatives.{need_of_all}
use Rattle.needed_names.specs.alternatives.Laws.{fewer-steps, need-one-and-rest}
use Rattle.path_spec.specs.Paths.{PlainStep, expand}
use Rattle.schema_spec.specs.Names.{names_of, within}
use Rattle.schema_spec.specs.Types.{types_of}
use Rattle.needed_names.proofs.alternatives.+need_of_all.Goals as goal

pub steps-requires : goal.steps-requires
steps-requires t c =
    let fits = first-size-fits c.args.asked.now.paths.now.steps c.args.n c.args.k in
    omega (arith, c.first_size-size.ensures)

pub overflow_sub-n : goal.overflow_sub-n
overflow_sub-n t c =
    let fits = first-size-fits c.args.asked.now.paths.now.steps c.args.n c.args.k in
    omega (arith, c.first_size-size.ensures)

pub overflow_add-k : goal.overflow_add-k
overflow_add-k t c =
    let fits = first-size-fits c.args.asked.now.paths.now.steps c.args.n c.args.k in
    omega (arith, c.first_size-size.ensures)

pub need_of_all-rest-requires : goal.need_of_all-rest-requires
need_of_all-rest-requires t c =
    let size = c.first_size-size in
    let fits = first-size-fits c.args.asked.now.paths.now.steps c.args.n c.args.k in
    let fewer = fewer-steps c.args.asked.now.paths.now.steps c.args.n c.args.k size.result size.ensures c.if-n-eq0.false in
    (omega arith, omega (arith, size.ensures))

pub returns-then-n-eq0 : goal.returns-then-n-eq0
returns-then-n-eq0 t c = λ s k.
    set_in-within s c.empty.result [] (empty-set_in s c.empty.result c.empty.ensures)
    ∙ ap (λ (qs : List (List (PlainStep ℕ))). within (names_of s) (need_of_all s (env_in s c.args.e) qs)) (sym (alternatives-none c.args.asked.now.paths.now.steps c.args.n c.args.k c.if-n-eq0.true))

pub returns : goal.returns
returns t c = λ s k.
    let size = c.first_size-size in
    let steps = c.args.asked.now.paths.now.steps in
    let e = env_in s c.args.e in
    let one = c.need_plain-one in
    let rest = c.need_of_all-rest in
    need-one-and-rest steps c.args.n c.args.k size.result size.ensures s e c.if-n-eq0.false c.bitor.result
    (union-append s one.result.names rest.result c.bitor.result c.bitor.ensures (need (types_of s) keeps_all wants_nothing (expand tt (plain_in steps size.result c.args.k)) e)
    (need_of_all s e (alternatives_in steps (c.args.n - size.result) (c.args.k + size.result)))
    ((one.ensures s k 1).names ∙ ap (λ (q : List (PlainStep ℕ)). within (names_of s) (need (types_of s) keeps_all wants_nothing (expand tt q) e)) c.steps.ensures) (rest.ensures s k))
