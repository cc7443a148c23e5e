-- No step is left, or the first is inferred, then those after it, and then what its condition wants.
use Rattle.std.proofs.Common.{arith, List, ◌≡◌, ℕ, ◌-◌, suc, refl, sym, ap₂, subst, ◌∙◌}
use Rattle.compiled_paths.specs.Steps.{start_at, size_at, condition_in, steps-none}
use Rattle.inference.specs.back_steps.Laws.{needs-last}
use Rattle.inference.specs.back_steps.Needs.{NeedsOf}
use Rattle.inference.specs.type_steps.Envs.{env_in}
use Rattle.inference_spec.specs.Needed.{keeps_name, wants_names}
use Rattle.inference_spec.specs.Types.{narrow}
use Rattle.names.specs.Sets.{set_in}
use Rattle.needed_names.specs.conditions.Conditions.{keeps_in, wants_in}
use Rattle.needed_names.specs.paths.Laws.{needs-written-step}
use Rattle.path_spec.specs.Paths.{WrittenStep, Condition, unconditional, expand_from}
use Rattle.schema_spec.specs.Names.{names_of, within}
use Rattle.schema_spec.specs.Types.{types_of}
use Rattle.text_spec.specs.Lists.{gather}
use Rattle.needed_names.proofs.paths.+need_steps.Goals as goal

pub returns-then-n-eq0 : goal.returns-then-n-eq0
returns-then-n-eq0 t c = λ s k i.
    let paths = c.args.asked.now.paths.now in
    subst (λ (ps : List (WrittenStep ℕ (Condition ℕ))). NeedsOf s (keeps_name (types_of s)) (wants_names (types_of s)) (expand_from unconditional i ps) (env_in s c.args.e) (record { complete = c.args.e.types; names = c.args.e.types }))
    (sym (steps-none paths.steps paths.conditions c.args.n c.args.k c.if-n-eq0.true))
    (needs-last s (keeps_name (types_of s)) (wants_names (types_of s)) (env_in s c.args.e) c.args.e.types refl)

pub returns : goal.returns
returns t c = λ s k i.
    let paths = c.args.asked.now.paths.now in
    let range = c.condition-range in
    let gone = c.written_step-gone in
    let f = c.conditioned-f in
    let later = c.need_steps-later in
    let want = c.wanted-want in
    let first : range.result.start ≡ start_at paths.conditions c.args.k = range.ensures.0 in
    let size : range.result.end - range.result.start ≡ size_at paths.conditions c.args.k = omega (arith, range.ensures.0, range.ensures.1) in
    needs-written-step paths.steps paths.conditions s i c.args.k c.args.n c.if-n-eq0.false (env_in s c.args.e) (env_in s gone.result) (env_in s f.result) want.result later.result c.with_written_step.result
    (gone.ensures s k.relations)
    (f.ensures s k ∙ ap₂ (λ (n b : ℕ). narrow (types_of s) (keeps_in s gone.result.context (condition_in paths.steps n b)) (env_in s gone.result)) size first)
    (later.ensures s k (suc i))
    (want.ensures s k ∙ ap₂ (λ (n b : ℕ). within (names_of s) (gather (wants_in s f.result.context (condition_in paths.steps n b)) (set_in s later.result.complete))) size first)
    (c.with_written_step.ensures s k.relations)
