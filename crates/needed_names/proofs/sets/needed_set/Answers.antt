-- `needed_set` meets its contract: path by path.
use Rattle.std.proofs.Common.{arith, ℕ, ◌≡◌, ◌-◌, [], sym, ap, ap₂, ◌∙◌}
use Rattle.compiled_paths.specs.Paths.{paths_in}
use Rattle.compiled_paths.specs.Steps.{start_at, size_at, steps_in, path_at}
use Rattle.inference.specs.back_steps.Laws.{set_in-within, empty-set_in, union-append}
use Rattle.inference_spec.specs.Needed.{needed_by_path}
use Rattle.names.specs.SetLaws.{common-set_in, common-known}
use Rattle.names.specs.Sets.{set_in}
use Rattle.needed_names.specs.paths.Laws.{needed_before, needed-none, needed-next, needed-all}
use Rattle.path_spec.specs.Paths.{from_root_element}
use Rattle.schema_spec.specs.Names.{names_of, within}
use Rattle.schema_spec.specs.Types.{types_of}
use Rattle.needed_names.proofs.sets.needed_set.Goals as goal

pub loop-i-init : goal.loop-i-init
loop-i-init c = λ s k n.
    let paths = c.args.paths.now in
    set_in-within s c.empty-needed.result [] (empty-set_in s c.empty-needed.result c.empty-needed.ensures) ∙ ap (within (names_of s)) (sym (needed-none paths.steps paths.conditions paths.paths s))

pub loop-i-preserved : goal.loop-i-preserved
loop-i-preserved c = λ s k n.
    let paths = c.args.paths.now in
    let at = c.loop-i in
    let range = c.path-range in
    let first : range.result.start ≡ start_at paths.paths at.i = range.ensures.0 in
    let size : range.result.end - range.result.start ≡ size_at paths.paths at.i = omega (arith, range.ensures.0, range.ensures.1) in
    let one : set_in s c.path_needed.result ≡ needed_by_path (types_of s) (path_at paths.steps paths.conditions paths.paths at.i) =
    c.path_needed.ensures s (record { relations = k; named = n }) ∙ ap₂ (λ (m b : ℕ). needed_by_path (types_of s) (from_root_element (steps_in paths.steps paths.conditions m b))) size first in
    union-append s at.needed c.path_needed.result c.bitor_assign.new.self c.bitor_assign.ensures.after (needed_before paths.steps paths.conditions paths.paths s at.i)
    (needed_by_path (types_of s) (path_at paths.steps paths.conditions paths.paths at.i)) (at.invariant s k n) (set_in-within s c.path_needed.result _ one)
    ∙ ap (within (names_of s)) (sym (needed-next paths.steps paths.conditions paths.paths s at.i))

pub returns : goal.returns
unfolding paths_in
returns c = λ s k.
    let paths = c.args.paths.now in
    let at = c.loop-i in
    let all = c.names-all.result in
    let named = c.names-all.ensures s k.holding k.counted in
    let last : at.i ≡ paths.count = omega arith in (
      common-set_in s all at.needed c.bitand.result named c.bitand.ensures ∙ at.invariant s k named
          ∙ ap (λ (n : ℕ). within (names_of s) (needed_before paths.steps paths.conditions paths.paths s n)) last ∙ needed-all paths.steps paths.conditions paths.paths s paths.count,
      common-known s all at.needed c.bitand.result named c.bitand.ensures,
    )
