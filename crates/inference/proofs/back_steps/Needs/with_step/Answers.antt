-- `Needs::with_step` meets its contract.
use mathlib.Core.List.{◌++◌}
use Rattle.std.proofs.Common.{refl}
use Rattle.compiled_paths.specs.Steps.{axis_of}
use Rattle.inference_spec.specs.Needed.{between}
use Rattle.inference.specs.back_steps.Laws.{related-leading, set_in-within, union-append}
use Rattle.inference.specs.type_steps.Laws.{common-within}
use Rattle.names.specs.Sets.{set_in}
use Rattle.schema_spec.specs.Types.{types_of}
use Rattle.inference.proofs.back_steps.Needs.with_step.Goals as goal

pub returns : goal.returns
returns c = λ s k.
    let a = c.args in
    let near = c.related_names in
    let g = c.bitand-complete in
    let b = c.names_between-inside in
    let x = between (types_of s) (axis_of a.axis) (set_in s g.result) (set_in s a.self.complete) in
    record {
      complete = related-leading s (axis_of a.axis) a.t g.result (set_in s a.self.complete) (set_in s near.result) (near.ensures s k) (common-within s a.t near.result g.result g.ensures);
      names = λ w l e d.
          union-append s g.result c.bitor-2.result c.bitor-3.result c.bitor-3.ensures (set_in s g.result) (x ++ (w ++ l)) (set_in-within s g.result (set_in s g.result) refl)
          (union-append s b.result c.bitor.result c.bitor-2.result c.bitor-2.ensures x (w ++ l) (set_in-within s b.result x (b.ensures s k))
          (union-append s a.wanted a.self.names c.bitor.result c.bitor.ensures w l e d));
    }
