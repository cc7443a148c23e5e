-- `needed_by_texts` meets its contract.
use Rattle.std.proofs.Common.{subst}
use Rattle.std.specs.Prelude.{IfOk, Result}
use Rattle.bundle.specs.records.Compiled.{judged-shaped}
use Rattle.compiled_paths.specs.Paths.{Shaped}
use Rattle.compiled_paths.specs.declared.CompiledPaths.{CompiledPaths}
use Rattle.compiled_schema.specs.Places.{names-inside, names-taken, names-few, compiled-few}
use Rattle.needed_names.specs.texts.Texts.{judged-needed, refused-needed}
use Rattle.text.specs.declared.refusals.Refusal.{Refusal}
use Rattle.needed_names.proofs.texts.needed_by_texts.Goals as goal

pub slice_bounds-names-end : goal.slice_bounds-names-end
slice_bounds-names-end c = names-inside _ _ c.compile-compiled.ensures

pub slice_bounds-judge_bundle-end : goal.slice_bounds-judge_bundle-end
slice_bounds-judge_bundle-end c = names-taken _ _ c.compile-compiled.ensures

pub judge_bundle-requires : goal.judge_bundle-requires
judge_bundle-requires c = names-few _ _ c.compile-compiled.ensures

pub needed_under-requires : goal.needed_under-requires
needed_under-requires c = (subst (λ (r : Result CompiledPaths Refusal). IfOk r Shaped) c.in-Ok.is (judged-shaped _ _ _ c.compile-compiled.ensures _ c.judge_bundle.ensures), compiled-few _ _ c.compile-compiled.ensures)

pub returns-in-Ok : goal.returns-in-Ok
returns-in-Ok c = judged-needed _ _ _ c.compile-compiled.ensures _ c.judge_bundle.ensures _ c.in-Ok.is _ c.needed_under.ensures _ c.to_word.ensures

pub returns-in-Err : goal.returns-in-Err
returns-in-Err c = refused-needed _ _ _ c.compile-compiled.ensures _ c.judge_bundle.ensures _ c.in-Err.is
