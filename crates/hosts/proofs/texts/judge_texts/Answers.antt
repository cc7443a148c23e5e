-- `judge_texts` meets its contract: the schema refused, or the bundle judged under it.
use Rattle.std.proofs.lemmas.Result.{err_from_is_err_and}
use Rattle.compiled_schema.specs.Places.{compiled-few}
use Rattle.hosts.specs.texts.Texts.{schema-refused, bundle-refused, bundle-accepted}
use Rattle.hosts.proofs.texts.judge_texts.Goals as goal

pub returns-in_err-compiled : goal.returns-in_err-compiled
returns-in_err-compiled c =
    let p = err_from_is_err_and c.from_residual.result c.from_residual.ensures.1 in
    rw (p.1, p.2) (schema-refused _ _ _ c.in_err-compiled.ensures)

pub shared_ref_as_front-judge_bundle : goal.shared_ref_as_front-judge_bundle
shared_ref_as_front-judge_bundle c = compiled-few _ _ c.in_ok-compiled.ensures.says.1

pub returns-in_err-paths : goal.returns-in_err-paths
returns-in_err-paths c =
    let p = err_from_is_err_and c.from_residual-in_err-paths.result c.from_residual-in_err-paths.ensures.1 in
    rw (p.1, p.2) (bundle-refused _ _ _ c.in_ok-compiled.ensures _ c.in_err-paths.ensures)

pub returns : goal.returns
returns c = bundle-accepted _ _ _ c.in_ok-compiled.ensures _ c.in_ok-paths.ensures
