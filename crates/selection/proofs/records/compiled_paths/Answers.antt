use Rattle.std.proofs.Common.{subst}
use Rattle.std.specs.Prelude.{map}
use Rattle.bundle.specs.Judging.{JudgedUnder}
use Rattle.text_spec.specs.Scans.{name_at}
use Rattle.selection.specs.records.Records.{paths-accepted, paths-refused}
use Rattle.selection.proofs.records.compiled_paths.Goals as goal

pub returns-in-Ok : goal.returns-in-Ok
returns-in-Ok c = paths-accepted _ _ _ (subst (JudgedUnder (map (name_at c.args.schema.now) c.args.names.now) c.args.text.now) c.in-Ok.is c.judge_bundle.ensures)

pub returns-in-Err : goal.returns-in-Err
returns-in-Err c =
    paths-refused _ _ c.in-Err.field-0 _ (subst (JudgedUnder (map (name_at c.args.schema.now) c.args.names.now) c.args.text.now) c.in-Err.is c.judge_bundle.ensures)
    c.empty.ensures.0 c.empty.ensures.1
