-- `judge_paths` meets its contract: 8, then 9, then the names.
use mathlib.Core.List.{map}
use Rattle.std.specs.Prelude.{Ok}
use Rattle.std.proofs.Common.{rules, ap, ◌∙◌}
use Rattle.bundle.specs.Outcomes.{judge-departs, judge-over, judge-spelling}
use Rattle.text_spec.specs.Scans.{name_at}
use Rattle.bundle.proofs.path_judging.judge_paths.Goals as goal

pub returns-in-Err : goal.returns-in-Err
returns-in-Err c =
    rw c.at.ensures (judge-departs c.requires.1 c.new-notes.ensures c.all_paths.ensures (map (name_at c.args.schema.now) c.args.names.now) c.in-Err.is)

pub returns-in-Ok-Some : goal.returns-in-Ok-Some
returns-in-Ok-Some c =
    rw c.at-in-Ok-Some.ensures
    (judge-over c.requires.1 c.new-notes.ensures c.all_paths.ensures (map (name_at c.args.schema.now) c.args.names.now) (c.in-Ok-Some.is ∙ ap Ok c.in-Ok-Some.field-0-is))

pub judge_names-requires : goal.judge_names-requires
judge_names-requires c = search (rules, judge-spelling)
