use Rattle.selection.specs.Steps.{path-steps, path-marked}
use Rattle.selection.proofs.select_path.Goals as goal

pub path-requires : goal.path-requires
path-requires c = c.requires.ranges.inside

pub steps_from_root-requires : goal.steps_from_root-requires
steps_from_root-requires c = path-steps _ _ _ _ _ c.requires _ _ c.path.ensures

pub returns-clause-marks : goal.returns-clause-marks
returns-clause-marks c = path-marked c.args.rows.now c.args.paths.now c.args.i _ _ c.requires _ _ c.path.ensures _ c.steps_from_root.ensures.marks
