-- One name that opens all definitions with which a case of paths computes: `unfolding computing`.
use Rattle.path_spec.specs.Machine.{step, parse}
use Rattle.path_spec.specs.Reading.{bundle_refusals, read_bundle, is_bundle_record}
use Rattle.path_spec.specs.Selection.{selected, select, select_rows}
use Rattle.table_spec.specs.Cases.Opened.{computing as tables}

unfoldable pub computing : Unit {0}
unfolding tables step parse bundle_refusals read_bundle is_bundle_record selected select select_rows
computing = tt
