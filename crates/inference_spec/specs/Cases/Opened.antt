-- One name that opens all definitions with which a case of needed names computes: `unfolding computing`.
use Rattle.inference_spec.specs.Needed.{from_root, needed_before_filter, needed_by_path, needed, needed_word}
use Rattle.path_spec.specs.Cases.Opened.{computing as paths}

unfoldable pub computing : Unit {0}
unfolding paths from_root needed_before_filter needed_by_path needed needed_word
computing = tt
