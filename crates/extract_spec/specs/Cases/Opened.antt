-- One name that opens all definitions with which a case of extracts computes: `unfolding computing`.
use Rattle.extract_spec.specs.Cut.{cut, cut_to_word}
use Rattle.extract_spec.specs.Fields.{write_extract, extract_rows}
use Rattle.extract_spec.specs.Reading.{items_of, read_extract}
use Rattle.table_spec.specs.Cases.Opened.{computing as tables}

unfoldable pub computing : Unit {0}
unfolding tables cut cut_to_word write_extract extract_rows items_of read_extract
computing = tt
