-- One name that opens all definitions with which a case of tables computes: `unfolding computing`.
use Rattle.schema_spec.specs.Cases.Opened.{computing as schemas}
use Rattle.table_spec.specs.Nodes.{nodes_of}
use Rattle.table_spec.specs.Rows.{characters_by}
use Rattle.table_spec.specs.Tables.{well_formed, well_formed_with}
use Rattle.token_spec.specs.Cases.Opened.{computing as tokens}

unfoldable pub computing : Unit {0}
unfolding schemas tokens characters_by nodes_of well_formed well_formed_with
computing = tt
