use Rattle.selection.specs.asked.Ranges.{asked-order}
use Rattle.selection.specs.table.Tables.{asked-pass, asked-answered}
use Rattle.selection.proofs.table.select_into.Goals as goal

pub overflow_sub-m : goal.overflow_sub-m
overflow_sub-m c = (asked-order _ _ _ _ c.requires.inside c.asked-paths_asked.ensures.0 c.asked-paths_asked.ensures.1).0

pub select_paths-n-requires : goal.select_paths-n-requires
select_paths-n-requires c = asked-pass _ _ _ _ _ c.asked-paths_asked.ensures _ _ c.requires

pub returns-clause-selected : goal.returns-clause-selected
returns-clause-selected c s text rows w =
    asked-answered c.args.rows.now c.args.paths.now c.args.place _ _ c.asked-paths_asked.ensures c.requires.inside s text rows w _ _ _ _ _
    c.select_paths-n.ensures.joined _ _ _ c.in_room.ensures
