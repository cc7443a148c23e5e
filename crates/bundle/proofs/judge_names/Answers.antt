-- `judge_names` meets its contract: 10, then acceptance.
use mathlib.Core.List.{map}
use Rattle.bundle.specs.Outcomes.{judge-room, columns-lost, columns-known}
use Rattle.text_spec.specs.Scans.{name_at}
use Rattle.bundle.proofs.judge_names.Goals as goal

pub fill_columns-filled-requires : goal.fill_columns-filled-requires
fill_columns-filled-requires c = judge-room c.requires.1 c.args.names.now c.requires.0

pub returns-in-Some : goal.returns-in-Some
returns-in-Some c =
    rw c.at.ensures (columns-lost c.requires.1 (map (name_at c.args.schema.now) c.args.names.now) c.fill_columns-filled.ensures c.in-Some.is)

pub returns-in-None : goal.returns-in-None
returns-in-None c = columns-known c.requires.1 (map (name_at c.args.schema.now) c.args.names.now) c.fill_columns-filled.ensures c.in-None.is
