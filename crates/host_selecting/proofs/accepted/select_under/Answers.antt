-- `select_under` meets its contract: what is selected on the first rows, the last test.
use Rattle.std.specs.Prelude.{Ok, Err}
use Rattle.std.proofs.Common.{sym, subst}
use Rattle.compiled_paths.specs.Paths.{paths_in}
use Rattle.host_selecting.specs.accepted.Choosing.{FirstAsked, SelectsIn, last-short, last-enough}
use Rattle.table_spec.specs.Columns.{Columns}
use Rattle.host_selecting.proofs.accepted.select_under.Goals as goal

pub select_first-requires : goal.select_first-requires
select_first-requires c =
    let pre = c.requires in
    (pre.0, pre.1, subst (λ (y : Columns). FirstAsked y c.args.rows c.args.extract.now) (sym c.as_columns.ensures) pre.2)

pub returns-in-Ok-clause-selected : goal.returns-in-Ok-clause-selected
returns-in-Ok-clause-selected c =
    record {
      selected = Ok c.in-Ok.selected;
      answer =
          subst (λ (y : Columns). SelectsIn y c.args.rows (paths_in c.args.paths.now) c.args.place (Ok c.in-Ok.selected) c.args.items.now c.args.counts.now c.select_first.new.items c.select_first.new.counts)
          c.as_columns.ensures c.in-Ok.ensures;
      last = last-enough _ _ _;
    }

pub returns-in-Err-clause-selected : goal.returns-in-Err-clause-selected
returns-in-Err-clause-selected c =
    record {
      selected = Err c.in-Err.refusal;
      answer =
          subst (λ (y : Columns). SelectsIn y c.args.rows (paths_in c.args.paths.now) c.args.place (Err c.in-Err.refusal) c.args.items.now c.args.counts.now c.select_first.new.items c.select_first.new.counts)
          c.as_columns.ensures c.in-Err.ensures;
      last = last-short _ _ _ _ c.clear.ensures.cells;
    }
