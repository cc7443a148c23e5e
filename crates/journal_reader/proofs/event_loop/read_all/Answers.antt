use Rattle.journal_reader.specs.event_loop.Events.{no-event-read, event-more, events-all}
use Rattle.journal_reader.specs.event_step.Points.{fewer-left}
use Rattle.journal_reader.specs.rows.Kept.{same-all, same-then}
use Rattle.journal_reader.proofs.event_loop.read_all.Goals as goal

pub loop-x-init : goal.loop-x-init
loop-x-init c = (same-all _, no-event-read c.start-x.ensures c.requires.0)

pub read_on-x-requires : goal.read_on-x-requires
read_on-x-requires c =
    record {
      ahead = (c.loop-x.invariant.1.usable, c.requires.1, c.requires.2, c.loop-x-test.true);
      sized = c.requires.3;
      few = c.requires.4;
    }

pub loop-x-smaller : goal.loop-x-smaller
loop-x-smaller c = fewer-left c.read_on-x.ensures.read

pub loop-x-preserved : goal.loop-x-preserved
loop-x-preserved c =
    let read = c.loop-x.invariant in
    (same-then read.0 c.read_on-x.ensures.same, event-more read.1 c.read_on-x.ensures.read)

pub returns-clause-read : goal.returns-clause-read
returns-clause-read c = events-all c.requires.2 c.loop-x.invariant.1 c.loop-x-test.false
