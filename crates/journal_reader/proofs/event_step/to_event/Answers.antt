use Rattle.journal_lexer.specs.loop_laws.Laws.{ready-after, advance-then}
use Rattle.journal_reader.specs.event_step.Onward.{further-all, further-event, quiet-event, quiet-more, quiet-ready, onward}
use Rattle.journal_reader.proofs.event_step.to_event.Goals as goal

pub data_part-data-requires : goal.data_part-data-requires
data_part-data-requires c = (
  quiet-ready c.args.l c.with_event-from.result c.with_event-from.ensures c.requires.0,
  quiet-event c.args.l c.with_event-from.result c.with_event-from.ensures,
)

pub tag_part-requires : goal.tag_part-requires
tag_part-requires c =
    (ready-after (quiet-ready c.args.l c.with_event-from.result c.with_event-from.ensures c.requires.0) c.data_part-data.ensures, c.in-Quiet.is)

pub returns-in-Quiet : goal.returns-in-Quiet
returns-in-Quiet c =
    let l = c.args.l in
    let s = c.with_event-from.result in
    let e = c.with_event-from.ensures in
    let both = advance-then c.data_part-data.ensures c.tag_part.ensures in
    onward l s e both (further-all both.progress (quiet-more l s e c.requires.1))

pub returns-in_default : goal.returns-in_default
returns-in_default c =
    let l = c.args.l in
    let s = c.with_event-from.result in
    let e = c.with_event-from.ensures in
    let part = c.data_part-data.ensures in
    onward l s e part (further-event part.progress (quiet-event l s e) c.in_default.not-Quiet)
