use Rattle.journal_builder.specs.event_handling.Events.{event-tag}
use Rattle.journal_builder.proofs.event_handling.on_event.Goals as goal

pub returns-in-Quiet : goal.returns-in-Quiet
returns-in-Quiet c = c.on_data_event.ensures c.args.schema.now

pub returns-in_default : goal.returns-in_default
returns-in_default c = event-tag c.in_default.not-Quiet c.in_default.not-Runs c.on_tag.ensures.0 c.on_tag.ensures.1
