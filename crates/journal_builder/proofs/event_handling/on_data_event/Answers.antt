use Rattle.std.proofs.Common.{rules, ⊎_elim, ◌≡◌, ◌-◌}
use Rattle.journal_builder.specs.event_handling.Events.{event-quiet, event-run}
use Rattle.journal_builder.proofs.event_handling.on_data_event.Goals as goal

pub returns-in-Runs : goal.returns-in-Runs
returns-in-Runs c t =
    let p = c.args.places.now in
    let size : c.saturating_sub-size.result ≡ p.at - p.start = search rules in
    event-run c.saturating_sub-size.result c.in-Runs.is size c.on_run.ensures.0 c.on_run.ensures.1

pub returns-in_default : goal.returns-in_default
returns-in_default c t = rw c.without_row.ensures (event-quiet (⊎_elim (λ e. e) (λ e. absurd (c.in_default.not-Runs e)) c.requires.2) c.requires.0)
