use Rattle.std.proofs.Common.{rules, refl, ap, ◌∙◌, ◌≡◌}
use Rattle.journal_builder.specs.Events.{tag_event, is_empties, start-tag, judged-unbroken, event-judged, event-broken, kept-safe, ends-safe, ends-leaves}
use Rattle.journal_builder.specs.journal_schema.Schemas.{models-end}
use Rattle.journal_builder.specs.laws.StateLaws.{leaves-as}
use Rattle.journal_lexer.specs.declared.state.Event.{Event as CodeEvent}
use Rattle.journal_spec.specs.Builder.{on_unbroken}
use Rattle.token_spec.specs.Lexer.{Event}
use Rattle.journal_builder.proofs.on_tag.Goals as goal

pub returns-then-not-is_judged : goal.returns-then-not-is_judged
returns-then-not-is_judged c = rw c.without_row.ensures (kept-safe c.requires.0, λ s b n k p w. event-broken _ w c.is_judged.ensures c.if-not-is_judged.true)

pub returns-in-Ends : goal.returns-in-Ends
returns-in-Ends c =
    let g = c.args in
    let x = c.on_end.ensures in rw c.without_row-in-Ends.ensures (
      ends-safe c.requires.0 x.0 x.1,
      λ s b n k p w.
          let u = judged-unbroken w c.is_judged.ensures c.if-not-is_judged.false in
          ends-leaves n g.at u (ap (λ (e : CodeEvent). tag_event e n g.at) c.in-Ends.is) (x.2 s b n (models-end k.contents.models) p u w),
    )

pub returns-in_default : goal.returns-in_default
returns-in_default c =
    let g = c.args in
    let x = c.start_tag.ensures in
    let empty : c.eq.result ≡ is_empties g.event = search rules in (
      x.0,
      λ s b n k p w.
          let u = judged-unbroken w c.is_judged.ensures c.if-not-is_judged.false in
          leaves-as refl
          (event-judged s (tag_event g.event n g.at) b u ∙ ap (λ (e : Event). on_unbroken s e b) (start-tag g.event c.eq.result n g.at c.in_default.not-Ends empty))
          (x.1 s b n k p u w),
    )
