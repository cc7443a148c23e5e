use Rattle.std.proofs.Common.{refl}
use Rattle.journal_builder.specs.Events.{judged-unbroken, event-judged, event-broken, kept-safe}
use Rattle.journal_builder.specs.laws.StateLaws.{leaves-as}
use Rattle.journal_lexer.specs.state.Places.{place_in}
use Rattle.token_spec.specs.Lexer.{run, runs}
use Rattle.journal_builder.proofs.on_run.Goals as goal

pub returns-then-is_judged : goal.returns-then-is_judged
returns-then-is_judged c =
    let g = c.args in
    let x = c.on_run.ensures in (
      x.0,
      λ s b few w.
          let u = judged-unbroken w c.is_judged.ensures c.if-is_judged.true in
          leaves-as refl (event-judged s (runs (run g.start (place_in g.solid) g.saved) g.size) b u) (x.1 s b few u w),
    )

pub returns : goal.returns
returns c = rw c.without_row.ensures (kept-safe c.requires.0, λ s b few w. event-broken _ w c.is_judged.ensures c.if-is_judged.false)
