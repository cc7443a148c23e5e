use Rattle.std.proofs.Common.{Bool, refl, ap, arith}
use Rattle.journal_builder.specs.Events.{start_event}
use Rattle.journal_builder.specs.journal_schema.Schemas.{models-end}
use Rattle.journal_builder.specs.laws.Starts.{start-innermost}
use Rattle.journal_builder.specs.laws.StateLaws.{leaves-as}
use Rattle.journal_spec.specs.Builder.{on_start, on_unbroken}
use Rattle.journal_builder.proofs.start_tag.Goals as goal

pub closed-requires : goal.closed-requires
closed-requires c = let begun = c.on_start-begun.ensures.0 in (begun.step.shallow, begun.deep)

pub returns-then-empty : goal.returns-then-empty
returns-then-empty c =
    let g = c.args in
    let x = c.on_start-begun.ensures in (
      record { shallow = c.closed.ensures.0; counted = omega (arith, c.closed.ensures.1, x.0.step.counted) },
      λ s b n k p u w.
          leaves-as refl (ap (λ (t : Bool). on_unbroken s (start_event t n g.at) b) c.if-empty.true)
          (c.closed.ensures.2 s g.m b (on_start s n g.at b) n g.at (models-end k.contents.models) (start-innermost s n g.at b) (x.1 s b n k.contents (c.find-e.ensures s n k.names p) p u w)),
    )

pub returns : goal.returns
returns c =
    let g = c.args in
    let x = c.on_start-begun.ensures in (
      x.0.step,
      λ s b n k p u w.
          leaves-as refl (ap (λ (t : Bool). on_unbroken s (start_event t n g.at) b) c.if-empty.false) (x.1 s b n k.contents (c.find-e.ensures s n k.names p) p u w),
    )
