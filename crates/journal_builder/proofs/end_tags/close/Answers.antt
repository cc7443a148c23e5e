use Rattle.std.proofs.Common.{refl, ap, arith, ◌≡◌, ◌<◌, mod-eq_of_lt}
use Rattle.journal_builder.specs.declared.build_state.Build.{Build}
use Rattle.journal_builder.specs.laws.Ends.{end-built}
use Rattle.journal_builder.specs.laws.StateLaws.{innermost, built-as}
use Rattle.journal_builder.specs.open_levels.Levels.{level_at}
use Rattle.text.specs.fault_keys.Keys.{place_limit}
use Rattle.journal_builder.proofs.end_tags.close.Goals as goal

pub returns : goal.returns
returns c =
    let g = c.args in
    let q = c.requires in
    let deep : (g.m.depth ≡ 0 → ⊥) = λ z. omega (arith, q.0) in (
      omega (arith, ap (λ (x : Build). x.depth) c.without_element.ensures),
      ap (λ (x : Build). x.count) c.without_element.ensures,
      λ s b n k m named u w.
          let top = innermost s g.levels.now g.m.depth b.opens w.depth deep w.opened in
          let low : (level_at g.levels.now g.m.depth).place < place_limit = omega (arith, top.level.place, top.level.placed) in
          built-as c.without_element.ensures refl
          (end-built s b g.levels.now g.m w n k u named deep c.fits_at_end.result _ (c.fits_at_end.ensures s top.own.filling m top.level.filling) (mod-eq_of_lt low)),
    )
