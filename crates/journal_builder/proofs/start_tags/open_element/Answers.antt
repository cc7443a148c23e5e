use Rattle.std.proofs.Common.{rules, refl, arith, ◌+◌, ◌<◌, length}
use Rattle.journal_builder.specs.open_levels.LevelLaws.{store-stores, opened-more}
use Rattle.journal_builder.proofs.start_tags.open_element.Goals as goal

pub returns : goal.returns
returns c s os n e k d p h =
    let g = c.args in
    let lt : g.d + 1 < length g.levels.now = search rules in
    opened-more s g.levels.now _ (g.d + 1) _ (record { name = n; place = g.at; row = g.row; filling = _ }) os (omega arith) (store-stores g.levels.now (g.d + 1) _ lt)
    (record { name = p; place = refl; placed = omega (arith, c.ranges); row = refl; filling = c.of.ensures s k d }) h
