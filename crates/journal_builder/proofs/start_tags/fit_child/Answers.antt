use Rattle.std.proofs.Common.{rules, refl, ◌<◌, length}
use Rattle.journal_builder.specs.laws.StateLaws.{refilled}
use Rattle.journal_builder.specs.open_levels.LevelLaws.{store-stores}
use Rattle.journal_builder.specs.open_levels.Levels.{level_at, with_filling}
use Rattle.journal_spec.specs.Builder.{with_child}
use Rattle.text.specs.lookup.Lookup.{found}
use Rattle.journal_builder.proofs.start_tags.fit_child.Goals as goal

pub returns : goal.returns
returns c s os e k h =
    let g = c.args in
    let t = g.levels.now in
    let f = c.with_child.result in
    let lt : g.d < length t = search rules in
    refilled s (with_child (found g.e)) os t _ g.d (level_at t g.d) f e refl (store-stores t g.d (with_filling (level_at t g.d) f) lt) (λ x y. c.with_child.ensures s x k y) h
