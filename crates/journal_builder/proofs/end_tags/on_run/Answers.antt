use Rattle.std.proofs.Common.{rules, refl, ap, ap₂, subst, ◌∙◌, arith, None, Some, Bool, ◌≡◌, ◌<◌, length}
use Prim.Native.Nat.{ℕ}
use Rattle.cells.specs.declared.columns.RowCells.{RowCells}
use Rattle.journal_builder.specs.build_state.State.{step}
use Rattle.journal_builder.specs.declared.build_state.Build.{Build}
use Rattle.journal_builder.specs.fillings.Fillings.{FillingOf}
use Rattle.journal_builder.specs.laws.Runs.{outside-leaves, outside-safe, run-text, run-plain, text-safe}
use Rattle.journal_builder.specs.laws.StateLaws.{leaves-as, safe-as}
use Rattle.journal_builder.specs.open_levels.LevelLaws.{store-stores}
use Rattle.journal_builder.specs.open_levels.Levels.{level_at, with_filling}
use Rattle.journal_builder.specs.rows.Rows.{text_cells}
use Rattle.journal_lexer.specs.state.Places.{place_in}
use Rattle.journal_spec.specs.Builder.{with_run}
use Rattle.text_spec.specs.Lists.{is_none}
use Rattle.journal_builder.proofs.end_tags.on_run.Goals as goal

pub returns-then-d-eq0 : goal.returns-then-d-eq0
returns-then-d-eq0 c =
    let g = c.args in
    let same = c.without_row.ensures ∙ ap (λ (x : Build). step x None) c.outside.ensures.0 in (
      safe-as same (outside-safe g.m g.solid c.requires.0),
      λ s b few u w. leaves-as same refl (outside-leaves s b g.levels.now g.m u w g.start g.size g.saved g.solid c.outside.ensures.1 c.if-d-eq0.true),
    )

pub returns-in-ByText : goal.returns-in-ByText
returns-in-ByText c =
    let g = c.args in
    let t = g.levels.now in
    let d = g.m.depth in
    let f = c.with_run.result in
    let blank : c.is_none.result ≡ is_none (place_in g.solid) = search rules in
    let lt : d < length t = search rules in
    let wide : c.from.result ≡ c.in-ByText.e = search rules in
    let same = ap₂ (λ (x : Build) (y : RowCells). step x (Some y)) c.with_text.ensures (c.text_row-row.ensures ∙ ap (λ (e : ℕ). text_cells e (level_at t d).row g.start g.size g.saved) wide) in (
      safe-as same (text-safe g.m g.start g.size _ c.requires.0),
      λ s b few u w.
          leaves-as same refl
          (run-text s b t _ g.m u w g.start g.size g.saved g.solid (level_at t d) f c.if-d-eq0.false refl (store-stores t d (with_filling (level_at t d) f) lt)
          (λ x y. subst (λ (v : Bool). FillingOf s f (with_run v x)) blank (c.with_run.ensures s x y)) c.in-ByText.e few (search rules) c.in-ByText.is),
    )

pub returns-in_default : goal.returns-in_default
returns-in_default c =
    let g = c.args in
    let t = g.levels.now in
    let d = g.m.depth in
    let f = c.with_run.result in
    let blank : c.is_none.result ≡ is_none (place_in g.solid) = search rules in
    let lt : d < length t = search rules in rw c.without_row-in_default.ensures (
      record { shallow = c.requires.0; counted = omega arith },
      λ s b few u w.
          run-plain s b t _ g.m u w g.start g.size g.saved g.solid (level_at t d) f c.if-d-eq0.false refl (store-stores t d (with_filling (level_at t d) f) lt)
          (λ x y. subst (λ (v : Bool). FillingOf s f (with_run v x)) blank (c.with_run.ensures s x y)) c.in_default.not-ByText,
    )
