use Rattle.std.proofs.Common.{refl, sym, ap, ap₂, subst, ◌∙◌, arith, ◌∷◌, Some}
use Rattle.std.proofs.Math.Option.{Option}
use Prim.Native.Nat.{ℕ}
use Rattle.cells.specs.declared.columns.RowCells.{RowCells}
use Rattle.journal_builder.specs.build_state.State.{step}
use Rattle.journal_builder.specs.declared.build_state.Build.{Build}
use Rattle.journal_builder.specs.laws.Starts.{begin-leaves, begin-safe}
use Rattle.journal_builder.specs.laws.StateLaws.{length_refill, leaves-as, safe-as}
use Rattle.journal_builder.specs.open_levels.Levels.{Opened}
use Rattle.journal_spec.specs.Builder.{filling_for, refill, with_child}
use Rattle.schema_laws.specs.Elements.{named-at}
use Rattle.text.specs.lookup.Lookup.{found}
use Rattle.journal_builder.proofs.start_tags.begin.Goals as goal

pub returns : goal.returns
returns c =
    let g = c.args in
    let q = c.requires in
    let same = ap₂ (λ (x : Build) (y : RowCells). step x (Some y)) c.with_element.ensures c.element_row-row.ensures in (
      safe-as same (begin-safe g.m g.e g.at c.parent_row.result q.0),
      omega (arith, ap (λ (x : Build). x.depth) c.with_element.ensures),
      λ s b n k f p u w.
          leaves-as same refl
          (begin-leaves s b n g.at g.e g.levels.now _ g.m c.parent_row.result f (omega (arith, c.ranges)) q.0 u w
          (c.parent_row.ensures s b.opens w.depth w.opened)
          (subst (λ (o : Option ℕ). Opened s c.open_element.new.levels (record { name = n; place = g.at; row = g.m.count; filling = filling_for s o } ∷ refill (with_child o) b.opens)) f
          (c.open_element.ensures s (refill (with_child (found g.e)) b.opens) n (w.depth ∙ sym (length_refill (with_child (found g.e)) b.opens)) k.kinds (λ a h. (named-at s n a (sym f ∙ h)).0) p
          (c.fit_child.ensures s b.opens w.depth k.models w.opened)))),
    )
