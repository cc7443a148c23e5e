use native.Mathlib.Omega.{arith}
use Rattle.axis_passes.specs.siblings.Siblings.{next-pass, passes-joined}
use Rattle.axis_passes.specs.steps.Steps.{image-column, preceding-column}
use Rattle.path_spec.specs.Paths.{ancestor_or_self}
use Rattle.selection_laws.specs.marks.Siblings.{preceding_sibling_marks}
use Rattle.axis_passes.proofs.siblings.preceding.Goals as goal

pub preceding_siblings-requires : goal.preceding_siblings-requires
preceding_siblings-requires c =
    let h = c.requires in
    next-pass _ _ h (image-column ancestor_or_self _ _) c.ancestors_or_self.ensures h.size

pub descendants_or_self-requires : goal.descendants_or_self-requires
descendants_or_self-requires c =
    let h = c.requires in
    next-pass _ _ h (preceding-column _ _) c.preceding_siblings.ensures (omega (arith, h.room))

pub returns : goal.returns
returns c =
    passes-joined _ _ (preceding_sibling_marks _) _ _ _ c.ancestors_or_self.ensures c.preceding_siblings.ensures c.descendants_or_self.ensures
