use native.Mathlib.Omega.{arith}
use Rattle.axis_passes.specs.siblings.Siblings.{next-pass, passes-joined}
use Rattle.axis_passes.specs.steps.Steps.{image-column, following-column}
use Rattle.path_spec.specs.Paths.{ancestor_or_self}
use Rattle.selection_laws.specs.marks.Siblings.{following_sibling_marks}
use Rattle.axis_passes.proofs.siblings.following.Goals as goal

pub following_siblings-requires : goal.following_siblings-requires
following_siblings-requires c =
    let h = c.requires in
    next-pass _ _ h (image-column ancestor_or_self _ _) c.ancestors_or_self.ensures h.size

pub descendants_or_self-requires : goal.descendants_or_self-requires
descendants_or_self-requires c =
    let h = c.requires in
    next-pass _ _ h (following-column _ _) c.following_siblings.ensures (omega (arith, h.room))

pub returns : goal.returns
returns c =
    passes-joined _ _ (following_sibling_marks _) _ _ _ c.ancestors_or_self.ensures c.following_siblings.ensures c.descendants_or_self.ensures
