use Rattle.std.proofs.Common.{refl, ⊎_elim}
use Rattle.std.proofs.Math.Bool.{true, false}
use Rattle.axis_passes.specs.root.Roots.{root-axis, filled-axis, later-axis, kept-self, kept-above}
use Rattle.compiled_paths.specs.Steps.{written_axis}
use Rattle.path_spec.specs.Paths.{along, child, descendant, descendant_or_self}
use Rattle.selection_laws.specs.marks.Roots.{root_image, root_written}
use Rattle.axis_passes.proofs.root.root_image.Goals as goal

pub returns-in-SelfNode : goal.returns-in-SelfNode
returns-in-SelfNode c =
    ⊎_elim (λ e. rw e (kept-self _ _ c.requires _ c.mark_root.ensures)) (λ e. rw e (kept-above _ _ c.requires _ c.mark_root.ensures)) c.in-SelfNode.is

pub returns-in-Child : goal.returns-in-Child
unfolding root_written
returns-in-Child c = rw c.in-Child.is (root-axis _ _ c.requires (along child) _ c.mark_children.ensures)

pub returns-in-Descendant : goal.returns-in-Descendant
unfolding root_written root_image
returns-in-Descendant c = rw c.in-Descendant.is (root-axis _ _ c.requires (along descendant) _ (later-axis _ _ c.requires _ c.mark_later.ensures))

pub returns-in-DescendantOrSelf : goal.returns-in-DescendantOrSelf
unfolding root_written root_image
returns-in-DescendantOrSelf c = rw c.in-DescendantOrSelf.is (filled-axis _ _ c.requires (along descendant_or_self) _ true _ refl refl (c.fill.ensures.after (λ y e. e)))

pub returns-in-Parent : goal.returns-in-Parent
unfolding root_written root_image
returns-in-Parent c = filled-axis _ _ c.requires (written_axis c.args.axis) _ false _ refl (⊎_elim (λ e. rw e refl) (λ e. rw e refl) c.in-Parent.is) (c.fill-in-Parent.ensures.after (λ y e. e))

pub returns-in-Following : goal.returns-in-Following
unfolding root_written root_image
returns-in-Following c = filled-axis _ _ c.requires (written_axis c.args.axis) _ false _ refl (⊎_elim (λ e. rw e refl) (λ e. rw e refl) c.in-Following.is) (c.fill-in-Following.ensures.after (λ y e. e))

pub returns-in-Preceding : goal.returns-in-Preceding
unfolding root_written root_image
returns-in-Preceding c = filled-axis _ _ c.requires (written_axis c.args.axis) _ false _ refl (⊎_elim (λ e. rw e refl) (λ e. rw e refl) c.in-Preceding.is) (c.fill-in-Preceding.ensures.after (λ y e. e))
