-- `Inferred::written_step` meets its contract: by the axis.
use Rattle.std.proofs.Common.{⊎_elim}
use Rattle.inference.specs.written_steps.Laws.{written-along}
use Rattle.inference.proofs.type_steps.Inferred.written_step.Goals as goal

pub returns-in-Following : goal.returns-in-Following
returns-in-Following c = λ s k. ⊎_elim (λ e. rw e (c.to_following.ensures s k)) (λ e. rw e (c.to_following.ensures s k)) c.in-Following.is

pub returns-in-FollowingSibling : goal.returns-in-FollowingSibling
returns-in-FollowingSibling c = λ s k. ⊎_elim (λ e. rw e (c.to_siblings.ensures s k)) (λ e. rw e (c.to_siblings.ensures s k)) c.in-FollowingSibling.is

pub returns-in_default : goal.returns-in_default
returns-in_default c = λ s k. rw (written-along c.args.axis c.in_default.not-Following c.in_default.not-FollowingSibling c.in_default.not-Preceding c.in_default.not-PrecedingSibling) (c.step.ensures s k)
