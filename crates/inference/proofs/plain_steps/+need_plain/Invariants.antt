-- The steps that are left fall.
use lib.ListN.{length}
use Rattle.inference.proofs.plain_steps.+need_plain.Given as goal

abbrev pub decreases-need_plain : goal.decreases-need_plain
decreases-need_plain l = length l.steps.now
