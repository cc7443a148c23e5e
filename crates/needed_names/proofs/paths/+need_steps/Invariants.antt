-- The steps that are left fall.
use Rattle.needed_names.proofs.paths.+need_steps.Given as goal

abbrev pub decreases-need_steps : goal.decreases-need_steps
decreases-need_steps l = l.n
