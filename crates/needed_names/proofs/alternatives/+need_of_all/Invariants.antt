-- The steps that are left fall.
use Rattle.needed_names.proofs.alternatives.+need_of_all.Given as goal

abbrev pub decreases-need_of_all : goal.decreases-need_of_all
decreases-need_of_all l = l.n
