-- The steps that are left fall.
use Rattle.needed_names.proofs.alternatives.+any_ends_some.Given as goal

abbrev pub decreases-any_ends_some : goal.decreases-any_ends_some
decreases-any_ends_some l = l.n
