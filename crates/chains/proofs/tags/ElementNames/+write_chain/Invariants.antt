use Rattle.chains.proofs.tags.ElementNames.+write_chain.Given as goal

abbrev pub decreases-write_chain : goal.decreases-write_chain
decreases-write_chain l = l.row
