-- `Automaton::fits`: the state is that after the children passed.
use lib.ListN.{take}
use Rattle.models.specs.declared.fitting.State.TheVariants.{Start}
use Rattle.models.specs.fitting.Fitting.{Run}
use Rattle.models.proofs.fitting.Automaton.fits.Given as goal

abbrev pub invariant-loop-child : goal.invariant-loop-child
invariant-loop-child l = Run l.self.ends l.self.elements.now l.self.predecessors.now Start (take l.child-index l.children) l.state
