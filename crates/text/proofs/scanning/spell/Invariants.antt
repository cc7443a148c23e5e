-- `spell`: the first n bytes of the keyword stand at `at`.
use Rattle.text_spec.specs.Scans.{Begins}
use Rattle.text.proofs.scanning.spell.Given as goal

abbrev pub invariant-loop-n : goal.invariant-loop-n
invariant-loop-n l = Begins l.w l.s l.at l.n
