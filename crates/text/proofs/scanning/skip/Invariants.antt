-- `skip`: the bytes from `at` up to i are blanks.
use Rattle.text_spec.specs.Bytes.{is_blank}
use Rattle.text_spec.specs.Scans.{Each}
use Rattle.text.proofs.scanning.skip.Given as goal

abbrev pub invariant-loop-i : goal.invariant-loop-i
invariant-loop-i l = Each is_blank l.s l.at l.i
