-- `name_end`: the bytes from j up to e go on as a name.
use Rattle.std.proofs.Common.{◌+◌, ◌≤◌}
use Rattle.text_spec.specs.Bytes.{continues_name}
use Rattle.text_spec.specs.Limits.{max_name_bytes}
use Rattle.text_spec.specs.Scans.{Each}
use Rattle.text.proofs.scanning.name_end.Given as goal

abbrev pub invariant-loop-e : goal.invariant-loop-e
invariant-loop-e l = (l.e ≤ l.j + max_name_bytes) × Each continues_name l.s l.j l.e
