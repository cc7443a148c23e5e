-- `any_foreign`: whether a byte before this one is foreign.
use Rattle.std.proofs.Common.{◌≡◌, ◌||◌, drop}
use Rattle.text_spec.specs.Bytes.{is_foreign}
use Rattle.text_spec.specs.Lists.{any_of}
use Rattle.text.proofs.foreign_bytes.any_foreign.Given as goal

abbrev pub invariant-loop-b : goal.invariant-loop-b
invariant-loop-b l = (l.any || any_of is_foreign (drop l.b-index l.text)) ≡ any_of is_foreign l.text
