-- `read_rows` meets its contract: after each turn one field more is read, so that fewer bytes are left.
use Prim.Native.Nat.{◌-◌}
use lib.ListN.{length}
use Rattle.extract_reader.specs.rows.Whole.{ReadsRows}
use Rattle.extract_reader.proofs.rows.read_rows.Given as goal

abbrev pub invariant-loop : goal.invariant-loop
invariant-loop l = ReadsRows l.extract l.words l.initial.columns l.reader l.columns

abbrev pub decreases-loop : goal.decreases-loop
decreases-loop l = length l.extract - l.reader.carried.at
