-- `depth_under` meets its contract: the open elements passed so far have another number.
use Rattle.std.proofs.Common.{◌≡◌, ℕ, ◌<◌, ◌≤◌}
use Rattle.extract_reader.specs.levels.Levels.{level_at}
use Rattle.extract_reader.proofs.reading.Reader.depth_under.Given as goal

abbrev pub invariant-loop-i : goal.invariant-loop-i
invariant-loop-i l = (j : ℕ) → l.i ≤ j → j < l.self.carried.depth → (level_at l.self.levels j).number ≡ l.number → ⊥
