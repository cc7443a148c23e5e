-- Compiled paths that have some written steps, with their conditions.
use Rattle.std.specs.Prelude.{ℕ, ◌+◌, ◌≤◌}
use Rattle.compiled_paths.specs.Paths.{AtMost}
use Rattle.compiled_paths.specs.Sizes.{written_steps, all_steps}
use Rattle.compiled_paths.specs.declared.CompiledPaths.{CompiledPaths}

-- n steps from k on
pub record HasWrittenSteps (c : CompiledPaths) (k n : ℕ) : Type 0 where
  pub counted : k + n ≤ written_steps
  pub conditions-inside : AtMost all_steps c.conditions
