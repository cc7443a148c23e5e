-- What compiled paths stand for, and that their ranges stay in their columns.
use Rattle.std.specs.Prelude.{List, ℕ, ◌≤◌, get_or}
use Rattle.compiled_paths.specs.Steps.{bundle_in}
use Rattle.compiled_paths.specs.Sizes.{written_steps, all_steps}
use Rattle.compiled_paths.specs.declared.CompiledPaths.{CompiledPaths}
use Rattle.path_spec.specs.Paths.{LocationPath}
use Rattle.text_spec.specs.Limits.{max_paths}

unfoldable pub paths_in : CompiledPaths → List (LocationPath ℕ)
paths_in c = bundle_in c.steps c.conditions c.paths c.count 0

-- the starts are at most so large
abbrev pub AtMost : ℕ → List ℕ → Type 0
AtMost n cells = (k : ℕ) → get_or cells k 0 ≤ n

-- every range ends within the steps
pub record Shaped (c : CompiledPaths) : Type 0 where
  pub few : c.count ≤ max_paths
  pub paths-in : AtMost written_steps c.paths
  pub conditions-in : AtMost all_steps c.conditions
