-- Compiled paths from what was noted of a bundle text, under the names of a schema's elements.
use Rattle.std.specs.Prelude.{false, List, map, ℕ, ◌≤◌, length, take, replicate, Option, None, Some, Result, Ok, Err}
use Rattle.std.proofs.lemmas.List.Edits.{sets}
use Rattle.bundle_text.specs.declared.notes.Notes.{Notes}
use Rattle.bundle_text.specs.declared.steps.StepRead.{StepRead}
use Rattle.bundle.specs.declared.columns.Filled.{Filled}
use Rattle.bundle.specs.names_in_tests.Steps.{earliest, earliest_of, step_cell, lost_cell}
use Rattle.compiled_paths.specs.Sizes.{written_steps, inner_steps, all_steps}
use Rattle.compiled_paths.specs.Steps.{no_step}
use Rattle.compiled_paths.specs.declared.Axis.TheVariants.{SelfNode}
use Rattle.compiled_paths.specs.declared.CompiledPaths.{CompiledPaths}
use Rattle.compiled_paths.specs.declared.NodeTest.TheVariants.{Node}
use Rattle.compiled_paths.specs.declared.Step.{Step}
use Rattle.text_spec.specs.Limits.{max_declarations}

-- what `fill` leaves in a cell that no step is written to
abbrev pub any_step : Step
any_step = record { axis = SelfNode; test = Node; ends_alternative = false }

-- the steps outside brackets and in them
abbrev pub outer_read : Notes → List StepRead
outer_read N = take N.outer_count N.outer

abbrev pub inner_read : Notes → List StepRead
inner_read N = take N.inner_count N.inner

module _ (names : List (List ℕ)) (text : List ℕ) (N : Notes) where
  -- the steps, those in brackets from the 128th cell on, and one in the cells that none is written to
  abbrev pub steps_with : Step → List Step
  steps_with unwritten = sets (sets (replicate all_steps unwritten) 0 (map (step_cell names text) (outer_read N))) written_steps (map (step_cell names text) (inner_read N))

  abbrev pub paths_with : Step → CompiledPaths
  paths_with unwritten = record { count = N.path_count; paths = N.paths; conditions = N.conditions; steps = steps_with unwritten }

  abbrev pub filled_steps : List Step
  filled_steps = steps_with no_step

  abbrev pub filled_paths : CompiledPaths
  filled_paths = paths_with no_step

  -- the least place of a name that no element has
  abbrev pub lost : Option ℕ
  lost = earliest (earliest_of None (map (lost_cell names text) (outer_read N))) (earliest_of None (map (lost_cell names text) (inner_read N)))

  abbrev pub filled_with : Step → Filled
  filled_with unwritten = record { paths = paths_with unwritten; lost = lost }

  abbrev pub filled_columns : Filled
  filled_columns = filled_with no_step

  -- the same as one answer, with `any_step` where none is written
  abbrev pub unless_lost : Option ℕ → Result CompiledPaths ℕ
  unless_lost None = Ok (paths_with any_step)
  unless_lost (Some p) = Err p

  abbrev pub filled : Result CompiledPaths ℕ
  filled = unless_lost lost

-- what was noted has room among the steps
pub record Room (names : List ℕ) (N : Notes) : Type 0 where
  pub few-names : length names ≤ max_declarations
  pub few-outer : N.outer_count ≤ written_steps
  pub few-inner : N.inner_count ≤ inner_steps
