-- What is noted of a bundle text: one step or path more, and all alternatives of a condition or all steps of a path.
use Rattle.std.specs.Prelude.{List, [], ◌∷◌, map, ◌≡◌, ℕ, ◌+◌, ◌≤◌, length, set, replicate, true, false}
use Rattle.std.proofs.lemmas.List.Edits.{sets}
use Rattle.bundle_text.specs.declared.notes.Notes.{Notes}
use Rattle.bundle_text.specs.declared.steps.StepRead.{StepRead}
use Rattle.bundle_text.specs.declared.steps.TestRead.TheVariants.{Node}
use Rattle.compiled_paths.specs.Sizes.{written_steps, inner_steps}
use Rattle.compiled_paths.specs.declared.Axis.TheVariants.{SelfNode}
use Rattle.text_spec.specs.Limits.{max_paths, max_bundle_bytes}
use Rattle.text_spec.specs.Lists.{gather}

-- the step in a cell that nothing is noted in
abbrev pub no_step : StepRead
no_step = record { axis = SelfNode; test = Node; ends_alternative = false }

abbrev pub no_notes : Notes
no_notes =
    record {
      outer = replicate written_steps no_step;
      outer_count = 0;
      conditions = replicate (written_steps + 1) written_steps;
      inner = replicate inner_steps no_step;
      inner_count = 0;
      paths = replicate (max_paths + 1) 0;
      path_count = 0;
    }

-- the same cells, of which none is counted
abbrev pub uncounted : Notes → Notes
uncounted N =
    record {
      outer = N.outer;
      outer_count = 0;
      conditions = N.conditions;
      inner = N.inner;
      inner_count = 0;
      paths = N.paths;
      path_count = 0;
    }

-- ---- one more
abbrev pub with_inner : Notes → StepRead → Notes
with_inner N p =
    record {
      outer = N.outer;
      outer_count = N.outer_count;
      conditions = N.conditions;
      inner = set N.inner N.inner_count p;
      inner_count = N.inner_count + 1;
      paths = N.paths;
      path_count = N.path_count;
    }

-- a step outside brackets in the next cell, and the same counted
abbrev pub with_cell : Notes → StepRead → Notes
with_cell N p =
    record {
      outer = set N.outer N.outer_count p;
      outer_count = N.outer_count;
      conditions = N.conditions;
      inner = N.inner;
      inner_count = N.inner_count;
      paths = N.paths;
      path_count = N.path_count;
    }

abbrev pub with_count : Notes → Notes
with_count N =
    record {
      outer = N.outer;
      outer_count = N.outer_count + 1;
      conditions = set N.conditions (N.outer_count + 1) (written_steps + N.inner_count);
      inner = N.inner;
      inner_count = N.inner_count;
      paths = N.paths;
      path_count = N.path_count;
    }

-- both at once
abbrev pub with_outer : Notes → StepRead → Notes
with_outer N p =
    record {
      outer = set N.outer N.outer_count p;
      outer_count = N.outer_count + 1;
      conditions = set N.conditions (N.outer_count + 1) (written_steps + N.inner_count);
      inner = N.inner;
      inner_count = N.inner_count;
      paths = N.paths;
      path_count = N.path_count;
    }

abbrev pub with_path : Notes → Notes
with_path N =
    record {
      outer = N.outer;
      outer_count = N.outer_count;
      conditions = N.conditions;
      inner = N.inner;
      inner_count = N.inner_count;
      paths = set N.paths (N.path_count + 1) N.outer_count;
      path_count = N.path_count + 1;
    }

-- ---- several steps in brackets
abbrev pub with_inners : Notes → List StepRead → Notes
with_inners N ps =
    record {
      outer = N.outer;
      outer_count = N.outer_count;
      conditions = N.conditions;
      inner = sets N.inner N.inner_count ps;
      inner_count = N.inner_count + length ps;
      paths = N.paths;
      path_count = N.path_count;
    }

-- the steps of some alternatives, in their order
abbrev pub cells_of : List (List StepRead) → List StepRead
cells_of qs = gather (λ q. q) qs

-- the last step of an alternative, and no other, has the mark
abbrev pub Ended : List StepRead → Type 0
Ended [] = ⊥
Ended (p ∷ []) = p.ends_alternative ≡ true
Ended (p ∷ q ∷ qs) = (p.ends_alternative ≡ false) × Ended (q ∷ qs)

abbrev pub EachEnded : List (List StepRead) → Type 0
EachEnded [] = Unit {0}
EachEnded (q ∷ qs) = Ended q × EachEnded qs

-- ---- several steps outside brackets: each with the alternatives in its own
pub record Written : Type 0 where
  pub cell : StepRead
  pub paths : List (List StepRead)

-- one of them that is not counted yet, after the steps in its brackets
abbrev pub with_written : Notes → Written → Notes
with_written N w = with_cell (with_inners N (cells_of w.paths)) w.cell

abbrev pub outer_cells : List Written → List StepRead
outer_cells ws = map (λ w. w.cell) ws

abbrev pub all_paths : List Written → List (List StepRead)
all_paths ws = gather (λ w. w.paths) ws

-- where each condition ends, before the first of which there are n steps in brackets
abbrev pub condition_ends : ℕ → List Written → List ℕ
condition_ends n [] = []
condition_ends n (w ∷ ws) = (written_steps + (n + length (cells_of w.paths))) ∷ condition_ends (n + length (cells_of w.paths)) ws

abbrev pub with_steps : Notes → List Written → Notes
with_steps N ws =
    record {
      outer = sets N.outer N.outer_count (outer_cells ws);
      outer_count = N.outer_count + length ws;
      conditions = sets N.conditions (N.outer_count + 1) (condition_ends N.inner_count ws);
      inner = sets N.inner N.inner_count (cells_of (all_paths ws));
      inner_count = N.inner_count + length (cells_of (all_paths ws));
      paths = N.paths;
      path_count = N.path_count;
    }

-- no alternative ends with one of these steps
abbrev pub Goes : List StepRead → Type 0
Goes [] = Unit {0}
Goes (p ∷ ps) = (p.ends_alternative ≡ false) × Goes ps

-- ---- where a text departs from a part: nothing more is noted than some steps in brackets, and in front of them some steps of a path
pub record OnlyInner (N N' : Notes) : Type 0 where
  pub inner : List StepRead
  pub noted : N' ≡ with_inners N inner

pub record OnlySteps (N N' : Notes) : Type 0 where
  pub steps : List Written
  pub inner : List StepRead
  pub noted : N' ≡ with_inners (with_steps N steps) inner

-- ---- several paths: each by its first byte, its bytes without the line feed, and its steps
pub record Line : Type 0 where
  pub place : ℕ
  pub size : ℕ
  pub steps : List Written

abbrev pub all_steps : List Line → List Written
all_steps ls = gather (λ l. l.steps) ls

-- where each path's steps end, before the first of which there are k
abbrev pub path_ends : ℕ → List Line → List ℕ
path_ends k [] = []
path_ends k (l ∷ ls) = (k + length l.steps) ∷ path_ends (k + length l.steps) ls

abbrev pub with_lines : Notes → List Line → Notes
with_lines N ls =
    record {
      outer = sets N.outer N.outer_count (outer_cells (all_steps ls));
      outer_count = N.outer_count + length (all_steps ls);
      conditions = sets N.conditions (N.outer_count + 1) (condition_ends N.inner_count (all_steps ls));
      inner = sets N.inner N.inner_count (cells_of (all_paths (all_steps ls)));
      inner_count = N.inner_count + length (cells_of (all_paths (all_steps ls)));
      paths = sets N.paths (N.path_count + 1) (path_ends N.outer_count ls);
      path_count = N.path_count + length ls;
    }

-- ---- how much is noted
-- no more steps or paths than a place of the text has bytes before it
pub record Few (at : ℕ) (N : Notes) : Type 0 where
  pub outer : N.outer_count ≤ at
  pub inner : N.inner_count ≤ at
  pub paths : N.path_count ≤ at

-- the text can be read on from a place, before which no more steps in brackets are noted than bytes stand there
pub record ReadsFrom (s : List ℕ) (at : ℕ) (N : Notes) : Type 0 where
  pub within : at ≤ length s
  pub short : length s ≤ max_bundle_bytes
  pub few : N.inner_count ≤ at
