-- What reading all paths of a text answers: what it spells, what is noted of it, and the first path that passes a limit.
use Rattle.std.specs.Prelude.{cond, List, [], ◌∷◌, map, ◌≡◌, ℕ, suc, Option, Some, None, Result, Ok, Err}
use Rattle.bundle_text.specs.declared.notes.Notes.{Notes}
use Rattle.bundle_text.specs.notes.Notes.{EachEnded, Goes, outer_cells, all_paths, Line, all_steps, with_lines}
use Rattle.bundle_text.specs.written_steps.Readings.{step_noted}
use Rattle.path_spec.specs.Grammar.{PathRead, path_read}
use Rattle.path_spec.specs.Machine.{parse}
use Rattle.path_spec.specs.Reading.{passes_limit}
use Rattle.text_spec.specs.Machines.{spells, departs}

abbrev pub path_noted : List ℕ → Line → PathRead
path_noted s l = path_read l.place l.size (map (step_noted s) l.steps)

-- 9. the first byte of the first path that passes a limit, the first path having i before it
abbrev pub first_over : ℕ → List PathRead → Option ℕ
first_over i [] = None
first_over i (p ∷ ps) = cond (passes_limit i p) (Some p.place) (first_over (suc i) ps)

pub record BundleRead (s : List ℕ) (N N' : Notes) (over : Option ℕ) : Type 0 where
  pub lines : List Line
  pub spelt : parse s ≡ spells (map (path_noted s) lines)
  pub goes_on : Goes (outer_cells (all_steps lines))
  pub ended : EachEnded (all_paths (all_steps lines))
  pub noted : N' ≡ with_lines N lines
  pub limit : over ≡ first_over 0 (map (path_noted s) lines)

abbrev pub BundleAs : List ℕ → Notes → Notes → Result (Option ℕ) ℕ → Type 0
BundleAs s N N' (Ok over) = BundleRead s N N' over
BundleAs s N N' (Err j) = parse s ≡ departs j

pub record ReadsBundle (s : List ℕ) (N N' : Notes) (r : Result (Option ℕ) ℕ) : Type 0 where
  pub says : BundleAs s N N' r
