-- What judging a bundle text under a schema answers, in the definition's terms, and the paths that are compiled.
use Rattle.std.specs.Prelude.{List, [], map, ◌≡◌, ℕ, ◌≤◌, length, None, IfOk, Result, Ok, Err}
use Rattle.bundle_text.specs.declared.notes.Notes.{Notes}
use Rattle.bundle_text.specs.notes.Notes.{EachEnded, all_paths, Line, all_steps}
use Rattle.bundle_text.specs.paths.Readings.{path_noted, first_over}
use Rattle.bundle.specs.laws.Filled.{Noted}
use Rattle.compiled_paths.specs.Paths.{paths_in, Shaped}
use Rattle.compiled_paths.specs.declared.CompiledPaths.{CompiledPaths}
use Rattle.path_spec.specs.Machine.{parse}
use Rattle.path_spec.specs.Paths.{LocationPath}
use Rattle.path_spec.specs.Reading.{read_bundle}
use Rattle.schema_spec.specs.Schemas.{Schema}
use Rattle.text.specs.declared.refusals.Refusal.{Refusal}
use Rattle.text.specs.refusals.Refusals.{refusal_in}
use Rattle.text_spec.specs.Limits.{max_bundle_bytes}
use Rattle.text_spec.specs.Machines.{spells}
use Rattle.text_spec.specs.Refusals.{Outcome, accepted, refused}
use Rattle.text_spec.specs.Texts.{length_refusals, byte_refusals}

-- compiled paths as the paths that they stand for
abbrev pub outcome_of : Result CompiledPaths Refusal → Outcome (List (LocationPath ℕ))
outcome_of (Ok c) = accepted (paths_in c)
outcome_of (Err f) = refused (refusal_in f)

-- how many paths there are
abbrev pub sized : Outcome (List (LocationPath ℕ)) → Outcome ℕ
sized (accepted ps) = accepted (length ps)
sized (refused f) = refused f

-- Judging a text under a schema answers so: the refusal that comes first, or the accepted paths compiled, in the shape that selecting and the
-- needed names ask for.
pub record JudgedAs (s : Schema) (text : List ℕ) (r : Result CompiledPaths Refusal) : Type 0 where
  pub outcome : outcome_of r ≡ read_bundle s text
  pub shaped : IfOk r Shaped
  pub counted : IfOk r (λ c. c.count ≡ length (paths_in c))

-- under every schema whose elements have these names
pub record JudgedUnder (names : List (List ℕ)) (text : List ℕ) (r : Result CompiledPaths Refusal) : Type 0 where
  pub under : (s : Schema) → names ≡ map (λ e. e.name) s → JudgedAs s text r

-- a text that passes 2 and 3
pub record Readable (text : List ℕ) : Type 0 where
  pub right-length : length_refusals max_bundle_bytes text ≡ []
  pub right-bytes : byte_refusals text ≡ []
  pub some : length text ≡ 0 → ⊥
  pub short : length text ≤ max_bundle_bytes

-- and 8 and 9, with what was noted of it
pub record Spelling (text : List ℕ) (N : Notes) : Type 0 where
  pub readable : Readable text
  pub lines : List Line
  pub spelt : parse text ≡ spells (map (path_noted text) lines)
  pub within : first_over 0 (map (path_noted text) lines) ≡ None
  pub ended : EachEnded (all_paths (all_steps lines))
  pub noted : Noted lines N
