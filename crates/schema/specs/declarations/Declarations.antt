-- What reading a declaration answers: its keyword, its name, the rest, and the whole.
use Rattle.std.specs.Prelude.{List, ◌∷◌, ◌≡◌, ℕ, ◌≤◌, ◌<◌, length, Result, Ok, Err}
use Rattle.schema_spec.specs.Declarations.{Use, Declaration}
use Rattle.schema_spec.specs.Machine.{between, before_name, before_content, from}
use Rattle.schema_spec.specs.Models.{Content, uses_in}
use Rattle.schema.specs.contents.Contents.{Passes, ContentBuilt}
use Rattle.schema.specs.declared.declarations.DeclarationEnd.{DeclarationEnd}
use Rattle.schema.specs.particles.Readings.{use_at, Noted, Fails}
use Rattle.text.specs.scanning.Outcomes.{NoBlank}

-- `<!ELEMENT` and its blanks
abbrev pub ReadsKeyword : List ℕ → ℕ → Result ℕ ℕ → Type 0
ReadsKeyword s at = Passes between (λ ds. before_name (record { place = at; done = ds })) (λ j. (j ≤ length s) × NoBlank s j) s at

-- the declared name at i and its blanks
abbrev pub ReadsDeclaredName : List ℕ → ℕ → Result ℕ ℕ → Type 0
ReadsDeclaredName s i = Passes before_name (λ o. before_content (record { opening = o; name = use_at s i })) (λ j. (j ≤ length s) × NoBlank s j) s i

-- a whole declaration at `at`: the place of its name, its content with the names in it, and that judging on from its start is judging on
-- from its end, with one declaration more
pub record DeclarationRead (s : List ℕ) (at n : ℕ) (cells cells' links links' : List ℕ) (d : DeclarationEnd) : Type 0 where
  pub high : d.at ≤ length s
  pub few : d.n ≤ d.at
  pub low : at ≤ d.name
  pub named : d.name < d.at
  pub content : Content Use
  pub noted : Noted s at n cells cells' d.at d.n (uses_in content)
  pub built : ContentBuilt links links' content d.content
  pub same : (ds : List Declaration) → from (between ds) s at ≡ from (between (record { place = at; name = use_at s d.name; content = content } ∷ ds)) s d.at

abbrev pub DeclarationAs : List ℕ → ℕ → ℕ → List ℕ → List ℕ → List ℕ → List ℕ → Result DeclarationEnd ℕ → Type 0
DeclarationAs s at n cells cells' links links' (Ok d) = DeclarationRead s at n cells cells' links links' d
DeclarationAs s at n cells cells' links links' (Err j) = Fails between s at j

pub record Declared (s : List ℕ) (at n : ℕ) (cells cells' links links' : List ℕ) (r : Result DeclarationEnd ℕ) : Type 0 where
  pub says : DeclarationAs s at n cells cells' links links' r
