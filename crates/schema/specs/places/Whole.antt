-- What reading all declarations of a text answers: what it spells, the places of its names in lent cells, and the first place that passes
-- a limit.
use mathlib.Core.List.{List, [], map, reverse, Memᴰ as In}
use Rattle.std.specs.Prelude.{◌≡◌, ℕ, ◌+◌, ◌*◌, ◌≤◌, ◌<◌, length, take, drop, Option, Some, None, Result, Ok, Err}
use Rattle.schema_spec.specs.Declarations.{Declaration}
use Rattle.schema_spec.specs.Machine.{between, from, parse}
use Rattle.schema_spec.specs.Reading.{limit_places, uses_of}
use Rattle.schema.specs.declared.places.Counts.{Counts}
use Rattle.schema.specs.particles.Readings.{use_at, Between}
use Rattle.text.specs.scanning.Outcomes.{NoBlank}
use Rattle.text_spec.specs.Limits.{max_declarations, max_model_names}
use Rattle.text_spec.specs.Lists.{gather}
use Rattle.text_spec.specs.Machines.{spells, departs}

-- declarations within the limits, with the places of their names and of the names in their models, all before i
pub record WithinLimits (s : List ℕ) (ds : List Declaration) (d n i : ℕ) (names uses : List ℕ) : Type 0 where
  pub free : limit_places ds ≡ []
  pub some : d ≤ max_declarations
  pub small : n ≤ d * max_model_names
  pub declared-at : map (λ e. e.name) ds ≡ map (use_at s) (take d names)
  pub used-at : gather uses_of ds ≡ map (use_at s) (take n uses)
  pub declared-rise : Between 0 i (take d names)
  pub used-rise : Between 0 i (take n uses)

-- within the limits, or the first place that passes one
abbrev pub Limits : List ℕ → List Declaration → ℕ → ℕ → Option ℕ → ℕ → List ℕ → List ℕ → Type 0
Limits s ds d n None i names uses = WithinLimits s ds d n i names uses
Limits s ds d n (Some over) i names uses = (over < length s) × (over ≤ i) × In over (limit_places ds) × ((x : ℕ) → In x (limit_places ds) → over ≤ x)

-- what was read up to i, where the cells for names held `start`
pub record UpTo (s : List ℕ) (i d n : ℕ) (over : Option ℕ) (start names uses : List ℕ) : Type 0 where
  -- the last first
  pub done : List Declaration
  pub same : from (between []) s 0 ≡ from (between done) s i
  pub high : i ≤ length s
  pub no-blank : NoBlank s i
  pub count : length done ≡ d
  pub few : d ≤ i
  pub few-uses : n ≤ i
  pub room : length names ≡ max_declarations
  pub room-uses : length uses ≡ max_declarations * max_model_names + 1
  pub rest : drop d names ≡ drop d start
  pub limits : Limits s (reverse done) d n over i names uses

-- the whole text
pub record AllSpelt (s : List ℕ) (c : Counts) (start names uses : List ℕ) : Type 0 where
  pub declarations : List Declaration
  pub spelt : parse s ≡ spells declarations
  pub count : length declarations ≡ c.d
  pub room : length names ≡ max_declarations
  pub room-uses : length uses ≡ max_declarations * max_model_names + 1
  pub rest : drop c.d names ≡ drop c.d start
  pub limits : Limits s declarations c.d c.n c.over (length s) names uses

abbrev pub AllAs : List ℕ → List ℕ → List ℕ → List ℕ → Result Counts ℕ → Type 0
AllAs s start names uses (Ok c) = AllSpelt s c start names uses
AllAs s start names uses (Err j) = parse s ≡ departs j

pub record AllRead (s start names uses : List ℕ) (r : Result Counts ℕ) : Type 0 where
  pub says : AllAs s start names uses r
