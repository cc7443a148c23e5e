-- The open elements in lent cells, and what a level says of an open element.
use Rattle.std.specs.Prelude.{List, [], ◌∷◌, ◌≡◌, ℕ, suc, ◌<◌, length, get_or}
use Rattle.journal_builder.specs.declared.fillings.Filling.{Filling}
use Rattle.journal_builder.specs.declared.fillings.Filling.TheVariants.{Unjudged}
use Rattle.journal_builder.specs.declared.open_levels.Level.{Level}
use Rattle.journal_builder.specs.fillings.Fillings.{FillingOf}
use Rattle.journal_spec.specs.Builder.{Open}
use Rattle.schema_spec.specs.Schemas.{Schema}
use Rattle.text.specs.fault_keys.Keys.{place_limit}
use Rattle.text.specs.name_words.Words.{words, Spells}

-- no open element
abbrev pub no_level : Level
no_level = record { name = words 0 0 0 0; place = 0; row = 0; filling = Unjudged }

-- the level d
abbrev pub level_at : List Level → ℕ → Level
level_at t d = get_or t d no_level

abbrev pub with_filling : Level → Filling → Level
with_filling v f = record v { filling = f }

-- the level d of u is v, and the levels below it are those of t
pub record Stored (t : List Level) (d : ℕ) (v : Level) (u : List Level) : Type 0 where
  pub new : level_at u d ≡ v
  pub kept : (i : ℕ) → i < d → level_at u i ≡ level_at t i

-- a level is that of an open element
pub record LevelOf (s : Schema) (v : Level) (o : Open) : Type 0 where
  pub name : Spells v.name o.name
  pub place : v.place ≡ o.place
  pub placed : o.place < place_limit
  pub row : v.row ≡ o.row
  pub filling : FillingOf s v.filling o.filling

-- the levels 1, 2, .. are the open elements, the innermost first
abbrev pub Opened : Schema → List Level → List Open → Type 0
Opened s t [] = Unit {0}
Opened s t (o ∷ os) = LevelOf s (level_at t (suc (length os))) o × Opened s t os
