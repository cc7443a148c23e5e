-- What a tag makes of what is built, for every schema and for every building that the state stands for: as the contracts of tags say it.
use Rattle.std.specs.Prelude.{true, List, ◌∷◌, ◌≡◌, ℕ, length, Option}
use Rattle.journal_builder.specs.build_state.State.{Built, Leaves}
use Rattle.journal_builder.specs.declared.build_state.Build.{Build}
use Rattle.journal_builder.specs.declared.build_state.BuildStep.{BuildStep}
use Rattle.journal_builder.specs.declared.journal_schema.JournalSchema.{JournalSchema}
use Rattle.journal_builder.specs.declared.open_levels.Level.{Level}
use Rattle.journal_builder.specs.fillings.Fillings.{Declared}
use Rattle.journal_builder.specs.journal_schema.Schemas.{KindsOf, ModelEnds, ModelsOf, ContentsOf}
use Rattle.journal_builder.specs.laws.Starts.{is_innermost}
use Rattle.journal_builder.specs.open_levels.Levels.{Opened}
use Rattle.journal_spec.specs.Builder.{Open, Building, on_end, filling_for, refill, with_child}
use Rattle.schema_spec.specs.Schemas.{Schema, element_named}
use Rattle.text.specs.declared.name_words.Name.{Name}
use Rattle.text.specs.lookup.Lookup.{found}
use Rattle.text.specs.name_words.Words.{Spells}
use Rattle.text_spec.specs.Lists.{is_none}

-- the innermost element is closed, by its own end tag
abbrev pub Closes : JournalSchema → List Level → Build → Build → Type 0
Closes t levels m r =
    (s : Schema) (b : Building) (n : List ℕ) (k : ℕ) → ModelEnds s t → is_innermost b.opens n ≡ true → is_none b.broken ≡ true → Built s levels m b
    → Built s levels r (on_end n k b)

-- an end tag of any name
abbrev pub Ends : JournalSchema → List Level → Name → ℕ → Build → Build → Type 0
Ends t levels name at m r =
    (s : Schema) (b : Building) (n : List ℕ) → ModelEnds s t → Spells name n → is_none b.broken ≡ true → Built s levels m b → Built s levels r (on_end n at b)

-- one child more in the innermost element
abbrev pub FitsChild : JournalSchema → List Level → ℕ → Option ℕ → List Level → Type 0
FitsChild t levels d e after =
    (s : Schema) (os : List Open) → d ≡ length os → ModelsOf s t → Opened s levels os → Opened s after (refill (with_child (found e)) os)

-- an element is opened on its level
abbrev pub Opens : JournalSchema → List Level → ℕ → Option ℕ → ℕ → ℕ → Name → List Level → Type 0
Opens t levels d e row at name after =
    (s : Schema) (os : List Open) (n : List ℕ) → d ≡ length os → KindsOf s t → Declared s e → Spells name n → Opened s levels os
    → Opened s after (record { name = n; place = at; row = row; filling = filling_for s (found e) } ∷ os)

-- a start tag, whose building the definition gives
abbrev pub Starts : (Schema → List ℕ → ℕ → Building → Building) → JournalSchema → List Level → Build → Option ℕ → Name → ℕ → List Level → BuildStep → Type 0
Starts given t levels m e name at after r =
    (s : Schema) (b : Building) (n : List ℕ) → ContentsOf s t → found e ≡ element_named s n → Spells name n → is_none b.broken ≡ true → Built s levels m b
    → Leaves s after m b r (given s n at b)
