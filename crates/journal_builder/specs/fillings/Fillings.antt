-- What the code knows of an open element's content, and what it says of the definition's `Filling`.
use Rattle.std.specs.Prelude.{◌≡◌, ℕ, ◌<◌, length, Option as CodeOption}
use Rattle.std.proofs.Math.Option.{some}
use Rattle.journal_builder.specs.declared.fillings.Filling.{Filling}
use Rattle.journal_builder.specs.declared.fillings.Filling.TheVariants.{Unjudged, Misfit, Unfilled, ByText, ByChildren}
use Rattle.journal_spec.specs.Builder.{Filling as Contained, unjudged, misfit, unfilled, filled_by_text, filled_by_children}
use Rattle.models.specs.declared.fitting.State.{State}
use Rattle.models.specs.fitting.Fitting.{progress_of}
use Rattle.schema_spec.specs.Models.{Particle, children}
use Rattle.schema_spec.specs.Schemas.{Schema, content_at}
use Rattle.text.specs.lookup.Lookup.{found}

-- an element with a children model, some children of which left this state
pub record Modelled (s : Schema) (e : ℕ) (state : State) (x : Contained) : Type 0 where
  pub declared : e < length s
  pub model : Particle ℕ
  pub content : content_at s e ≡ children model
  pub progress : x ≡ filled_by_children (progress_of model state)

-- an element, if there is one, is one of a schema
abbrev pub Declared : Schema → CodeOption ℕ → Type 0
Declared s e = (a : ℕ) → found e ≡ some a → a < length s

abbrev pub FillingOf : Schema → Filling → Contained → Type 0
FillingOf s Unjudged x = x ≡ unjudged
FillingOf s Misfit x = x ≡ misfit
FillingOf s Unfilled x = x ≡ unfilled
FillingOf s (ByText e) x = (e < length s) × (x ≡ filled_by_text e)
FillingOf s (ByChildren e state) x = Modelled s e state x
