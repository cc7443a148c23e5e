-- What an event leaves, whatever it is: the builder's state and levels are those of the definition's `on_event`.
use Rattle.std.specs.Prelude.{List, ◌≡◌, refl, ℕ, ◌-◌, ◌≤◌, length, None}
use Rattle.std.proofs.Common.{sym, ap, subst, ◌∙◌}
use Rattle.journal_builder.specs.Events.{tag_event, kept-safe}
use Rattle.journal_builder.specs.build_state.State.{Built, Leaves, SafeStep, step}
use Rattle.journal_builder.specs.declared.build_state.Build.{Build}
use Rattle.journal_builder.specs.declared.build_state.BuildStep.{BuildStep}
use Rattle.journal_builder.specs.declared.journal_schema.JournalSchema.{JournalSchema}
use Rattle.journal_builder.specs.declared.open_levels.Level.{Level}
use Rattle.journal_builder.specs.journal_schema.Schemas.{SchemaOf}
use Rattle.journal_builder.specs.laws.StateLaws.{leaves-as, leaves_kept}
use Rattle.journal_lexer.specs.declared.state.Event.{Event as CodeEvent}
use Rattle.journal_lexer.specs.declared.state.Event.TheVariants.{Quiet, Starts, Empties, Ends, Runs}
use Rattle.journal_lexer.specs.declared.state.Lex.{Lex}
use Rattle.journal_lexer.specs.declared.state.Places.{Places}
use Rattle.journal_lexer.specs.run_laws.Passes.{quiet-builds}
use Rattle.journal_lexer.specs.state.Places.{run_of}
use Rattle.journal_lexer.specs.state.Relation.{Tells, TellsEvent}
use Rattle.journal_spec.specs.Builder.{Building, on_event}
use Rattle.schema_spec.specs.Schemas.{Schema}
use Rattle.text.specs.declared.name_words.Name.{Name}
use Rattle.text.specs.name_words.Words.{Spells}
use Rattle.text_spec.specs.Limits.{max_declarations, max_depth}
use Rattle.token_spec.specs.Lexer.{Event, runs}

-- the step x and the levels `after` are what the event of l leaves
pub record EventLeaves (t : JournalSchema) (levels : List Level) (places : Places) (l : Lex) (m : Build) (after : List Level) (x : BuildStep) : Type 0 where
  pub safe : SafeStep m x
  pub leaves : (s : Schema) (b : Building) (e : Event) → SchemaOf s t → TellsEvent l places e → Built s levels m b → Leaves s after m b x (on_event s e b)

-- ---- by the event
event-tells : (event other : CodeEvent) (w : Name) (p : Places) (e : Event) → event ≡ other → Tells event w p e → Tells other w p e
event-tells event other w p e z t = subst (λ (x : CodeEvent). Tells x w p e) z t

tag-tells : (event : CodeEvent) (w : Name) (p : Places) (e : Event) → (event ≡ Quiet → ⊥) → (event ≡ Runs → ⊥) → Tells event w p e
    → (n : List ℕ) × (e ≡ tag_event event n p.at) × Spells w n
tag-tells Quiet w p e x y t = absurd (x refl)
tag-tells Starts w p e x y t = t
tag-tells Empties w p e x y t = t
tag-tells Ends w p e x y t = t
tag-tells Runs w p e x y t = absurd (y refl)

module _ {t : JournalSchema} {levels : List Level} {places : Places} {l : Lex} {m : Build} where
  pub event-quiet : l.event ≡ Quiet → m.depth ≤ max_depth → EventLeaves t levels places l m levels (step m None)
  event-quiet z w =
      record {
        safe = kept-safe w;
        leaves = λ s b e c d v.
            leaves-as refl (ap (λ (y : Event). on_event s y b) (event-tells l.event Quiet l.name places e z d) ∙ quiet-builds s b) (leaves_kept {x = step m None} refl refl v);
      }

  pub event-run : {after : List Level} {x : BuildStep} (size : ℕ) → l.event ≡ Runs → size ≡ places.at - places.start → SafeStep m x
      → ((s : Schema) (b : Building) → length s ≤ max_declarations → Built s levels m b → Leaves s after m b x (on_event s (runs (run_of places) size) b))
      → EventLeaves t levels places l m after x
  event-run {after} {x} size z q w f =
      record {
        safe = w;
        leaves = λ s b e c d v.
            leaves-as refl (ap (λ (y : Event). on_event s y b) (event-tells l.event Runs l.name places e z d ∙ ap (runs (run_of places)) (sym q))) (f s b c.contents.kinds.few v);
      }

  pub event-tag : {after : List Level} {x : BuildStep} → (l.event ≡ Quiet → ⊥) → (l.event ≡ Runs → ⊥) → SafeStep m x
      → ((s : Schema) (b : Building) (n : List ℕ) → SchemaOf s t → Spells l.name n → Built s levels m b → Leaves s after m b x (on_event s (tag_event l.event n places.at) b))
      → EventLeaves t levels places l m after x
  event-tag {after} {x} y z w f =
      record {
        safe = w;
        leaves = λ s b e c d v.
            let g = tag-tells l.event l.name places e y z d in
            leaves-as refl (ap (λ (u : Event). on_event s u b) g.1) (f s b g.0 c g.2 v);
      }
