-- What one event leaves: the state and the rows are those of the definition's `on_event`.
use Rattle.std.specs.Prelude.{List, reverse, ◌≡◌, ◌+◌, ◌≤◌}
use Rattle.cells.specs.columns.Columns.{EqualColumns}
use Rattle.journal_builder.specs.build_state.State.{Built}
use Rattle.journal_builder.specs.declared.build_state.Build.{Build}
use Rattle.journal_builder.specs.declared.build_state.BuildStep.{BuildStep}
use Rattle.journal_builder.specs.declared.journal_schema.JournalSchema.{JournalSchema}
use Rattle.journal_builder.specs.declared.open_levels.Level.{Level}
use Rattle.journal_builder.specs.event_handling.Events.{EventLeaves}
use Rattle.journal_builder.specs.journal_schema.Schemas.{SchemaOf}
use Rattle.journal_lexer.specs.declared.state.Lex.{Lex}
use Rattle.journal_lexer.specs.declared.state.Places.{Places}
use Rattle.journal_lexer.specs.state.Relation.{TellsEvent}
use Rattle.journal_reader.specs.rows.Rows.{RowAdded}
use Rattle.journal_reader.specs.state.ReadingLaws.{rows_next}
use Rattle.journal_spec.specs.Builder.{Building, on_event}
use Rattle.schema_spec.specs.Schemas.{Schema}
use Rattle.table_spec.specs.Columns.{Columns, Sizes, columns_of}
use Rattle.text.specs.fault_keys.Keys.{no_key}
use Rattle.text_spec.specs.Limits.{max_depth}
use Rattle.token_spec.specs.Lexer.{Event}

-- the builder's state r, the levels `after` and the columns d are what the event of l leaves
pub record EventRead (t : JournalSchema) (levels : List Level) (places : Places) (c : Columns) (l : Lex) (m : Build) (after : List Level) (d : Columns) (r : Build) : Type 0 where
  pub shallow : r.depth ≤ max_depth
  pub counted : r.count ≤ m.count + 1
  pub equal : EqualColumns d
  pub built : (s : Schema) (b : Building) (e : Event) → SchemaOf s t → TellsEvent l places e → Built s levels m b → Built s after r (on_event s e b)
  pub rows : (s : Schema) (b : Building) (e : Event) (z : Sizes) → SchemaOf s t → TellsEvent l places e → Built s levels m b
      → (m.fault ≡ no_key → c ≡ columns_of z (reverse b.rows)) → r.fault ≡ no_key → d ≡ columns_of z (reverse (on_event s e b).rows)

pub event-read : {t : JournalSchema} {levels after : List Level} {places : Places} {c d : Columns} {l : Lex} {m : Build} {x : BuildStep} → EventLeaves t levels places l m after x
    → RowAdded c m.count x d → EventRead t levels places c l m after d x.build
event-read e a =
    record {
      shallow = e.safe.shallow;
      counted = e.safe.counted;
      equal = a.equal;
      built = λ s b v c d w. (e.leaves s b v c d w).built;
      rows = λ s b v z c d w h f. rows_next v w (e.leaves s b v c d w) z a h f;
    }
