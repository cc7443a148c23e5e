-- What reading some events of a text, and all of them, leaves.
use Rattle.std.specs.Prelude.{List, ◌≡◌, refl, ℕ, ◌≤◌, ◌<◌, length, Option, Some, None}
use Rattle.std.proofs.Common.{sym, ap, subst, ◌∙◌, arith}
use Rattle.journal_builder.specs.declared.journal_schema.JournalSchema.{JournalSchema}
use Rattle.journal_builder.specs.declared.open_levels.Level.{Level}
use Rattle.journal_builder.specs.journal_schema.Schemas.{SchemaOf}
use Rattle.journal_lexer.specs.declared.state.Places.{Places}
use Rattle.journal_lexer.specs.loop_laws.Advance.{foreign_below}
use Rattle.journal_lexer.specs.run_laws.Passes.{foreigns_below, nothing_built, reached-first, reached-last}
use Rattle.journal_lexer.specs.state.Places.{no_place}
use Rattle.journal_reader.specs.byte_loop.Whole.{AllRead}
use Rattle.journal_reader.specs.declared.state.ReaderState.{ReaderState}
use Rattle.journal_reader.specs.event_step.Points.{Point, ReadOn}
use Rattle.journal_reader.specs.state.Reading.{started, StandsBelow, ForeignCell, Usable, ReadAs}
use Rattle.journal_reader.specs.state.ReadingLaws.{foreign_below_lem}
use Rattle.journal_spec.specs.Reading.{Machine, initial, run}
use Rattle.schema_spec.specs.Schemas.{Schema}
use Rattle.table_spec.specs.Columns.{Columns, Sizes}
use Rattle.token_spec.specs.Lexer.{between}

-- some events of a text that was begun with other cells
pub record EventsRead (t : JournalSchema) (text : List ℕ) (levels : List Level) (places : Places) (c : Columns) (after : List Level) (q : Places) (d : Columns) (y : ReaderState) : Type 0 where
  pub usable : Usable q d y
  pub inside : y.lex.place ≤ length text
  pub read : (s : Schema) (z : Sizes) → SchemaOf s t → ReadAs s z levels places c started initial → Point s z text after q d y

pub no-event-read : {t : JournalSchema} {text : List ℕ} {levels : List Level} {places : Places} {c : Columns} {x : ReaderState} → x ≡ started → Usable places c started
    → EventsRead t text levels places c levels places c x
unfolding foreign_below
no-event-read {text = text} e u =
    rw e
    (record {
      usable = u;
      inside = omega arith;
      read = λ s z cells r.
          record {
            mode = between;
            building = nothing_built;
            reached = reached-first s text;
            means = r.mode;
            foreign = none_yet _ r.foreign.below;
            built = r.built;
            rows = r.rows;
          };
    })
  where
    none_yet : (x : Option ℕ) → StandsBelow x 0 → x ≡ None
    none_yet None h = refl
    none_yet (Some j) h = absurd (omega (arith, h))

pub event-more : {t : JournalSchema} {text : List ℕ} {levels u after : List Level} {places v q : Places} {c w d : Columns} {x y : ReaderState} → EventsRead t text levels places c u v w x
    → ReadOn t text u v w x after q d y → EventsRead t text levels places c after q d y
event-more r n = record { usable = n.usable; inside = n.inside; read = λ s z cells first. n.read s z cells (r.read s z cells first) }

pub events-all : {t : JournalSchema} {text : List ℕ} {levels after : List Level} {places q : Places} {c d : Columns} {y : ReaderState} → length text < no_place
    → EventsRead t text levels places c after q d y → length text ≤ y.lex.place → AllRead t text levels places c after q d y
events-all {t} {text} {levels} {after} {places} {q} {c} {d} {y} short r h = record { usable = r.usable; place = end; read = by }
  where
    end : y.lex.place ≡ length text
    end = omega (arith, r.inside)

    by : (s : Schema) (z : Sizes) → SchemaOf s t → ReadAs s z levels places c started initial → ReadAs s z after q d y (run s initial text)
    by s z cells first =
        let p = r.read s z cells first in
        subst (λ (m : Machine). ReadAs s z after q d y m) (sym (reached-last p.reached end))
        (record {
          place = end;
          mode = p.means;
          foreign =
              subst (λ (k : Option ℕ). ForeignCell k (length text) (foreigns_below text (length text))) (sym (p.foreign ∙ ap (foreign_below text) end))
              (foreign_below_lem text (length text) (omega arith));
          built = p.built;
          rows = p.rows;
        })
