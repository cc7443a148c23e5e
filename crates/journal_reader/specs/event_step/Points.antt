-- Where a reading stands on the definition's way, and what reading on up to an event leaves.
use Rattle.std.specs.Prelude.{List, reverse, ◌≡◌, ℕ, ◌-◌, ◌≤◌, ◌<◌, length}
use Rattle.std.proofs.Common.{arith}
use Rattle.journal_builder.specs.build_state.State.{Built}
use Rattle.journal_builder.specs.declared.build_state.Build.{Build}
use Rattle.journal_builder.specs.declared.journal_schema.JournalSchema.{JournalSchema}
use Rattle.journal_builder.specs.declared.open_levels.Level.{Level}
use Rattle.journal_builder.specs.journal_schema.Schemas.{SchemaOf}
use Rattle.journal_lexer.specs.declared.state.Lex.{Lex}
use Rattle.journal_lexer.specs.declared.state.Places.{Places}
use Rattle.journal_lexer.specs.loop_laws.Advance.{foreign_below}
use Rattle.journal_lexer.specs.run_laws.Passes.{Reached, reached-on}
use Rattle.journal_lexer.specs.state.Relation.{MeansMode}
use Rattle.journal_reader.specs.declared.state.ReaderState.{ReaderState}
use Rattle.journal_reader.specs.event_rows.Events.{EventRead}
use Rattle.journal_reader.specs.event_step.Onward.{Onward}
use Rattle.journal_reader.specs.state.Reading.{Usable}
use Rattle.journal_spec.specs.Builder.{Building, on_event}
use Rattle.schema_spec.specs.Schemas.{Schema}
use Rattle.table_spec.specs.Columns.{Columns, Sizes, columns_of}
use Rattle.text.specs.fault_keys.Keys.{no_key}
use Rattle.token_spec.specs.Lexer.{Mode}

-- the reading stands on the definition's way through the text
pub record Point (s : Schema) (z : Sizes) (text : List ℕ) (levels : List Level) (places : Places) (c : Columns) (x : ReaderState) : Type 0 where
  pub mode : Mode
  pub building : Building
  pub reached : Reached s text x.lex.place mode building
  pub means : MeansMode x.lex places mode
  pub foreign : places.foreign_at ≡ foreign_below text x.lex.place
  pub built : Built s levels x.build building
  pub rows : x.build.fault ≡ no_key → c ≡ columns_of z (reverse building.rows)

-- from x to y, and to what is lent beside it, by one byte at least
pub record ReadOn (t : JournalSchema) (text : List ℕ) (levels : List Level) (places : Places) (c : Columns) (x : ReaderState) (after : List Level) (q : Places) (d : Columns) (y : ReaderState) : Type 0 where
  pub usable : Usable q d y
  pub inside : y.lex.place ≤ length text
  pub further : x.lex.place < y.lex.place
  pub read : (s : Schema) (z : Sizes) → SchemaOf s t → Point s z text levels places c x → Point s z text after q d y

pub read-on : {t : JournalSchema} {text : List ℕ} {levels after : List Level} {places q : Places} {c d : Columns} {x : ReaderState} {l : Lex} {r : Build} → Usable places c x
    → Onward text x.lex places l q → EventRead t levels q c l x.build after d r
    → ReadOn t text levels places c x after q d (record { lex = l; build = r })
read-on u o e =
    record {
      usable =
          record {
            lent = o.lent;
            valid = o.valid;
            shallow = e.shallow;
            counted = omega (arith, u.counted, e.counted, o.further);
            equal = e.equal;
          };
      inside = o.inside;
      further = o.further;
      read = λ s z cells p.
          let w = o.stands p.mode p.means p.foreign in
          record {
            mode = w.mode;
            building = on_event s w.event p.building;
            reached = reached-on p.reached w.way;
            means = w.means;
            foreign = w.foreign;
            built = e.built s p.building w.event cells w.told p.built;
            rows = e.rows s p.building w.event z cells w.told p.built p.rows;
          };
    }

-- the measure of a loop over events falls
pub fewer-left : {t : JournalSchema} {text : List ℕ} {levels after : List Level} {places q : Places} {c d : Columns} {x y : ReaderState} → ReadOn t text levels places c x after q d y
    → length text - y.lex.place < length text - x.lex.place
fewer-left r = omega (arith, r.inside, r.further)
