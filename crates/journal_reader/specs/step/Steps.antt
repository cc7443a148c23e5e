-- What one byte leaves: the state is that of the definition's step.
use Rattle.std.specs.Prelude.{List, ◌≡◌, ℕ, ◌+◌, ◌<◌}
use Rattle.std.proofs.Common.{arith}
use Rattle.journal_builder.specs.declared.build_state.Build.{Build}
use Rattle.journal_builder.specs.declared.journal_schema.JournalSchema.{JournalSchema}
use Rattle.journal_builder.specs.declared.open_levels.Level.{Level}
use Rattle.journal_builder.specs.journal_schema.Schemas.{SchemaOf}
use Rattle.journal_lexer.specs.declared.state.Lex.{Lex}
use Rattle.journal_lexer.specs.declared.state.Places.{Places}
use Rattle.journal_lexer.specs.state.Places.{no_place}
use Rattle.journal_lexer.specs.state.Relation.{Steps}
use Rattle.journal_reader.specs.declared.state.ReaderState.{ReaderState}
use Rattle.journal_reader.specs.event_rows.Events.{EventRead}
use Rattle.journal_reader.specs.state.Reading.{Usable, ReadAs}
use Rattle.journal_reader.specs.state.ReadingLaws.{read_next}
use Rattle.journal_spec.specs.Reading.{Machine, step}
use Rattle.schema_spec.specs.Schemas.{Schema}
use Rattle.table_spec.specs.Columns.{Columns, Sizes}
use Rattle.token_spec.specs.Lexer.{lex}

-- the state y and what is lent beside it are what the byte b leaves: the definition's step
pub record ByteRead (t : JournalSchema) (levels : List Level) (places : Places) (c : Columns) (x : ReaderState) (b : ℕ) (after : List Level) (q : Places) (d : Columns) (y : ReaderState)
    : Type 0 where
  pub usable : Usable q d y
  pub place : y.lex.place ≡ x.lex.place + 1
  pub read : (s : Schema) (z : Sizes) (m : Machine) → SchemaOf s t → ReadAs s z levels places c x m → ReadAs s z after q d y (step s m b)

pub byte-read : {t : JournalSchema} {levels after : List Level} {places q : Places} {c d : Columns} {x : ReaderState} {b : ℕ} {l : Lex} {r : Build} → Usable places c x
    → x.lex.place < no_place → Steps x.lex.mode x.lex places b l q → EventRead t levels q c l x.build after d r
    → ByteRead t levels places c x b after q d (record { lex = l; build = r })
byte-read {t} {levels} {after} {places} {q} {c} {d} {x} {b} {l} {r} u room g e =
    let some = g.meant u.valid.mode u.valid.means in
    record {
      usable =
          record {
            lent = some.lent;
            valid = record { mode = (lex u.valid.mode x.lex.place b).mode; means = some.mode };
            shallow = e.shallow;
            counted = omega (arith, u.counted, e.counted, some.place);
            equal = e.equal;
          };
      place = some.place;
      read = λ s z m cells v.
          let meant = g.meant m.mode v.mode in
          let event = (lex m.mode x.lex.place b).event in
          read_next b v room meant (e.built s m.built event cells meant.event v.built)
          (e.rows s m.built event z cells meant.event v.built v.rows);
    }
