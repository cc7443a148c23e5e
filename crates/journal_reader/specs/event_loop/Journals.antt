-- Reading a whole journal: from cleared columns and the state before the first byte to the outcome.
use Rattle.std.specs.Prelude.{List, [], ◌≡◌, refl, ℕ, ◌≤◌, length, Result}
use Rattle.std.proofs.Common.{arith}
use Rattle.cells.specs.columns.Columns.{EqualColumns}
use Rattle.journal_builder.specs.build_state.State.{Built, build}
use Rattle.journal_builder.specs.declared.journal_schema.JournalSchema.{JournalSchema}
use Rattle.journal_builder.specs.declared.open_levels.Level.{Level}
use Rattle.journal_builder.specs.journal_schema.Schemas.{SchemaOf}
use Rattle.journal_lexer.specs.declared.state.Places.{Places}
use Rattle.journal_lexer.specs.run_laws.Passes.{nothing_built}
use Rattle.journal_lexer.specs.state.Places.{no_places}
use Rattle.journal_reader.specs.byte_loop.Whole.{AllRead}
use Rattle.journal_reader.specs.declared.state.ReaderState.{ReaderState}
use Rattle.journal_reader.specs.end.Ends.{Answered, Finished}
use Rattle.journal_reader.specs.state.Reading.{started, Usable, ReadAs}
use Rattle.journal_reader.specs.state.ReadingLaws.{no-foreign}
use Rattle.journal_spec.specs.Reading.{initial}
use Rattle.schema_spec.specs.Schemas.{Schema}
use Rattle.table_spec.specs.Columns.{Columns, Sizes, columns_of}
use Rattle.text.specs.declared.refusals.Refusal.{Refusal}
use Rattle.text.specs.fault_keys.Keys.{no_key}
use Rattle.token_spec.specs.Lexer.{between}

-- from cleared columns c to the columns d and what was found
pub record JournalRead (t : JournalSchema) (text : List ℕ) (c d : Columns) (r : Result ℕ Refusal) : Type 0 where
  pub answered : (s : Schema) (z : Sizes) (limit : ℕ) → SchemaOf s t → c ≡ columns_of z [] → 1 ≤ length text → length text ≤ limit → Answered z limit s text d r

pub usable-first : {places : Places} {c : Columns} → places ≡ no_places → EqualColumns c → Usable places c started
usable-first {c = c} q e = rw q first
  where
    first : Usable no_places c started
    first =
        record {
          lent = record { few = omega arith };
          valid = record { mode = between; means = refl };
          shallow = omega arith;
          counted = omega arith;
          equal = e;
        }

built-first : (s : Schema) (levels : List Level) → Built s levels (build 0 0 no_key) nothing_built
built-first s levels =
    record {
      depth = refl;
      opened = tt;
      below = tt;
      count = refl;
      listed = refl;
      rooted = refl;
      fault = refl;
      placed = tt;
      judged = refl;
      few = λ e. omega arith;
    }

read_first : (s : Schema) (z : Sizes) (levels : List Level) (places : Places) (c : Columns) → places ≡ no_places → c ≡ columns_of z [] → ReadAs s z levels places c started initial
read_first s z levels places c q e = rw q (record { place = refl; mode = refl; foreign = no-foreign; built = built-first s levels; rows = λ f. e })

pub journal-read : {t : JournalSchema} {text : List ℕ} {levels after : List Level} {places q : Places} {c d e : Columns} {x : ReaderState} {r : Result ℕ Refusal} → places ≡ no_places
    → AllRead t text levels places c after q d x → Finished t after q d x e r → JournalRead t text c e r
journal-read {levels = levels} {places = places} {c = c} p a f =
    record { answered = λ s z limit cells h filled within. f.answered s z _ limit cells (a.read s z cells (read_first s z levels places c p h)) filled within }
