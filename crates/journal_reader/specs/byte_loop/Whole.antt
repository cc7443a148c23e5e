-- What reading some bytes of a text, and all of them, leaves.
use Rattle.std.specs.Prelude.{List, ◌≡◌, refl, ℕ, ◌+◌, ◌≤◌, ◌<◌, length, get_or, take}
use Rattle.std.proofs.Common.{sym, ap, subst, ◌∙◌, add-one, arith, take_all}
use Rattle.journal_builder.specs.declared.journal_schema.JournalSchema.{JournalSchema}
use Rattle.journal_builder.specs.declared.open_levels.Level.{Level}
use Rattle.journal_builder.specs.journal_schema.Schemas.{SchemaOf}
use Rattle.journal_lexer.specs.declared.state.Places.{Places}
use Rattle.journal_lexer.specs.run_laws.Findings.{run-next}
use Rattle.journal_reader.specs.declared.state.ReaderState.{ReaderState}
use Rattle.journal_reader.specs.state.Reading.{started, Usable, ReadAs}
use Rattle.journal_reader.specs.step.Steps.{ByteRead}
use Rattle.journal_spec.specs.Reading.{Machine, initial, run}
use Rattle.schema_spec.specs.Schemas.{Schema}
use Rattle.table_spec.specs.Columns.{Columns, Sizes}

-- the state y and what is lent beside it, after k bytes of a text that was begun with other cells
pub record SomeRead (t : JournalSchema) (text : List ℕ) (k : ℕ) (levels : List Level) (places : Places) (c : Columns) (after : List Level) (q : Places) (d : Columns) (y : ReaderState)
    : Type 0 where
  pub usable : Usable q d y
  pub place : y.lex.place ≡ k
  pub read : (s : Schema) (z : Sizes) → SchemaOf s t → ReadAs s z levels places c started initial → ReadAs s z after q d y (run s initial (take k text))

pub none_read : {t : JournalSchema} {text : List ℕ} {levels : List Level} {places : Places} {c : Columns} {x : ReaderState} → x ≡ started → Usable places c started
    → SomeRead t text 0 levels places c levels places c x
unfolding run
none_read {t} {text} {levels} {places} {c} {x} e u =
    subst (λ (y : ReaderState). SomeRead t text 0 levels places c levels places c y) (sym e) (record { usable = u; place = refl; read = λ s z cells r. r })

-- one byte more
pub more-read : {t : JournalSchema} {text : List ℕ} {k : ℕ} {levels u : List Level} {places v : Places} {c w : Columns} {x : ReaderState} {after : List Level} {q : Places} {d : Columns}
    {y : ReaderState} → k < length text → SomeRead t text k levels places c u v w x → ByteRead t u v w x (get_or text k 0) after q d y
    → SomeRead t text (k + 1) levels places c after q d y
more-read {t} {text} {k} {levels} {u} {places} {c = c} {after = after} {q = q} {d = d} {y = y} h r b =
    record {
      usable = b.usable;
      place = b.place ∙ ap (λ (n : ℕ). n + 1) r.place;
      read = λ s z cells first.
          subst (λ (m : Machine). ReadAs s z after q d y m)
          (sym (ap (λ (n : ℕ). run s initial (take n text)) (add-one k) ∙ run-next s initial text k h))
          (b.read s z (run s initial (take k text)) cells (r.read s z cells first));
    }

-- all of them
pub record AllRead (t : JournalSchema) (text : List ℕ) (levels : List Level) (places : Places) (c : Columns) (after : List Level) (q : Places) (d : Columns) (y : ReaderState) : Type 0 where
  pub usable : Usable q d y
  pub place : y.lex.place ≡ length text
  pub read : (s : Schema) (z : Sizes) → SchemaOf s t → ReadAs s z levels places c started initial → ReadAs s z after q d y (run s initial text)

pub all_read : {t : JournalSchema} {text : List ℕ} {k : ℕ} {levels : List Level} {places : Places} {c : Columns} {after : List Level} {q : Places} {d : Columns} {y : ReaderState}
    → SomeRead t text k levels places c after q d y → k ≤ length text → length text ≤ k → AllRead t text levels places c after q d y
all_read {t} {text} {k} {levels} {places} {c} {after} {q} {d} {y} r a b =
    record {
      usable = r.usable;
      place = r.place ∙ omega arith;
      read = λ s z cells first. subst (λ (l : List ℕ). ReadAs s z after q d y (run s initial l)) (take_all k text b) (r.read s z cells first);
    }
