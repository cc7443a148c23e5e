-- What the reader's state and what is lent beside it say of the definition's machine.
use Rattle.std.specs.Prelude.{List, reverse, ◌≡◌, ℕ, ◌≤◌, ◌<◌, length, Option, Some, None}
use Rattle.cells.specs.columns.Columns.{EqualColumns}
use Rattle.journal_builder.specs.build_state.State.{build, Built}
use Rattle.journal_builder.specs.declared.open_levels.Level.{Level}
use Rattle.journal_lexer.specs.declared.kinds.ByteKind.{ByteKind}
use Rattle.journal_lexer.specs.declared.state.Places.{Places}
use Rattle.journal_lexer.specs.kinds.Kinds.{KindTable}
use Rattle.journal_lexer.specs.loop_laws.Advance.{Valid}
use Rattle.journal_lexer.specs.state.Places.{no_place, Lent}
use Rattle.journal_lexer.specs.state.Relation.{MeansMode, initially}
use Rattle.journal_reader.specs.declared.state.ReaderState.{ReaderState}
use Rattle.journal_spec.specs.Reading.{Machine}
use Rattle.schema_spec.specs.Schemas.{Schema}
use Rattle.table_spec.specs.Columns.{Columns, Sizes, columns_of}
use Rattle.text.specs.fault_keys.Keys.{no_key, key_at, least_key, Placed}
use Rattle.text_spec.specs.Limits.{max_depth}
use Rattle.text_spec.specs.Refusals.{Refusal}

abbrev pub started : ReaderState
started = record { lex = initially; build = build 0 0 no_key }

-- the key of refusal 3, by the first foreign byte
abbrev pub foreign_key : Option ℕ → ℕ
foreign_key None = no_key
foreign_key (Some x) = key_at 3 x

-- a place, if there is one, is below another
abbrev pub StandsBelow : Option ℕ → ℕ → Type 0
StandsBelow None k = Unit {0}
StandsBelow (Some x) k = x < k

-- x is the first foreign byte among the first k bytes, and what the machine found
pub record ForeignCell (x : Option ℕ) (k : ℕ) (fs : List Refusal) : Type 0 where
  pub key : least_key fs ≡ foreign_key x
  pub below : StandsBelow x k
  pub placed : Placed fs

-- what the code needs to be safe
pub record Usable (places : Places) (c : Columns) (x : ReaderState) : Type 0 where
  pub lent : Lent x.lex.place places
  pub valid : Valid x.lex places
  pub shallow : x.build.depth ≤ max_depth
  pub counted : x.build.count ≤ x.lex.place
  pub equal : EqualColumns c

-- what the next byte of a text asks
abbrev pub ByteAhead : List ℕ → List ByteKind → Places → Columns → ReaderState → Type 0
ByteAhead text table places c x = Usable places c x × KindTable table × (length text < no_place) × (x.lex.place < length text)

-- The state, the levels, the places and the columns are those of the machine. Columns are exact unless some refusal applies.
pub record ReadAs (s : Schema) (z : Sizes) (levels : List Level) (places : Places) (c : Columns) (x : ReaderState) (m : Machine) : Type 0 where
  pub place : x.lex.place ≡ m.place
  pub mode : MeansMode x.lex places m.mode
  pub foreign : ForeignCell places.foreign_at m.place m.foreign
  pub built : Built s levels x.build m.built
  pub rows : x.build.fault ≡ no_key → c ≡ columns_of z (reverse m.built.rows)
