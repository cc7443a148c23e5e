-- The outcome of reading a journal in one pass: refusals 2, 3 and 11 to 16, or the rows.
use Rattle.std.specs.Prelude.{false, not, ◌&&◌, ◌||◌, List, [], ◌∷◌, ◌++◌, reverse, ℕ, suc}
use Rattle.journal_spec.specs.Builder.{Building, building, on_event}
use Rattle.schema_spec.specs.Schemas.{Schema}
use Rattle.table_spec.specs.Rows.{Row}
use Rattle.text_spec.specs.Bytes.{is_foreign}
use Rattle.text_spec.specs.Lists.{is_empty, list_of, is_none}
use Rattle.text_spec.specs.Refusals.{Refusal, Outcome, judged, at, all_at, given, bad_byte, misspelt, bad_nesting}
use Rattle.text_spec.specs.Texts.{length_refusals}
use Rattle.token_spec.specs.Lexer.{Mode, between, lex, last_event, misspelt_at}

-- the state after some bytes: their number, what the lexer leaves open, what is built, and 3 where it applied
pub record Machine : Type 0 where
  pub place : ℕ
  pub mode : Mode
  pub built : Building
  pub foreign : List Refusal

abbrev pub initial : Machine
initial = record { place = 0; mode = between; built = building [] false [] [] 0; foreign = [] }

-- each byte is handed once, in order, to a step that has that byte, the schema and the state
unfoldable pub step : Schema → Machine → ℕ → Machine
step s m b =
    let l = lex m.mode m.place b in
    record {
      place = suc m.place;
      mode = l.mode;
      built = on_event s l.event m.built;
      foreign = given (is_foreign b) (at bad_byte m.place) ++ m.foreign;
    }

unfoldable pub run : Schema → Machine → List ℕ → Machine
run s m [] = m
run s m (b ∷ bs) = run s (step s m b) bs

-- 12 at the end: an element is open, or there was no root
abbrev pub ends_early : Building → ℕ → List Refusal
ends_early b k = given (is_none b.broken && (not (is_empty b.opens) || not b.rooted)) (at bad_nesting k)

abbrev pub ended : Schema → Machine → Building
ended s m = on_event s (last_event m.mode m.place) m.built

abbrev pub machine_refusals : Machine → Building → List Refusal
machine_refusals m b = m.foreign ++ (all_at misspelt (misspelt_at m.mode) ++ (list_of b.broken ++ (ends_early b m.place ++ b.faults)))

unfoldable pub read_journal : ℕ → Schema → List ℕ → Outcome (List Row)
read_journal limit s text =
    let m = run s initial text in
    let b = ended s m in
    judged (length_refusals limit text ++ machine_refusals m b) (reverse b.rows)
