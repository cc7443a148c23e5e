-- A journal's bytes turned into events, one byte at a time: tags, and runs of character data.
use Rattle.std.specs.Prelude.{cond, ◌&&◌, List, [], ◌∷◌, map, ℕ, suc, ◌+◌, ◌-◌, eqb, leb, drop}
use Rattle.std.proofs.Math.Option.{Option, none, some}
use Rattle.text_spec.specs.Bytes.{is_blank, starts_name, continues_name}
use Rattle.text_spec.specs.Lists.{any_of, is_empty}
use Rattle.text_spec.specs.Machines.{longer}
use Rattle.token_spec.specs.Tokens.{entities}

-- a run of character data: its start, its first byte that is not a blank, and how many bytes fewer its characters are: an entity stands for one
pub record Run : Type 0 where
  pub start : ℕ
  pub solid : Option ℕ
  pub saved : ℕ

abbrev pub run : ℕ → Option ℕ → ℕ → Run
run k solid saved = record { start = k; solid = solid; saved = saved }

-- what the bytes so far leave open
pub data Mode : Type 0 where
  -- between tokens
  between : Mode
  -- in character data, after so many `]` in a row
  in_data : Run → ℕ → Mode
  -- in an entity: what may still come, the place of its `&`, the run that it stands in
  in_entity : List (List ℕ) → ℕ → Run → Mode
  -- after the `<` at a place
  opened : ℕ → Mode
  -- in the name of a start tag or an empty tag; after it; after its `/`
  in_name : ℕ → List ℕ → Mode
  after_name : ℕ → List ℕ → Mode
  after_slash : ℕ → List ℕ → Mode
  -- after `</`; in the name of an end tag; after it
  ending : ℕ → Mode
  in_end_name : ℕ → List ℕ → Mode
  after_end_name : ℕ → List ℕ → Mode
  -- misspelt at a place: nothing more is read
  stopped : ℕ → Mode

pub data Event : Type 0 where
  quiet : Event
  -- a tag's name and place
  starts : List ℕ → ℕ → Event
  empties : List ℕ → ℕ → Event
  ends : List ℕ → ℕ → Event
  -- a whole run of character data and its length
  runs : Run → ℕ → Event

pub record Lexed : Type 0 where
  pub mode : Mode
  pub event : Event

abbrev pub goes : Mode → Lexed
goes m = record { mode = m; event = quiet }

abbrev pub tells : Mode → Event → Lexed
tells m e = record { mode = m; event = e }

-- the first byte that is not a blank stays
abbrev pub first_solid : Option ℕ → ℕ → Option ℕ
first_solid none k = some k
first_solid (some j) k = some j

abbrev pub solid_by : Run → ℕ → Run
solid_by r k = run r.start (first_solid r.solid k) r.saved

-- so many bytes more are saved
abbrev pub saved_by : Run → ℕ → Run
saved_by r n = run r.start r.solid (r.saved + n)

-- what is left of the entities that go on with this byte
abbrev pub tails_with : ℕ → List (List ℕ) → List (List ℕ)
tails_with b [] = []
tails_with b ([] ∷ ws) = tails_with b ws
tails_with b ((c ∷ w) ∷ ws) = cond (eqb b c) (w ∷ tails_with b ws) (tails_with b ws)

-- a byte of character data; `]]>` is misspelt at its first `]`
abbrev pub data_byte : Run → ℕ → ℕ → ℕ → Mode
data_byte r brackets k b =
    cond (is_blank b) (in_data r 0)
    (cond (eqb b 0x26) (in_entity (map (drop 1) entities) k (solid_by r k))
    (cond (eqb b 0x5D) (in_data (solid_by r k) (suc brackets))
    (cond (eqb b 0x3E && leb 2 brackets) (stopped (k - 2)) (in_data (solid_by r k) 0))))

-- a byte at the place k of the entity whose `&` stands at a place; its `;` ends it
abbrev pub entity_byte : List (List ℕ) → ℕ → ℕ → Run → Mode
entity_byte rests at k r = cond (is_empty rests) (stopped at) (cond (any_of is_empty rests) (in_data (saved_by r (k - at)) 0) (in_entity rests at r))

-- after the name of a start tag or an empty tag
abbrev pub tag_byte : ℕ → List ℕ → ℕ → Lexed
tag_byte at n b =
    cond (is_blank b) (goes (after_name at n)) (cond (eqb b 0x3E) (tells between (starts n at)) (cond (eqb b 0x2F) (goes (after_slash at n)) (goes (stopped at))))

abbrev pub end_tag_byte : ℕ → List ℕ → ℕ → Lexed
end_tag_byte at n b = cond (is_blank b) (goes (after_end_name at n)) (cond (eqb b 0x3E) (tells between (ends n at)) (goes (stopped at)))

-- the byte b at the place k
unfoldable pub lex : Mode → ℕ → ℕ → Lexed
lex between k b = cond (eqb b 0x3C) (goes (opened k)) (goes (data_byte (run k none 0) 0 k b))
lex (in_data r brackets) k b = cond (eqb b 0x3C) (tells (opened k) (runs r (k - r.start))) (goes (data_byte r brackets k b))
lex (in_entity rests at r) k b = goes (entity_byte (tails_with b rests) at k r)
lex (opened at) k b = cond (eqb b 0x2F) (goes (ending at)) (cond (starts_name b) (goes (in_name at (b ∷ []))) (goes (stopped at)))
lex (in_name at n) k b = cond (continues_name b) (goes (longer (stopped at) n b (in_name at))) (tag_byte at n b)
lex (after_name at n) k b = tag_byte at n b
lex (after_slash at n) k b = cond (eqb b 0x3E) (tells between (empties n at)) (goes (stopped at))
lex (ending at) k b = cond (starts_name b) (goes (in_end_name at (b ∷ []))) (goes (stopped at))
lex (in_end_name at n) k b = cond (continues_name b) (goes (longer (stopped at) n b (in_end_name at))) (end_tag_byte at n b)
lex (after_end_name at n) k b = end_tag_byte at n b
lex (stopped at) k b = goes (stopped at)

-- what the lexer leaves open after bytes
unfoldable pub mode_after : Mode → ℕ → List ℕ → Mode
mode_after m k [] = m
mode_after m k (b ∷ bs) = mode_after (lex m k b).mode (suc k) bs

-- At the end a run is whole; a tag or an entity that the end cuts off is misspelt at its first byte.
abbrev pub last_event : Mode → ℕ → Event
last_event (in_data r brackets) k = runs r (k - r.start)
last_event between k = quiet
last_event (in_entity rests at r) k = quiet
last_event (opened at) k = quiet
last_event (in_name at n) k = quiet
last_event (after_name at n) k = quiet
last_event (after_slash at n) k = quiet
last_event (ending at) k = quiet
last_event (in_end_name at n) k = quiet
last_event (after_end_name at n) k = quiet
last_event (stopped at) k = quiet

abbrev pub misspelt_at : Mode → List ℕ
misspelt_at between = []
misspelt_at (in_data r brackets) = []
misspelt_at (in_entity rests at r) = at ∷ []
misspelt_at (opened at) = at ∷ []
misspelt_at (in_name at n) = at ∷ []
misspelt_at (after_name at n) = at ∷ []
misspelt_at (after_slash at n) = at ∷ []
misspelt_at (ending at) = at ∷ []
misspelt_at (in_end_name at n) = at ∷ []
misspelt_at (after_end_name at n) = at ∷ []
misspelt_at (stopped at) = at ∷ []
