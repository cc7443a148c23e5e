-- The kinds of bytes, and the lexer's step with tests on the kind.
use Rattle.std.specs.Prelude.{Bool, true, false, cond, List, [], ◌∷◌, map, ◌≡◌, ℕ, suc, ◌-◌, ◌<◌, eqb, leb, drop, slice_index_or}
use Rattle.std.proofs.Math.Option.{none}
use Rattle.journal_lexer.specs.declared.kinds.ByteKind.{ByteKind}
use Rattle.journal_lexer.specs.declared.kinds.ByteKind.TheVariants.{Letter, Digit, Blank, Other, Slash, Greater, Less, Ampersand, Bracket, Foreign}
use Rattle.text_spec.specs.Bytes.{is_blank, is_foreign, starts_name, continues_name}
use Rattle.text_spec.specs.Machines.{longer}
use Rattle.token_spec.specs.Lexer.{Run, run, Mode, between, in_data, in_entity, opened, in_name, after_name, after_slash, ending, in_end_name, after_end_name, stopped, starts, empties, ends, runs, Lexed, goes, tells, solid_by, tails_with, entity_byte}
use Rattle.token_spec.specs.Tokens.{entities}

abbrev pub continues_name_kind : ByteKind → Bool
continues_name_kind Letter = true
continues_name_kind Digit = true
continues_name_kind c = false

-- read alone, such a byte leaves character data that is not all blanks as it is
abbrev pub is_plain_kind : ByteKind → Bool
is_plain_kind Less = false
is_plain_kind Ampersand = false
is_plain_kind Bracket = false
is_plain_kind Foreign = false
is_plain_kind c = true

abbrev pub delimiter_kind : ℕ → ByteKind
delimiter_kind b =
    cond (eqb b 0x2F) Slash
    (cond (eqb b 0x3E) Greater
    (cond (eqb b 0x3C) Less
    (cond (eqb b 0x26) Ampersand
    (cond (eqb b 0x5D) Bracket Other))))

unfoldable pub kind_of : ℕ → ByteKind
kind_of b = cond (starts_name b) Letter (cond (continues_name b) Digit (cond (is_blank b) Blank (cond (is_foreign b) Foreign (delimiter_kind b))))

-- a table of the kinds of all bytes
pub record KindTable (t : List ByteKind) : Type 0 where
  pub kind : (b : ℕ) → b < 256 → slice_index_or t b Letter ≡ kind_of b

-- The definition's `lex`, told by the kind c of the byte b at the place k.
abbrev pub data_by : Run → ℕ → ℕ → ByteKind → Mode
data_by r brackets k Blank = in_data r 0
data_by r brackets k Ampersand = in_entity (map (drop 1) entities) k (solid_by r k)
data_by r brackets k Bracket = in_data (solid_by r k) (suc brackets)
data_by r brackets k Greater = cond (leb 2 brackets) (stopped (k - 2)) (in_data (solid_by r k) 0)
data_by r brackets k c = in_data (solid_by r k) 0

abbrev pub tag_by : ℕ → List ℕ → ByteKind → Lexed
tag_by at n Blank = goes (after_name at n)
tag_by at n Greater = tells between (starts n at)
tag_by at n Slash = goes (after_slash at n)
tag_by at n c = goes (stopped at)

abbrev pub end_tag_by : ℕ → List ℕ → ByteKind → Lexed
end_tag_by at n Blank = goes (after_end_name at n)
end_tag_by at n Greater = tells between (ends n at)
end_tag_by at n c = goes (stopped at)

abbrev pub between_by : ℕ → ByteKind → Lexed
between_by k Less = goes (opened k)
between_by k c = goes (data_by (run k none 0) 0 k c)

abbrev pub run_by : Run → ℕ → ℕ → ByteKind → Lexed
run_by r brackets k Less = tells (opened k) (runs r (k - r.start))
run_by r brackets k c = goes (data_by r brackets k c)

abbrev pub opened_by : ℕ → ByteKind → ℕ → Lexed
opened_by at Slash b = goes (ending at)
opened_by at Letter b = goes (in_name at (b ∷ []))
opened_by at c b = goes (stopped at)

abbrev pub slash_by : ℕ → List ℕ → ByteKind → Lexed
slash_by at n Greater = tells between (empties n at)
slash_by at n c = goes (stopped at)

abbrev pub ending_by : ℕ → ByteKind → ℕ → Lexed
ending_by at Letter b = goes (in_end_name at (b ∷ []))
ending_by at c b = goes (stopped at)

unfoldable pub lex_by : Mode → ℕ → ByteKind → ℕ → Lexed
lex_by between k c b = between_by k c
lex_by (in_data r brackets) k c b = run_by r brackets k c
lex_by (in_entity rests at r) k c b = goes (entity_byte (tails_with b rests) at k r)
lex_by (opened at) k c b = opened_by at c b
lex_by (in_name at n) k c b = cond (continues_name_kind c) (goes (longer (stopped at) n b (in_name at))) (tag_by at n c)
lex_by (after_name at n) k c b = tag_by at n c
lex_by (after_slash at n) k c b = slash_by at n c
lex_by (ending at) k c b = ending_by at c b
lex_by (in_end_name at n) k c b = cond (continues_name_kind c) (goes (longer (stopped at) n b (in_end_name at))) (end_tag_by at n c)
lex_by (after_end_name at n) k c b = end_tag_by at n c
lex_by (stopped at) k c b = goes (stopped at)
