-- Journals at the edges of refusals 11 to 16, and of content models.
use Rattle.std.specs.Prelude.{List, [], ◌∷◌, ◌++◌, ℕ}
use Prim.Native.String.{String}
use Rattle.journal_spec.specs.Cases.Opened.{computing}
use Rattle.journal_spec.specs.Reading.{read_journal}
use Rattle.schema_spec.specs.Records.{schema_in}
use Rattle.table_spec.specs.Rows.{Row}
use Rattle.text_spec.specs.Cases.{Case, case, AllHold, answered, Judgement, taken, turned_back, judgement_of, copies}
use Rattle.text_spec.specs.Limits.{max_journal_bytes}
use Rattle.text_spec.specs.Lists.{bytes}
use Rattle.text_spec.specs.Refusals.{Outcome, accepted, refused}

-- a schema text and a journal
pub record Question : Type 0 where
  pub schema : List ℕ
  pub journal : List ℕ

abbrev pub read : List ℕ → List ℕ → Judgement → Case Question Judgement
read schema journal answer = case (record { schema = schema; journal = journal }) answer

-- an element that may hold all three kinds of content; a text alone
abbrev pub schema_a : List ℕ
schema_a = bytes "<!ELEMENT a (a|b|t)*><!ELEMENT b EMPTY><!ELEMENT t (#PCDATA)>"

abbrev pub schema_t : List ℕ
schema_t = bytes "<!ELEMENT t (#PCDATA)>"

-- an element with a model of two empty ones, and a journal under it
abbrev pub fitted : String → String → Judgement → Case Question Judgement
fitted model journal answer = read (bytes "<!ELEMENT a " ++ (bytes model ++ bytes "><!ELEMENT b EMPTY><!ELEMENT c EMPTY>")) (bytes journal) answer

pub cases : List (Case Question Judgement)
cases =
    -- 11: the second `]` of three; no `]]>` where a blank or an entity parts it
    read schema_a (bytes "<a>]]]></a>") (turned_back 11 4)
    ∷ read schema_t (bytes "<t>]] ></t>") taken
    ∷ read schema_t (bytes "<t>&lt;></t>") taken
    -- 13: depth 65, though the end comes early
    ∷ read schema_a (copies 65 (bytes "<a>")) (turned_back 13 192)
    ∷ read schema_a (copies 64 (bytes "<a>")) (turned_back 12 192)
    -- 14 before 15
    ∷ read schema_a (bytes "<a><b>x<c/></b></a>") (turned_back 14 7)
    -- 15: an outer element before an inner one
    ∷ read schema_a (bytes "<a><b> </b>x</a>") (turned_back 15 0)
    -- 16: a long text
    ∷ read schema_a (bytes "<a><t>" ++ (copies 4096 (bytes "x") ++ bytes "</t></a>")) taken
    ∷ read schema_a (bytes "<a><t>" ++ (copies 4097 (bytes "x") ++ bytes "</t></a>")) (turned_back 16 6)
    -- 16 counts raw bytes: 4,096 and 4,097 of them, which stand for 820 characters and 821
    ∷ read schema_a (bytes "<a><t>" ++ (copies 819 (bytes "&amp;") ++ bytes "x</t></a>")) taken
    ∷ read schema_a (bytes "<a><t>" ++ (copies 819 (bytes "&amp;") ++ bytes "xy</t></a>")) (turned_back 16 6)
    -- 15: `?`, `+`, `|` and `,`, each on both sides
    ∷ fitted "(b?)" "<a/>" taken
    ∷ fitted "(b?)" "<a><b/></a>" taken
    ∷ fitted "(b?)" "<a><b/><b/></a>" (turned_back 15 0)
    ∷ fitted "(b+)" "<a><b/><b/></a>" taken
    ∷ fitted "(b+)" "<a/>" (turned_back 15 0)
    ∷ fitted "(b*)" "<a/>" taken
    ∷ fitted "(b*)" "<a><b/><b/></a>" taken
    ∷ fitted "(b|c)" "<a><c/></a>" taken
    ∷ fitted "(b|c)" "<a><b/><c/></a>" (turned_back 15 0)
    ∷ fitted "(b,c)" "<a><b/><c/></a>" taken
    ∷ fitted "(b,c)" "<a><c/><b/></a>" (turned_back 15 0)
    ∷ []

pub all_hold : AllHold (λ q. judgement_of (read_journal max_journal_bytes (schema_in q.schema) q.journal)) cases
unfolding computing cases
all_hold = answered cases

-- ---- texts that stand for fewer characters: their rows
-- a journal of one text
abbrev text_only : String → List ℕ
text_only w = bytes "<t>" ++ (bytes w ++ bytes "</t>")

abbrev pub lengths : Outcome (List Row) → List ℕ
lengths (accepted []) = []
lengths (accepted (r ∷ [])) = []
lengths (accepted (r ∷ q ∷ rs)) = q.start ∷ q.size ∷ q.decoded ∷ []
lengths (refused f) = []

-- the start, the length and the decoded length of its text
pub texts : List (Case (List ℕ) (List ℕ))
texts =
    case (text_only "12") (3 ∷ 2 ∷ 2 ∷ [])
    ∷ case (text_only "&lt;") (3 ∷ 4 ∷ 1 ∷ [])
    ∷ case (text_only "&gt;") (3 ∷ 4 ∷ 1 ∷ [])
    ∷ case (text_only "&amp;") (3 ∷ 5 ∷ 1 ∷ [])
    ∷ case (text_only "&apos;") (3 ∷ 6 ∷ 1 ∷ [])
    ∷ case (text_only "&quot;") (3 ∷ 6 ∷ 1 ∷ [])
    ∷ case (text_only "a&amp;lt;b ") (3 ∷ 11 ∷ 7 ∷ [])
    ∷ case (text_only " &lt;&gt;") (3 ∷ 9 ∷ 3 ∷ [])
    ∷ []

pub texts-hold : AllHold (λ journal. lengths (read_journal max_journal_bytes (schema_in schema_t) journal)) texts
unfolding computing texts
texts-hold = answered texts
