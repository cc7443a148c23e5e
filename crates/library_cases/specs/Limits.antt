-- Both sides of the limits that no other table of cases tries: names in paths, tags and models, tables, paths and bundles, records. The limits of lengths
-- and nodes that are too large to compute with are laws (`Limits` of projection_laws).
use Rattle.std.specs.Prelude.{List, [], ◌∷◌, ◌++◌, ℕ, zero, suc}
use Rattle.extract_spec.specs.Cases.Tables.{schema_s, extract_of_root}
use Rattle.library_spec.specs.Cases.Exits.{exit}
use Rattle.library_spec.specs.Cases.Opened.{computing}
use Rattle.library_spec.specs.Cases.Questions.{Text, schema_read, bundle_read, journal_read, table_lent, makes, says, leaves, answer_to, Case, AllHold, zeros, lend}
use Rattle.table_spec.specs.Columns.{Columns}
use Rattle.text_spec.specs.Cases.{case, answered, taken, turned_back, copies}
use Rattle.text_spec.specs.Lists.{bytes}

-- ---- names of 31 and 32 bytes
abbrev pub name : ℕ → Text
name n = copies n (bytes "n")

-- an element of 31 bytes that holds itself
abbrev pub schema_n : Text
schema_n = bytes "<!ELEMENT " ++ (name 31 ++ (bytes " (" ++ (name 31 ++ bytes "*)>")))

abbrev pub tag : ℕ → Text
tag n = bytes " <" ++ (name n ++ bytes "/>")

abbrev pub step : ℕ → Text
step n = bytes "self::" ++ (name n ++ bytes "\n")

-- ---- paths of 512 and 513 bytes: steps of 38, 40 and 39 bytes with their `/`, and one of 49
abbrev pub onward : Text → Text
onward axis = axis ++ (name 31 ++ bytes "/")

-- 8 * 38 + 3 * 40 + 39 + 49 = 512
abbrev pub path512 : Text
path512 =
    copies 8 (onward (bytes "self::"))
    ++ (copies 3 (onward (bytes "parent::")) ++ (onward (bytes "child::") ++ (bytes "ancestor-or-self::" ++ (name 31 ++ bytes "\n"))))

-- 7 * 38 + 3 * 40 + 2 * 39 + 49 = 513
abbrev pub path513 : Text
path513 =
    copies 7 (onward (bytes "self::"))
    ++ (copies 3 (onward (bytes "parent::")) ++ (copies 2 (onward (bytes "child::")) ++ (bytes "ancestor-or-self::" ++ (name 31 ++ bytes "\n"))))

-- ---- tables: a chain of so many rows of an element that holds itself, and one text row at its end
abbrev pub from : ℕ → ℕ → List ℕ
from k zero = []
from k (suc n) = k ∷ from (suc k) n

-- element 0 to the depth n + 1
abbrev pub chain : ℕ → Columns
chain n = record { numbers = from 0 (suc n); names = zeros (suc n); parents = 0 ∷ from 0 n; starts = zeros (suc n); lengths = zeros (suc n); decoded = zeros (suc n) }

-- element 0 to the depth n, element 1 below it, and its text
abbrev pub chain_to_text : ℕ → Columns
chain_to_text n =
    record {
      numbers = from 0 (suc (suc n));
      names = zeros n ++ (1 ∷ 33 ∷ []);
      parents = 0 ∷ from 0 (suc n);
      starts = zeros (suc (suc n));
      lengths = zeros (suc n) ++ (1 ∷ []);
      decoded = zeros (suc n) ++ (1 ∷ []);
    }

abbrev pub schema_at : Text
schema_at = bytes "<!ELEMENT a (a|t)*><!ELEMENT t (#PCDATA)>"

-- the root, a `t` of the number given, and its text with the next number and of the length given
abbrev pub text_of : ℕ → ℕ → ℕ → Columns
text_of number next size =
    record { numbers = 0 ∷ number ∷ next ∷ []; names = 0 ∷ 1 ∷ 33 ∷ []; parents = 0 ∷ 0 ∷ 1 ∷ []; starts = 0 ∷ 0 ∷ 0 ∷ []; lengths = 0 ∷ 0 ∷ size ∷ []; decoded = 0 ∷ 0 ∷ size ∷ [] }

-- the root, a `t` with the decoded length given, and its text of the two lengths given
abbrev pub decoded_of : ℕ → ℕ → ℕ → Columns
decoded_of above size decoded =
    record {
      numbers = 0 ∷ 1 ∷ 2 ∷ [];
      names = 0 ∷ 1 ∷ 33 ∷ [];
      parents = 0 ∷ 0 ∷ 1 ∷ [];
      starts = 0 ∷ 0 ∷ 0 ∷ [];
      lengths = 0 ∷ 0 ∷ size ∷ [];
      decoded = 0 ∷ above ∷ decoded ∷ [];
    }

pub cases : List Case
cases =
    case (bundle_read schema_n (step 31)) (says taken)
    ∷ case (bundle_read schema_n (step 32)) (says (turned_back 8 37))
    ∷ case (journal_read schema_n (tag 31)) (says taken)
    ∷ case (journal_read schema_n (tag 32)) (says (turned_back 11 1))
    ∷ case (schema_read schema_n) (says taken)
    -- 8 and 9 paths, of 512 bytes: 4,104 bytes with their line feeds, and one more
    ∷ case (bundle_read schema_n (copies 8 path512)) (says taken)
    ∷ case (bundle_read schema_n (copies 8 path512 ++ bytes "s")) (says (turned_back 2 0))
    ∷ case (bundle_read schema_n (step 31 ++ path513)) (says (turned_back 9 38))
    ∷ case (bundle_read schema_s (copies 8 (bytes "self::scan\n"))) (says taken)
    ∷ case (bundle_read schema_s (copies 9 (bytes "self::scan\n"))) (says (turned_back 9 88))
    -- "depth is at most 64": elements only
    ∷ case (table_lent schema_at (chain 63) 64 []) (says taken)
    ∷ case (table_lent schema_at (chain 64) 65 []) (says (turned_back 1 0))
    ∷ case (table_lent schema_at (chain_to_text 63) 65 (bytes "x")) (says taken)
    ∷ case (table_lent schema_at (chain_to_text 64) 66 (bytes "x")) (says (turned_back 1 0))
    -- "a text row has length 1 to 4,096"; "later numbers rise, to 65,534 at most"
    ∷ case (table_lent schema_at (text_of 1 2 4096) 3 (copies 4097 (bytes "x"))) (says taken)
    ∷ case (table_lent schema_at (text_of 1 2 4097) 3 (copies 4097 (bytes "x"))) (says (turned_back 1 0))
    ∷ case (table_lent schema_at (text_of 1 2 1) 3 (bytes "x")) (says taken)
    ∷ case (table_lent schema_at (text_of 1 2 0) 3 (bytes "x")) (says (turned_back 1 0))
    ∷ case (table_lent schema_at (text_of 65533 65534 1) 3 (bytes "x")) (says taken)
    ∷ case (table_lent schema_at (text_of 65534 65535 1) 3 (bytes "x")) (says (turned_back 1 0))
    ∷ case (table_lent schema_at (text_of 2 2 1) 3 (bytes "x")) (says (turned_back 1 0))
    -- "an element's decoded length is 0"; beside a text, a text's lengths are equal
    ∷ case (table_lent schema_at (decoded_of 0 2 2) 3 (bytes "xx")) (says taken)
    ∷ case (table_lent schema_at (decoded_of 1 2 2) 3 (bytes "xx")) (says (turned_back 1 0))
    ∷ case (table_lent schema_at (decoded_of 0 2 1) 3 (bytes "xx")) (says (turned_back 1 0))
    ∷ case (table_lent schema_at (decoded_of 0 2 3) 3 (bytes "xx")) (says (turned_back 1 0))
    -- a host's journal of 40,000 bytes, more than `listing` reads
    ∷ case (makes (bytes "<!ELEMENT a EMPTY>") (bytes "self::a\n") (copies 39996 (bytes " ") ++ bytes "<a/>") (lend 1 13 0))
    (leaves (exit 0 0 ((1 ∷ 13 ∷ 0 ∷ []) ∷ zeros 1 ∷ zeros 1 ∷ zeros 1 ∷ zeros 1 ∷ zeros 1 ∷ zeros 1 ∷ extract_of_root ∷ [] ∷ [])))
    ∷ []

pub all_hold : AllHold cases
unfolding computing answer_to cases
all_hold = answered cases
