-- Trees of a journal (source document 000, 2.1), what spells them, and their nodes and rows in document order.
use Rattle.std.specs.Prelude.{cond, List, [], ◌∷◌, ◌++◌, ℕ, suc, ◌+◌, max, T, length}
use Rattle.schema_spec.specs.Names.{element, text}
use Rattle.schema_spec.specs.Schemas.{Schema, element_named, content_at, is_pcdata}
use Rattle.table_spec.specs.Nodes.{Node, top, under}
use Rattle.table_spec.specs.Rows.{Row, element_row, text_row}
use Rattle.text_spec.specs.Bytes.{all_blank}
use Rattle.text_spec.specs.Lists.{value_or}
use Rattle.token_spec.specs.Characters.{decode}
use Rattle.token_spec.specs.Tokens.{Token, start_tag, empty_tag, end_tag, characters, spell, spell_token, Tokens}

-- A forest as first child and next sibling: nothing; character data, with its place, and what follows; or an element, with the place
-- of its start tag, its name, its content, and what follows.
pub data Forest : Type 0 where
  nothing : Forest
  data-node : ℕ → List ℕ → Forest → Forest
  element-node : ℕ → List ℕ → Forest → Forest → Forest

-- tokens that start at the place k spell the forest
pub data Spells : ℕ → List Token → Forest → Type 0 where
  no-tokens : {k : ℕ} → Spells k [] nothing
  data-next : {k : ℕ} {w : List ℕ} {ts : List Token} {f : Forest} → Spells (k + length w) ts f → Spells k (characters w ∷ ts) (data-node k w f)
  empty-tag : {k : ℕ} {n a : List ℕ} {ts : List Token} {f : Forest} → Spells (k + length (spell_token (empty_tag n a))) ts f
      → Spells k (empty_tag n a ∷ ts) (element-node k n nothing f)
  tag-pair : {k : ℕ} {n a : List ℕ} {us ts : List Token} {c f : Forest} (b : List ℕ) → Spells (k + length (spell_token (start_tag n a))) us c
      → Spells (k + length (spell_token (start_tag n a)) + length (spell us) + length (spell_token (end_tag n b))) ts f
      → Spells k (start_tag n a ∷ (us ++ (end_tag n b ∷ ts))) (element-node k n c f)

-- only blanks, and no element
pub data OnlyBlanks : Forest → Type 0 where
  no-blanks : OnlyBlanks nothing
  blanks : {k : ℕ} {w : List ℕ} → T (all_blank w) → OnlyBlanks (data-node k w nothing)

-- "exactly one root with only blanks outside it": the root's place, name and content
pub data OneRoot : Forest → ℕ → List ℕ → Forest → Type 0 where
  at_once : {k : ℕ} {n : List ℕ} {c f : Forest} → OnlyBlanks f → OneRoot (element-node k n c f) k n c
  after-blanks : {j k : ℕ} {w n : List ℕ} {c f : Forest} → T (all_blank w) → OnlyBlanks f → OneRoot (data-node j w (element-node k n c f)) k n c

-- tokens that nest, with one root
pub record Nested (ts : List Token) (k : ℕ) (n : List ℕ) (c : Forest) : Type 0 where
  pub forest : Forest
  pub spelt : Spells 0 ts forest
  pub one_root : OneRoot forest k n c

-- a well-formed journal: its root's place, name and content
pub record WellFormedText (journal : List ℕ) (k : ℕ) (n : List ℕ) (c : Forest) : Type 0 where
  pub tokens : List Token
  pub spelt : Tokens journal tokens
  pub nested : Nested tokens k n c

-- the deepest nesting of elements
abbrev pub height : Forest → ℕ
height nothing = 0
height (data-node k w f) = height f
height (element-node k n c f) = max (suc (height c)) (height f)

-- the element with a name; an undeclared one gets index 0, which is never seen: refusal 14 applies
abbrev pub index_of : Schema → List ℕ → ℕ
index_of s n = value_or 0 (element_named s n)

-- how many nodes a forest makes under an element: "in `(#PCDATA)` the whole non-empty text is one node", elsewhere text makes none
abbrev pub count_in : Schema → ℕ → Forest → ℕ
count_in s e nothing = 0
count_in s e (data-node k w f) = cond (is_pcdata (content_at s e)) (suc (count_in s e f)) (count_in s e f)
count_in s e (element-node k n c f) = suc (count_in s (index_of s n) c) + count_in s e f

-- The nodes of a forest under a parent, in document order, numbered from `next`; `e` is the parent's element. A text's node has the characters that it stands for.
abbrev pub nodes_under : Schema → ℕ → Node → ℕ → Forest → List Node
nodes_under s e p next nothing = []
nodes_under s e p next (data-node k w f) =
    cond (is_pcdata (content_at s e)) (under next (text e) (decode w) p ∷ nodes_under s e p (suc next) f) (nodes_under s e p next f)
nodes_under s e p next (element-node k n c f) =
    let i = index_of s n in
    let y = under next (element i) [] p in
    y ∷ (nodes_under s i y (suc next) c ++ nodes_under s e p (suc next + count_in s i c) f)

-- "Nodes are numbered from 0 in document order."
unfoldable pub tree_nodes : Schema → List ℕ → Forest → List Node
tree_nodes s n c =
    let i = index_of s n in
    let y = top 0 (element i) in
    y ∷ nodes_under s i y 1 c

-- "One row per node": the rows of a forest under the row `parent`. In a whole journal a node's number is its row.
abbrev pub rows_under : Schema → ℕ → ℕ → ℕ → Forest → List Row
rows_under s e parent next nothing = []
rows_under s e parent next (data-node k w f) =
    cond (is_pcdata (content_at s e))
    (text_row next e parent k (length w) (length (decode w)) ∷ rows_under s e parent (suc next) f)
    (rows_under s e parent next f)
rows_under s e parent next (element-node k n c f) =
    let i = index_of s n in
    element_row next i parent
    ∷ (rows_under s i next (suc next) c ++ rows_under s e parent (suc next + count_in s i c) f)

unfoldable pub tree_rows : Schema → List ℕ → Forest → List Row
tree_rows s n c =
    let i = index_of s n in
    element_row 0 i 0 ∷ rows_under s i 0 1 c

-- where each node begins and, of a text, how many raw bytes it has (0 for an element)
pub record NodeStart : Type 0 where
  pub place : ℕ
  pub bytes : ℕ

abbrev pub starts_under : Schema → ℕ → Forest → List NodeStart
starts_under s e nothing = []
starts_under s e (data-node k w f) =
    cond (is_pcdata (content_at s e)) (record { place = k; bytes = length w } ∷ starts_under s e f) (starts_under s e f)
starts_under s e (element-node k n c f) = record { place = k; bytes = 0 } ∷ (starts_under s (index_of s n) c ++ starts_under s e f)

abbrev pub tree_starts : Schema → ℕ → List ℕ → Forest → List NodeStart
tree_starts s k n c = record { place = k; bytes = 0 } ∷ starts_under s (index_of s n) c
