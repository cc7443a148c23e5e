-- When and where refusals 2, 3 and 11 to 16 apply to a journal text, and the rows that it gives: no machine is mentioned.
use mathlib.Core.List.{List, [], ◌∷◌, ◌++◌, Memᴰ}
use Rattle.std.specs.Prelude.{◌⊎◌, ◌≡◌, ℕ, suc, ◌+◌, ◌<◌, ◌≤◌, T, length}
use Rattle.std.proofs.Math.Option.{none, some}
use Rattle.journal_spec.specs.Trees.{Forest, Nested, WellFormedText, height, NodeStart, tree_rows, tree_starts}
use Rattle.journal_spec.specs.Validity.{InTree, ContentFits, Valid}
use Rattle.schema_spec.specs.Schemas.{Schema, element_named, content_at}
use Rattle.table_spec.specs.Rows.{Row}
use Rattle.text_spec.specs.Bytes.{is_blank, all_blank, is_foreign}
use Rattle.text_spec.specs.Limits.{max_depth, max_nodes, max_text_bytes}
use Rattle.text_spec.specs.Refusals.{Reason, bad_length, bad_byte, misspelt, bad_nesting, over_depth, undeclared_element, bad_content, over_node_limit}
use Rattle.text_spec.specs.Texts.{SplitAt, LengthApplies, ByteApplies}
use Rattle.token_spec.specs.Misspellings.{Misspelt}
use Rattle.token_spec.specs.Tokens.{Token, start_tag, empty_tag, end_tag, characters, spell, Tokens, open_after}

-- tokens with which some nested journal begins
pub record NestedBeginning (ts : List Token) : Type 0 where
  pub more : List Token
  pub place : ℕ
  pub name : List ℕ
  pub content : Forest
  pub nested : Nested (ts ++ more) place name content

-- a tag that begins an element of this name
pub data Begins : Token → List ℕ → Type 0 where
  by-start-tag : {n a : List ℕ} → Begins (start_tag n a) n
  by-empty-tag : {n a : List ℕ} → Begins (empty_tag n a) n

-- no tag of these opens depth 65; an empty tag opens the depth of its element too
abbrev pub Shallow : List Token → Type 0
Shallow ts = (us vs : List Token) (t : Token) (n : List ℕ) → ts ≡ us ++ (t ∷ vs) → Begins t n → open_after 0 us < max_depth

-- where a token offends: a tag at its `<`, character data at its first byte that is not a blank
pub data OffendsAt : Token → ℕ → Type 0 where
  start-tag : {n a : List ℕ} → OffendsAt (start_tag n a) 0
  empty-tag : {n a : List ℕ} → OffendsAt (empty_tag n a) 0
  end-tag : {n a : List ℕ} → OffendsAt (end_tag n a) 0
  solid-byte : {w : List ℕ} {j : ℕ} (s : SplitAt w j) → T (all_blank s.before) → (T (is_blank s.here) → ⊥) → OffendsAt (characters w) j

-- 12. "the offending tag or byte; the length if the end comes too early"; "nothing from the first tag that opens depth 65 on counts here"
pub data Misnested (text : List ℕ) : ℕ → Type 0 where
  offends : {t : Token} {j : ℕ} (us vs : List Token) → Tokens text (us ++ (t ∷ vs)) → NestedBeginning us → Shallow us
      → (NestedBeginning (us ++ (t ∷ [])) → ⊥) → OffendsAt t j → Misnested text (length (spell us) + j)
  ends-early : {ts : List Token} → Tokens text ts → NestedBeginning ts → Shallow ts
      → ((k : ℕ) (n : List ℕ) (c : Forest) → Nested ts k n c → ⊥) → Misnested text (length text)

-- 13. "Depth 65 is reached (its start tag)."
pub data TooDeep (text : List ℕ) : ℕ → Type 0 where
  too-deep : {t : Token} {n : List ℕ} (us vs : List Token) → Tokens text (us ++ (t ∷ vs)) → NestedBeginning us → open_after 0 us ≡ max_depth
      → Begins t n → TooDeep text (length (spell us))

-- 14. "An element is undeclared (its start tag)."
pub data Undeclared (s : Schema) (text : List ℕ) : ℕ → Type 0 where
  undeclared : {t : Token} {n : List ℕ} (us vs : List Token) → Tokens text (us ++ (t ∷ vs)) → Begins t n → element_named s n ≡ none
      → Undeclared s text (length (spell us))

-- 15. "The root is not the schema's, or an element's content doesn't fit its model (its start tag)."
pub data Misfit (s : Schema) (text : List ℕ) : ℕ → Type 0 where
  bad-root : {k : ℕ} {n : List ℕ} {c : Forest} → WellFormedText text k n c → (element_named s n ≡ some 0 → ⊥) → Misfit s text k
  bad-content : {root k e : ℕ} {name n : List ℕ} {content c : Forest} → WellFormedText text root name content → InTree root name content k n c
      → element_named s n ≡ some e → (ContentFits s (content_at s e) c → ⊥) → Misfit s text k

-- 16. "A text that makes a node has over 4,096 bytes, or a 65,536th node begins (its start)."
pub data OverLimit (s : Schema) (text : List ℕ) : ℕ → Type 0 where
  over : {k i : ℕ} {n : List ℕ} {c : Forest} → WellFormedText text k n c → (p : SplitAt (tree_starts s k n c) i)
      → (max_nodes ≤ i) ⊎ (max_text_bytes < p.here.bytes) → OverLimit s text p.here.place

-- the length limit is a parameter: the library's, or that of `listing`
pub data JournalApplies (limit : ℕ) (s : Schema) (text : List ℕ) : Reason → ℕ → Type 0 where
  length-2 : {k : ℕ} → LengthApplies limit text k → JournalApplies limit s text bad_length k
  byte-3 : {k : ℕ} → ByteApplies text k → JournalApplies limit s text bad_byte k
  misspelt-11 : {k : ℕ} → Misspelt text k → JournalApplies limit s text misspelt k
  nesting-12 : {k : ℕ} → Misnested text k → JournalApplies limit s text bad_nesting k
  depth-13 : {k : ℕ} → TooDeep text k → JournalApplies limit s text over_depth k
  undeclared-14 : {k : ℕ} → Undeclared s text k → JournalApplies limit s text undeclared_element k
  content-15 : {k : ℕ} → Misfit s text k → JournalApplies limit s text bad_content k
  nodes-16 : {k : ℕ} → OverLimit s text k → JournalApplies limit s text over_node_limit k

-- the rows are the tree's nodes
pub data JournalGives (s : Schema) (text : List ℕ) : List Row → Type 0 where
  gives : {k : ℕ} {n : List ℕ} {c : Forest} → WellFormedText text k n c → JournalGives s text (tree_rows s n c)

-- Demand 2: a journal is accepted exactly when it is within limits, well formed and valid, and its rows are its nodes in document order. Here
-- are the tree that the text spells, and what it meets.
pub record ValidJournal (limit : ℕ) (s : Schema) (text : List ℕ) (rows : List Row) : Type 0 where
  pub place : ℕ
  pub name : List ℕ
  pub content : Forest
  pub tree : WellFormedText text place name content
  pub valid : Valid s place name content
  pub short_enough : length text ≤ limit
  pub passes : (b : ℕ) → Memᴰ b text → T (is_foreign b) → ⊥
  pub shallow : suc (height content) ≤ max_depth
  pub few_nodes : length (tree_starts s place name content) ≤ max_nodes
  pub short_texts : (x : NodeStart) → Memᴰ x (tree_starts s place name content) → x.bytes ≤ max_text_bytes
  pub gives-rows : rows ≡ tree_rows s name content
