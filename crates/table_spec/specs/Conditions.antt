-- What document 01 says of a well-formed table, sentence by sentence, over positions of rows: no loop is mentioned.
use mathlib.Core.List.{List, Memᴰ}
use Rattle.std.specs.Prelude.{◌⊎◌, ◌≡◌, ℕ, suc, ◌+◌, ◌<◌, ◌≤◌, T, length}
use Rattle.std.proofs.Math.Option.{some}
use Rattle.std.proofs.Math.ListN.{get_elem?}
use Rattle.schema_spec.specs.Names.{element, text, is_text}
use Rattle.schema_spec.specs.Types.{Types}
use Rattle.table_spec.specs.Rows.{Row, text_of}
use Rattle.text_spec.specs.Bytes.{is_foreign}
use Rattle.text_spec.specs.Limits.{max_nodes, max_depth, max_text_bytes}
use Rattle.token_spec.specs.Texts.{OneText}

abbrev pub RowAt : List Row → ℕ → Row → Type 0
RowAt rows i r = get_elem? rows i ≡ some r

-- row p is above row i: its parent, or above its parent; nothing is above row 0
pub data RowAbove (rows : List Row) : ℕ → ℕ → Type 0 where
  parent : {i : ℕ} {r : Row} → RowAt rows (suc i) r → RowAbove rows r.parent (suc i)
  higher : {p i : ℕ} {r : Row} → RowAt rows (suc i) r → RowAbove rows p r.parent → RowAbove rows p (suc i)

-- the depth of a row: one for each element from the root down to it
pub data DepthAt (rows : List Row) : ℕ → ℕ → Type 0 where
  root-depth : DepthAt rows 0 1
  element-depth : {i d e : ℕ} {r : Row} → RowAt rows (suc i) r → r.name ≡ element e → DepthAt rows r.parent d → DepthAt rows (suc i) (suc d)
  text-depth : {i d e : ℕ} {r : Row} → RowAt rows (suc i) r → r.name ≡ text e → DepthAt rows r.parent d → DepthAt rows (suc i) d

-- "an element .. carries text 0, 0; a text row has length 1 to 4,096". Document 02, R-2: "an element's decoded length is 0, a text's 1 to its raw length".
pub data TextCells (r : Row) : Type 0 where
  of-element : {e : ℕ} → r.name ≡ element e → r.start ≡ 0 → r.size ≡ 0 → r.decoded ≡ 0 → TextCells r
  of-text : {e : ℕ} → r.name ≡ text e → 1 ≤ r.size → r.size ≤ max_text_bytes → 1 ≤ r.decoded → r.decoded ≤ r.size → TextCells r

-- row i + 1, with its number, name and parent
pub record LaterRow (s : Types) (rows : List Row) (i : ℕ) (q r : Row) : Type 0 where
  -- "later numbers rise, to 65,534 at most"
  pub rises : q.number < r.number
  pub small : r.number < max_nodes
  -- "each later parent is the row before or one above that"
  pub parent_open : (r.parent ≡ i) ⊎ RowAbove rows r.parent i
  -- "each parent holds the name"
  pub held : (p : Row) → RowAt rows r.parent p → T (s.holds p.name r.name)
  -- "depth is at most 64"
  pub shallow : (d : ℕ) → DepthAt rows (suc i) d → d ≤ max_depth
  -- "an element has at most one text row"
  pub one_text : T (is_text r.name) → (j : ℕ) (z : Row) → j < i → RowAt rows (suc j) z → T (is_text z.name) → z.parent ≡ r.parent → ⊥
  pub cells : TextCells r

-- "it is empty, or row 0 is the root element with number 0 and parent row 0", and each later row is as said
pub record WellFormed (s : Types) (rows : List Row) : Type 0 where
  pub root_row : (r : Row) → RowAt rows 0 r → (r.number ≡ 0) × (r.name ≡ s.root) × (r.parent ≡ 0) × TextCells r
  pub later_row : (i : ℕ) (q r : Row) → RowAt rows i q → RowAt rows (suc i) r → LaterRow s rows i q r

-- Document 02, R-2: "a row with two equal lengths is copied, the bytes of any other must be one journal text that decodes to its decoded length"
pub data CopiedOrDecoded (lent : List ℕ) (r : Row) : Type 0 where
  is-copied : r.decoded ≡ r.size → CopiedOrDecoded lent r
  is-decoded : {v : List ℕ} → OneText (text_of lent r) v → length v ≡ r.decoded → CopiedOrDecoded lent r

-- Refusal 1 on a table with the text lent beside it: each text row's range lies inside that text, each of its bytes passes 3, and it is copied or decoded.
pub record WellFormedBeside (s : Types) (lent : List ℕ) (rows : List Row) : Type 0 where
  pub table : WellFormed s rows
  pub inside : (r : Row) → Memᴰ r rows → T (is_text r.name) → r.start + r.size ≤ length lent
  pub passes : (r : Row) → Memᴰ r rows → T (is_text r.name) → (b : ℕ) → Memᴰ b (text_of lent r) → T (is_foreign b) → ⊥
  pub spelt : (r : Row) → Memᴰ r rows → T (is_text r.name) → CopiedOrDecoded lent r
