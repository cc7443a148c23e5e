-- The rows of a table as they stand in its extract: a well-formed table stays well formed, and its characters stay the same.
use Rattle.std.specs.Prelude.{Bool, not, ◌&&◌, ◌||◌, List, [], ◌∷◌, ◌++◌, ◌≡◌, refl, ℕ, ◌+◌, ◌≤◌, T, eqb, leb, length}
use Rattle.std.proofs.Common.{append_assoc, sym, ap, ◌∙◌, arith, eqb→eq, leb→le, le→leb, length-append, length-take, length-drop}
use Rattle.std.proofs.Math.Dec.{eqb_refl}
use Rattle.extract_spec.specs.Conditions.{SameButRawText, SameTables, no_rows, next_row}
use Rattle.extract_spec.specs.Fields.{row_field, field_of, start_at, rows_at}
use Rattle.projection_laws.specs.Fields.{text-cut}
use Rattle.projection_laws.specs.Items.{size_at, parent_number}
use Rattle.schema_spec.specs.Names.{element, text, Name, is_text}
use Rattle.schema_spec.specs.Types.{Types}
use Rattle.table_laws.specs.Characters.{no-characters, copied-characters, characters-size, characters-pass}
use Rattle.table_laws.specs.Fits.{row_fits_lem, rooted, cells_fit}
use Rattle.table_laws.specs.WellFormed.{decodes-means}
use Rattle.table_spec.specs.Nodes.{Node, top, node_at}
use Rattle.table_spec.specs.Rows.{Row, text_of, characters_of, with_characters}
use Rattle.table_spec.specs.Tables.{well_formed, text_fits, row_fits, later_rows, bytes_inside, copied_or_decoded, text_inside}
use Rattle.text_laws.specs.Tests.{true_of, and_cases, and_intro, or_left, or_right}
use Rattle.text_spec.specs.Bytes.{is_foreign}
use Rattle.text_spec.specs.Limits.{max_text_bytes}
use Rattle.text_spec.specs.Lists.{all_of, gather, part}

-- the characters of a row of a well-formed table: they are as many as the row's decoded length, at most 4,096, which is 0 for an element, and pass 3
pub record HasText (n : Name) (lent : List ℕ) (r : Row) : Type 0 where
  pub size : length (characters_of lent r) ≡ r.decoded
  pub short : r.decoded ≤ max_text_bytes
  pub of_name : size_at n r.decoded ≡ r.decoded
  pub passes : T (not (is_text n) || all_of (λ b. not (is_foreign b)) (characters_of lent r))

-- a text's decoded length is 1 to its raw length
abbrev decoded_fits : Row → Bool
decoded_fits r = leb 1 r.decoded && leb r.decoded r.size

-- and its raw length 1 to 4,096
text-bounds : (r : Row) → T (leb 1 r.size && (leb r.size max_text_bytes && decoded_fits r)) → (1 ≤ r.decoded) × (r.decoded ≤ r.size) × (r.size ≤ max_text_bytes)
text-bounds r t =
    let c = and_cases (leb 1 r.size) (leb r.size max_text_bytes && decoded_fits r) t in
    let d = and_cases (leb r.size max_text_bytes) (decoded_fits r) c.1 in
    let e = and_cases (leb 1 r.decoded) (leb r.decoded r.size) d.1 in
    (leb→le 1 r.decoded e.0, leb→le r.decoded r.size e.1, leb→le r.size max_text_bytes d.0)

pub has-text : (n : Name) (lent : List ℕ) (r : Row) → r.name ≡ n → T (text_fits n r) → T (text_inside lent r) → HasText n lent r
has-text (element e) lent r q cells inside =
    let c = and_cases (eqb r.start 0) (eqb r.size 0 && eqb r.decoded 0) cells in
    let d = and_cases (eqb r.size 0) (eqb r.decoded 0) c.1 in
    let empty : r.size ≡ 0 = eqb→eq r.size 0 d.0 in
    let none : r.decoded ≡ 0 = eqb→eq r.decoded 0 d.1 in
    record { size = ap length (copied-characters lent r (none ∙ sym empty)) ∙ rw (empty, none); short = omega arith; of_name = sym none; passes = tt }
has-text (text e) lent r q cells inside =
    let w = text_of lent r in
    let pass = all_of (λ b. not (is_foreign b)) w in
    let i : T (bytes_inside lent r && copied_or_decoded lent r) = rw q at inside in
    let b = and_cases (bytes_inside lent r) (copied_or_decoded lent r) i in
    let c = and_cases (leb r.start (length lent)) (eqb (length w) r.size && pass) b.0 in
    let d = and_cases (eqb (length w) r.size) pass c.1 in
    let raw : length w ≡ r.size = eqb→eq (length w) r.size d.0 in
    let spelt = decodes-means lent r b.1 in
    let bounds = text-bounds r cells in
    record {
      size = characters-size lent r raw spelt;
      short = omega (arith, bounds.1, bounds.2);
      of_name = refl;
      passes = characters-pass lent r raw spelt d.1;
    }

-- a row as it stands in an extract
abbrev pub restart : ℕ → Row → Row
restart k r = with_characters (start_at r.name k) r

cells-moved : (n : Name) (k : ℕ) (r : Row) → r.name ≡ n → T (text_fits n r) → T (text_fits n (restart k r))
cells-moved (element e) k r q t =
    let c = and_cases (eqb r.start 0) (eqb r.size 0 && eqb r.decoded 0) t in
    let none = (and_cases (eqb r.size 0) (eqb r.decoded 0) c.1).1 in
    rw q (and_intro (eqb r.decoded 0) (eqb r.decoded 0) none none)
cells-moved (text e) k r q t =
    let b = text-bounds r t in
    let first = le→leb 1 r.decoded b.0 in
    and_intro (leb 1 r.decoded) _ first
    (and_intro (leb r.decoded max_text_bytes) _ (le→leb r.decoded max_text_bytes (omega (arith, b.1, b.2)))
    (and_intro (leb 1 r.decoded) (leb r.decoded r.decoded) first (le→leb r.decoded r.decoded (omega arith))))

same-cells : (k : ℕ) (r : Row) → T (cells_fit r) → cells_fit (restart k r) ≡ cells_fit r
same-cells k r t = true_of _ (cells-moved r.name k r refl t) ∙ sym (true_of _ t)

node-moved : (k : ℕ) (before : List Node) (r : Row) → node_at [] before (restart k r) ≡ node_at [] before r
node-moved k before r = rw (no-characters (restart k r), no-characters r)

-- moved texts leave a table well formed
later-moved : (s : Types) (before : List Node) (previous : Node) (f : Row → List ℕ) (k : ℕ) (rs : List Row) → T (later_rows s before previous rs)
    → T (later_rows s before previous (rows_at f k rs))
later-moved s before previous f k [] t = tt
later-moved s before previous f k (r ∷ rs) t =
    let y = node_at [] before r in
    let u = and_cases (row_fits s before previous r y) (later_rows s (before ++ (y ∷ [])) y rs) t in
    rw (node-moved k before r)
    (and_intro (row_fits s before previous (restart k r) y) _ (rw (same-cells k r (row_fits_lem s before previous r y u.0).cells) u.0)
    (later-moved s (before ++ (y ∷ [])) y f (k + length (f r)) rs u.1))

no_length : (w : List ℕ) → length w ≡ 0 → w ≡ []
no_length [] e = refl
no_length (b ∷ w) e = absurd (omega (arith, e))

-- the characters written are the text of the row read
text-moved : (n : Name) (lent pre rest : List ℕ) (number parent : ℕ) (r : Row) → r.name ≡ n → T (text_fits n r) → T (text_inside lent r)
    → characters_of (pre ++ (row_field n number parent (characters_of lent r) ++ rest)) (restart (length pre) r) ≡ characters_of lent r
text-moved n lent pre rest number parent r q t i =
    copied-characters (pre ++ (row_field n number parent (characters_of lent r) ++ rest)) (restart (length pre) r) refl ∙ by n q (has-text n lent r q t i)
  where
    by : (n : Name) → r.name ≡ n → HasText n lent r
        → text_of (pre ++ (row_field n number parent (characters_of lent r) ++ rest)) (restart (length pre) r) ≡ characters_of lent r
    by (element e) q held =
        let none : r.decoded ≡ 0 = sym held.of_name in
        ap (λ (n : ℕ). part (start_at r.name (length pre)) n (pre ++ (row_field (element e) number parent (characters_of lent r) ++ rest))) none
        ∙ sym (no_length (characters_of lent r) (held.size ∙ none))
    by (text e) q held = rw q (text-cut pre (characters_of lent r) rest _ _ _ _ _ _ _ (length pre) r.decoded refl held.size)

-- the rows read are the rows written but for text starts and raw lengths, with the same characters
module _ (lent : List ℕ) (all : List Row) where
  pub same_rows : (pre rest : List ℕ) (rs : List Row) (bs : List ℕ) (k : ℕ) → length pre ≡ k → bs ≡ pre ++ (gather (field_of lent all) rs ++ rest)
      → T (all_of cells_fit rs) → T (all_of (text_inside lent) rs) → SameTables lent bs rs (rows_at (field_of lent all) k rs)
  same_rows pre rest [] bs k l e t i = no_rows
  same_rows pre rest (r ∷ rs) bs k l e t i =
      let u = and_cases (cells_fit r) (all_of cells_fit rs) t in
      let v = and_cases (text_inside lent r) (all_of (text_inside lent) rs) i in
      let f = field_of lent all r in
      let later = gather (field_of lent all) rs ++ rest in
      let whole : bs ≡ pre ++ (f ++ later) = e ∙ ap (λ (m : List ℕ). pre ++ m) (append_assoc f (gather (field_of lent all) rs) rest) in
      let read = text-moved r.name lent pre later r.number (parent_number all r) r refl u.0 v.0 in
      let moved : characters_of bs (restart k r) ≡ characters_of lent r = rw (whole, ← l) read in
      next_row (record { number = refl; name = refl; parent = refl; decoded = refl }) (sym moved)
      (same_rows (pre ++ f) rest rs bs (k + length f) (length-append pre f ∙ rw l) (whole ∙ sym (append_assoc pre f later)) u.1 v.1)

-- where tables are the same but for text starts and raw lengths, and the second has texts that are copied, they lie inside their text and pass 3
start-inside : (l : List ℕ) (start size : ℕ) → 1 ≤ size → length (part start size l) ≡ size → start ≤ length l
start-inside l start size h e = omega (arith, simp (length-take, length-drop) at e)

abbrev pub is_copied : Row → Bool
is_copied r = eqb r.decoded r.size

same-inside : (n : Name) (lent lent' : List ℕ) {q r : Row} → SameButRawText q r → characters_of lent q ≡ characters_of lent' r → T (is_copied r) → q.name ≡ n
    → T (text_fits n q) → T (text_inside lent q) → T (text_inside lent' r)
same-inside (element e) lent lent' {q} {r} c w u m t i = let named : r.name ≡ element e = sym c.name ∙ m in rw named tt
same-inside (text e) lent lent' {q} {r} c w u m t i =
    let held = has-text (text e) lent q m t i in
    let equal : r.decoded ≡ r.size = eqb→eq r.decoded r.size u in
    let same : text_of lent' r ≡ characters_of lent q = sym (copied-characters lent' r equal) ∙ sym w in
    let fits : length (text_of lent' r) ≡ r.size = ap length same ∙ held.size ∙ c.decoded ∙ equal in
    let long : 1 ≤ r.size = omega (arith, (text-bounds q t).0, c.decoded, equal) in
    let begins = start-inside lent' r.start r.size long fits in
    or_right (not (is_text r.name)) _
    (and_intro (bytes_inside lent' r) (copied_or_decoded lent' r)
    (and_intro (leb r.start (length lent')) _ (le→leb _ _ begins)
    (and_intro (eqb (length (text_of lent' r)) r.size) _ (rw fits (eqb_refl r.size)) (rw same held.passes)))
    (or_left (is_copied r) _ u))

pub same-all-inside : {lent lent' : List ℕ} {qs rs : List Row} → SameTables lent lent' qs rs → T (all_of is_copied rs) → T (all_of cells_fit qs)
    → T (all_of (text_inside lent) qs) → T (all_of (text_inside lent') rs)
same-all-inside no_rows k t i = tt
same-all-inside {lent} {lent'} (next_row {q = q} {r = r} {qs = qs} {rs = rs} c w more) k t i =
    let g = and_cases (is_copied r) (all_of is_copied rs) k in
    let u = and_cases (cells_fit q) (all_of cells_fit qs) t in
    let v = and_cases (text_inside lent q) (all_of (text_inside lent) qs) i in
    and_intro (text_inside lent' r) (all_of (text_inside lent') rs) (same-inside q.name lent lent' c w g.0 refl u.0 v.0)
    (same-all-inside more g.1 u.1 v.1)

-- the rows of an extract are copied
pub rows-copied : (f : Row → List ℕ) (k : ℕ) (rs : List Row) → T (all_of is_copied (rows_at f k rs))
rows-copied f k [] = tt
rows-copied f k (r ∷ rs) =
    and_intro (is_copied (restart k r)) (all_of is_copied (rows_at f (k + length (f r)) rs)) (eqb_refl r.decoded) (rows-copied f (k + length (f r)) rs)

pub root-moved : (s : Types) (f : Row → List ℕ) (k : ℕ) (rows : List Row) → T (well_formed s rows) → T (well_formed s (rows_at f k rows))
unfolding well_formed
root-moved s f k [] t = tt
root-moved s f k (r ∷ rs) t =
    let c = rooted s r rs t in
    let y = top r.number r.name in
    let rs' = rows_at f (k + length (f r)) rs in
    let moved = later-moved s (y ∷ []) y f (k + length (f r)) rs c.later in
    let same-later : later_rows s (y ∷ []) y rs' ≡ later_rows s (y ∷ []) y rs = true_of _ moved ∙ sym (true_of _ c.later) in
    rw (same-cells k r c.cells, same-later) t
