-- An extract is bytes: what is written from a well-formed table, and so what the library hands out.
use Rattle.std.specs.Prelude.{Bool, ◌||◌, ◌≡◌, refl, ℕ, ◌<◌, T, eqb, leb, length}
use mathlib.Core.List.Memᴰ.{append_cases}
use mathlib.Core.List.Memᴰ.{head as here}
use mathlib.Core.List.Memᴰ.{tail as there}
use mathlib.Core.List.{List, [], ◌∷◌, ◌++◌, Memᴰ as In}
use Rattle.std.proofs.Common.{inl, inr, ⊎_elim, subst, ◌∙◌, eqb→eq, leb→le, lit<}
use Rattle.std.proofs.Math.Path.{sym}
use native.Mathlib.Omega.{arith}
use Rattle.std.proofs.Math.ListN.{get_elem?}
use Rattle.extract_spec.specs.Cut.{cut}
use Rattle.extract_spec.specs.Fields.{element_tag, text_tag, count_tag, two_bytes, field, row_field, number_at, field_of, write_extract}
use Rattle.inference_spec.specs.Needed.{needed}
use Rattle.journal_laws.specs.TreeNodes.{accepted-well-formed}
use Rattle.journal_laws.specs.Judging.Meaning.{journal-judged-once}
use Rattle.library_spec.specs.Conditions.{SchemaTaken, JournalTaken, of-schema, WritesExtract, InLent, Makes}
use Rattle.library_spec.specs.Hosts.{HostAnswer, host_answer, Lent, extract_of}
use Rattle.library_spec.specs.Records.{LentTable}
use Rattle.path_spec.specs.Paths.{LocationPath}
use Rattle.projection_laws.specs.Cutting.{cut-well-formed-with}
use Rattle.projection_laws.specs.Fields.{AreBytes}
use Rattle.schema_laws.specs.Accepted.{accepted-element, accepted-held}
use Rattle.schema_laws.specs.reading.Reading.{schema-read-once}
use Rattle.schema_spec.specs.Names.{Name, element, text, is_text, names_of}
use Rattle.schema_spec.specs.Schemas.{Schema}
use Rattle.schema_spec.specs.Types.{types_of}
use Rattle.table_laws.specs.Characters.{characters-beside}
use Rattle.table_laws.specs.Fits.{RootOrHeld, row-held}
use Rattle.table_laws.specs.WellFormed.{table-tests, well-formed-beside}
use Rattle.table_spec.specs.Conditions.{WellFormedBeside}
use Rattle.table_spec.specs.Rows.{Row, characters_of}
use Rattle.text_laws.specs.Lists.{gather-in}
use Rattle.text_laws.specs.Tests.{or_cases, and_cases, not-intro, decided}
use Rattle.text_spec.specs.Bytes.{is_foreign, is_between}
use Rattle.text_spec.specs.Calls.{InRoom, passes-1, holds, goes_on_lem, answered}
use Rattle.text_spec.specs.Limits.{max_declarations}
use Rattle.text_spec.specs.Lists.{gather}
use Rattle.text_spec.specs.Records.{TextRecord}
use Rattle.text_spec.specs.Refusals.{accepted}

-- a byte that passes 3 is below 7F hex
passing-byte : (b : ℕ) → (T (is_foreign b) → ⊥) → b < 256
passing-byte b n = ⊎_elim pass (λ f. absurd (n (not-intro known f))) (decided known)
  where
    known : Bool
    known = eqb b 0x09 || (eqb b 0x0A || is_between 0x20 0x7E b)

    pass : T known → b < 256
    pass t =
        ⊎_elim (λ u. let e = eqb→eq b 0x09 u in omega arith)
        (λ v.
        ⊎_elim (λ u. let e = eqb→eq b 0x0A u in omega arith) (λ u. let e = leb→le b 0x7E (and_cases (leb 0x20 b) (leb b 0x7E) u).1 in omega arith)
        (or_cases (eqb b 0x0A) (is_between 0x20 0x7E b) v)) (or_cases (eqb b 0x09) (eqb b 0x0A || is_between 0x20 0x7E b) t)

cons-bytes : (x : ℕ) (xs : List ℕ) → x < 256 → AreBytes xs → AreBytes (x ∷ xs)
cons-bytes x xs h f b (here e) = rw e h
cons-bytes x xs h f b (there i) = f b i

append-bytes : (xs ys : List ℕ) → AreBytes xs → AreBytes ys → AreBytes (xs ++ ys)
append-bytes xs ys f g b i = ⊎_elim (f b) (g b) (append_cases xs i)

two_bytes_lem : (n : ℕ) → AreBytes (two_bytes n)
two_bytes_lem n = cons-bytes _ _ (omega arith) (cons-bytes _ [] (omega arith) (λ b i. elim i [ ]))

field-bytes : (tag : ℕ) (value : List ℕ) → tag < 256 → AreBytes value → AreBytes (field tag value)
field-bytes tag value h f = cons-bytes tag (two_bytes (length value) ++ value) h (append-bytes (two_bytes (length value)) value (two_bytes_lem (length value)) f)

row-bytes : (n : Name) (number parent : ℕ) (w : List ℕ) → ((e : ℕ) → n ≡ element e → e < 256) → (T (is_text n) → AreBytes w) → AreBytes (row_field n number parent w)
row-bytes (element e) number parent w f g =
    field-bytes element_tag (two_bytes number ++ (two_bytes parent ++ (e ∷ []))) (lit< tt)
    (append-bytes (two_bytes number) _ (two_bytes_lem number)
    (append-bytes (two_bytes parent) (e ∷ []) (two_bytes_lem parent) (cons-bytes e [] (f e refl) (λ b i. elim i [ ]))))
row-bytes (text e) number parent w f g =
    field-bytes text_tag (two_bytes number ++ (two_bytes parent ++ w)) (lit< tt)
    (append-bytes (two_bytes number) _ (two_bytes_lem number) (append-bytes (two_bytes parent) w (two_bytes_lem parent) (g tt)))

-- ---- under an accepted schema
module _ (schema : List ℕ) (s : Schema) (st : SchemaTaken schema s) where
  -- the element index of a row
  element-byte : {n : Name} (e : ℕ) → RootOrHeld (types_of s) n → n ≡ element e → e < 256
  unfolding types_of
  element-byte e (inl h) q =
      let same : element 0 ≡ element e = sym h ∙ q in
      let i : 0 ≡ e = cc in
      omega arith
  element-byte {n} e (inr (a, h)) q =
      let r = sym (schema-read-once schema st) in
      let l : e < max_declarations = accepted-element schema s r e (subst (λ (x : Name). In x (names_of s)) q (accepted-held schema s r a n h).1) in
      omega arith

  -- What is written from a well-formed table is bytes.
  pub written-bytes : (lent : List ℕ) (rows : List Row) → WellFormedBeside (types_of s) lent rows → AreBytes (write_extract lent rows)
  unfolding write_extract
  written-bytes lent rows well =
      append-bytes (gather (field_of lent rows) rows) (field count_tag (two_bytes (length rows))) all
      (field-bytes count_tag (two_bytes (length rows)) (lit< tt) (two_bytes_lem (length rows)))
    where
      all : AreBytes (gather (field_of lent rows) rows)
      all b i =
          let c = gather-in (field_of lent rows) rows i in
          let r = c.0 in
          row-bytes r.name r.number (number_at (get_elem? rows r.parent)) (characters_of lent r)
          (λ e q. element-byte e (row-held (types_of s) rows (table-tests (types_of s) rows well.table) c.1) q)
          (λ u x j. passing-byte x (characters-beside well r c.1 u x j)) b c.2

  -- So is the extract that is made of an accepted journal.
  pub extract-bytes : {limit : ℕ} (ps : List (LocationPath ℕ)) (journal : List ℕ) (rows : List Row) → JournalTaken limit s journal rows → AreBytes (extract_of s ps journal rows)
  unfolding extract_of
  extract-bytes {limit} ps journal rows jt =
      let set = needed (types_of s) ps in
      let t = accepted-well-formed limit s journal rows (sym (journal-judged-once limit s journal jt)) in
      written-bytes journal (cut set rows) ((well-formed-beside (types_of s) journal (cut set rows)).0 (cut-well-formed-with (types_of s) set journal rows t))

-- ---- what the library hands out
pub write-extract-bytes : {schema : TextRecord} {table : LentTable} {lent bs : List ℕ} {size : ℕ} → WritesExtract schema table lent size (accepted bs) → AreBytes bs
write-extract-bytes {lent = lent} {size = size} (holds {a = s} (of-schema dtd st) (holds {a = rows} t r)) = by r
  where
    by : {bs : List ℕ} → InRoom (size < length (write_extract lent rows)) (write_extract lent rows) (accepted bs) → AreBytes bs
    by (answered n) = written-bytes dtd s st lent rows t.well_formed

pub make-extract-bytes : {schema bundle journal : List ℕ} {l : Lent} {a : HostAnswer} → Makes schema bundle journal l (accepted a) → AreBytes a.items
make-extract-bytes {schema} {journal = journal} {l = l} (passes-1 z (goes_on_lem {a = s} st (goes_on_lem {a = ps} bt (goes_on_lem {a = rows} jt r)))) = by r
  where
    by : {a : HostAnswer} → InLent l (host_answer rows (extract_of s ps journal rows) []) (accepted a) → AreBytes a.items
    by (answered n) = extract-bytes schema s st ps journal rows jt
