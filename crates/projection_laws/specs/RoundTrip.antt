-- An extract written and read returns its rows but for text starts and raw lengths; one read and written returns its bytes.
use Rattle.std.specs.Prelude.{Bool, true, false, not, ◌⊎◌, ◌≡◌, ℕ, ◌≤◌, T, length}
use mathlib.Core.List.{List, [], ◌∷◌, ◌++◌}
use Rattle.std.proofs.Common.{inl, inr, ⊎_elim, sym, ap, subst, ◌∙◌, arith}
use Rattle.std.proofs.Math.Option.{Option, none, some}
use Rattle.std.proofs.Math.Path.{refl}
use Rattle.std.proofs.Math.ListN.{get_elem?}
use Rattle.extract_spec.specs.Conditions.{IsExtract, ExtractApplies, length-2, extract-17, SameTables, ExtractGives, gives}
use Rattle.extract_spec.specs.Fields.{count_tag, two_bytes, field, field_of, write_extract, extract_rows}
use Rattle.extract_spec.specs.Reading.{items_of, rows_of_items, read_extract, is_table, rows_or}
use Rattle.projection_laws.specs.Fields.{AreBytes}
use Rattle.projection_laws.specs.Moved.{same_rows, same-all-inside, rows-copied, root-moved}
use Rattle.projection_laws.specs.ReadBack.{fields_back}
use Rattle.projection_laws.specs.TextNames.{text-names}
use Rattle.projection_laws.specs.Written.{written-long, table-items}
use Rattle.schema_spec.specs.Schemas.{Schema}
use Rattle.schema_spec.specs.Types.{Types, types_of}
use Rattle.table_laws.specs.Fits.{rooted, all-cells}
use Rattle.table_laws.specs.Places.{none-some}
use Rattle.table_laws.specs.WellFormed.{well-formed-beside}
use Rattle.table_spec.specs.Rows.{Row}
use Rattle.table_spec.specs.Tables.{well_formed, well_formed_with, text_inside}
use Rattle.text_laws.specs.Lists.{empty_of, append-empty}
use Rattle.text_laws.specs.Order.{judged-once}
use Rattle.text_laws.specs.Refusals.{judged-accepted, judged-free, given-free}
use Rattle.text_laws.specs.Tests.{never, true_of, false_of, and_cases, and_intro, not-intro, decided}
use Rattle.text_spec.specs.Lists.{all_of, is_empty}
use Rattle.text_spec.specs.Refusals.{Outcome, accepted, refused, at, given, judged, Reason, bad_length, bad_extract, Judged, turned-back, taken, first_of, number_of as reason_number}

-- what was read is accepted if it is a table
accept : (s : Types) (bs : List ℕ) (rows : List Row) → 1 ≤ length bs → rows_of_items (items_of bs) ≡ some rows → T (well_formed_with s bs rows)
    → read_extract s bs ≡ accepted rows
unfolding read_extract
accept s bs rows h e t =
    let full : is_empty bs ≡ false = false_of (is_empty bs) (λ u. let z = ap length (empty_of {xs = bs} u) in omega arith) in
    rw (e, true_of (well_formed_with s bs rows) t, full) (judged-free [] rows refl)

-- a table and the rows as they stand in its extract, each beside its text: the same but for text starts and raw lengths, and well formed
module _ (s : Types) (lent : List ℕ) (rows : List Row) (t : T (well_formed_with s lent rows)) where
  parts : T (well_formed s rows) × T (all_of (text_inside lent) rows)
  unfolding well_formed_with
  parts = and_cases (well_formed s rows) (all_of (text_inside lent) rows) t

  pub extract-same-tables : SameTables lent (write_extract lent rows) rows (extract_rows lent rows)
  unfolding write_extract extract_rows
  extract-same-tables = same_rows lent rows [] (field count_tag (two_bytes (length rows))) rows (write_extract lent rows) 0 refl refl (all-cells s rows parts.0) parts.1

  pub extract-well-formed : T (well_formed_with s (write_extract lent rows) (extract_rows lent rows))
  unfolding well_formed_with extract_rows
  extract-well-formed =
      and_intro (well_formed s (extract_rows lent rows)) (all_of (text_inside (write_extract lent rows)) (extract_rows lent rows)) (root-moved s (field_of lent rows) 0 rows parts.0)
      (same-all-inside extract-same-tables (rows-copied (field_of lent rows) 0 rows) (all-cells s rows parts.0) parts.1)

-- Document 02, R-2: "Rows written and read return but for text starts and raw lengths": each text starts at its characters in the extract, and its lengths are
-- their number.
pub write_read : (s : Schema) (lent : List ℕ) (rows : List Row) → T (well_formed_with (types_of s) lent rows)
    → read_extract (types_of s) (write_extract lent rows) ≡ accepted (extract_rows lent rows)
unfolding write_extract
write_read s lent rows t =
    let c = parts (types_of s) lent rows t in
    accept (types_of s) (write_extract lent rows) (extract_rows lent rows) (omega (arith, written-long lent rows))
    (table-items (types_of s) (text-names s) lent rows c.0 c.1) (extract-well-formed (types_of s) lent rows t)

-- what was accepted was read as a table
accepted-table : (s : Types) (bs : List ℕ) (rows : List Row) → read_extract s bs ≡ accepted rows
    → (rows_of_items (items_of bs) ≡ some rows) × T (well_formed_with s bs rows)
unfolding read_extract
accepted-table s bs rows e = pick (rows_of_items (items_of bs)) refl e
  where
    pick : (o : Option (List Row)) → rows_of_items (items_of bs) ≡ o
        → judged (given (is_empty bs) (at bad_length 0) ++ given (not (is_table s bs o)) (at bad_extract 0)) (rows_or o) ≡ accepted rows
        → (rows_of_items (items_of bs) ≡ some rows) × T (well_formed_with s bs rows)
    pick none q u =
        let c = judged-accepted (given (is_empty bs) (at bad_length 0) ++ given true (at bad_extract 0)) [] rows u in
        absurd (given-free true (at bad_extract 0) (append-empty (given (is_empty bs) (at bad_length 0)) (given true (at bad_extract 0)) c.0).1 tt)
    pick (some rs) q u =
        let ok = well_formed_with s bs rs in
        let c = judged-accepted (given (is_empty bs) (at bad_length 0) ++ given (not ok) (at bad_extract 0)) rs rows u in
        let free = given-free (not ok) (at bad_extract 0) (append-empty (given (is_empty bs) (at bad_length 0)) (given (not ok) (at bad_extract 0)) c.0).1 in
        let t : T ok = ⊎_elim (λ y. y) (λ n. absurd (free (not-intro ok n))) (decided ok) in
        (q ∙ ap {B = Option (List Row)} some c.1, rw c.1 at t)

-- Demand 2, the other way round: an extract that is read and written again returns its bytes.
pub read-write : (s : Types) (bs : List ℕ) (rows : List Row) → AreBytes bs → read_extract s bs ≡ accepted rows → write_extract bs rows ≡ bs
unfolding write_extract items_of well_formed_with
read-write s bs rows small e =
    let c = accepted-table s bs rows e in
    fields_back bs rows small (root-number rows (and_cases (well_formed s rows) (all_of (text_inside bs) rows) c.1).0) (length bs) c.0
  where
    root-number : (rs : List Row) → T (well_formed s rs) → (r : Row) → get_elem? rs 0 ≡ some r → r.number ≡ 0
    root-number [] t r g = none-some g
    root-number (q ∷ rs) t r g =
        let first : q ≡ r = cc in
        rw (← first) (rooted s q rs t).number

-- bytes are turned back by 17, or give rows
outcome : (s : Types) (b : ℕ) (bs : List ℕ) → (read_extract s (b ∷ bs) ≡ refused (at bad_extract 0)) ⊎ ((rows : List Row) × (read_extract s (b ∷ bs) ≡ accepted rows))
unfolding read_extract first_of
outcome s b bs = pick (is_table s (b ∷ bs) rows)
  where
    rows : Option (List Row)
    rows = rows_of_items (items_of (b ∷ bs))

    found : Bool → Outcome (List Row)
    found t = judged (given (not t) (at bad_extract 0)) (rows_or rows)

    pick : (t : Bool) → (found t ≡ refused (at bad_extract 0)) ⊎ ((rs : List Row) × (found t ≡ accepted rs))
    pick true = inr (rows_or rows, refl)
    pick false = inl refl

-- what is the writing of a table is read as that table
written_read : (s : Schema) (bs : List ℕ) (x : IsExtract (types_of s) bs) → read_extract (types_of s) bs ≡ accepted (extract_rows x.lent x.rows)
written_read s bs x =
    ap (read_extract (types_of s)) x.written ∙ write_read s x.lent x.rows ((well-formed-beside (types_of s) x.lent x.rows).1 x.well_formed)

-- The reader turns bytes back by the first refusal that applies, and else gives the rows of the table that they are the writing of.
pub extract-judged : (s : Schema) (bs : List ℕ) → AreBytes bs → Judged (ExtractApplies (types_of s) bs) (ExtractGives (types_of s) bs) (read_extract (types_of s) bs)
unfolding read_extract first_of items_of
extract-judged s [] small = turned-back (record { applies = length-2 refl; lowest = low; earliest = λ j a. omega arith })
  where
    low : (q : Reason) (j : ℕ) → ExtractApplies (types_of s) [] q j → 2 ≤ reason_number q
    low q j (length-2 e) = omega arith
    low q j (extract-17 n) = omega arith
extract-judged s (b ∷ bs) small = pick (outcome (types_of s) b bs)
  where
    all : List ℕ
    all = b ∷ bs

    full : all ≡ [] → ⊥
    full e = omega (arith, ap length e)

    low : (q : Reason) (j : ℕ) → ExtractApplies (types_of s) all q j → 17 ≤ reason_number q
    low q j (length-2 e) = absurd (full e)
    low q j (extract-17 n) = omega arith

    no-extract : read_extract (types_of s) all ≡ refused (at bad_extract 0) → IsExtract (types_of s) all → ⊥
    no-extract e x =
        let read = written_read s all x in
        never (cc (e, read))

    extract : (rows : List Row) → read_extract (types_of s) all ≡ accepted rows → IsExtract (types_of s) all
    extract rows e =
        let table = (accepted-table (types_of s) all rows e).1 in
        record { lent = all; rows = rows; well_formed = (well-formed-beside (types_of s) all rows).0 table; written = sym (read-write (types_of s) all rows small e) }

    free : IsExtract (types_of s) all → (q : Reason) (j : ℕ) → ExtractApplies (types_of s) all q j → ⊥
    free x q j (length-2 e) = full e
    free x q j (extract-17 n) = n x

    pick : (read_extract (types_of s) all ≡ refused (at bad_extract 0)) ⊎ ((rows : List Row) × (read_extract (types_of s) all ≡ accepted rows))
        → Judged (ExtractApplies (types_of s) all) (ExtractGives (types_of s) all) (read_extract (types_of s) all)
    pick (inl e) =
        subst (Judged (ExtractApplies (types_of s) all) (ExtractGives (types_of s) all)) (sym e)
        (turned-back (record { applies = extract-17 (no-extract e); lowest = low; earliest = λ j a. omega arith }))
    pick (inr c) =
        let x = extract c.0 c.1 in
        let e : read_extract (types_of s) all ≡ accepted (extract_rows all c.0) = written_read s all x in
        subst (Judged (ExtractApplies (types_of s) all) (ExtractGives (types_of s) all)) (sym e) (taken (free x) (gives x))

-- It is the only outcome that does so.
pub extract-judged-once : (s : Schema) (bs : List ℕ) → AreBytes bs → {o : Outcome (List Row)} → Judged (ExtractApplies (types_of s) bs) (ExtractGives (types_of s) bs) o
    → o ≡ read_extract (types_of s) bs
extract-judged-once s bs small j = judged-once (ExtractApplies (types_of s) bs) (ExtractGives (types_of s) bs) one_table j (extract-judged s bs small)
  where
    one_table : (q r : List Row) → ExtractGives (types_of s) bs q → ExtractGives (types_of s) bs r → q ≡ r
    one_table q r (gives x) (gives y) =
        let e = written_read s bs x in
        let f = written_read s bs y in
        cc
