-- Demand 3, over the definitions of document 01: nothing that a path of the bundle looks at is missing.
-- "a DTD is a schema text to which none of refusals 2 to 7 applies" (`SchemaTaken`), "a bundle is a text to which, under that schema, none of 2, 3 and
-- 8 to 10 applies" (`BundleTaken`), "and a journal is valid under the schema when none of 2, 3 and 11 to 16 applies to it, at the library's length
-- limits" (`JournalTaken`). Nothing else is assumed.
use Rattle.std.specs.Prelude.{◌&&◌, ◌≡◌, refl, ℕ, ◌≤◌, ◌<◌, T, length}
use mathlib.Core.List.{List, [], Memᴰ as In}
use Rattle.std.proofs.Common.{inl, inr, subst, ◌∙◌, arith}
use Rattle.std.proofs.Math.Path.{sym, ap}
use Rattle.std.proofs.Math.Dec.{leb}
use Rattle.std.proofs.Math.ListN.{take}
use Rattle.extract_spec.specs.Conditions.{SameTables}
use Rattle.extract_spec.specs.Cut.{cut, cut_to_word}
use Rattle.extract_spec.specs.Fields.{extract_rows}
use Rattle.extract_spec.specs.Reading.{read_extract}
use Rattle.inference_spec.specs.Needed.{needed_by_path, needed}
use Rattle.journal_laws.specs.TreeNodes.{accepted-well-formed}
use Rattle.journal_laws.specs.Judging.Meaning.{journal-judged-once}
use Rattle.library_spec.specs.Conditions.{SchemaTaken, BundleTaken, JournalTaken, InLent, Makes}
use Rattle.library_spec.specs.Hosts.{HostAnswer, host_answer, Lent, in_lent, extract_of, make_extract, bundle_paths, select_from, result_of}
use Rattle.library_spec.specs.Selections.{asked_paths, Selections, selections}
use Rattle.path_laws.specs.Reading.{bundle-read-once}
use Rattle.path_spec.specs.Paths.{LocationPath}
use Rattle.path_spec.specs.Selection.{select_rows}
use Rattle.projection_laws.specs.Cutting.{cut-well-formed-with}
use Rattle.projection_laws.specs.Documents.{Lawful}
use Rattle.projection_laws.specs.Hosts.{make-extract-is}
use Rattle.projection_laws.specs.Lawful.{types-lawful}
use Rattle.projection_laws.specs.RoundTrip.{extract-same-tables, write_read}
use Rattle.projection_laws.specs.SameTables.{one-extract-selects}
use Rattle.projection_laws.specs.Selections.{asked_in, selections-agree}
use Rattle.projection_laws.specs.Tables.{cut-selects-same, same-tables-select}
use Rattle.schema_laws.specs.Accepted.{accepted-filled, accepted-closed}
use Rattle.schema_laws.specs.Names.{within_in}
use Rattle.schema_laws.specs.Words.{in-set_of_word}
use Rattle.schema_laws.specs.reading.Reading.{schema-read-once}
use Rattle.schema_spec.specs.Names.{Name, code_of, has_bit, set_of_word}
use Rattle.schema_spec.specs.Schemas.{Schema}
use Rattle.schema_spec.specs.Types.{Types, types_of}
use Rattle.table_spec.specs.Columns.{equal_sizes}
use Rattle.table_spec.specs.Rows.{Row}
use Rattle.table_spec.specs.Tables.{well_formed, well_formed_with, text_inside}
use Rattle.text_laws.specs.Cells.{padded-take}
use Rattle.text_laws.specs.Tests.{and_cases}
use Rattle.text_spec.specs.Calls.{tested, cells_after, passes-1, goes_on_lem, answered}
use Rattle.text_spec.specs.Limits.{max_journal_bytes}
use Rattle.text_spec.specs.Lists.{all_of, gather}
use Rattle.text_spec.specs.Refusals.{Outcome, accepted}

-- the types of a DTD
lawful : (schema : List ℕ) (s : Schema) → SchemaTaken schema s → Lawful (types_of s)
lawful schema s st =
    let e = sym (schema-read-once schema st) in
    types-lawful s (accepted-filled schema s e) (accepted-closed schema s e)

-- the table of a valid journal
table : (s : Schema) (journal : List ℕ) (rows : List Row) → JournalTaken max_journal_bytes s journal rows
    → T (well_formed (types_of s) rows) × T (well_formed_with (types_of s) journal rows)
unfolding well_formed_with
table s journal rows jt =
    let t = accepted-well-formed max_journal_bytes s journal rows (sym (journal-judged-once max_journal_bytes s journal jt)) in
    ((and_cases (well_formed (types_of s) rows) (all_of (text_inside journal) rows) t).0, t)

needed-in : (t : Types) (ps : List (LocationPath ℕ)) (n : Name) → In n (needed t ps) → In n t.names
unfolding needed
needed-in t ps n j = (within_in t.names (gather (needed_by_path t) ps) j).0

module _ (schema bundle journal : List ℕ) (s : Schema) (ps : List (LocationPath ℕ)) (rows : List Row) (st : SchemaTaken schema s) (bt : BundleTaken s bundle ps)
    (jt : JournalTaken max_journal_bytes s journal rows) where
  -- 3.1 For every DTD, bundle and valid journal, every path of the bundle, and every word of bits that has the bundle's needed names (other bits
  -- are arbitrary): on the journal's table cut to that set the path selects the same nodes as on the whole table, in the same order.
  pub cut-gives-the-same : (p : LocationPath ℕ) → In p ps → (word : ℕ) → ((n : Name) → In n (needed (types_of s) ps) → T (has_bit word (code_of n)))
      → select_rows journal (cut_to_word (types_of s) word rows) p ≡ select_rows journal rows p
  unfolding cut_to_word
  cut-gives-the-same p i word bits =
      cut-selects-same (types_of s) (lawful schema s st) journal rows (table s journal rows jt).0 ps p i (set_of_word (types_of s).names word)
      (λ n j. in-set_of_word word (needed-in (types_of s) ps n j) (bits n j))

  -- the journal's rows cut to the bundle's needed names
  abbrev kept_rows : List Row
  kept_rows = cut (needed (types_of s) ps) rows

  kept-well-formed : T (well_formed_with (types_of s) journal kept_rows)
  kept-well-formed = cut-well-formed-with (types_of s) (needed (types_of s) ps) journal rows (table s journal rows jt).1

  -- 3.2 The extract made for the bundle, read under the schema, is accepted and gives the journal's rows cut to the bundle's needed names, each text
  -- at its characters in the extract, which are those that it stands for in the journal; and each path selects on it what it selects on the whole journal.
  pub extract-gives-the-same : (read_extract (types_of s) (extract_of s ps journal rows) ≡ accepted (extract_rows journal kept_rows))
      × SameTables journal (extract_of s ps journal rows) kept_rows (extract_rows journal kept_rows)
      × ((p : LocationPath ℕ) → In p ps → select_rows (extract_of s ps journal rows) (extract_rows journal kept_rows) p ≡ select_rows journal rows p)
  unfolding extract_of
  extract-gives-the-same =
      let same = extract-same-tables (types_of s) journal kept_rows kept-well-formed in (
        write_read s journal kept_rows kept-well-formed,
        same,
        λ p i.
            sym (same-tables-select same p)
            ∙ cut-selects-same (types_of s) (lawful schema s st) journal rows (table s journal rows jt).0 ps p i (needed (types_of s) ps) (λ n j. j),
      )

  -- 3.3 Another valid journal for which the bundle gives the same extract, byte for byte: each path of it selects the same nodes on both.
  pub same-extract-same-nodes : (journal' : List ℕ) (rows' : List Row) → JournalTaken max_journal_bytes s journal' rows'
      → extract_of s ps journal rows ≡ extract_of s ps journal' rows' → (p : LocationPath ℕ) → In p ps → select_rows journal rows p ≡ select_rows journal' rows' p
  unfolding extract_of
  same-extract-same-nodes journal' rows' jt' same p i =
      let set = needed (types_of s) ps in
      let whole : (j : List ℕ) (rs : List Row) → JournalTaken max_journal_bytes s j rs → select_rows j (cut set rs) p ≡ select_rows j rs p =
      λ j rs t. cut-selects-same (types_of s) (lawful schema s st) j rs (table s j rs t).0 ps p i set (λ n k. k) in
      sym (whole journal rows jt)
      ∙ one-extract-selects s journal journal' (cut set rows) (cut set rows') kept-well-formed
      (cut-well-formed-with (types_of s) set journal' rows' (table s journal' rows' jt').1) same p
      ∙ whole journal' rows' jt'

-- ---- end to end: what the one host function answers, handed to the other
-- what making an extract gives where it is not refused
pub record Made (schema bundle journal : List ℕ) (l : Lent) (a : HostAnswer) : Type 0 where
  pub s : Schema
  pub ps : List (LocationPath ℕ)
  pub rows : List Row
  pub dtd : SchemaTaken schema s
  pub paths : BundleTaken s bundle ps
  pub valid : JournalTaken max_journal_bytes s journal rows
  pub table : a.rows ≡ rows
  pub bytes : a.items ≡ extract_of s ps journal rows
  pub room : length a.items ≤ l.items

made_of : (schema bundle journal : List ℕ) (l : Lent) {a : HostAnswer} → Makes schema bundle journal l (accepted a) → Made schema bundle journal l a
made_of schema bundle journal l (passes-1 z (goes_on_lem {a = s} st (goes_on_lem {a = ps} bt (goes_on_lem {a = rows} jt r)))) = by r
  where
    enough : (l.items < length (extract_of s ps journal rows) → ⊥) → length (extract_of s ps journal rows) ≤ l.items
    enough h = omega arith

    by : {a : HostAnswer} → InLent l (host_answer rows (extract_of s ps journal rows) []) (accepted a) → Made schema bundle journal l a
    by (answered n) = record { s = s; ps = ps; rows = rows; dtd = st; paths = bt; valid = jt; table = refl; bytes = refl; room = enough (λ h. n (inr (inl h))) }

module _ (schema bundle journal : List ℕ) (l : Lent) (a : HostAnswer) (answer : make_extract schema bundle journal l ≡ accepted a) where
  -- the bytes that are sent: the first ones of the lent items, as many as the result says
  abbrev sent : List ℕ
  sent = take (result_of (make_extract schema bundle journal l)).items (cells_after l.items (λ b. b.items) (make_extract schema bundle journal l))

  pub made : Made schema bundle journal l a
  made = made_of schema bundle journal l (subst (Makes schema bundle journal l) answer (make-extract-is schema bundle journal l).0)

  sent-bytes : sent ≡ extract_of made.s made.ps journal made.rows
  unfolding result_of
  sent-bytes =
      ap (λ (o : Outcome HostAnswer). take (result_of o).items (cells_after l.items (λ b. b.items) o)) answer ∙ padded-take l.items a.items made.room ∙ made.bytes

  -- Selecting from them with the same schema and bundle is refused by nothing but 1 (columns of unequal length, or a place that the bundle does not
  -- have) and 18; otherwise each asked path gets the numbers that it selects on the whole journal, in the same order.
  pub made-then-selected : (place : ℕ) (l' : Lent)
      → let m = made in
      let chosen = selections journal m.rows (asked_paths place m.ps) in
      select_from schema bundle place sent l'
      ≡ tested (equal_sizes l'.columns && leb place (length m.ps))
      (in_lent l' (host_answer (extract_rows journal (cut (needed (types_of m.s) m.ps) m.rows)) chosen.items chosen.counts))
  unfolding select_from bundle_paths
  made-then-selected place l' =
      let m = made in
      let x = extract-gives-the-same schema bundle journal m.s m.ps m.rows m.dtd m.paths m.valid in
      let e = sym (schema-read-once schema m.dtd) in
      let f = sym (bundle-read-once m.s bundle m.paths) in
      let same = selections-agree (extract_of m.s m.ps journal m.rows) journal (extract_rows journal (cut (needed (types_of m.s) m.ps) m.rows)) m.rows (asked_paths place m.ps)
      (λ p i. x.2 p (asked_in place m.ps i)) in
      ap (λ (bs : List ℕ). select_from schema bundle place bs l') sent-bytes
      ∙ rw (e, f, x.0)
      (ap (λ (c : Selections).
      tested (equal_sizes l'.columns && leb place (length m.ps))
      (in_lent l' (host_answer (extract_rows journal (cut (needed (types_of m.s) m.ps) m.rows)) c.items c.counts))) same)
