-- Both sides of the limits of lengths, nodes and rows that are too large to compute with, as document 01 writes the numbers.
use Rattle.std.specs.Prelude.{Bool, true, false, cond, ◌||◌, ◌≡◌, refl, ℕ, suc, ◌+◌, ◌≤◌, ◌<◌, T, length}
use mathlib.Core.List.{List, [], ◌∷◌, Memᴰ}
use Rattle.std.proofs.Math.Option.{some}
use Rattle.std.proofs.Common.{sym, ap, ap₂, subst, ◌∙◌, arith, lt→ltb, length-append}
use Rattle.std.proofs.Math.Dec.{ltb→lt}
use Rattle.journal_laws.specs.Judging.{journal-judged}
use Rattle.journal_laws.specs.Judging.Meaning.{accepted-valid, valid-accepted}
use Rattle.journal_spec.specs.Conditions.{JournalApplies, JournalGives}
use Rattle.journal_spec.specs.Conditions as journals
use Rattle.journal_spec.specs.Reading.{read_journal}
use Rattle.journal_spec.specs.Trees.{Forest, nothing, data-node, element-node, WellFormedText, height, NodeStart, index_of, count_in, rows_under, tree_rows, starts_under, tree_starts}
use Rattle.journal_spec.specs.Validity.{Valid}
use Rattle.library_spec.specs.Calls.{in_columns, journal_read}
use Rattle.library_spec.specs.Hosts.{Lent, host_answer, in_lent, extract_of, make_extract}
use Rattle.library_spec.specs.Listing.{FilesRead, judge_files, listing_data, refused_line, listed, listing}
use Rattle.library_spec.specs.Records.{schema_held}
use Rattle.path_laws.specs.Reading.{bundle-read}
use Rattle.path_spec.specs.Conditions.{BundleApplies, BundleGives}
use Rattle.path_spec.specs.Conditions as bundles
use Rattle.path_spec.specs.Paths.{LocationPath}
use Rattle.path_spec.specs.Reading.{read_bundle}
use Rattle.schema_laws.specs.reading.Reading.{schema-read}
use Rattle.schema_spec.specs.Conditions.{SchemaApplies, SchemaGives}
use Rattle.schema_spec.specs.Conditions as schemas
use Rattle.schema_spec.specs.Reading.{read_schema}
use Rattle.schema_spec.specs.Schemas.{Schema, content_at, is_pcdata}
use Rattle.table_spec.specs.Columns.{Sizes, equal_sizes}
use Rattle.table_spec.specs.Rows.{Row, text_row}
use Rattle.text_laws.specs.Tests.{true_of, false_of}
use Rattle.text_laws.specs.Texts.{over-length, within-length}
use Rattle.text_spec.specs.Bytes.{is_foreign}
use Rattle.text_spec.specs.Calls.{in_room}
use Rattle.text_spec.specs.Cells.{too_small}
use Rattle.text_spec.specs.Lists.{bytes}
use Rattle.text_spec.specs.Records.{TextRecord}
use Rattle.text_spec.specs.Refusals.{Reason, bad_record, bad_length, number_of, Refusal, at, Outcome, accepted, refused, and_then, Judged}
use Rattle.text_spec.specs.Texts.{LengthApplies}
use Rattle.token_spec.specs.Characters.{decode}

-- ---- schema texts of 8,192 bytes
module _ (text : List ℕ) where
  schema-length : (k : ℕ) → SchemaApplies text bad_length k → LengthApplies 8192 text k
  schema-length k (schemas.length-2 x) = x

  pub schema-over-8192 : 8192 < length text → read_schema text ≡ refused (at bad_length 0)
  schema-over-8192 l = over-length (SchemaApplies text) (SchemaGives text) 8192 text (λ k x. elim x [ ]) (λ k x. schemas.length-2 x) l (schema-read text)

  pub schema-within-8192 : 1 ≤ length text → length text ≤ 8192 → (f : Refusal) → read_schema text ≡ refused f → f.reason ≡ bad_length → ⊥
  schema-within-8192 more less f e =
      within-length (SchemaApplies text) (SchemaGives text) 8192 text schema-length more less {f = f} (subst (Judged (SchemaApplies text) (SchemaGives text)) e (schema-read text))

-- ---- bundle texts of 4,104 bytes
module _ (s : Schema) (text : List ℕ) where
  bundle-length : (k : ℕ) → BundleApplies s text bad_length k → LengthApplies 4104 text k
  bundle-length k (bundles.length-2 x) = x

  pub bundle-over-4104 : 4104 < length text → read_bundle s text ≡ refused (at bad_length 0)
  bundle-over-4104 l = over-length (BundleApplies s text) (BundleGives s text) 4104 text (λ k x. elim x [ ]) (λ k x. bundles.length-2 x) l (bundle-read s text)

  pub bundle-within-4104 : 1 ≤ length text → length text ≤ 4104 → (f : Refusal) → read_bundle s text ≡ refused f → f.reason ≡ bad_length → ⊥
  bundle-within-4104 more less f e =
      within-length (BundleApplies s text) (BundleGives s text) 4104 text bundle-length more less {f = f} (subst (Judged (BundleApplies s text) (BundleGives s text)) e (bundle-read s text))

-- ---- journal texts, at any limit
module _ (limit : ℕ) (s : Schema) (text : List ℕ) where
  journal-length : (k : ℕ) → JournalApplies limit s text bad_length k → LengthApplies limit text k
  journal-length k (journals.length-2 x) = x

  pub journal-over : limit < length text → read_journal limit s text ≡ refused (at bad_length 0)
  journal-over l =
      over-length (JournalApplies limit s text) (JournalGives s text) limit text (λ k x. elim x [ ]) (λ k x. journals.length-2 x) l (journal-judged limit s text)

  pub journal-within : 1 ≤ length text → length text ≤ limit → (f : Refusal) → read_journal limit s text ≡ refused f → f.reason ≡ bad_length → ⊥
  journal-within more less f e =
      within-length (JournalApplies limit s text) (JournalGives s text) limit text journal-length more less {f = f}
      (subst (Judged (JournalApplies limit s text) (JournalGives s text)) e (journal-judged limit s text))

-- ---- journals within all limits: 1,048,576 bytes, depth 64, 65,535 nodes, 4,096 bytes in a text
-- each row has its start
starts-of-rows : (s : Schema) (e parent next : ℕ) (f : Forest) → length (rows_under s e parent next f) ≡ length (starts_under s e f)
starts-of-rows s e parent next nothing = refl
starts-of-rows s e parent next (data-node k w f) =
    pick (is_pcdata (content_at s e)) (starts-of-rows s e parent (suc next) f) (starts-of-rows s e parent next f)
  where
    pick : (b : Bool) → length (rows_under s e parent (suc next) f) ≡ length (starts_under s e f) → length (rows_under s e parent next f) ≡ length (starts_under s e f)
        → length (cond b (text_row next e parent k (length w) (length (decode w)) ∷ rows_under s e parent (suc next) f) (rows_under s e parent next f))
        ≡ length (cond b (record { place = k; bytes = length w } ∷ starts_under s e f) (starts_under s e f))
    pick true one none = ap suc one
    pick false one none = none
starts-of-rows s e parent next (element-node k n c f) =
    let i = index_of s n in
    let below = rows_under s i next (suc next) c in
    let after = rows_under s e parent (suc next + count_in s i c) f in
    ap suc
    (length-append below after
    ∙ (ap₂ ◌+◌ (starts-of-rows s i next (suc next) c) (starts-of-rows s e parent (suc next + count_in s i c) f)
    ∙ sym (length-append (starts_under s i c) (starts_under s e f))))

tree-starts : (s : Schema) (k : ℕ) (n : List ℕ) (c : Forest) → length (tree_rows s n c) ≡ length (tree_starts s k n c)
unfolding tree_rows
tree-starts s k n c = ap suc (starts-of-rows s (index_of s n) 0 1 c)

pub record WithinLimits (s : Schema) (text : List ℕ) (rows : List Row) : Type 0 where
  pub place : ℕ
  pub name : List ℕ
  pub content : Forest
  pub tree : WellFormedText text place name content
  pub valid : Valid s place name content
  pub passes : (b : ℕ) → Memᴰ b text → T (is_foreign b) → ⊥
  pub gives-rows : rows ≡ tree_rows s name content
  pub bytes : length text ≤ 1048576
  pub depth : suc (height content) ≤ 64
  pub nodes : length rows ≤ 65535
  pub text_bytes : (x : NodeStart) → Memᴰ x (tree_starts s place name content) → x.bytes ≤ 4096

module _ (s : Schema) (text : List ℕ) (rows : List Row) where
  pub accepted-within : read_journal 1048576 s text ≡ accepted rows → WithinLimits s text rows
  accepted-within e =
      let v = accepted-valid 1048576 s text rows e in
      record {
        place = v.place;
        name = v.name;
        content = v.content;
        tree = v.tree;
        valid = v.valid;
        passes = v.passes;
        gives-rows = v.gives-rows;
        bytes = v.short_enough;
        depth = v.shallow;
        nodes = omega (arith, ap length v.gives-rows, tree-starts s v.place v.name v.content, v.few_nodes);
        text_bytes = v.short_texts;
      }

  pub within-accepted : WithinLimits s text rows → read_journal 1048576 s text ≡ accepted rows
  within-accepted w =
      valid-accepted 1048576 s text rows
      (record {
        place = w.place;
        name = w.name;
        content = w.content;
        tree = w.tree;
        valid = w.valid;
        short_enough = w.bytes;
        passes = w.passes;
        shallow = w.depth;
        few_nodes = omega (arith, ap length w.gives-rows, tree-starts s w.place w.name w.content, w.nodes);
        short_texts = w.text_bytes;
        gives-rows = w.gives-rows;
      })

-- ---- the library reads a journal of at most 1,048,576 bytes, `listing` one of at most 32,768
abbrev reason_in : {A : Type 0} → Outcome A → Reason
reason_in (accepted a) = bad_record
reason_in (refused f) = f.reason

-- what refuses an answer that is known is not 2
room-not-2 : {A : Type 0} (short : Bool) (a : A) (f : Refusal) → in_room short a ≡ refused f → f.reason ≡ bad_length → ⊥
room-not-2 true a f e b = omega (arith, ap number_of (ap reason_in e ∙ b))
room-not-2 false a f e b = omega (arith, ap number_of (ap reason_in e ∙ b))

-- a journal is judged, and then room
turn-not-2 : {A : Type 0} (limit : ℕ) (s : Schema) (journal : List ℕ) (short : List Row → Bool) (answer : List Row → A) → 1 ≤ length journal → length journal ≤ limit
    → (f : Refusal) → and_then (read_journal limit s journal) (λ rows. in_room (short rows) (answer rows)) ≡ refused f → f.reason ≡ bad_length → ⊥
turn-not-2 {A} limit s journal short answer more less f e b = by (read_journal limit s journal) refl e
  where
    by : (o : Outcome (List Row)) → read_journal limit s journal ≡ o → and_then o (λ rows. in_room (short rows) (answer rows)) ≡ refused f → ⊥
    by (refused g) j r = journal-within limit s journal more less g j (ap reason_in r ∙ b)
    by (accepted rows) j r = room-not-2 (short rows) (answer rows) f r b

-- reading a journal into lent columns
module _ (schema : TextRecord) (journal : List ℕ) (z : Sizes) (s : Schema) (schema-handed : schema_held schema ≡ some s) (equal : T (equal_sizes z)) where
  read-in-columns : journal_read schema journal z ≡ and_then (read_journal 1048576 s journal) (λ rows. in_columns z rows)
  unfolding journal_read
  read-in-columns = rw (schema-handed, true_of (equal_sizes z) equal)

  pub read-over-1048576 : 1048576 < length journal → journal_read schema journal z ≡ refused (at bad_length 0)
  read-over-1048576 more = read-in-columns ∙ rw (journal-over 1048576 s journal more)

  pub read-within-1048576 : 1 ≤ length journal → length journal ≤ 1048576 → (f : Refusal) → journal_read schema journal z ≡ refused f → f.reason ≡ bad_length → ⊥
  read-within-1048576 more less f e = turn-not-2 1048576 s journal (too_small z.numbers) (λ rows. rows) more less f (sym read-in-columns ∙ e)

-- the three texts, where schema and bundle are accepted
module _ (schema bundle journal : List ℕ) (s : Schema) (ps : List (LocationPath ℕ)) (schema-taken : read_schema schema ≡ accepted s)
    (bundle-taken : read_bundle s bundle ≡ accepted ps) where
  module _ (l : Lent) (equal : T (equal_sizes l.columns)) where
    made : make_extract schema bundle journal l
        ≡ and_then (read_journal 1048576 s journal) (λ rows. in_lent l (host_answer rows (extract_of s ps journal rows) []))
    unfolding make_extract
    made = rw (true_of (equal_sizes l.columns) equal, schema-taken, bundle-taken)

    pub make-over-1048576 : 1048576 < length journal → make_extract schema bundle journal l ≡ refused (at bad_length 0)
    make-over-1048576 more = made ∙ rw (journal-over 1048576 s journal more)

    pub make-within-1048576 : 1 ≤ length journal → length journal ≤ 1048576 → (f : Refusal) → make_extract schema bundle journal l ≡ refused f → f.reason ≡ bad_length → ⊥
    make-within-1048576 more less f e =
        turn-not-2 1048576 s journal
        (λ rows. too_small l.columns.numbers rows || (too_small l.items (extract_of s ps journal rows) || too_small {A = ℕ} l.counts []))
        (λ rows. host_answer rows (extract_of s ps journal rows) []) more less f (sym made ∙ e)

  abbrev files_with : List Row → FilesRead
  files_with rows = record { schema = s; paths = ps; rows = rows }

  judged-files : judge_files schema bundle journal
      ≡ and_then (read_journal 32768 s journal) (λ rows. in_room (too_small 4096 rows) (files_with rows))
  unfolding judge_files
  judged-files = rw (schema-taken, bundle-taken)

  pub listing-over-32768 : 32768 < length journal → listing schema bundle journal ≡ bytes "refused 2 at 0\n"
  unfolding listing refused_line
  listing-over-32768 more = rw (judged-files, journal-over 32768 s journal more)

  pub listing-within-32768 : 1 ≤ length journal → length journal ≤ 32768 → (f : Refusal) → judge_files schema bundle journal ≡ refused f → f.reason ≡ bad_length → ⊥
  listing-within-32768 more less f e = turn-not-2 32768 s journal (too_small 4096) files_with more less f (sym judged-files ∙ e)

  -- it lends 4,096 rows
  module _ (rows : List Row) (journal-taken : read_journal 32768 s journal ≡ accepted rows) where
    pub listing-over-4096 : 4096 < length rows → listing schema bundle journal ≡ bytes "refused 18 at 0\n"
    unfolding listing refused_line
    listing-over-4096 more = rw (judged-files, journal-taken, true_of (too_small 4096 rows) (lt→ltb 4096 (length rows) more))

    pub listing-within-4096 : length rows ≤ 4096 → listing schema bundle journal ≡ listed (listing_data journal (record { schema = s; paths = ps; rows = rows }))
    unfolding listing
    listing-within-4096 less =
        rw (judged-files, journal-taken, false_of (too_small 4096 rows) (λ t. let h = ltb→lt 4096 (length rows) t in omega arith))
