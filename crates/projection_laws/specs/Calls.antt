-- Each public function's outcome is the one that document 01 allows: 1 before any text, the texts in turn, 18 last.
use Rattle.std.specs.Prelude.{◌||◌, List, [], ℕ, ◌<◌, T, leb, length}
use Rattle.std.proofs.Common.{inl, inr, ⊎_elim, leb→le, le→leb, ltb→lt, lt→ltb}
use Rattle.std.proofs.Math.ListN.{get_elem?}
use Rattle.extract_spec.specs.Cut.{cut_to_word}
use Rattle.extract_spec.specs.Fields.{write_extract}
use Rattle.extract_spec.specs.Reading.{read_extract}
use Rattle.journal_laws.specs.Judging.{journal-judged}
use Rattle.journal_laws.specs.Judging.Meaning.{journal-judged-once}
use Rattle.journal_spec.specs.Reading.{read_journal}
use Rattle.library_spec.specs.Calls.{schema_read, bundle_read, journal_read, needed_names, table_cut, extract_written, extract_read, nodes_selected, row_text, row_chain}
use Rattle.library_spec.specs.Chains.{chain}
use Rattle.library_spec.specs.Conditions.{SchemaJudged, BundleJudged, JournalJudged, ExtractJudged, SchemaRecord, BundleRecord, EqualSizes, TableHanded, TableBeside, ReadsSchema, ReadsBundle, ReadsJournal, GivesNeeded, CutsTable, WritesExtract, ReadsExtract, TooFewSelections, SelectsNodes, GivesText, GivesChain}
use Rattle.library_spec.specs.Records.{schema_held, bundle_held, LentTable, table_held, table_beside}
use Rattle.library_spec.specs.Selections.{asked_paths, Selections, selections}
use Rattle.path_laws.specs.Reading.{bundle-read, bundle-read-once}
use Rattle.path_spec.specs.Paths.{LocationPath}
use Rattle.path_spec.specs.Reading.{read_bundle}
use Rattle.projection_laws.specs.Fields.{AreBytes}
use Rattle.projection_laws.specs.Handed.{sizes-equal, equal-sized, table-handed, handed-table, table_beside_lem, beside-table}
use Rattle.projection_laws.specs.Records.{schema-handed, handed-schema, bundle-handed, handed-bundle}
use Rattle.projection_laws.specs.RoundTrip.{extract-judged, extract-judged-once}
use Rattle.schema_laws.specs.reading.Reading.{schema-read, schema-read-once}
use Rattle.schema_spec.specs.Reading.{read_schema}
use Rattle.schema_spec.specs.Schemas.{Schema}
use Rattle.schema_spec.specs.Types.{types_of}
use Rattle.table_spec.specs.Columns.{Sizes, equal_sizes}
use Rattle.table_spec.specs.Nodes.{nodes_of}
use Rattle.table_spec.specs.Rows.{Row}
use Rattle.text_laws.specs.Calls.{IsOutcome, answers-is, room-is, tested-is, handed-is, turn_is}
use Rattle.text_laws.specs.Tests.{or_left, or_right, or_cases}
use Rattle.text_spec.specs.Calls.{Tested, Handed, InRoom, tested, handed, in_room}
use Rattle.text_spec.specs.Cells.{too_small}
use Rattle.text_spec.specs.Limits.{max_journal_bytes}
use Rattle.text_spec.specs.Records.{TextRecord}
use Rattle.text_spec.specs.Refusals.{Outcome}

-- ---- the four texts
pub schema-is : (text : List ℕ) → IsOutcome (SchemaJudged text) (read_schema text)
schema-is text = (schema-read text, λ p j. schema-read-once text j)

pub bundle-is : (s : Schema) (text : List ℕ) → IsOutcome (BundleJudged s text) (read_bundle s text)
bundle-is s text = (bundle-read s text, λ p j. bundle-read-once s text j)

pub journal-is : (limit : ℕ) (s : Schema) (text : List ℕ) → IsOutcome (JournalJudged limit s text) (read_journal limit s text)
journal-is limit s text = (journal-judged limit s text, λ p j. journal-judged-once limit s text j)

pub extract-is : (s : Schema) (text : List ℕ) → AreBytes text → IsOutcome (ExtractJudged s text) (read_extract (types_of s) text)
extract-is s text small = (extract-judged s text small, λ p j. extract-judged-once s text small j)

-- ---- what is handed in, and the rest
module _ {B : Type 0} where
  pub by-schema : {Rest : Schema → Outcome B → Type 0} (r : TextRecord) (f : Schema → Outcome B) → ((s : Schema) → IsOutcome (Rest s) (f s))
      → IsOutcome (Handed (SchemaRecord r) Rest) (handed (schema_held r) f)
  by-schema r f rest = handed-is (schema_held r) f (λ s e. schema-handed r e) (λ s x. handed-schema x) rest

  pub by-bundle : {Rest : List (LocationPath ℕ) → Outcome B → Type 0} (s : Schema) (r : TextRecord) (f : List (LocationPath ℕ) → Outcome B)
      → ((ps : List (LocationPath ℕ)) → IsOutcome (Rest ps) (f ps)) → IsOutcome (Handed (BundleRecord s r) Rest) (handed (bundle_held s r) f)
  by-bundle s r f rest = handed-is (bundle_held s r) f (λ ps e. bundle-handed s r e) (λ ps x. handed-bundle s x) rest

  by-table : {Rest : List Row → Outcome B → Type 0} (s : Schema) (t : LentTable) (f : List Row → Outcome B) → ((rows : List Row) → IsOutcome (Rest rows) (f rows))
      → IsOutcome (Handed (TableHanded s t) Rest) (handed (table_held s t) f)
  by-table s t f rest = handed-is (table_held s t) f (λ rows e. table-handed s t e) (λ rows x. handed-table s t x) rest

  by-table-beside : {Rest : List Row → Outcome B → Type 0} (s : Schema) (text : List ℕ) (t : LentTable) (f : List Row → Outcome B)
      → ((rows : List Row) → IsOutcome (Rest rows) (f rows)) → IsOutcome (Handed (TableBeside s text t) Rest) (handed (table_beside s text t) f)
  by-table-beside s text t f rest = handed-is (table_beside s text t) f (λ rows e. table_beside_lem s t text e) (λ rows x. beside-table s t text x) rest

  pub by-sizes : {Rest : Outcome B → Type 0} (z : Sizes) (o : Outcome B) → IsOutcome Rest o → IsOutcome (Tested (EqualSizes z) Rest) (tested (equal_sizes z) o)
  by-sizes z o rest = tested-is (equal_sizes z) o (sizes-equal z) equal-sized (λ t. rest)

-- ---- 18
pub by-room : {A B : Type 0} (size : ℕ) (xs : List A) (a : B) → IsOutcome (InRoom (size < length xs) a) (in_room (too_small size xs) a)
by-room size xs a = room-is (too_small size xs) a (ltb→lt size (length xs)) (lt→ltb size (length xs))

-- ---- the functions
pub read-schema-is : (text : List ℕ) → IsOutcome (ReadsSchema text) (schema_read text)
unfolding schema_read
read-schema-is text = turn_is (read_schema text) _ (schema-is text) (λ s x. answers-is)

pub read-bundle-is : (schema : TextRecord) (text : List ℕ) → IsOutcome (ReadsBundle schema text) (bundle_read schema text)
unfolding bundle_read
read-bundle-is schema text = by-schema schema _ (λ s. turn_is (read_bundle s text) _ (bundle-is s text) (λ ps x. answers-is))

pub read-journal-is : (schema : TextRecord) (journal : List ℕ) (z : Sizes) → IsOutcome (ReadsJournal schema journal z) (journal_read schema journal z)
unfolding journal_read
read-journal-is schema journal z =
    by-schema schema _ (λ s.
    by-sizes z _ (turn_is (read_journal max_journal_bytes s journal) _ (journal-is max_journal_bytes s journal) (λ rows x. by-room z.numbers rows rows)))

pub needed-names-is : (schema bundle : TextRecord) → IsOutcome (GivesNeeded schema bundle) (needed_names schema bundle)
unfolding needed_names
needed-names-is schema bundle = by-schema schema _ (λ s. by-bundle s bundle _ (λ ps. answers-is))

pub cut-table-is : (schema : TextRecord) (table : LentTable) (word : ℕ) (z : Sizes) → IsOutcome (CutsTable schema table word z) (table_cut schema table word z)
unfolding table_cut
cut-table-is schema table word z = by-schema schema _ (λ s. by-table s table _ (λ rows. by-sizes z _ (by-room z.numbers (cut_to_word (types_of s) word rows) (cut_to_word (types_of s) word rows))))

pub write-extract-is : (schema : TextRecord) (table : LentTable) (lent : List ℕ) (size : ℕ) → IsOutcome (WritesExtract schema table lent size) (extract_written schema table lent size)
unfolding extract_written
write-extract-is schema table lent size = by-schema schema _ (λ s. by-table-beside s lent table _ (λ rows. by-room size (write_extract lent rows) (write_extract lent rows)))

pub read-extract-is : (schema : TextRecord) (extract : List ℕ) (z : Sizes) → AreBytes extract → IsOutcome (ReadsExtract schema extract z) (extract_read schema extract z)
unfolding extract_read
read-extract-is schema extract z small =
    by-schema schema _ (λ s.
    by-sizes z _ (turn_is (read_extract (types_of s) extract) _ (extract-is s extract small) (λ rows x. by-room z.numbers rows rows)))

pub select-nodes-is : (schema bundle : TextRecord) (place : ℕ) (table : LentTable) (lent : List ℕ) (items counts : ℕ)
    → IsOutcome (SelectsNodes schema bundle place table lent items counts) (nodes_selected schema bundle place table lent items counts)
unfolding nodes_selected
select-nodes-is schema bundle place table lent items counts =
    by-schema schema _ (λ s.
    by-bundle s bundle _ (λ ps.
    tested-is (leb place (length ps)) _ (leb→le place (length ps)) (le→leb place (length ps)) (λ t.
    by-table-beside s lent table _ (λ rows. in-room (selections lent rows (asked_paths place ps))))))
  where
    few : (a : Selections) → T (too_small items a.items || too_small counts a.counts) → TooFewSelections items counts a
    few a t =
        ⊎_elim (λ h. inl (ltb→lt items (length a.items) h)) (λ h. inr (ltb→lt counts (length a.counts) h)) (or_cases (too_small items a.items) (too_small counts a.counts) t)

    are-few : (a : Selections) → TooFewSelections items counts a → T (too_small items a.items || too_small counts a.counts)
    are-few a (inl h) = or_left (too_small items a.items) (too_small counts a.counts) (lt→ltb items (length a.items) h)
    are-few a (inr h) = or_right (too_small items a.items) (too_small counts a.counts) (lt→ltb counts (length a.counts) h)

    in-room : (a : Selections) → IsOutcome (InRoom (TooFewSelections items counts a) a) (in_room (too_small items a.items || too_small counts a.counts) a)
    in-room a = room-is (too_small items a.items || too_small counts a.counts) a (few a) (are-few a)

pub row-text-is : (schema : TextRecord) (table : LentTable) (lent : List ℕ) (position : ℕ) → IsOutcome (GivesText schema table lent position) (row_text schema table lent position)
unfolding row_text
row-text-is schema table lent position =
    by-schema schema _ (λ s. by-table-beside s lent table _ (λ rows. handed-is (get_elem? rows position) _ (λ r e. e) (λ r e. e) (λ r. answers-is)))

pub row-chain-is : (schema : TextRecord) (table : LentTable) (position size : ℕ) → IsOutcome (GivesChain schema table position size) (row_chain schema table position size)
unfolding row_chain
row-chain-is schema table position size =
    by-schema schema _ (λ s. by-table s table _ (λ rows. handed-is (get_elem? (nodes_of [] rows) position) _ (λ y e. e) (λ y e. e) (λ y. by-room size (chain s y) (chain s y))))
