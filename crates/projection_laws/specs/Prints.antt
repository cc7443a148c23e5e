-- What `listing` prints is what document 01 says, and nothing else is: the first refused file, 18 only where all three are accepted, or the
-- header with the lengths of the three lists and a line for each selected node.
use Rattle.std.specs.Prelude.{List, ◌≡◌, ℕ, T}
use Rattle.std.proofs.Common.{sym, ap, subst}
use Rattle.journal_laws.specs.TreeNodes.{accepted-well-formed}
use Rattle.journal_laws.specs.Judging.Meaning.{journal-judged-once}
use Rattle.journal_spec.specs.Reading.{read_journal}
use Rattle.library_spec.specs.Conditions.{FilesJudged, Lists, Prints, prints-refusal, prints-lists}
use Rattle.library_spec.specs.Listing.{FilesRead, judge_files, listed, listing_data, refused_line, printed, listing}
use Rattle.path_spec.specs.Reading.{read_bundle}
use Rattle.projection_laws.specs.Calls.{schema-is, bundle-is, journal-is, by-room}
use Rattle.projection_laws.specs.Listing.{listed-is}
use Rattle.schema_spec.specs.Reading.{read_schema}
use Rattle.schema_spec.specs.Types.{types_of}
use Rattle.table_spec.specs.Tables.{well_formed, well_formed_with, text_inside}
use Rattle.text_laws.specs.Calls.{IsUnique, IsOutcome, turn_is}
use Rattle.text_laws.specs.Tests.{never, and_cases}
use Rattle.text_spec.specs.Calls.{goes_on_lem, answered}
use Rattle.text_spec.specs.Limits.{listing_journal_bytes, listing_rows}
use Rattle.text_spec.specs.Lists.{all_of}
use Rattle.text_spec.specs.Refusals.{Outcome, accepted, refused}

module _ (schema bundle journal : List ℕ) where
  files-are : IsOutcome (FilesJudged schema bundle journal) (judge_files schema bundle journal)
  unfolding judge_files
  files-are =
      turn_is (read_schema schema) _ (schema-is schema) (λ s x.
      turn_is (read_bundle s bundle) _ (bundle-is s bundle) (λ ps y.
      turn_is (read_journal listing_journal_bytes s journal) _ (journal-is listing_journal_bytes s journal) (λ rows w.
      by-room listing_rows rows _)))

  -- the rows of an accepted journal are a well-formed table
  files-well-formed : {f : FilesRead} → FilesJudged schema bundle journal (accepted f) → T (well_formed (types_of f.schema) f.rows)
  unfolding well_formed_with
  files-well-formed (goes_on_lem {a = s} x (goes_on_lem y (goes_on_lem {a = rows} w (answered m)))) =
      (and_cases (well_formed (types_of s) rows) (all_of (text_inside journal) rows)
      (accepted-well-formed listing_journal_bytes s journal rows (sym (journal-judged-once listing_journal_bytes s journal w)))).0

  printed-is : (o : Outcome FilesRead) → IsOutcome (FilesJudged schema bundle journal) o → IsUnique (Prints schema bundle journal) (printed journal o)
  printed-is (refused f) (j, one) = (prints-refusal j, only)
    where
      only : (out : List ℕ) → Prints schema bundle journal out → out ≡ refused_line f
      only out (prints-refusal {f = g} i) =
          let e = one (refused g) i in
          ap refused_line (cc)
      only out (prints-lists {f = g} i x) = let e = one (accepted g) i in never (cc)
  printed-is (accepted f) (j, one) = (prints-lists j is.0, only)
    where
      is : IsUnique (Lists journal f) (listed (listing_data journal f))
      is = listed-is (types_of f.schema) journal f.rows (files-well-formed j) f.schema f.paths

      only : (out : List ℕ) → Prints schema bundle journal out → out ≡ listed (listing_data journal f)
      only out (prints-refusal {f = g} i) = let e = one (refused g) i in never (cc)
      only out (prints-lists {f = g} i x) =
          let e = one (accepted g) i in
          let same : g ≡ f = cc in
          is.1 out (subst (λ (h : FilesRead). Lists journal h out) same x)

  -- THE THEOREM
  pub listing-is : IsUnique (Prints schema bundle journal) (listing schema bundle journal)
  unfolding listing
  listing-is = printed-is (judge_files schema bundle journal) files-are
