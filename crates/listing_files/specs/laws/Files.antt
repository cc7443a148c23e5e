-- The three files of a listing judged in turn, and what is then printed.
use Rattle.std.specs.Prelude.{Bool, true, false, List, ◌≡◌, refl, ℕ}
use Rattle.std.proofs.Common.{sym, ◌∙◌}
use Rattle.std.proofs.Math.Path.{ap}
use Rattle.hosts.specs.laws.Stages.{turns-refused, turns-accepted, bundle-accepted}
use Rattle.journal_spec.specs.Reading.{read_journal}
use Rattle.library_spec.specs.Calls.{in_columns}
use Rattle.library_spec.specs.Hosts.{bundle_paths}
use Rattle.library_spec.specs.Listing.{FilesRead, judge_files, listing_data, listed, printed, listing}
use Rattle.listing_text.specs.lines.Lines.{refusal, refusal-line}
use Rattle.path_spec.specs.Paths.{LocationPath}
use Rattle.path_spec.specs.Reading.{read_bundle}
use Rattle.schema_spec.specs.Reading.{read_schema}
use Rattle.schema_spec.specs.Records.{schema_in}
use Rattle.schema_spec.specs.Schemas.{Schema}
use Rattle.table_spec.specs.Columns.{Sizes}
use Rattle.table_spec.specs.Rows.{Row}
use Rattle.text_spec.specs.Calls.{in_room}
use Rattle.text_spec.specs.Cells.{too_small}
use Rattle.text_spec.specs.Limits.{listing_journal_bytes, listing_rows}
use Rattle.text_spec.specs.Refusals.{Refusal, Outcome, accepted, refused, and_then, number_of}

module _ (schema bundle journal : List ℕ) where
  abbrev read : Schema → List (LocationPath ℕ) → List Row → FilesRead
  read s ps rows = record { schema = s; paths = ps; rows = rows }

  abbrev reading : Schema → List (LocationPath ℕ) → Outcome FilesRead
  reading s ps = and_then (read_journal listing_journal_bytes s journal) (λ rows. in_room (too_small listing_rows rows) (read s ps rows))

  -- a text is refused: the only line
  refused-prints : (f : Refusal) → judge_files schema bundle journal ≡ refused f → listing schema bundle journal ≡ refusal (number_of f.reason) f.place
  unfolding listing
  refused-prints f e = ap (printed journal) e ∙ refusal-line f

  pub texts-refused : (f : Refusal) → bundle_paths schema bundle ≡ refused f → listing schema bundle journal ≡ refusal (number_of f.reason) f.place
  unfolding judge_files bundle_paths
  texts-refused f e =
      refused-prints f (turns-refused (read_schema schema) (λ s. read_bundle s bundle) reading f e)

  module _ (ps : List (LocationPath ℕ)) (taken : bundle_paths schema bundle ≡ accepted ps) (z : Sizes) (lent : z.numbers ≡ listing_rows) where
    abbrev s : Schema
    s = schema_in schema

    abbrev journal_rows : Outcome (List Row)
    journal_rows = and_then (read_journal listing_journal_bytes s journal) (in_columns z)

    in-columns : (o : Outcome (List Row)) → and_then o (λ rows. in_room (too_small listing_rows rows) (read s ps rows)) ≡ and_then (and_then o (in_columns z)) (λ rows. accepted (read s ps rows))
    in-columns (refused f) = refl
    in-columns (accepted rows) = pick (too_small listing_rows rows) ∙ ap (λ (n : ℕ). and_then (in_room (too_small n rows) rows) (λ x. accepted (read s ps x))) (sym lent)
      where
        pick : (b : Bool) → in_room b (read s ps rows) ≡ and_then (in_room b rows) (λ x. accepted (read s ps x))
        pick true = refl
        pick false = refl

    files-judged : judge_files schema bundle journal ≡ and_then journal_rows (λ rows. accepted (read s ps rows))
    unfolding judge_files
    files-judged =
        let both = bundle-accepted schema bundle ps taken in
        turns-accepted (read_schema schema) (λ q. read_bundle q bundle) reading s ps both.0 both.1
        ∙ in-columns (read_journal listing_journal_bytes s journal)

    pub journal-refused : (f : Refusal) → journal_rows ≡ refused f → listing schema bundle journal ≡ refusal (number_of f.reason) f.place
    journal-refused f e = refused-prints f (files-judged ∙ ap (λ (o : Outcome (List Row)). and_then o (λ rows. accepted (read s ps rows))) e)

    -- the rows of an accepted journal
    module _ (rows : List Row) (e : journal_rows ≡ accepted rows) where
      pub journal-lists : listing schema bundle journal ≡ listed (listing_data journal (read s ps rows))
      unfolding listing
      journal-lists = ap (printed journal) (files-judged ∙ ap (λ (o : Outcome (List Row)). and_then o (λ x. accepted (read s ps x))) e)
