-- That what is made of three files, printed, is the definition's listing: by the texts, by the journal, by its rows.
use Rattle.std.specs.Prelude.{Bool, List, ◌++◌, map, ◌≡◌, refl, ℕ, ◌≤◌, ◌<◌, T, Result, Ok, Err, length, take}
use Rattle.std.proofs.Common.{sym, ap₂, ◌∙◌, arith, le-ltb, length-take-le}
use Rattle.std.proofs.Math.Path.{ap, subst}
use Rattle.std.proofs.lemmas.List.{length-map}
use Rattle.axis_passes.specs.rows.Rows.{TextColumns}
use Rattle.cells.specs.lent.Columns.{first_cells}
use Rattle.cells.specs.row_sets.Columns.{picked}
use Rattle.cells.specs.columns.Columns.{EqualColumns}
use Rattle.cells.specs.columns.Lent.{read_columns}
use Rattle.cells.specs.declared.columns.Columns as reading
use Rattle.cells.specs.verdicts.Verdicts.{verdict}
use Rattle.chains.specs.handed.Answers.{sizes_at}
use Rattle.chains.specs.laws.Names.{compiled-names}
use Rattle.chains.specs.laws.Nodes.{node-chain}
use Rattle.chains.specs.tags.Chains.{chain_at, chain_size, NamesAt, chain_length}
use Rattle.compiled_paths.specs.Paths.{paths_in}
use Rattle.extract_spec.specs.Cut.{cut}
use Rattle.hosts.specs.columns.Rows.{RowsRead, rows-read, text-refused, first-columns, equal-after, room-after}
use Rattle.hosts.specs.declared.texts.Texts.{Texts}
use Rattle.hosts.specs.texts.Texts.{TextsTaken}
use Rattle.inference.specs.relations.Compiled.{compiled-needed}
use Rattle.inference_spec.specs.Needed.{needed}
use Rattle.journal_laws.specs.TreeNodes.{accepted-well-formed}
use Rattle.journal_spec.specs.Reading.{read_journal}
use Rattle.kept_rows.specs.Joined.{rank}
use Rattle.kept_rows.specs.Kept.{in_set, kept_marks, KeptColumns}
use Rattle.kept_rows.specs.laws.Codes.{kept-columns}
use Rattle.kept_rows.specs.laws.Cut.{columns_in, renumbered_by, cut-picked, marks-size}
use Rattle.kept_rows.specs.laws.Known.{rows-coded, set-passes}
use Rattle.kept_rows.specs.laws.Picked.{picked-length}
use Rattle.library_spec.specs.Calls.{in_columns, columns_after}
use Rattle.library_spec.specs.Chains.{chain}
use Rattle.library_spec.specs.Hosts.{bundle_paths}
use Rattle.library_spec.specs.Listing.{header, refused_line, listing}
use Rattle.listing_files.specs.contents.Files.{printed_of, LinesFit, ListsRows, FilesLent, RowsAsked, TextsIn, ListedRows}
use Rattle.listing_files.specs.declared.contents.Listed.{Listed}
use Rattle.listing_files.specs.laws.Files.{texts-refused, journal-refused, journal-lists}
use Rattle.listing_text.specs.parts.Parts.{refusal-line}
use Rattle.listing_files.specs.laws.Rows.{row_lines, listed-by-rows}
use Rattle.listing_files.specs.laws.Sizes.{chain-short}
use Rattle.listing_text.specs.lines.Lines.{row_line}
use Rattle.path_spec.specs.Paths.{LocationPath}
use Rattle.schema_spec.specs.Names.{code_of}
use Rattle.schema_spec.specs.Records.{schema_in}
use Rattle.schema_spec.specs.Schemas.{Schema}
use Rattle.schema_spec.specs.Types.{types_of}
use Rattle.selection.specs.first_paths.Firsts.{FirstPaths}
use Rattle.selection.specs.table.Tables.{taken-texts}
use Rattle.table_laws.specs.Codes.{NamesCoded}
use Rattle.table_laws.specs.Columns.{codes-map, parents_of, numbers_of, codes_of, tested-columns}
use Rattle.table_laws.specs.Parents.{NodeAt, nodes-placed}
use Rattle.table_laws.specs.Places.{at_some}
use Rattle.table_laws.specs.WellFormed.{well-formed-alone}
use Rattle.table_spec.specs.Columns.{Columns, sizes_of}
use Rattle.table_spec.specs.Nodes.{Node, nodes_of}
use Rattle.table_spec.specs.Rows.{Row}
use Rattle.table_spec.specs.Tables.{well_formed, well_formed_with}
use Rattle.text_spec.specs.Calls.{in_room}
use Rattle.text_spec.specs.Limits.{listing_journal_bytes, listing_rows}
use Rattle.text.specs.declared.refusals.Refusal.{Refusal}
use Rattle.text.specs.refusals.Refusals.{refusal_in}
use Rattle.text_spec.specs.Refusals.{Outcome, accepted, refused, and_then}

module _ (schema bundle journal : List ℕ) where
  -- ---- a refusal is the only line
  pub texts-refused-lists : (f : Refusal) → bundle_paths schema bundle ≡ refused (refusal_in f) → listing schema bundle journal ≡ refused_line (refusal_in f)
  texts-refused-lists f e = texts-refused schema bundle journal (refusal_in f) e ∙ sym (refusal-line (refusal_in f))

  -- ---- accepted texts
  module _ (t : Texts) (taken : TextsTaken schema bundle t) where
    abbrev paths : List (LocationPath ℕ)
    paths = paths_in t.paths

    abbrev s : Schema
    s = schema_in schema

    abbrev journal_outcome : Outcome (List Row)
    journal_outcome = read_journal listing_journal_bytes s journal

    module _ (c d : Columns) (firsts : List ℕ) (lent : FilesLent c firsts) (v : Result ℕ Refusal) (answer : v ≡ verdict (and_then journal_outcome (in_columns (sizes_of c))))
        (cells : d ≡ columns_after (sizes_of c) (λ rows. rows) (and_then journal_outcome (in_columns (sizes_of c)))) where
      pub journal-refused-lists : (f : Refusal) → v ≡ Err f → listing schema bundle journal ≡ refused_line (refusal_in f)
      journal-refused-lists f e =
          let h = text-refused journal_outcome (sizes_of c) v d answer cells f e in
          journal-refused schema bundle journal paths taken.paths-are (sizes_of c) lent.lent (refusal_in f) h.0 ∙ sym (refusal-line (refusal_in f))

      -- ---- the rows of an accepted journal
      module _ (n : ℕ) (e : v ≡ Ok n) where
        rows_read : RowsRead journal_outcome (sizes_of c) n d
        rows_read = rows-read journal_outcome (sizes_of c) v d answer cells n e

        abbrev rows : List Row
        rows = rows_read.rows

        beside : T (well_formed_with (types_of s) journal rows)
        beside = accepted-well-formed listing_journal_bytes s journal rows rows_read.read

        alone : T (well_formed (types_of s) rows)
        alone = well-formed-alone (types_of s) journal rows beside

        coded : NamesCoded rows
        coded = rows-coded schema s taken.read rows alone

        same : first_cells n d ≡ columns_in rows
        same = first-columns journal_outcome c lent.equal n d rows_read

        numbers-are : take n d.numbers ≡ numbers_of rows
        numbers-are = ap (λ (y : Columns). y.numbers) same

        codes-are : take n d.names ≡ codes_of rows
        codes-are = ap (λ (y : Columns). y.names) same ∙ sym (codes-map rows)

        parents-are : take n d.parents ≡ parents_of rows
        parents-are = ap (λ (y : Columns). y.parents) same

        few : length rows ≤ listing_rows
        few = omega (arith, rows_read.room, lent.lent)

        pub rows-listed : n ≤ listing_rows
        rows-listed = omega (arith, rows_read.size, few)

        pub columns-equal : EqualColumns d
        columns-equal = equal-after journal_outcome c lent.equal n d rows_read

        pub columns-room : n ≤ length d.numbers
        columns-room = room-after journal_outcome c n d rows_read

        parents-room : n ≤ length d.parents
        parents-room = omega (arith, columns-room, columns-equal.of-parents)

        pub firsts-room : n ≤ length firsts
        firsts-room = omega (arith, rows-listed, lent.cells)

        rows-texts : TextColumns (take n d.parents) (take n d.starts) (take n d.lengths) (take n d.decoded) journal
        rows-texts =
            let k = columns-equal in
            taken-texts n d journal (omega (arith, columns-room, k.of-parents)) (omega (arith, columns-room, k.of-starts)) (omega (arith, columns-room, k.of-lengths)) (omega (arith, columns-room, k.of-decoded))

        -- columns that are read, with the rows alone
        module _ (first : reading.Columns) (is : read_columns first ≡ first_cells n d) where
          codes-same : first.names.now ≡ codes_of rows
          codes-same = ap (λ (y : Columns). y.names) is ∙ codes-are

          parents-same : first.parents.now ≡ parents_of rows
          parents-same = ap (λ (y : Columns). y.parents) is ∙ parents-are

          pub first-texts : TextsIn first journal
          first-texts = subst (λ (y : Columns). TextColumns y.parents y.starts y.lengths y.decoded journal) (sym is) rows-texts

          pub rows-asked : (noted : List ℕ) → length noted ≡ n → RowsAsked schema t first noted
          rows-asked noted e =
              let tested = tested-columns (types_of s) rows alone coded in
              let all : length first.parents.now ≡ length rows = ap length parents-same ∙ length-map rows (λ r. r.parent) in
              record {
                compiled = taken.compiled;
                shaped = taken.shaped;
                kept = rw (codes-same, parents-same) (subst (λ (x : List ℕ). KeptColumns x (parents_of rows)) (sym (codes-map rows)) (kept-columns (types_of s) journal rows beside coded));
                columns = rw (codes-same, parents-same) (record { before = tested.before; coded = tested.coded; names-size = tested.names-size; numbers-size = refl; few = tested.few });
                cells = e ∙ rows_read.size ∙ sym all;
                listed = omega (arith, few, all);
              }

          module _ (noted : List ℕ) (r : Listed) (l : ListedRows t first noted r) where
            pub noted-size : length noted ≡ n
            noted-size = l.noted.long ∙ ap (λ (y : Columns). length y.parents) is ∙ length-take-le n d.parents parents-room

            all-rows : r.rows ≡ length rows
            all-rows = l.rows_are ∙ ap length parents-same ∙ length-map rows (λ x. x.parent)

            first-paths : FirstPaths (parents_of rows) (codes_of rows) paths noted
            first-paths = rw (← codes-same, ← parents-same) l.noted

            kept-size : r.kept ≡ length (cut (needed (types_of s) paths) rows)
            kept-size =
                let named : codes_of rows ≡ map (λ x. code_of x.name) rows = codes-map rows in
                let f = in_set l.set in
                let m = kept_marks f (map (λ x. code_of x.name) rows) (map (λ x. x.parent) rows) in
                let passes = set-passes schema s taken.read rows alone l.set (needed (types_of s) paths) (compiled-needed schema s taken.read t.schema taken.compiled t.paths l.set l.set-needed.under).0 in
                let size = marks-size (types_of s) rows alone f (needed (types_of s) paths) passes in
                l.kept-is ∙ ap₂ (λ (x y : List ℕ). rank (kept_marks f x y) (length (kept_marks f x y))) (codes-same ∙ named) parents-same
                ∙ ap (rank m) size ∙ picked-length m rows size ∙ sym (ap length (cut-picked (types_of s) rows alone f (needed (types_of s) paths) passes) ∙ length-map (picked m rows) (renumbered_by m))

            in-room : and_then journal_outcome (in_columns (sizes_of c)) ≡ accepted rows
            in-room =
                ap (λ (o : Outcome (List Row)). and_then o (in_columns (sizes_of c))) rows_read.read
                ∙ ap (λ (b : Bool). in_room b rows) (le-ltb (length c.numbers) (length rows) rows_read.room)

            -- the names as the rows' chains ask
            abbrev sizes : List ℕ
            sizes = sizes_at schema t.schema.names

            abbrev chain_of : ℕ → List ℕ
            chain_of k = chain_at schema t.schema.names sizes (codes_of rows) (parents_of rows) k

            chain-is : (k : ℕ) (y : Node) → NodeAt (nodes_of journal rows) k y → chain_of k ≡ chain s y
            chain-is k y a =
                ap (λ (x : List ℕ). chain_at schema t.schema.names sizes x (parents_of rows) k) (codes-map rows)
                ∙ node-chain schema s taken.read t.schema taken.compiled sizes refl journal rows alone k y a

            lists-by-rows : listing schema bundle journal
                ≡ header r.selected r.kept (length rows) ++ row_lines (row_line (numbers_of rows) noted chain_of) (length rows) 0
            lists-by-rows =
                journal-lists schema bundle journal paths taken.paths-are (sizes_of c) lent.lent rows in-room
                ∙ listed-by-rows s (types_of s) journal rows alone coded paths (length (cut (needed (types_of s) paths) rows)) noted first-paths chain_of chain-is
                ∙ ap₂ (λ (x y : ℕ). header x y (length rows) ++ row_lines (row_line (numbers_of rows) noted chain_of) (length rows) 0) (sym l.selected-is) (sym kept-size)

            names-fit : NamesAt schema t.schema.names sizes
            names-fit = compiled-names schema s taken.read t.schema taken.compiled sizes refl

            chains-short : (k : ℕ) → k < length rows → chain_size sizes (codes_of rows) (parents_of rows) k ≤ 2055
            chains-short k b =
                let tree = nodes-placed (types_of s) journal rows alone in
                let y = at_some (nodes_of journal rows) k (omega (arith, tree.size, length-map rows (λ x. x.parent))) in
                let e = chain_length schema t.schema.names sizes (codes_of rows) (parents_of rows) names-fit k in
                omega (arith, e, ap length (chain-is k y.0 y.1), chain-short schema s taken.read journal rows alone k y.0 y.1)

            lines_fit : LinesFit schema (codes_of rows) (parents_of rows) r
            lines_fit =
                let tested = tested-columns (types_of s) rows alone coded in
                record {
                  few = omega (arith, all-rows, few);
                  named = rw l.names-are names-fit;
                  table = λ row b. rw l.names-are (record { fit = names-fit.fit; before = tested.before; size = tested.names-size; few = tested.few; within = omega (arith, all-rows, length-map rows (λ x. x.parent)) });
                  short = λ row b. rw l.names-are (chains-short row (omega (arith, all-rows)));
                }

            -- the same with the columns as they stand
            abbrev printed_as : ℕ → List ℕ → List ℕ → List ℕ → List ℕ → List ℕ → List ℕ
            printed_as k numbers codes ps first names =
                header r.selected r.kept k ++ row_lines (row_line numbers first (chain_at schema names (sizes_at schema names) codes ps)) k 0

            pub rows-list : (firsts' : List ℕ) → take n firsts' ≡ noted → ListsRows schema bundle journal d firsts' r
            unfolding printed_of
            rows-list firsts' e =
                let z : r.rows ≡ n = all-rows ∙ sym rows_read.size in
                let nu : numbers_of rows ≡ take r.rows d.numbers = sym (ap (λ (k : ℕ). take k d.numbers) z ∙ numbers-are) in
                let co : codes_of rows ≡ take r.rows d.names = sym (ap (λ (k : ℕ). take k d.names) z ∙ codes-are) in
                let pa : parents_of rows ≡ take r.rows d.parents = sym (ap (λ (k : ℕ). take k d.parents) z ∙ parents-are) in
                let fi : noted ≡ take r.rows firsts' = sym (ap (λ (k : ℕ). take k firsts') z ∙ e) in
                record {
                  whole =
                      lists-by-rows ∙ ap (λ (k : ℕ). printed_as k (numbers_of rows) (codes_of rows) (parents_of rows) noted t.schema.names) (sym all-rows)
                      ∙ ap₂ (λ (x y : List ℕ). printed_as r.rows x y (parents_of rows) noted t.schema.names) nu co
                      ∙ ap₂ (λ (x y : List ℕ). printed_as r.rows (take r.rows d.numbers) (take r.rows d.names) x y t.schema.names) pa fi
                      ∙ ap (λ (x : List ℕ). printed_as r.rows (take r.rows d.numbers) (take r.rows d.names) (take r.rows d.parents) (take r.rows firsts') x) (sym l.names-are);
                  fits =
                      subst (λ (x : List ℕ). LinesFit schema x (take r.rows d.parents) r) co
                      (subst (λ (y : List ℕ). LinesFit schema (codes_of rows) y r) pa lines_fit);
                  equal = columns-equal;
                  room = omega (arith, z, columns-room);
                }

-- as many cells as are taken
pub taken-size : (n : ℕ) (xs : List ℕ) → n ≤ length xs → n ≡ length (take n xs)
taken-size n xs l = sym (length-take-le n xs l)
