-- The two host functions stage by stage: 1, the schema and the bundle, then the journal or the extract with its rows in columns, 18.
use Rattle.std.specs.Prelude.{Bool, false, ◌&&◌, ◌||◌, List, [], ◌≡◌, refl, ℕ}
use Rattle.std.proofs.Math.Bool.{true, or-false}
use Rattle.std.proofs.Math.Path.{ap}
use Rattle.std.proofs.Common.{◌∙◌}
use Rattle.extract_spec.specs.Reading.{read_extract}
use Rattle.journal_spec.specs.Reading.{read_journal}
use Rattle.library_spec.specs.Calls.{in_columns}
use Rattle.library_spec.specs.Hosts.{HostAnswer, host_answer, Lent, in_lent, extract_of, make_extract, bundle_paths, in_range, select_from}
use Rattle.library_spec.specs.Selections.{asked_paths, selections}
use Rattle.path_spec.specs.Paths.{LocationPath}
use Rattle.path_spec.specs.Reading.{read_bundle}
use Rattle.schema_spec.specs.Reading.{read_schema}
use Rattle.schema_spec.specs.Records.{schema_in}
use Rattle.schema_spec.specs.Schemas.{Schema}
use Rattle.schema_spec.specs.Types.{types_of}
use Rattle.table_spec.specs.Columns.{Sizes, equal_sizes}
use Rattle.table_spec.specs.Rows.{Row}
use Rattle.text_laws.specs.Tests.{never}
use Rattle.text_spec.specs.Calls.{tested, in_room}
use Rattle.text_spec.specs.Cells.{too_small}
use Rattle.text_spec.specs.Limits.{max_journal_bytes}
use Rattle.text_spec.specs.Refusals.{Refusal, Outcome, accepted, refused, and_then, at, bad_record, result_or}

-- the answer for rows that the columns have room for: 18 by items and counts
abbrev pub in_items : ℕ → ℕ → List Row → List ℕ → List ℕ → Outcome HostAnswer
in_items i n rows items counts = in_room (too_small i items || too_small n counts) (host_answer rows items counts)

-- making an extract under an accepted schema and bundle: the journal's rows in columns, then the bytes
abbrev pub made_of : Schema → List (LocationPath ℕ) → List ℕ → ℕ → List Row → Outcome HostAnswer
made_of s ps journal i rows = in_room (too_small i (extract_of s ps journal rows)) (host_answer rows (extract_of s ps journal rows) [])

abbrev pub made_under : Schema → List (LocationPath ℕ) → List ℕ → Sizes → ℕ → Outcome HostAnswer
made_under s ps journal z i = and_then (and_then (read_journal max_journal_bytes s journal) (in_columns z)) (made_of s ps journal i)

-- selecting under an accepted schema and bundle: the extract's rows in columns, then the numbers and their counts
abbrev pub chosen_of : List (LocationPath ℕ) → ℕ → List ℕ → ℕ → ℕ → List Row → Outcome HostAnswer
chosen_of ps place extract i n rows =
    in_items i n rows (selections extract rows (asked_paths place ps)).items (selections extract rows (asked_paths place ps)).counts

abbrev pub chosen_under : Schema → List (LocationPath ℕ) → ℕ → List ℕ → Lent → Outcome HostAnswer
chosen_under s ps place extract l =
    and_then (and_then (read_extract (types_of s) extract) (in_columns l.columns)) (chosen_of ps place extract l.items l.counts)

-- ---- texts in turn
module _ {A B C : Type 0} where
  -- two that are judged in turn, and what comes next
  pub turns-refused : (o : Outcome A) (g : A → Outcome B) (k : A → B → Outcome C) (f : Refusal) → and_then o g ≡ refused f → and_then o (λ a. and_then (g a) (k a)) ≡ refused f
  turns-refused (accepted a) g k f e = ap (λ (x : Outcome B). and_then x (k a)) e
  turns-refused (refused r) g k f e = let same : r ≡ f = cc in ap refused same

  pub turns-accepted : (o : Outcome A) (g : A → Outcome B) (k : A → B → Outcome C) (a : A) (b : B) → o ≡ accepted a → g a ≡ accepted b → and_then o (λ x. and_then (g x) (k x)) ≡ k a b
  turns-accepted o g k a b e h = ap (λ (x : Outcome A). and_then x (λ y. and_then (g y) (k y))) e ∙ ap (λ (x : Outcome B). and_then x (k a)) h

-- a schema and a bundle that are accepted
pub bundle-accepted : (schema bundle : List ℕ) (ps : List (LocationPath ℕ)) → bundle_paths schema bundle ≡ accepted ps
    → (read_schema schema ≡ accepted (schema_in schema)) × (read_bundle (schema_in schema) bundle ≡ accepted ps)
unfolding bundle_paths schema_in
bundle-accepted schema bundle ps e = pick (read_schema schema) e
  where
    pick : (o : Outcome Schema) → and_then o (λ s. read_bundle s bundle) ≡ accepted ps → (o ≡ accepted (result_or [] o)) × (read_bundle (result_or [] o) bundle ≡ accepted ps)
    pick (accepted s) h = (refl, h)
    pick (refused f) h = never (cc)

-- ---- 18 by the rows, and then by the other cells
rows-first : (l : Lent) (rows : List Row) (items counts : List ℕ)
    → in_lent l (host_answer rows items counts) ≡ and_then (in_columns l.columns rows) (λ rs. in_items l.items l.counts rs items counts)
rows-first l rows items counts = pick (too_small l.columns.numbers rows)
  where
    pick : (b : Bool) → in_room (b || (too_small l.items items || too_small l.counts counts)) (host_answer rows items counts)
        ≡ and_then (in_room b rows) (λ rs. in_items l.items l.counts rs items counts)
    pick true = refl
    pick false = refl

-- each answer by its own rows
rows-answered : (l : Lent) (o : Outcome (List Row)) (items counts : List Row → List ℕ)
    → and_then o (λ rows. in_lent l (host_answer rows (items rows) (counts rows)))
    ≡ and_then (and_then o (in_columns l.columns)) (λ rows. in_items l.items l.counts rows (items rows) (counts rows))
rows-answered l (refused f) items counts = refl
rows-answered l (accepted rows) items counts = rows-first l rows (items rows) (counts rows) ∙ pick (too_small l.columns.numbers rows)
  where
    pick : (b : Bool) → and_then (in_room b rows) (λ rs. in_items l.items l.counts rs (items rows) (counts rows))
        ≡ and_then (in_room b rows) (λ rs. in_items l.items l.counts rs (items rs) (counts rs))
    pick true = refl
    pick false = refl

-- ---- making an extract
module _ (schema bundle journal : List ℕ) (l : Lent) where
  abbrev making : Schema → List (LocationPath ℕ) → Outcome HostAnswer
  making s ps = and_then (read_journal max_journal_bytes s journal) (λ rows. in_lent l (host_answer rows (extract_of s ps journal rows) []))

  make-by : (b : Bool) → equal_sizes l.columns ≡ b
      → make_extract schema bundle journal l ≡ tested b (and_then (read_schema schema) (λ s. and_then (read_bundle s bundle) (making s)))
  unfolding make_extract
  make-by b e = ap (λ (t : Bool). tested t (and_then (read_schema schema) (λ s. and_then (read_bundle s bundle) (making s)))) e

  pub make-unequal : equal_sizes l.columns ≡ false → make_extract schema bundle journal l ≡ refused (at bad_record 0)
  make-unequal e = make-by false e

  pub make-refused : equal_sizes l.columns ≡ true → (f : Refusal) → bundle_paths schema bundle ≡ refused f → make_extract schema bundle journal l ≡ refused f
  unfolding bundle_paths
  make-refused e f r = make-by true e ∙ turns-refused (read_schema schema) (λ s. read_bundle s bundle) making f r

  pub make-accepted : equal_sizes l.columns ≡ true → l.counts ≡ 0 → (ps : List (LocationPath ℕ)) → bundle_paths schema bundle ≡ accepted ps
      → make_extract schema bundle journal l ≡ made_under (schema_in schema) ps journal l.columns l.items
  make-accepted e c ps r =
      let both = bundle-accepted schema bundle ps r in
      make-by true e ∙ turns-accepted (read_schema schema) (λ s. read_bundle s bundle) making (schema_in schema) ps both.0 both.1
      ∙ rows-answered l (read_journal max_journal_bytes (schema_in schema) journal) (extract_of (schema_in schema) ps journal) (λ rows. []) ∙ no-counts (and_then (read_journal max_journal_bytes (schema_in schema) journal) (in_columns l.columns))
    where
      by-items : (rows : List Row) → in_items l.items l.counts rows (extract_of (schema_in schema) ps journal rows) [] ≡ made_of (schema_in schema) ps journal l.items rows
      by-items rows =
          ap (λ (n : ℕ). in_items l.items n rows (extract_of (schema_in schema) ps journal rows) []) c
          ∙ ap (λ (b : Bool). in_room b (host_answer rows (extract_of (schema_in schema) ps journal rows) [])) (or-false (too_small l.items (extract_of (schema_in schema) ps journal rows)))

      no-counts : (o : Outcome (List Row)) → and_then o (λ rows. in_items l.items l.counts rows (extract_of (schema_in schema) ps journal rows) []) ≡ and_then o (made_of (schema_in schema) ps journal l.items)
      no-counts (accepted rows) = by-items rows
      no-counts (refused f) = refl

-- ---- selecting from an extract
module _ (schema bundle : List ℕ) (place : ℕ) (extract : List ℕ) (l : Lent) where
  abbrev choosing : Schema → List (LocationPath ℕ) → Outcome HostAnswer
  choosing s ps =
      and_then (read_extract (types_of s) extract) (λ rows. in_lent l (host_answer rows (selections extract rows (asked_paths place ps)).items (selections extract rows (asked_paths place ps)).counts))

  select-by : (a b : Bool) → equal_sizes l.columns ≡ a → in_range place (bundle_paths schema bundle) ≡ b
      → select_from schema bundle place extract l ≡ tested (a && b) (and_then (read_schema schema) (λ s. and_then (read_bundle s bundle) (choosing s)))
  unfolding select_from
  select-by a b e h =
      ap (λ (t : Bool). tested (t && in_range place (bundle_paths schema bundle)) (and_then (read_schema schema) (λ s. and_then (read_bundle s bundle) (choosing s)))) e
      ∙ ap (λ (t : Bool). tested (a && t) (and_then (read_schema schema) (λ s. and_then (read_bundle s bundle) (choosing s)))) h

  pub select-unequal : equal_sizes l.columns ≡ false → select_from schema bundle place extract l ≡ refused (at bad_record 0)
  select-unequal e = select-by false (in_range place (bundle_paths schema bundle)) e refl

  module _ (e : equal_sizes l.columns ≡ true) where
    pub select-out : in_range place (bundle_paths schema bundle) ≡ false → select_from schema bundle place extract l ≡ refused (at bad_record 0)
    select-out h = select-by true false e h

    module _ (h : in_range place (bundle_paths schema bundle) ≡ true) where
      pub select-refused : (f : Refusal) → bundle_paths schema bundle ≡ refused f → select_from schema bundle place extract l ≡ refused f
      unfolding bundle_paths
      select-refused f r = select-by true true e h ∙ turns-refused (read_schema schema) (λ s. read_bundle s bundle) choosing f r

      pub select-accepted : (ps : List (LocationPath ℕ)) → bundle_paths schema bundle ≡ accepted ps
          → select_from schema bundle place extract l ≡ chosen_under (schema_in schema) ps place extract l
      select-accepted ps r =
          let both = bundle-accepted schema bundle ps r in
          select-by true true e h ∙ turns-accepted (read_schema schema) (λ s. read_bundle s bundle) choosing (schema_in schema) ps both.0 both.1
          ∙ rows-answered l (read_extract (types_of (schema_in schema)) extract) (λ rows. (selections extract rows (asked_paths place ps)).items) (λ rows. (selections extract rows (asked_paths place ps)).counts)
