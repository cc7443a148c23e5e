-- The two host functions' outcomes are those that document 01 allows, and no others.
use Rattle.std.specs.Prelude.{◌&&◌, ◌||◌, List, ◌⊎◌, ◌≡◌, refl, ℕ, ◌≤◌, leb, length}
use Rattle.std.proofs.Common.{inl, inr, ◌∙◌, arith, le→leb, ltb→lt, lt→ltb}
use Rattle.std.proofs.Math.Logic.{⊎_elim}
use Rattle.std.proofs.Math.Path.{sym, ap, subst}
use Rattle.std.proofs.Math.Dec.{T, leb→le}
use Rattle.std.proofs.lemmas.List.{length-map}
use Rattle.extract_spec.specs.Reading.{read_extract}
use Rattle.journal_spec.specs.Reading.{read_journal}
use Rattle.library_spec.specs.Conditions.{SchemaJudged, BundleJudged, SchemaTaken, BundleTaken, TooFewCells, InLent, Makes, OutOfRange, in-no-bundle, not-here, Selects}
use Rattle.library_spec.specs.Hosts.{HostAnswer, Lent, in_lent, make_extract, bundle_paths, in_range, select_from}
use Rattle.path_laws.specs.Reading.{bundle-read, bundle-read-once}
use Rattle.path_spec.specs.Conditions.{over, paths, limit-9, gives}
use Rattle.path_spec.specs.Paths.{LocationPath, resolved_path}
use Rattle.path_spec.specs.Reading.{read_bundle}
use Rattle.projection_laws.specs.Calls.{schema-is, bundle-is, journal-is, extract-is, by-sizes}
use Rattle.projection_laws.specs.Fields.{AreBytes}
use Rattle.projection_laws.specs.Handed.{sizes-equal, equal-sized}
use Rattle.schema_laws.specs.reading.Reading.{schema-read, schema-read-once}
use Rattle.schema_spec.specs.Reading.{read_schema}
use Rattle.schema_spec.specs.Schemas.{Schema}
use Rattle.schema_spec.specs.Types.{types_of}
use Rattle.table_spec.specs.Columns.{equal_sizes}
use Rattle.text_laws.specs.Calls.{IsOutcome, room-is, tested-is, turn_is}
use Rattle.text_laws.specs.Tests.{never, or_left, or_right, or_cases, and_intro, and_cases, decided}
use Rattle.text_laws.specs.Texts.{split_at}
use Rattle.text_spec.specs.Cells.{too_small}
use Rattle.text_spec.specs.Limits.{max_journal_bytes, max_paths}
use Rattle.text_spec.specs.Refusals.{Outcome, accepted, refused, and_then, taken}

-- 18: one of the lent outputs has too few cells
module _ (l : Lent) (a : HostAnswer) where
  few-cells : T (too_small l.columns.numbers a.rows || (too_small l.items a.items || too_small l.counts a.counts)) → TooFewCells l a
  few-cells t =
      ⊎_elim (λ h. inl (ltb→lt l.columns.numbers (length a.rows) h))
      (λ u. inr (⊎_elim (λ h. inl (ltb→lt l.items (length a.items) h)) (λ h. inr (ltb→lt l.counts (length a.counts) h))
      (or_cases (too_small l.items a.items) (too_small l.counts a.counts) u)))
      (or_cases (too_small l.columns.numbers a.rows) (too_small l.items a.items || too_small l.counts a.counts) t)

  cells-few : TooFewCells l a → T (too_small l.columns.numbers a.rows || (too_small l.items a.items || too_small l.counts a.counts))
  cells-few (inl h) = or_left (too_small l.columns.numbers a.rows) _ (lt→ltb l.columns.numbers (length a.rows) h)
  cells-few (inr (inl h)) =
      or_right (too_small l.columns.numbers a.rows) _ (or_left (too_small l.items a.items) (too_small l.counts a.counts) (lt→ltb l.items (length a.items) h))
  cells-few (inr (inr h)) =
      or_right (too_small l.columns.numbers a.rows) _ (or_right (too_small l.items a.items) (too_small l.counts a.counts) (lt→ltb l.counts (length a.counts) h))

  pub in_lent_lem : IsOutcome (InLent l a) (in_lent l a)
  in_lent_lem = room-is (too_small l.columns.numbers a.rows || (too_small l.items a.items || too_small l.counts a.counts)) a few-cells cells-few

pub make-extract-is : (schema bundle journal : List ℕ) (l : Lent) → IsOutcome (Makes schema bundle journal l) (make_extract schema bundle journal l)
unfolding make_extract
make-extract-is schema bundle journal l =
    by-sizes l.columns _
    (turn_is (read_schema schema) _ (schema-is schema) (λ s x.
    turn_is (read_bundle s bundle) _ (bundle-is s bundle) (λ ps y.
    turn_is (read_journal max_journal_bytes s journal) _ (journal-is max_journal_bytes s journal) (λ rows w. in_lent_lem l _))))

-- ---- selecting: places in and out of range
-- an accepted bundle has at most eight paths
pub few-paths : (s : Schema) (bundle : List ℕ) (ps : List (LocationPath ℕ)) → BundleTaken s bundle ps → length ps ≤ max_paths
few-paths s bundle ps (taken n (gives {ps = reads} g)) = pick (decided (leb (length reads) max_paths))
  where
    pick : T (leb (length reads) max_paths) ⊎ (T (leb (length reads) max_paths) → ⊥) → length ps ≤ max_paths
    pick (inl t) = omega (arith, leb→le (length reads) max_paths t, length-map reads (λ p. resolved_path s p.path))
    pick (inr m) =
        let h : length reads ≤ max_paths → ⊥ = λ l. m (le→leb (length reads) max_paths l) in
        absurd (n _ _ (limit-9 g (over (split_at reads max_paths (omega arith)) (paths (omega arith)))))

module _ (schema bundle : List ℕ) (place : ℕ) where
  in-range : (o : Outcome (List (LocationPath ℕ))) → bundle_paths schema bundle ≡ o → T (in_range place o) → OutOfRange schema bundle place → ⊥
  unfolding bundle_paths
  in-range o e t (not-here {s = s} {ps = ps} st bt h) =
      let f : bundle_paths schema bundle ≡ accepted ps =
      ap (λ (x : Outcome Schema). and_then x (λ q. read_bundle q bundle)) (sym (schema-read-once schema st)) ∙ sym (bundle-read-once s bundle bt) in
      let u : T (leb place (length ps)) = subst (λ (x : Outcome (List (LocationPath ℕ))). T (in_range place x)) (sym e ∙ f) t in
      omega (arith, leb→le place (length ps) u)
  in-range (accepted ps) e t (in-no-bundle h) = by (read_schema schema) (schema-read schema) e
    where
      by : (x : Outcome Schema) → SchemaJudged schema x → and_then x (λ q. read_bundle q bundle) ≡ accepted ps → ⊥
      by (accepted s) j f = omega (arith, leb→le place (length ps) t, few-paths s bundle ps (subst (BundleJudged s bundle) f (bundle-read s bundle)))
      by (refused r) j f = never (cc)
  in-range (refused f) e t (in-no-bundle h) = omega (arith, leb→le place max_paths t)

  range-in : (OutOfRange schema bundle place → ⊥) → T (in_range place (bundle_paths schema bundle))
  unfolding bundle_paths
  range-in n = by (read_schema schema) (schema-read schema)
    where
      none : T (leb place max_paths)
      none = ⊎_elim (λ t. t) (λ m. absurd (n (in-no-bundle (let h : place ≤ max_paths → ⊥ = λ l. m (le→leb place max_paths l) in omega arith)))) (decided (leb place max_paths))

      under : (s : Schema) → SchemaTaken schema s → (o : Outcome (List (LocationPath ℕ))) → BundleJudged s bundle o → T (in_range place o)
      under s st (accepted ps) j =
          ⊎_elim (λ t. t) (λ m. absurd (n (not-here st j (let h : place ≤ length ps → ⊥ = λ l. m (le→leb place (length ps) l) in omega arith)))) (decided (leb place (length ps)))
      under s st (refused f) j = none

      by : (o : Outcome Schema) → SchemaJudged schema o → T (in_range place (and_then o (λ q. read_bundle q bundle)))
      by (accepted s) j = under s j (read_bundle s bundle) (bundle-read s bundle)
      by (refused f) j = none

pub select-from-is : (schema bundle : List ℕ) (place : ℕ) (extract : List ℕ) (l : Lent) → AreBytes extract
    → IsOutcome (Selects schema bundle place extract l) (select_from schema bundle place extract l)
unfolding select_from
select-from-is schema bundle place extract l small =
    tested-is (equal_sizes l.columns && in_range place (bundle_paths schema bundle)) _
    (λ t.
    let c = and_cases (equal_sizes l.columns) (in_range place (bundle_paths schema bundle)) t in
    (sizes-equal l.columns c.0, in-range schema bundle place (bundle_paths schema bundle) refl c.1))
    (λ p. and_intro (equal_sizes l.columns) (in_range place (bundle_paths schema bundle)) (equal-sized p.0) (range-in schema bundle place p.1))
    (λ t.
    turn_is (read_schema schema) _ (schema-is schema) (λ s x.
    turn_is (read_bundle s bundle) _ (bundle-is s bundle) (λ ps y.
    turn_is (read_extract (types_of s) extract) _ (extract-is s extract small) (λ rows w. in_lent_lem l _))))
