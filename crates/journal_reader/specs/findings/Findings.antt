-- The key that the code finds at the end of a text is the least of all findings.
use Rattle.std.specs.Prelude.{Bool, true, false, cond, not, ◌&&◌, ◌||◌, List, [], ◌∷◌, ◌++◌, ◌≡◌, refl, ℕ, min, ◌≤◌, ◌<◌, eqb, leb, length, Option, Some, None}
use Rattle.std.proofs.Common.{sym, ap, ap₂, subst, ◌∙◌, arith, ne_eqb}
use Rattle.journal_builder.specs.build_state.State.{judged_from, ends_short, Built}
use Rattle.journal_builder.specs.declared.build_state.Build.{Build}
use Rattle.journal_builder.specs.declared.open_levels.Level.{Level}
use Rattle.journal_lexer.specs.declared.state.Mode.{Mode as CodeMode}
use Rattle.journal_lexer.specs.declared.state.Places.{Places}
use Rattle.journal_lexer.specs.run_laws.Findings.{is_early, findings_key, FindingsPlaced}
use Rattle.journal_reader.specs.findings.Endings.{is_cut}
use Rattle.journal_reader.specs.state.Reading.{foreign_key, ForeignCell}
use Rattle.journal_spec.specs.Builder.{Open, Building}
use Rattle.journal_spec.specs.Reading.{Machine}
use Rattle.schema_spec.specs.Schemas.{Schema}
use Rattle.text.specs.fault_keys.KeyLaws.{least-bound}
use Rattle.text.specs.fault_keys.Keys.{no_key, place_limit, least_key, noted_key, Placed}
use Rattle.text_spec.specs.Lists.{is_empty, list_of}
use Rattle.text_spec.specs.Refusals.{all_at, misspelt}
use Rattle.token_spec.specs.Lexer.{misspelt_at}

-- a place, if it is noted, is that of refusal 3
abbrev pub foreign_noted : Option ℕ → ℕ → ℕ
foreign_noted None key = key
foreign_noted (Some x) key = noted_key true 3 x key

-- the least key of 12 at the end, 11 at a place, 3 at a place, and what the builder found
abbrev pub found_key : Places → CodeMode → Build → ℕ → ℕ
found_key p mode m n = foreign_noted p.foreign_at (noted_key (is_cut mode) 11 p.at (noted_key (ends_short m) 12 n m.fault))

early-test : {s : Schema} {levels : List Level} {m : Build} {c : Building} → Built s levels m c → ends_short m ≡ is_early c
early-test {m = m} {c = c} w =
    sym
    (rw (w.judged, w.rooted, ← w.count) (open-test c.opens w.depth))
  where
    open-test : (os : List Open) → m.depth ≡ length os
        → (leb judged_from m.fault && (not (is_empty os) || not (not (eqb m.count 0)))) ≡ ends_short m
    open-test [] e = rw e (pick (leb judged_from m.fault) (eqb m.count 0))
      where
        pick : (a b : Bool) → (a && (false || not (not b))) ≡ (a && (false || b))
        pick a true = refl
        pick a false = refl
    open-test (o ∷ os) e = rw (ne_eqb m.depth 0 (λ z. omega arith)) refl

noted-bound : (t : Bool) (number place key : ℕ) → key ≤ no_key → noted_key t number place key ≤ no_key
noted-bound true number place key h = omega arith
noted-bound false number place key h = h

foreign-least : (x : Option ℕ) (key : ℕ) → key ≤ no_key → min (foreign_key x) key ≡ foreign_noted x key
foreign-least None key h = omega arith
foreign-least (Some x) key h = refl

misspelt-noted : (t : Bool) (x key : ℕ) → key ≤ no_key → min (least_key (all_at misspelt (cond t (x ∷ []) []))) key ≡ noted_key t 11 x key
misspelt-noted true x key h = omega arith
misspelt-noted false x key h = omega arith

pub found-key-is : {s : Schema} {levels : List Level} {y : Build} {c : Building} (p : Places) (mode : CodeMode) (m : Machine) → Built s levels y c
    → ForeignCell p.foreign_at m.place m.foreign → misspelt_at m.mode ≡ cond (is_cut mode) (p.at ∷ []) []
    → found_key p mode y m.place ≡ findings_key m c
found-key-is {y = y} {c = c} p mode m w f g =
    let early = noted_key (ends_short y) 12 m.place y.fault in
    let low : y.fault ≤ no_key = subst (λ (k : ℕ). k ≤ no_key) (sym w.fault) (least-bound (list_of c.broken ++ c.faults)) in
    let low-early : early ≤ no_key = noted-bound (ends_short y) 12 m.place y.fault low in
    let low-tags : noted_key (is_cut mode) 11 p.at early ≤ no_key = noted-bound (is_cut mode) 11 (p.at) early low-early in
    sym
    (ap₂ min f.key
    (ap₂ min (ap (λ (ks : List ℕ). least_key (all_at misspelt ks)) g)
    (ap₂ (λ (t : Bool) (k : ℕ). noted_key t 12 m.place k) (sym (early-test w)) (sym w.fault)))
    ∙ ap (min (foreign_key p.foreign_at)) (misspelt-noted (is_cut mode) p.at early low-early)
    ∙ foreign-least p.foreign_at (noted_key (is_cut mode) 11 p.at early) low-tags)

-- every place of the findings is one of a text
pub found-placed : {s : Schema} {levels : List Level} {y : Build} {c : Building} (p : Places) (mode : CodeMode) (m : Machine) → Built s levels y c
    → ForeignCell p.foreign_at m.place m.foreign → misspelt_at m.mode ≡ cond (is_cut mode) (p.at ∷ []) [] → m.place < place_limit → p.at < place_limit
    → FindingsPlaced m c
found-placed p mode m w f g l k =
    record { foreign = f.placed; tags = subst (λ (ks : List ℕ). Placed (all_at misspelt ks)) (sym g) (pick (is_cut mode)); end = l; built = w.placed }
  where
    pick : (t : Bool) → Placed (all_at misspelt (cond t (p.at ∷ []) []))
    pick true = (k, tt)
    pick false = tt
