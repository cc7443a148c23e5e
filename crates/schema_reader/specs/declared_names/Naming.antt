-- Laws of names by their places: sought among others, declared twice, not declared.
use Rattle.std.specs.Prelude.{Bool, true, false, cond, not, ◌||◌, List, [], ◌∷◌, ◌++◌, map, ◌≡◌, refl, ℕ, zero, suc, ◌+◌, ◌≤◌, ◌<◌, length, drop, take, get_or, Option, Some, None, is_some}
use Rattle.std.proofs.lemmas.List.{map-append}
use Rattle.std.proofs.Common.{sym, ap, ◌∙◌, add-one, arith, drop_of_length-le, drop-cons, take-suc}
use Rattle.std.proofs.Math.Option.{none, some}
use Rattle.std.proofs.Math.Seq.{take-length}
use Rattle.schema.specs.declarations.DeclarationLaws.{declared-names}
use Rattle.schema.specs.particles.Readings.{use_at}
use Rattle.schema_reader.specs.declared_names.Names.{names_before, is_among, twice_at, missing_at}
use Rattle.schema_spec.specs.Declarations.{Use, Declaration}
use Rattle.schema_spec.specs.Reading.{uses_of, twice_places, undeclared_places}
use Rattle.schema_spec.specs.Schemas.{index_from, declared_names}
use Rattle.text.specs.lookup.Lookup.{found}
use Rattle.text.specs.lookup.NameLaws.{found-among, none-among}
use Rattle.text_laws.specs.Tests.{never, cond_yes as yes, cond_no as no}
use Rattle.text_spec.specs.Lists.{any_of, filter_by, gather, first, same_bytes}
use Rattle.text_spec.specs.Scans.{name_at}

-- ---- a name among others
any_append : {A : Type 0} (f : A → Bool) (xs : List A) (y : A) → any_of f (xs ++ (y ∷ [])) ≡ (f y || any_of f xs)
any_append f [] y = refl
any_append f (x ∷ xs) y = ap (λ (t : Bool). f x || t) (any_append f xs y) ∙ swap (f x) (f y) (any_of f xs)
  where
    swap : (a b c : Bool) → (a || (b || c)) ≡ (b || (a || c))
    swap true true c = refl
    swap true false c = refl
    swap false b c = refl

-- the order in which names are sought does not matter
any-before : (f : List ℕ → Bool) (s ps : List ℕ) (k : ℕ) → k ≤ length ps → any_of f (map (name_at s) (take k ps)) ≡ any_of f (names_before s ps k)
any-before f s ps zero h = refl
any-before f s ps (suc k) h =
    ap (λ (l : List ℕ). any_of f (map (name_at s) l)) (take-suc ps k 0 (omega arith)) ∙ ap (any_of f) (map-append (name_at s) (take k ps) (get_or ps k 0 ∷ []))
    ∙ any_append f (map (name_at s) (take k ps)) (name_at s (get_or ps k 0)) ∙ ap (λ (t : Bool). f (name_at s (get_or ps k 0)) || t) (any-before f s ps k (omega arith))

-- what a search of the first k names says
module _ (s ps qs : List ℕ) (k p : ℕ) (h : k ≤ length ps) (q : qs ≡ take k ps) where
  among : any_of (same_bytes (name_at s p)) (map (name_at s) qs) ≡ is_among s (names_before s ps k) p
  among = ap (λ (l : List ℕ). any_of (same_bytes (name_at s p)) (map (name_at s) l)) q ∙ any-before (same_bytes (name_at s p)) s ps k h

  pub among-found : {r : ℕ} → some r ≡ index_from 0 (name_at s p) (map (name_at s) qs) → is_among s (names_before s ps k) p ≡ true
  among-found e = sym among ∙ found-among 0 (name_at s p) (map (name_at s) qs) e

  pub among_none : none ≡ index_from 0 (name_at s p) (map (name_at s) qs) → is_among s (names_before s ps k) p ≡ false
  among_none e = sym among ∙ none-among 0 (name_at s p) (map (name_at s) qs) e

  pub among-by : (o : Option ℕ) → found o ≡ index_from 0 (name_at s p) (map (name_at s) qs) → is_some o ≡ is_among s (names_before s ps k) p
  among-by None e = sym (among_none e)
  among-by (Some r) e = sym (among-found e)

-- ---- the first name declared before, the first not declared
module _ (s ps : List ℕ) (i : ℕ) where
  twice-cons : i < length ps → twice_at s (names_before s ps i) (drop i ps) ≡ cond (is_among s (names_before s ps i) (get_or ps i 0)) (get_or ps i 0 ∷ twice_at s (names_before s ps (suc i)) (drop (suc i) ps)) (twice_at s (names_before s ps (suc i)) (drop (suc i) ps))
  twice-cons h = ap (twice_at s (names_before s ps i)) (drop-cons ps i 0 h)

  pub twice-here : i < length ps → is_among s (names_before s ps i) (get_or ps i 0) ≡ true → first (twice_at s (names_before s ps i) (drop i ps)) ≡ some (get_or ps i 0)
  twice-here h e = ap first (twice-cons h ∙ yes (get_or ps i 0 ∷ twice_at s (names_before s ps (suc i)) (drop (suc i) ps)) _ e)

  pub twice-later : i < length ps → is_among s (names_before s ps i) (get_or ps i 0) ≡ false
      → first (twice_at s (names_before s ps i) (drop i ps)) ≡ first (twice_at s (names_before s ps (i + 1)) (drop (i + 1) ps))
  twice-later h e = ap first (twice-cons h ∙ no (get_or ps i 0 ∷ twice_at s (names_before s ps (suc i)) (drop (suc i) ps)) _ e) ∙ rw (add-one i)

  pub twice-never : length ps ≤ i → first (twice_at s (names_before s ps i) (drop i ps)) ≡ none
  twice-never h = ap (λ (l : List ℕ). first (twice_at s (names_before s ps i) l)) (drop_of_length-le ps h)

module _ (s : List ℕ) (ns : List (List ℕ)) (ps : List ℕ) (i : ℕ) where
  missing-cons : i < length ps → missing_at s ns (drop i ps) ≡ cond (not (is_among s ns (get_or ps i 0))) (get_or ps i 0 ∷ missing_at s ns (drop (suc i) ps)) (missing_at s ns (drop (suc i) ps))
  missing-cons h = ap (missing_at s ns) (drop-cons ps i 0 h)

  pub missing-here : i < length ps → is_among s ns (get_or ps i 0) ≡ false → missing_at s ns (drop i ps) ≡ get_or ps i 0 ∷ missing_at s ns (drop (suc i) ps)
  missing-here h e = missing-cons h ∙ yes (get_or ps i 0 ∷ missing_at s ns (drop (suc i) ps)) _ (ap not e)

  pub missing-later : i < length ps → is_among s ns (get_or ps i 0) ≡ true → missing_at s ns (drop i ps) ≡ missing_at s ns (drop (i + 1) ps)
  missing-later h e = missing-cons h ∙ no (get_or ps i 0 ∷ missing_at s ns (drop (suc i) ps)) _ (ap not e) ∙ rw (add-one i)

  pub missing-never : length ps ≤ i → missing_at s ns (drop i ps) ≡ []
  missing-never h = ap (missing_at s ns) (drop_of_length-le ps h)

-- ---- against the definitions
pub twice-places : (s : List ℕ) (ns : List (List ℕ)) (ds : List Declaration) (ps : List ℕ) → map (λ e. e.name) ds ≡ map (use_at s) ps → twice_places ns ds ≡ twice_at s ns ps
twice-places s ns [] [] e = refl
twice-places s ns [] (p ∷ ps) e = never cc
twice-places s ns (d ∷ ds) [] e = never cc
twice-places s ns (d ∷ ds) (p ∷ ps) e =
    let h : d.name ≡ use_at s p = cc in
    let t : map (λ e. e.name) ds ≡ map (use_at s) ps = cc in
    ap (λ (u : Use). cond (any_of (same_bytes u.name) ns) (u.place ∷ twice_places (u.name ∷ ns) ds) (twice_places (u.name ∷ ns) ds)) h
    ∙ ap (λ (l : List ℕ). cond (is_among s ns p) (p ∷ l) l) (twice-places s (name_at s p ∷ ns) ds ps t)

missing-by : (s : List ℕ) (f : List ℕ → Bool) (g : ℕ → Bool) → ((p : ℕ) → f (name_at s p) ≡ g p) → (ps : List ℕ) → map (λ u. u.place) (filter_by (λ u. f u.name) (map (use_at s) ps)) ≡ filter_by g ps
missing-by s f g h [] = refl
missing-by s f g h (p ∷ ps) =
    ap (λ (t : Bool). map (λ u. u.place) (cond t (use_at s p ∷ filter_by (λ u. f u.name) (map (use_at s) ps)) (filter_by (λ u. f u.name) (map (use_at s) ps)))) (h p)
    ∙ go (g p) ∙ ap (λ (l : List ℕ). cond (g p) (p ∷ l) l) (missing-by s f g h ps)
  where
    rest : List Use
    rest = filter_by (λ u. f u.name) (map (use_at s) ps)

    go : (t : Bool) → map (λ u. u.place) (cond t (use_at s p ∷ rest) rest) ≡ cond t (p ∷ map (λ u. u.place) rest) (map (λ u. u.place) rest)
    go true = refl
    go false = refl

pub undeclared-places : (s : List ℕ) (ds : List Declaration) (ns ps : List ℕ) → map (λ e. e.name) ds ≡ map (use_at s) ns → gather uses_of ds ≡ map (use_at s) ps
    → undeclared_places ds ≡ missing_at s (names_before s ns (length ns)) ps
undeclared-places s ds ns ps d u =
    ap (λ (us : List Use). map (λ u. u.place) (filter_by (λ u. not (any_of (same_bytes u.name) (declared_names ds))) us)) u
    ∙ missing-by s (λ n. not (any_of (same_bytes n) (declared_names ds))) (λ p. not (is_among s (names_before s ns (length ns)) p))
    (λ p. ap not (ap (any_of (same_bytes (name_at s p))) (declared-names s ds ns d ∙ ap (map (name_at s)) (sym (take-length ns))) ∙ any-before (same_bytes (name_at s p)) s ns (length ns) (omega arith))) ps
