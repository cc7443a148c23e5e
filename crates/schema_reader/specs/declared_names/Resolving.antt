-- Laws of names resolved to elements: one after the other, and as the schema has them.
use Rattle.std.specs.Prelude.{Bool, true, false, cond, ◌||◌, ◌≡◌, refl, ℕ, zero, suc, ◌+◌, ◌≤◌, ◌<◌, T, length, drop, get_or, set, Ok, Err}
use mathlib.Core.List.Memᴰ.{head as here}
use mathlib.Core.List.Memᴰ.{tail as there}
use mathlib.Core.List.{List, [], ◌∷◌, ◌++◌, map, map-append, Memᴰ as In}
use Rattle.std.proofs.Math.Option.{none, some}
use Rattle.std.proofs.Common.{sym, ap, ap₂, ◌∙◌, arith, length-set, ext_get_or}
use Rattle.std.proofs.lemmas.List.{length-map}
use Rattle.std.proofs.Math.Seq.{take-length}
use Rattle.schema.specs.Judging.{used_in}
use Rattle.schema.specs.particles.Readings.{use_at}
use Rattle.schema_laws.specs.Accepted.{index_in, uses_in-rename, declared-use}
use Rattle.schema_reader.specs.declared_names.Names.{names_before, missing_at, element_at, Resolved}
use Rattle.schema_reader.specs.declared_names.Naming.{among-found, among_none, missing-here, missing-later, missing-never}
use Rattle.schema_spec.specs.Declarations.{Use, Declaration}
use Rattle.schema_spec.specs.Reading.{uses_of, undeclared_places}
use Rattle.schema_spec.specs.Schemas.{index_from, declared_names, resolved, schema_of}
use Rattle.text_laws.specs.Lists.{gather-in}
use Rattle.text_laws.specs.Loops.{Passed, passed_first, passed-next}
use Rattle.text_spec.specs.Lists.{any_of, gather, first, value_or, same_bytes}
use Rattle.text_spec.specs.Scans.{name_at}

-- ---- one by one
get_d-map-within : {A B : Type 0} (f : A → B) (xs : List A) (j : ℕ) (d : A) (e : B) → j < length xs → get_or (map f xs) j e ≡ f (get_or xs j d)
get_d-map-within f [] j d e h = absurd (omega arith)
get_d-map-within f (x ∷ xs) zero d e h = refl
get_d-map-within f (x ∷ xs) (suc j) d e h = get_d-map-within f xs j d e (omega arith)

module _ (s names uses : List ℕ) where
  abbrev declared : List (List ℕ)
  declared = names_before s names (length names)

  -- x is the element whose name stands at the j-th place
  abbrev pub ElementOf : ℕ → ℕ → Type 0
  ElementOf j x = x ≡ element_at s names (get_or uses j 0)

  -- the first i names are declared and resolved
  pub record ResolvedBefore (i : ℕ) (now : List ℕ) : Type 0 where
    pub few : i ≤ length uses
    pub long : length now ≡ length uses
    pub missing : missing_at s declared uses ≡ missing_at s declared (drop i uses)
    pub passed : Passed ElementOf 0 uses i now

  pub resolved-first : ResolvedBefore 0 uses
  resolved-first = record { few = omega arith; long = refl; missing = refl; passed = passed_first ElementOf 0 uses }

  module _ (i : ℕ) (now : List ℕ) (inside : i < length now) (R : ResolvedBefore i now) where
    within : i < length uses
    within =
        let l = R.long in
        omega arith

    same : get_or now i 0 ≡ get_or uses i 0
    same = R.passed.kept i (omega arith)

    pub resolved-stops : none ≡ index_from 0 (name_at s (get_or now i 0)) (map (name_at s) names) → Resolved s names uses now (Err (get_or now i 0))
    resolved-stops found =
        let absent = among_none s names names (length names) (get_or uses i 0) (omega arith) (sym (take-length names)) (found ∙ ap (λ (p : ℕ). index_from 0 (name_at s p) (map (name_at s) names)) same) in
        record { long = R.long; says = ap some same ∙ sym (ap first (R.missing ∙ missing-here s declared uses i within absent)) }

    pub resolved-next : {e : ℕ} → some e ≡ index_from 0 (name_at s (get_or now i 0)) (map (name_at s) names) → ResolvedBefore (i + 1) (set now i e)
    resolved-next {e} found =
        let sought = found ∙ ap (λ (p : ℕ). index_from 0 (name_at s p) (map (name_at s) names)) same in
        let present = among-found s names names (length names) (get_or uses i 0) (omega arith) (sym (take-length names)) sought in
        let w = within in
        record {
          few = omega arith;
          long = length-set now i e ∙ R.long;
          missing = R.missing ∙ missing-later s declared uses i within present;
          passed = passed-next ElementOf 0 uses i now e inside R.passed (ap (value_or (length names)) sought);
        }

  pub resolved-all : (i : ℕ) (now : List ℕ) → length now ≤ i → ResolvedBefore i now → Resolved s names uses now (Ok tt)
  resolved-all i now past R =
      let l = R.long in
      record {
        long = l;
        says = (
          R.missing ∙ missing-never s declared uses i (omega arith),
          ext_get_or 0 now (map (element_at s names) uses) (l ∙ sym (length-map uses (element_at s names)))
              (λ j h. R.passed.done j (omega arith) ∙ sym (get_d-map-within (element_at s names) uses j 0 0 (omega arith))),
        );
      }

-- ---- as the schema has them
-- a declared name has the same index whatever stands for undeclared names
index_same : (c d : ℕ) (n : List ℕ) (ns : List (List ℕ)) (k : ℕ) → T (any_of (same_bytes n) ns) → value_or c (index_from k n ns) ≡ value_or d (index_from k n ns)
index_same c d n [] k t = absurd t
index_same c d n (m ∷ ns) k t = pick (same_bytes n m) t (index_same c d n ns (suc k))
  where
    pick : (b : Bool) → T (b || any_of (same_bytes n) ns) → (T (any_of (same_bytes n) ns) → value_or c (index_from (suc k) n ns) ≡ value_or d (index_from (suc k) n ns))
        → value_or c (cond b (some k) (index_from (suc k) n ns)) ≡ value_or d (cond b (some k) (index_from (suc k) n ns))
    pick true u r = refl
    pick false u r = r u

-- the elements at the places of names are the indexes of those names, if all are declared
indexes : (s names : List ℕ) (ns : List (List ℕ)) → map (name_at s) names ≡ ns → (places : List ℕ)
    → ((u : Use) → In u (map (use_at s) places) → T (any_of (same_bytes u.name) ns)) → map (element_at s names) places ≡ map (index_in ns) (map (use_at s) places)
indexes s names ns e [] h = refl
indexes s names ns e (p ∷ ps) h =
    ap₂ (λ (x : ℕ) (xs : List ℕ). x ∷ xs)
    (ap (λ (ms : List (List ℕ)). value_or (length names) (index_from 0 (name_at s p) ms)) e ∙ index_same (length names) 0 (name_at s p) ns 0 (h (use_at s p) (here refl)))
    (indexes s names ns e ps (λ u i. h u (there i)))

used-indexes : (ns : List (List ℕ)) (ds : List Declaration) → map (index_in ns) (gather uses_of ds) ≡ used_in (map (resolved ns) ds)
used-indexes ns [] = refl
used-indexes ns (d ∷ ds) =
    map-append (index_in ns) (uses_of d) (gather uses_of ds) ∙ ap₂ (λ (x y : List ℕ). x ++ y) (sym (uses_in-rename (index_in ns) d.content)) (used-indexes ns ds)

-- the names that declarations use, by their places, are the elements that the models of their schema use
pub used-elements : (s names uses : List ℕ) (ds : List Declaration) → map (name_at s) names ≡ declared_names ds → gather uses_of ds ≡ map (use_at s) uses → undeclared_places ds ≡ []
    → map (element_at s names) uses ≡ used_in (schema_of ds)
unfolding schema_of
used-elements s names uses ds n u e =
    indexes s names (declared_names ds) n uses (λ v i. known v (rw (sym u) at i)) ∙ ap (map (index_in (declared_names ds))) (sym u) ∙ used-indexes (declared_names ds) ds
  where
    known : (v : Use) → In v (gather uses_of ds) → T (any_of (same_bytes v.name) (declared_names ds))
    known v i =
        let w = gather-in uses_of ds i in
        declared-use ds e w.0 v w.1 w.2
