-- Laws of the first of some names that is a given one: it has an index exactly if it is among them.
use Rattle.std.specs.Prelude.{Bool, true, false, cond, ◌||◌, List, [], ◌∷◌, map, ◌≡◌, refl, ℕ, suc, ◌+◌, ◌≤◌, ◌<◌, length}
use Rattle.std.proofs.Math.Option.{Option, none, some}
use Rattle.std.proofs.Common.{sym, ap, arith}
use Rattle.std.proofs.lemmas.List.{length-map}
use Rattle.schema_spec.specs.Schemas.{index_from}
use Rattle.text_laws.specs.Tests.{never}
use Rattle.text_spec.specs.Lists.{any_of, value_or, same_bytes}
use Rattle.text_spec.specs.Scans.{name_at}

pub found-among : (k : ℕ) (n : List ℕ) (ns : List (List ℕ)) {r : ℕ} → some r ≡ index_from k n ns → any_of (same_bytes n) ns ≡ true
found-among k n [] e = never (cc)
found-among k n (m ∷ ns) {r} e = pick (same_bytes n m) e (λ f. found-among (suc k) n ns f)
  where
    pick : (t : Bool) → some r ≡ cond t (some k) (index_from (suc k) n ns) → (some r ≡ index_from (suc k) n ns → any_of (same_bytes n) ns ≡ true) → (t || any_of (same_bytes n) ns) ≡ true
    pick true e h = refl
    pick false e h = h e

pub none-among : (k : ℕ) (n : List ℕ) (ns : List (List ℕ)) → none ≡ index_from k n ns → any_of (same_bytes n) ns ≡ false
none-among k n [] e = refl
none-among k n (m ∷ ns) e = pick (same_bytes n m) e (λ f. none-among (suc k) n ns f)
  where
    pick : (t : Bool) → none ≡ cond t (some k) (index_from (suc k) n ns) → (none ≡ index_from (suc k) n ns → any_of (same_bytes n) ns ≡ false) → (t || any_of (same_bytes n) ns) ≡ false
    pick true e h = never (cc)
    pick false e h = h e

-- ---- where no index is answered by the number of names
-- an index below m where the name is among the others, and none where it is not
data Sought (m : ℕ) : Option ℕ → Bool → Type 0 where
  nowhere : Sought m none false
  somewhere : (j : ℕ) → j < m → Sought m (some j) true

sought : (k : ℕ) (n : List ℕ) (ns : List (List ℕ)) → Sought (k + length ns) (index_from k n ns) (any_of (same_bytes n) ns)
sought k n [] = nowhere
sought k n (m ∷ ns) = go (same_bytes n m) (sought (suc k) n ns)
  where
    go : (t : Bool) → Sought (suc k + length ns) (index_from (suc k) n ns) (any_of (same_bytes n) ns)
        → Sought (k + suc (length ns)) (cond t (some k) (index_from (suc k) n ns)) (t || any_of (same_bytes n) ns)
    go true v = somewhere k (omega arith)
    go false v = let e : suc k + length ns ≡ k + suc (length ns) = omega arith in rw e at v

-- what an answer says: an index, or the number of names
module _ (s ps n : List ℕ) {r : ℕ} (e : r ≡ value_or (length ps) (index_from 0 n (map (name_at s) ps))) where
  pub found-one : r < length ps → (index_from 0 n (map (name_at s) ps) ≡ some r) × (any_of (same_bytes n) (map (name_at s) ps) ≡ true)
  found-one h = go (sought 0 n (map (name_at s) ps)) e
    where
      go : {o : Option ℕ} {t : Bool} → Sought (0 + length (map (name_at s) ps)) o t → r ≡ value_or (length ps) o → (o ≡ some r) × (t ≡ true)
      go nowhere f = absurd (omega arith)
      go (somewhere j l) f = (ap some (sym f), refl)

  pub found_none : length ps ≤ r → (index_from 0 n (map (name_at s) ps) ≡ none) × (any_of (same_bytes n) (map (name_at s) ps) ≡ false)
  found_none h = go (sought 0 n (map (name_at s) ps)) e
    where
      go : {o : Option ℕ} {t : Bool} → Sought (0 + length (map (name_at s) ps)) o t → r ≡ value_or (length ps) o → (o ≡ none) × (t ≡ false)
      go nowhere f = (refl, refl)
      go (somewhere j l) f = absurd (omega (arith, length-map ps (name_at s)))
