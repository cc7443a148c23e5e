-- The least key of a list is that of its first refusal, and a key tells its refusal.
use Rattle.std.specs.Prelude.{Bool, true, false, cond, ◌&&◌, ◌||◌, List, [], ◌∷◌, ◌++◌, ◌≡◌, refl, ℕ, min, ◌/◌, ◌%◌, ◌≤◌, ◌<◌, eqb, ltb}
use Rattle.std.proofs.Math.Option.{Option, none, some}
use Rattle.std.proofs.Common.{ap₂, arith, ltb-true, ltb-false, eqb-true}
use Rattle.std.proofs.lemmas.Bool.{eqb-false}
use Rattle.text_laws.specs.Order.{number-injective}
use Rattle.text_spec.specs.Refusals.{Reason, bad_record, bad_length, bad_byte, bad_schema, over_schema_limit, declared_twice, undeclared_in_model, bad_path, over_path_limit, undeclared_in_path, misspelt, bad_nesting, over_depth, undeclared_element, bad_content, over_node_limit, bad_extract, too_few_cells, number_of, Refusal, at, given, before, first_from, first_of}
use Rattle.text.specs.fault_keys.Keys.{no_key, place_limit, key_at, key_of, key_or, least_key, noted_key, Placed}

pub number_bound : (r : Reason) → number_of r ≤ 18
number_bound bad_record = omega arith
number_bound bad_length = omega arith
number_bound bad_byte = omega arith
number_bound bad_schema = omega arith
number_bound over_schema_limit = omega arith
number_bound declared_twice = omega arith
number_bound undeclared_in_model = omega arith
number_bound bad_path = omega arith
number_bound over_path_limit = omega arith
number_bound undeclared_in_path = omega arith
number_bound misspelt = omega arith
number_bound bad_nesting = omega arith
number_bound over_depth = omega arith
number_bound undeclared_element = omega arith
number_bound bad_content = omega arith
number_bound over_node_limit = omega arith
number_bound bad_extract = omega arith
number_bound too_few_cells = omega arith

-- ---- the least key is that of the first refusal
-- the earlier of two has the lesser key
module _ (f g : Refusal) (p : f.place < place_limit) (q : g.place < place_limit) where
  earlier-key : key_of (cond (before g f) g f) ≡ min (key_of f) (key_of g)
  earlier-key = pick (ltb (number_of g.reason) (number_of f.reason)) (eqb (number_of g.reason) (number_of f.reason)) (ltb g.place f.place) refl refl refl
    where
      pick : (a b c : Bool) → ltb (number_of g.reason) (number_of f.reason) ≡ a → eqb (number_of g.reason) (number_of f.reason) ≡ b → ltb g.place f.place ≡ c
          → key_of (cond (a || (b && c)) g f) ≡ min (key_of f) (key_of g)
      pick true b c x y z = let l = ltb-true (number_of g.reason) (number_of f.reason) x in omega arith
      pick false true true x y z =
          let e = eqb-true (number_of g.reason) (number_of f.reason) y in
          let l = ltb-true g.place f.place z in
          omega arith
      pick false true false x y z =
          let e = eqb-true (number_of g.reason) (number_of f.reason) y in
          let l = ltb-false g.place f.place z in
          omega arith
      pick false false c x y z =
          let l = ltb-false (number_of g.reason) (number_of f.reason) x in
          let n = eqb-false (number_of g.reason) (number_of f.reason) y in
          omega arith

  earlier-placed : (b : Bool) → (cond b g f).place < place_limit
  earlier-placed true = q
  earlier-placed false = p

from_key : (f : Refusal) (gs : List Refusal) → f.place < place_limit → Placed gs → key_of (first_from f gs) ≡ min (key_of f) (least_key gs)
from_key f [] p q = omega (arith, number_bound f.reason)
from_key f (g ∷ gs) p q =
    let i = from_key (cond (before g f) g f) gs (earlier-placed f g p q.0 (before g f)) q.1 in
    let e = earlier-key f g p q.0 in
    omega (arith, i, e)

pub first_key : (fs : List Refusal) → Placed fs → key_or (first_of fs) ≡ least_key fs
unfolding first_of
first_key [] p = refl
first_key (f ∷ fs) p = from_key f fs p.0 p.1

from-placed : (f : Refusal) (gs : List Refusal) → f.place < place_limit → Placed gs → (first_from f gs).place < place_limit
from-placed f [] p q = p
from-placed f (g ∷ gs) p q = from-placed (cond (before g f) g f) gs (earlier-placed f g p q.0 (before g f)) q.1

-- ---- lists of refusals
pub least-bound : (fs : List Refusal) → least_key fs ≤ no_key
least-bound [] = omega arith
least-bound (f ∷ fs) = omega (arith, least-bound fs)

pub least-append : (fs gs : List Refusal) → least_key (fs ++ gs) ≡ min (least_key fs) (least_key gs)
least-append [] gs = omega (arith, least-bound gs)
least-append (f ∷ fs) gs = omega (arith, least-append fs gs)

pub placed-append : (fs gs : List Refusal) → Placed fs → Placed gs → Placed (fs ++ gs)
placed-append [] gs p q = q
placed-append (f ∷ fs) gs p q = (p.0, placed-append fs gs p.1 q)

pub least-given : (b : Bool) (r : Reason) (k : ℕ) (fs : List Refusal) → least_key (given b (at r k) ++ fs) ≡ noted_key b (number_of r) k (least_key fs)
least-given true r k fs = refl
least-given false r k fs = refl

pub placed-given : (b : Bool) (r : Reason) (k : ℕ) (fs : List Refusal) → k < place_limit → Placed fs → Placed (given b (at r k) ++ fs)
placed-given true r k fs h p = (h, p)
placed-given false r k fs h p = p

-- ---- one refusal more
-- there is no refusal after it: then there was none before, and the test failed
pub noted-none : (b : Bool) (number k key : ℕ) → number ≤ 18 → k < place_limit → noted_key b number k key ≡ no_key → (b ≡ false) × (key ≡ no_key)
noted-none true number k key n p e = absurd (omega arith)
noted-none false number k key n p e = (refl, e)

-- keys from a number on stay so
pub noted-from : (from : ℕ) (b : Bool) (number k key : ℕ) → from ≤ number → key_at from 0 ≤ key → key_at from 0 ≤ noted_key b number k key
noted-from from true number k key n h = omega arith
noted-from from false number k key n h = h

-- ---- a key tells its refusal
pub key-injective : (f g : Refusal) → f.place < place_limit → g.place < place_limit → key_of f ≡ key_of g → f ≡ g
key-injective f g p q e =
    let n : number_of f.reason ≡ number_of g.reason = omega arith in
    let k : f.place ≡ g.place = omega arith in
    ap₂ at (number-injective f.reason g.reason n) k

pub key_below : (f : Refusal) → f.place < place_limit → key_of f < no_key
key_below f p = omega (arith, number_bound f.reason)

-- what the first refusal of a list is, by the least key
pub data FirstBy (key : ℕ) : Option Refusal → Type 0 where
  no-refusal : key ≡ no_key → FirstBy key none
  refusal : {f : Refusal} → key / place_limit ≡ number_of f.reason → key % place_limit ≡ f.place → key < no_key → FirstBy key (some f)

pub first-by-key : (fs : List Refusal) (key : ℕ) → Placed fs → key ≡ least_key fs → FirstBy key (first_of fs)
unfolding first_of
first-by-key [] key p e = no-refusal e
first-by-key (f ∷ fs) key p e = told (first_from f fs) (from-placed f fs p.0 p.1) (from_key f fs p.0 p.1)
  where
    told : (g : Refusal) → g.place < place_limit → key_of g ≡ least_key (f ∷ fs) → FirstBy key (some g)
    told g l q =
        let n = number_bound g.reason in
        refusal {f = g} (omega arith) (omega arith) (omega arith)
