-- Fields by their places are the items of the extract.
use Rattle.std.specs.Prelude.{Bool, true, false, ◌≡◌, eqb, get_or}
use Rattle.std.proofs.Math.Bool.{cond, ◌&&◌}
use mathlib.Core.List.{List, [], ◌∷◌}
use Rattle.std.proofs.Common.{⊎_elim, sym, ◌∙◌, le-leb, eq-eqb, ne_eqb, length-take, drop-cons}
use Rattle.std.proofs.Math.Option.{Option, none}
use Rattle.std.proofs.Math.Path.{refl, ap, ap₂}
use Prim.Native.Nat.{ℕ, zero, suc, ◌+◌, ◌-◌, ◌≤◌, ◌<◌}
use native.Mathlib.Omega.{arith}
use Rattle.std.proofs.lemmas.Bool.{lt-leb}
use Rattle.std.proofs.Math.Dec.{leb}
use Rattle.std.proofs.Math.ListN.{length, take, drop, length-drop}
use Rattle.std.proofs.Math.Seq.{drop-drop}
use Rattle.extract_spec.specs.Fields.{element_tag, text_tag, count_tag}
use Rattle.extract_spec.specs.Reading.{Item, element_item, text_item, count_item, no_item, in_two, element_value, text_value, count_value, item_of, items_from, items_of, cons_row}
use Rattle.projection_laws.specs.extract_passes.Steps.{State, Step, wrong, ended, onward, continued, later_step, root_step, size_at, past_field, has_field, item_at, is_last, step_at, first_step, rows_from, rows_in, later_items, table_items}
use Rattle.schema_spec.specs.Types.{Types}
use Rattle.table_spec.specs.Rows.{Row}
use Rattle.text_laws.specs.Searches.{below-or-past}
use Rattle.text_laws.specs.Tests.{cond_yes, cond_no}
use Rattle.text_spec.specs.Lists.{is_empty, part}

-- items and what they start from, as the first field says
pub data Cut (bs : List ℕ) (fuel k : ℕ) : List Item → Type 0 where
  nothing_left : length bs ≤ k → Cut bs fuel k []
  cut_short : k < length bs → has_field bs k ≡ false → Cut bs fuel k (no_item ∷ [])
  whole-field : has_field bs k ≡ true → past_field bs k ≤ length bs → k + 3 ≤ length bs
      → Cut bs fuel k (item_at bs k ∷ items_from fuel (past_field bs k) (drop (past_field bs k) bs))

module _ (bs : List ℕ) where
  pub no_field : (k : ℕ) → length bs < k + 3 → has_field bs k ≡ false
  unfolding has_field
  no_field k l = ap (λ (b : Bool). b && leb (past_field bs k) (length bs)) (lt-leb (k + 3) (length bs) l)

  pub broken-field : (k : ℕ) → k + 3 ≤ length bs → length bs < past_field bs k → has_field bs k ≡ false
  unfolding has_field
  broken-field k l m = ap₂ ◌&&◌ (le-leb (k + 3) (length bs) l) (lt-leb (past_field bs k) (length bs) m)

  pub good-field : (k : ℕ) → k + 3 ≤ length bs → past_field bs k ≤ length bs → has_field bs k ≡ true
  unfolding has_field
  good-field k l m = ap₂ ◌&&◌ (le-leb (k + 3) (length bs) l) (le-leb (past_field bs k) (length bs) m)

  -- three bytes are left at least
  module _ (fuel k t h w : ℕ) (r : List ℕ) (e : drop k bs ≡ t ∷ h ∷ w ∷ r) where
    long : k + 3 ≤ length bs
    long = omega (arith, ap length e, length-drop k bs)

    first : drop k bs ≡ get_or bs k 0 ∷ get_or bs (k + 1) 0 ∷ get_or bs (k + 2) 0 ∷ drop (k + 3) bs
    first =
        let a : suc k ≡ k + 1 = omega arith in
        let b : suc (k + 1) ≡ k + 2 = omega arith in
        let c : suc (k + 2) ≡ k + 3 = omega arith in
        let l = long in
        drop-cons bs k 0 (omega arith)
        ∙ ap (λ (x : List ℕ). get_or bs k 0 ∷ x) (ap (λ (i : ℕ). drop i bs) a ∙ drop-cons bs (k + 1) 0 (omega arith)
        ∙ ap (λ (x : List ℕ). get_or bs (k + 1) 0 ∷ x) (ap (λ (i : ℕ). drop i bs) b ∙ drop-cons bs (k + 2) 0 (omega arith)
        ∙ ap (λ (i : ℕ). get_or bs (k + 2) 0 ∷ drop i bs) c))

    size_is : in_two h w ≡ size_at bs k
    size_is =
        let same : t ∷ h ∷ w ∷ r ≡ get_or bs k 0 ∷ get_or bs (k + 1) 0 ∷ get_or bs (k + 2) 0 ∷ drop (k + 3) bs = sym e ∙ first in
        let p : h ≡ get_or bs (k + 1) 0 = cc in
        let q : w ≡ get_or bs (k + 2) 0 = cc in
        ap₂ in_two p q

    rest-is : r ≡ drop (k + 3) bs
    rest-is = let same : t ∷ h ∷ w ∷ r ≡ get_or bs k 0 ∷ get_or bs (k + 1) 0 ∷ get_or bs (k + 2) 0 ∷ drop (k + 3) bs = sym e ∙ first in cc

    tag_is : t ≡ get_or bs k 0
    tag_is = let same : t ∷ h ∷ w ∷ r ≡ get_or bs k 0 ∷ get_or bs (k + 1) 0 ∷ get_or bs (k + 2) 0 ∷ drop (k + 3) bs = sym e ∙ first in cc

    later-is : item_of t (k + 3) (take (in_two h w) r) ∷ items_from fuel (k + 3 + in_two h w) (drop (in_two h w) r)
        ≡ item_at bs k ∷ items_from fuel (past_field bs k) (drop (past_field bs k) bs)
    unfolding item_at
    later-is =
        ap₂ (λ (i : Item) (x : List Item). i ∷ x)
        (ap₂ (λ (x : ℕ) (v : List ℕ). item_of x (k + 3) v) tag_is (ap₂ (λ (i : ℕ) (x : List ℕ). take i x) size_is rest-is))
        (ap₂ (λ (i : ℕ) (x : List ℕ). items_from fuel (k + 3 + i) x) size_is
        (ap₂ (λ (i : ℕ) (x : List ℕ). drop i x) size_is rest-is ∙ drop-drop (size_at bs k) (k + 3) bs))

    rest-long : length r ≡ length bs - (k + 3)
    rest-long = ap length rest-is ∙ length-drop (k + 3) bs

    cut-three : Cut bs fuel k (items_from (suc fuel) k (t ∷ h ∷ w ∷ r))
    cut-three =
        ⊎_elim (λ l. rw (lt-leb (in_two h w) (length r) l) (cut_short (omega (arith, long)) (broken-field k long (omega (arith, rest-long, size_is, long)))))
        (λ l. rw (le-leb (in_two h w) (length r) l, later-is)
        (whole-field (good-field k long (omega (arith, rest-long, size_is, long))) (omega (arith, rest-long, size_is, long)) long)) (below-or-past (length r) (in_two h w))

  cut-first : (fuel k : ℕ) → Cut bs fuel k (items_from (suc fuel) k (drop k bs))
  cut-first fuel k = by (drop k bs) (length-drop k bs) refl
    where
      by : (l : List ℕ) → length (drop k bs) ≡ length bs - k → drop k bs ≡ l → Cut bs fuel k (items_from (suc fuel) k l)
      by [] d e = nothing_left (omega (arith, ap length e))
      by (t ∷ []) d e = cut_short (omega (arith, ap length e)) (no_field k (omega (arith, ap length e)))
      by (t ∷ h ∷ []) d e = cut_short (omega (arith, ap length e)) (no_field k (omega (arith, ap length e)))
      by (t ∷ h ∷ w ∷ r) d e = cut-three fuel k t h w r e

  -- nothing is left exactly at the end
  none_left : (fuel k : ℕ) → k ≤ length bs → length bs - k ≤ fuel → is_empty (items_from fuel k (drop k bs)) ≡ eqb k (length bs)
  none_left zero k l m = by (drop k bs) refl
    where
      by : (x : List ℕ) → drop k bs ≡ x → is_empty (items_from zero k x) ≡ eqb k (length bs)
      by [] e = sym (eq-eqb k (length bs) (omega arith))
      by (b ∷ x) e = absurd (omega (arith, ap length e, length-drop k bs))
  none_left (suc fuel) k l m = by (cut-first fuel k)
    where
      by : {is : List Item} → Cut bs fuel k is → is_empty is ≡ eqb k (length bs)
      by (nothing_left h) = sym (eq-eqb k (length bs) (omega arith))
      by (cut_short g h) = sym (ne_eqb k (length bs) (λ e. omega arith))
      by (whole-field h a b) = sym (ne_eqb k (length bs) (λ e. omega arith))

-- steps that go on alike
continued-same : (x : Step) (f g : State → Option (List Row)) → ((st : State) → f st ≡ g st) → continued x f ≡ continued x g
continued-same wrong f g h = refl
continued-same ended f g h = refl
continued-same (onward r st) f g h = ap (cons_row r) (h st)

-- ---- the pass over places is that over items
module _ (s : Types) (bs : List ℕ) where
  pub step-wrong : (k : ℕ) (st : State) → has_field bs k ≡ false → step_at s bs k st ≡ wrong
  unfolding step_at
  step-wrong k st e = cond_no (later_step s bs st (is_last bs k) (item_at bs k)) wrong e

  pub step_right : (k : ℕ) (st : State) → has_field bs k ≡ true → step_at s bs k st ≡ later_step s bs st (is_last bs k) (item_at bs k)
  unfolding step_at
  step_right k st e = cond_yes (later_step s bs st (is_last bs k) (item_at bs k)) wrong e

  later-broken : (st : State) → none ≡ later_items s bs st (no_item ∷ [])
  unfolding later_items later_step
  later-broken st = refl

  first-broken : none ≡ table_items s bs (no_item ∷ [])
  unfolding table_items root_step
  first-broken = refl

  rows-from : (fuel k : ℕ) (st : State) → length bs - k ≤ fuel → rows_from s bs fuel k st ≡ later_items s bs st (items_from fuel k (drop k bs))
  unfolding rows_from later_items step_at
  rows-from zero k st m = by (drop k bs) refl
    where
      by : (x : List ℕ) → drop k bs ≡ x → none ≡ later_items s bs st (items_from zero k x)
      by [] e = refl
      by (b ∷ x) e = absurd (omega (arith, ap length e, length-drop k bs))
  rows-from (suc fuel) k st m = by (cut-first bs fuel k) (λ k' t h. rows-from fuel k' t h)
    where
      by : {is : List Item} → Cut bs fuel k is
          → ((k' : ℕ) (t : State) → length bs - k' ≤ fuel → rows_from s bs fuel k' t ≡ later_items s bs t (items_from fuel k' (drop k' bs)))
          → continued (step_at s bs k st) (rows_from s bs fuel (past_field bs k)) ≡ later_items s bs st is
      by (nothing_left h) rest = ap (λ (x : Step). continued x (rows_from s bs fuel (past_field bs k))) (step-wrong k st (no_field bs k (omega arith)))
      by (cut_short g h) rest = ap (λ (x : Step). continued x (rows_from s bs fuel (past_field bs k))) (step-wrong k st h) ∙ later-broken st
      by (whole-field h a b) rest =
          let k' = past_field bs k in
          let few : length bs - k' ≤ fuel = omega arith in
          let here : step_at s bs k st ≡ later_step s bs st (is_empty (items_from fuel k' (drop k' bs))) (item_at bs k) =
          cond_yes (later_step s bs st (is_last bs k) (item_at bs k)) wrong h ∙ ap (λ (l : Bool). later_step s bs st l (item_at bs k)) (sym (none_left bs fuel k' a few)) in
          ap (λ (x : Step). continued x (rows_from s bs fuel k')) here
          ∙ continued-same (later_step s bs st (is_empty (items_from fuel k' (drop k' bs))) (item_at bs k)) (rows_from s bs fuel k')
          (λ t. later_items s bs t (items_from fuel k' (drop k' bs))) (λ t. rest k' t few)

  pub rows_in_lem : rows_in s bs ≡ table_items s bs (items_of bs)
  unfolding rows_in table_items items_of first_step
  rows_in_lem = by_length (length bs) refl
    where
      by : {is : List Item} (fuel : ℕ) → length bs ≡ suc fuel → Cut bs fuel 0 is
          → continued (cond (has_field bs 0) (root_step s (is_last bs 0) (item_at bs 0)) wrong) (rows_from s bs fuel (past_field bs 0)) ≡ table_items s bs is
      by fuel l (nothing_left h) = absurd (omega arith)
      by fuel l (cut_short g h) =
          ap (λ (x : Step). continued x (rows_from s bs fuel (past_field bs 0))) (cond_no (root_step s (is_last bs 0) (item_at bs 0)) wrong h) ∙ first-broken
      by fuel l (whole-field h a b) =
          let k' = past_field bs 0 in
          let few : length bs - k' ≤ fuel = omega arith in
          let here : cond (has_field bs 0) (root_step s (is_last bs 0) (item_at bs 0)) wrong ≡ root_step s (is_empty (items_from fuel k' (drop k' bs))) (item_at bs 0) =
          cond_yes (root_step s (is_last bs 0) (item_at bs 0)) wrong h ∙ ap (λ (l : Bool). root_step s l (item_at bs 0)) (sym (none_left bs fuel k' a few)) in
          ap (λ (x : Step). continued x (rows_from s bs fuel k')) here
          ∙ continued-same (root_step s (is_empty (items_from fuel k' (drop k' bs))) (item_at bs 0)) (rows_from s bs fuel k')
          (λ t. later_items s bs t (items_from fuel k' (drop k' bs))) (λ t. rows-from fuel k' t few)

      by_length : (n : ℕ) → length bs ≡ n → continued (cond (has_field bs 0) (root_step s (is_last bs 0) (item_at bs 0)) wrong) (rows_from s bs (n - 1) (past_field bs 0))
          ≡ table_items s bs (items_from n 0 bs)
      by_length zero l =
          ap (λ (x : Step). continued x (rows_from s bs 0 (past_field bs 0)))
          (cond_no (root_step s (is_last bs 0) (item_at bs 0)) wrong (no_field bs 0 (omega arith))) ∙ nothing bs l
        where
          nothing : (x : List ℕ) → length x ≡ 0 → none ≡ table_items s bs (items_from zero 0 x)
          nothing [] e = refl
          nothing (b ∷ x) e = absurd (omega arith)
      by_length (suc fuel) l =
          let z : suc fuel - 1 ≡ fuel = omega arith in
          ap (λ (n : ℕ). continued (cond (has_field bs 0) (root_step s (is_last bs 0) (item_at bs 0)) wrong) (rows_from s bs n (past_field bs 0))) z ∙ by fuel l (cut-first bs fuel 0)

-- ---- texts lie inside the extract
abbrev pub Within : List ℕ → Item → Type 0
Within bs no_item = Unit
Within bs (count_item n) = Unit
Within bs (element_item number parent e) = Unit
Within bs (text_item number parent start size) = start + size ≤ length bs

pub data AllWithin (bs : List ℕ) : List Item → Type 0 where
  none_within : AllWithin bs []
  next-within : {i : Item} {is : List Item} → Within bs i → AllWithin bs is → AllWithin bs (i ∷ is)

module _ (bs : List ℕ) where
  item-within : (k : ℕ) → k + 3 ≤ length bs → Within bs (item_at bs k)
  unfolding item_at
  item-within k l = by-tag (eqb (get_or bs k 0) element_tag) (eqb (get_or bs k 0) text_tag) (eqb (get_or bs k 0) count_tag)
    where
      value : List ℕ
      value = part (k + 3) (size_at bs k) bs

      element : (v : List ℕ) → Within bs (element_value v)
      element [] = tt
      element (a ∷ []) = tt
      element (a ∷ b ∷ []) = tt
      element (a ∷ b ∷ c ∷ []) = tt
      element (a ∷ b ∷ c ∷ d ∷ []) = tt
      element (a ∷ b ∷ c ∷ d ∷ e ∷ []) = tt
      element (a ∷ b ∷ c ∷ d ∷ e ∷ f ∷ w) = tt

      count : (v : List ℕ) → Within bs (count_value v)
      count [] = tt
      count (a ∷ []) = tt
      count (a ∷ b ∷ []) = tt
      count (a ∷ b ∷ c ∷ w) = tt

      text : (v : List ℕ) → k + 3 + length v ≤ length bs → Within bs (text_value (k + 3) v)
      text [] h = tt
      text (a ∷ []) h = tt
      text (a ∷ b ∷ []) h = tt
      text (a ∷ b ∷ c ∷ []) h = tt
      text (a ∷ b ∷ c ∷ d ∷ w) h = omega arith

      by-tag : (x y z : Bool) → Within bs (cond x (element_value value) (cond y (text_value (k + 3) value) (cond z (count_value value) no_item)))
      by-tag true y z = element value
      by-tag false true z = text value (omega (arith, length-take (size_at bs k) (drop (k + 3) bs), length-drop (k + 3) bs))
      by-tag false false true = count value
      by-tag false false false = tt

  items-within : (fuel k : ℕ) → AllWithin bs (items_from fuel k (drop k bs))
  items-within zero k = by (drop k bs)
    where
      by : (x : List ℕ) → AllWithin bs (items_from zero k x)
      by [] = none_within
      by (b ∷ x) = next-within tt none_within
  items-within (suc fuel) k = by (cut-first bs fuel k) (items-within fuel (past_field bs k))
    where
      by : {is : List Item} → Cut bs fuel k is → AllWithin bs (items_from fuel (past_field bs k) (drop (past_field bs k) bs)) → AllWithin bs is
      by (nothing_left h) rest = none_within
      by (cut_short g h) rest = next-within tt none_within
      by (whole-field h a b) rest = next-within (item-within k b) rest

  pub all-within : AllWithin bs (items_of bs)
  unfolding items_of
  all-within = items-within (length bs) 0
