-- An extract read and written returns its bytes.
use Rattle.std.specs.Prelude.{Bool, true, false, cond, ◌≡◌, refl, ℕ, zero, suc, ◌+◌, ◌<◌, ◌≤◌, T, eqb, leb, length, take, drop}
use mathlib.Core.List.Memᴰ.{append_left}
use mathlib.Core.List.Memᴰ.{append_right}
use mathlib.Core.List.Memᴰ.{head as here}
use mathlib.Core.List.Memᴰ.{tail as there}
use mathlib.Core.List.{List, [], ◌∷◌, ◌++◌, append_assoc, append-nil, Memᴰ as In}
use Rattle.std.proofs.Math.Option.{Option, none, some}
use Rattle.std.proofs.Common.{sym, ap, ap₂, subst, ◌∙◌, arith, eqb→eq, leb→le, length-append, take-append-drop, length-take-le}
use Rattle.std.proofs.Math.ListN.{get_elem?}
use Rattle.extract_spec.specs.Fields.{element_tag, text_tag, count_tag, two_bytes, field, number_at, field_of}
use Rattle.extract_spec.specs.Reading.{Item, element_item, text_item, count_item, no_item, in_two, element_value, text_value, count_value, item_of, items_from, Placed, open_from, top_row, top_element, cons_row, rows_of_later_items, rows_of_items}
use Rattle.projection_laws.specs.Fields.{AreBytes, two-bytes-written, text-cut}
use Rattle.projection_laws.specs.Items.{opens_after, row_at, rest_written}
use Rattle.projection_laws.specs.Opens.{placed}
use Rattle.schema_spec.specs.Names.{element, text, Name}
use Rattle.table_laws.specs.Characters.{copied-characters}
use Rattle.table_laws.specs.Places.{none-some, at_before, at-end}
use Rattle.table_spec.specs.Rows.{Row, element_row, text_row}
use Rattle.text_laws.specs.Tests.{never}
use Rattle.text_spec.specs.Lists.{gather, is_empty, part}

-- what a tag and a value say
data Says (tag place : ℕ) (value : List ℕ) : Item → Type 0 where
  an-element : {a b c d e : ℕ} → tag ≡ element_tag → value ≡ a ∷ b ∷ c ∷ d ∷ e ∷ [] → Says tag place value (element_item (in_two a b) (in_two c d) e)
  a-text : {a b c d : ℕ} (w : List ℕ) → tag ≡ text_tag → value ≡ a ∷ b ∷ c ∷ d ∷ w → Says tag place value (text_item (in_two a b) (in_two c d) (place + 4) (length w))
  a-count : {a b : ℕ} → tag ≡ count_tag → value ≡ a ∷ b ∷ [] → Says tag place value (count_item (in_two a b))
  no_field : Says tag place value no_item

says : (tag place : ℕ) (value : List ℕ) → Says tag place value (item_of tag place value)
says tag place value = by-tag (eqb tag element_tag) (eqb tag text_tag) (eqb tag count_tag) (eqb→eq tag element_tag) (eqb→eq tag text_tag) (eqb→eq tag count_tag)
  where
    element-says : tag ≡ element_tag → (v : List ℕ) → value ≡ v → Says tag place value (element_value v)
    element-says t [] q = no_field
    element-says t (a ∷ []) q = no_field
    element-says t (a ∷ b ∷ []) q = no_field
    element-says t (a ∷ b ∷ c ∷ []) q = no_field
    element-says t (a ∷ b ∷ c ∷ d ∷ []) q = no_field
    element-says t (a ∷ b ∷ c ∷ d ∷ e ∷ []) q = an-element t q
    element-says t (a ∷ b ∷ c ∷ d ∷ e ∷ f ∷ w) q = no_field

    text_says : tag ≡ text_tag → (v : List ℕ) → value ≡ v → Says tag place value (text_value place v)
    text_says t [] q = no_field
    text_says t (a ∷ []) q = no_field
    text_says t (a ∷ b ∷ []) q = no_field
    text_says t (a ∷ b ∷ c ∷ []) q = no_field
    text_says t (a ∷ b ∷ c ∷ d ∷ w) q = a-text w t q

    count-says : tag ≡ count_tag → (v : List ℕ) → value ≡ v → Says tag place value (count_value v)
    count-says t [] q = no_field
    count-says t (a ∷ []) q = no_field
    count-says t (a ∷ b ∷ []) q = a-count t q
    count-says t (a ∷ b ∷ c ∷ w) q = no_field

    by-tag : (x y z : Bool) → (T x → tag ≡ element_tag) → (T y → tag ≡ text_tag) → (T z → tag ≡ count_tag)
        → Says tag place value (cond x (element_value value) (cond y (text_value place value) (cond z (count_value value) no_item)))
    by-tag true y z f g h = element-says (f tt) value refl
    by-tag false true z f g h = text_says (g tt) value refl
    by-tag false false true f g h = count-says (h tt) value refl
    by-tag false false false f g h = no_field

-- a field is written as it was read
field-written : (tag high low : ℕ) (value : List ℕ) → high < 256 → low < 256 → length value ≡ in_two high low → field tag value ≡ tag ∷ high ∷ low ∷ value
field-written tag high low value p q e =
    ap (λ (l : List ℕ). tag ∷ (l ++ value)) (ap two_bytes e ∙ two-bytes-written high low p q)

-- a row's field is written as it was read
value-back : (tag high low a b c d parent : ℕ) (value w : List ℕ) → value ≡ a ∷ b ∷ c ∷ d ∷ w → parent ≡ in_two c d → length value ≡ in_two high low
    → AreBytes (high ∷ low ∷ value)
    → field tag (two_bytes (in_two a b) ++ (two_bytes parent ++ w)) ≡ tag ∷ high ∷ low ∷ value
value-back tag high low a b c d parent value w v p l small =
    let bytes : AreBytes (high ∷ low ∷ a ∷ b ∷ c ∷ d ∷ w) = subst (λ (x : List ℕ). AreBytes (high ∷ low ∷ x)) v small in
    let first = two-bytes-written a b (bytes a (there (there (here refl)))) (bytes b (there (there (there (here refl))))) in
    let second = two-bytes-written c d (bytes c (there (there (there (there (here refl)))))) (bytes d (there (there (there (there (there (here refl))))))) in
    ap (field tag) (ap₂ (λ (x y : List ℕ). x ++ (y ++ w)) first (ap two_bytes p ∙ second) ∙ sym v)
    ∙ field-written tag high low value (bytes high (here refl)) (bytes low (there (here refl))) l

-- the open rows stand among the rows done, each where it says and with the number that it says
abbrev Known : List Row → List Placed → Type 0
Known done os = (q : Placed) → In q os → (r : Row) × (get_elem? done q.row ≡ some r) × (r.number ≡ q.number)

open-from : (number : ℕ) (os : List Placed) (q : Placed) (qs : List Placed) → open_from number os ≡ q ∷ qs
    → (q.number ≡ number) × ((p : Placed) → In p (q ∷ qs) → In p os)
open-from number [] q qs e = never (cc)
open-from number (o ∷ os) q qs e = pick (eqb o.number number) (eqb→eq o.number number) e (open-from number os q qs)
  where
    pick : (b : Bool) → (T b → o.number ≡ number) → cond b (o ∷ os) (open_from number os) ≡ q ∷ qs
        → (open_from number os ≡ q ∷ qs → (q.number ≡ number) × ((p : Placed) → In p (q ∷ qs) → In p os))
        → (q.number ≡ number) × ((p : Placed) → In p (q ∷ qs) → In p (o ∷ os))
    pick true n u f =
        let first : o ≡ q = cc in
        (ap (λ (p : Placed). p.number) (sym first) ∙ n tt, λ p i. subst (λ (l : List Placed). In p l) (sym u) i)
    pick false n u f =
        let r = f u in
        (r.0, λ p i. there (r.1 p i))

-- what an element's or a text's field turned into: a row under an open one, whose name may be by that one, and the rows after it
record Under (name_by : Placed → Name) (k number parent size next : ℕ) (os : List Placed) (items : List Item) (rs : List Row) : Type 0 where
  pub first : Placed
  pub above : List Placed
  pub later : List Row
  pub found : open_from parent os ≡ first ∷ above
  pub made : rs ≡ row_at (name_by first) k number first.row size ∷ later
  pub read : rows_of_later_items (suc next) (opens_after (name_by first) next number (first ∷ above)) items ≡ some later

abbrev consed_under : (Placed → Name) → ℕ → ℕ → ℕ → ℕ → List Item → List Placed → Option (List Row)
consed_under name_by k number size next items [] = none
consed_under name_by k number size next items (q ∷ qs) =
    cons_row (row_at (name_by q) k number q.row size) (rows_of_later_items (suc next) (opens_after (name_by q) next number (q ∷ qs)) items)

under-read : (name_by : Placed → Name) (k number parent size next : ℕ) (os : List Placed) (items : List Item) (rs : List Row)
    → consed_under name_by k number size next items (open_from parent os) ≡ some rs → Under name_by k number parent size next os items rs
under-read name_by k number parent size next os items rs e = by-open (open_from parent os) refl e
  where
    by-later : (q : Placed) (qs : List Placed) (o : Option (List Row)) → open_from parent os ≡ q ∷ qs
        → rows_of_later_items (suc next) (opens_after (name_by q) next number (q ∷ qs)) items ≡ o
        → cons_row (row_at (name_by q) k number q.row size) o ≡ some rs → Under name_by k number parent size next os items rs
    by-later q qs none f l u = none-some u
    by-later q qs (some rs') f l u = record { first = q; above = qs; later = rs'; found = f; made = cc; read = l }

    by-open : (x : List Placed) → open_from parent os ≡ x → consed_under name_by k number size next items x ≡ some rs
        → Under name_by k number parent size next os items rs
    by-open [] f u = none-some u
    by-open (q ∷ qs) f u = by-later q qs (rows_of_later_items (suc next) (opens_after (name_by q) next number (q ∷ qs)) items) f refl u

element-under : (k number parent size next e : ℕ) (os : List Placed) (items : List Item) (rs : List Row)
    → rows_of_later_items next os (element_item number parent e ∷ items) ≡ some rs
    → Under (λ q. element e) k number parent size next os items rs
element-under k number parent size next e os items rs r = under-read (λ q. element e) k number parent size next os items rs (same (open_from parent os) ∙ r)
  where
    same : (x : List Placed) → consed_under (λ q. element e) k number size next items x
        ≡ cond (is_empty x) none (cons_row (element_row number e (top_row x)) (rows_of_later_items (suc next) (placed next number e ∷ x) items))
    same [] = refl
    same (q ∷ qs) = refl

text-under : (k number parent size next : ℕ) (os : List Placed) (items : List Item) (rs : List Row)
    → rows_of_later_items next os (text_item number parent (k + 3 + 4) size ∷ items) ≡ some rs
    → Under (λ q. text q.element) k number parent size next os items rs
text-under k number parent size next os items rs r = under-read (λ q. text q.element) k number parent size next os items rs (same (open_from parent os) ∙ r)
  where
    same : (x : List Placed) → consed_under (λ q. text q.element) k number size next items x
        ≡ cond (is_empty x) none (cons_row (text_row number (top_element x) (top_row x) (k + 3 + 4) size size) (rows_of_later_items (suc next) x items))
    same [] = refl
    same (q ∷ qs) = refl

known_next : (done : List Row) (os : List Placed) (r : Row) → Known done os → Known (done ++ (r ∷ [])) os
known_next done os r known q i =
    let k = known q i in
    (k.0, at_before done (r ∷ []) q.row k.0 k.1, k.2)

known-after : (n : Name) (done : List Row) (os : List Placed) (r : Row) → Known done os → Known (done ++ (r ∷ [])) (opens_after n (length done) r.number os)
known-after (element e) done os r known q (here i) = (r, rw i (at-end done r []), rw i)
known-after (element e) done os r known q (there i) = known_next done os r known q i
known-after (text e) done os r known q i = known_next done os r known q i

count-last : (n next : ℕ) (os : List Placed) (items : List Item) (rs : List Row) → rows_of_later_items next os (count_item n ∷ items) ≡ some rs
    → (items ≡ []) × (n ≡ next) × (rs ≡ [])
count-last n next os [] rs e =
    let c = pick (eqb n next) (eqb→eq n next) e in
    (refl, c.0, c.1)
  where
    pick : (b : Bool) → (T b → n ≡ next) → cond b (some []) none ≡ some rs → (n ≡ next) × (rs ≡ [])
    pick true f u = (f tt, cc)
    pick false f u = none-some u
count-last n next os (i ∷ is) rs e = none-some e

-- One field of a row after the root, given that those after it are written back.
module _ (full : List ℕ) (all : List Row) where
  abbrev Written : List Item → List ℕ → Type 0
  Written items rest =
      (done rs : List Row) (os : List Placed) → all ≡ done ++ rs → Known done os → rows_of_later_items (length done) os items ≡ some rs → rest_written full all rs ≡ rest

  row_back : (r : Row) (rs : List Row) (f rest : List ℕ) → field_of full all r ≡ f → rest_written full all rs ≡ rest → rest_written full all (r ∷ rs) ≡ f ++ rest
  row_back r rs f rest e h =
      append_assoc (field_of full all r) (gather (field_of full all) rs) (field count_tag (two_bytes (length all))) ∙ ap₂ (λ (x y : List ℕ). x ++ y) e h

  number-back : (done rs : List Row) (os : List Placed) (number : ℕ) (q : Placed) (qs : List Placed) → all ≡ done ++ rs → Known done os → open_from number os ≡ q ∷ qs
      → number_at (get_elem? all q.row) ≡ number
  number-back done rs os number q qs split known f =
      let o = open-from number os q qs f in
      let k = known q (o.1 q (here refl)) in
      rw (split, at_before done rs q.row k.0 k.1) (k.2 ∙ o.0)

  under_back : (name_by : Placed → Name) (tag high low a b c d k size : ℕ) (value w rest : List ℕ) → value ≡ a ∷ b ∷ c ∷ d ∷ w → length value ≡ in_two high low
      → AreBytes (high ∷ low ∷ value) → (items : List Item) → Written items rest → (done rs : List Row) (os : List Placed) → all ≡ done ++ rs → Known done os
      → ((q : Placed) → field_of full all (row_at (name_by q) k (in_two a b) q.row size) ≡ field tag (two_bytes (in_two a b) ++ (two_bytes (number_at (get_elem? all q.row)) ++ w)))
      → Under name_by k (in_two a b) (in_two c d) size (length done) os items rs → rest_written full all rs ≡ tag ∷ high ∷ low ∷ (value ++ rest)
  under_back name_by tag high low a b c d k size value w rest v l small items later done rs os split known written u =
      let r = row_at (name_by u.first) k (in_two a b) u.first.row size in
      let opened = opens_after (name_by u.first) (length done) (in_two a b) (u.first ∷ u.above) in
      let up = number-back done rs os (in_two c d) u.first u.above split known u.found in
      let inner = (open-from (in_two c d) os u.first u.above u.found).1 in
      let known' : Known (done ++ (r ∷ [])) opened = known-after (name_by u.first) done (u.first ∷ u.above) r (λ p i. known p (inner p i)) in
      let count : length (done ++ (r ∷ [])) ≡ suc (length done) = omega (arith, length-append done (r ∷ [])) in
      let split' : all ≡ (done ++ (r ∷ [])) ++ u.later = split ∙ ap (λ (x : List Row). done ++ x) u.made ∙ sym (append_assoc done (r ∷ []) u.later) in
      ap (rest_written full all) u.made
      ∙ row_back r u.later (tag ∷ high ∷ low ∷ value) rest
      (written u.first ∙ value-back tag high low a b c d (number_at (get_elem? all u.first.row)) value w v up l small)
      (later (done ++ (r ∷ [])) u.later opened split' known' (rw count u.read))

  field_back : (tag high low k : ℕ) (pre value rest : List ℕ) (i : Item) → Says tag (k + 3) value i → length value ≡ in_two high low → AreBytes (high ∷ low ∷ value)
      → full ≡ pre ++ (tag ∷ high ∷ low ∷ (value ++ rest)) → length pre ≡ k → (items : List Item) → (items ≡ [] → rest ≡ []) → Written items rest
      → Written (i ∷ items) (tag ∷ high ∷ low ∷ (value ++ rest))
  field_back tag high low k pre value rest i (an-element {a} {b} {c} {d} {e} t v) l small whole place items ends later done rs os split known read =
      under_back (λ q. element e) tag high low a b c d k 0 value (e ∷ []) rest v l small items later done rs os split known (λ q. rw t)
      (element-under k (in_two a b) (in_two c d) 0 (length done) e os items rs read)
  field_back tag high low k pre value rest i (a-text {a} {b} {c} {d} w t v) l small whole place items ends later done rs os split known read =
      under_back (λ q. text q.element) tag high low a b c d k (length w) value w rest v l small items later done rs os split known (λ q. rw (t, copied-characters full (row_at (text q.element) k (in_two a b) q.row (length w)) refl ∙ cut))
      (text-under k (in_two a b) (in_two c d) (length w) (length done) os items rs read)
    where
      cut : part (k + 3 + 4) (length w) full ≡ w
      cut = rw (whole ∙ ap (λ (x : List ℕ). pre ++ (tag ∷ high ∷ low ∷ (x ++ rest))) v) (text-cut pre w rest tag high low a b c d k (length w) place refl)
  field_back tag high low k pre value rest i (a-count {a} {b} t v) l small whole place items ends later done rs os split known read =
      let c = count-last (in_two a b) (length done) os items rs read in
      let after : rest ≡ [] = ends c.0 in
      let count : length all ≡ in_two a b = omega (arith, ap length (split ∙ ap (λ (x : List Row). done ++ x) c.2), length-append done [], c.1) in
      let bytes : AreBytes (high ∷ low ∷ a ∷ b ∷ []) = subst (λ (x : List ℕ). AreBytes (high ∷ low ∷ x)) v small in
      ap (rest_written full all) c.2
      ∙ ap (field count_tag) (ap two_bytes count ∙ two-bytes-written a b (bytes a (there (there (here refl)))) (bytes b (there (there (there (here refl))))) ∙ sym v)
      ∙ field-written count_tag high low value (bytes high (here refl)) (bytes low (there (here refl))) l
      ∙ rw (t, after, append-nil value)
  field_back tag high low k pre value rest i no_field l small whole place items ends later done rs os split known read = none-some read

-- what bytes that start at a place are cut into: nothing, no field, or a field and the rest
data Cut (fuel k : ℕ) (cur : List ℕ) : List Item → Type 0 where
  ended : cur ≡ [] → Cut fuel k cur []
  broken : Cut fuel k cur (no_item ∷ [])
  cut : (tag high low : ℕ) (value rest : List ℕ) → cur ≡ tag ∷ high ∷ low ∷ (value ++ rest) → length value ≡ in_two high low
      → Cut fuel k cur (item_of tag (k + 3) value ∷ items_from fuel (k + 3 + in_two high low) rest)

cut-first : (fuel k : ℕ) (cur : List ℕ) → Cut fuel k cur (items_from (suc fuel) k cur)
cut-first fuel k [] = ended refl
cut-first fuel k (tag ∷ []) = broken
cut-first fuel k (tag ∷ high ∷ []) = broken
cut-first fuel k (tag ∷ high ∷ low ∷ bs) = pick (leb n (length bs)) (leb→le n (length bs))
  where
    n : ℕ
    n = in_two high low

    pick : (b : Bool) → (T b → n ≤ length bs)
        → Cut fuel k (tag ∷ high ∷ low ∷ bs) (cond b (item_of tag (k + 3) (take n bs) ∷ items_from fuel (k + 3 + n) (drop n bs)) (no_item ∷ []))
    pick true fits =
        cut tag high low (take n bs) (drop n bs) (ap (λ (x : List ℕ). tag ∷ high ∷ low ∷ x) (sym (take-append-drop n bs))) (length-take-le n bs (fits tt))
    pick false fits = broken

no_items : (fuel k : ℕ) (cur : List ℕ) → items_from fuel k cur ≡ [] → cur ≡ []
no_items zero k [] e = refl
no_items zero k (tag ∷ bs) e = never (cc)
no_items (suc fuel) k cur e = pick (cut-first fuel k cur) e
  where
    pick : {items : List Item} → Cut fuel k cur items → items ≡ [] → cur ≡ []
    pick (ended q) u = q
    pick broken u = never (cc)
    pick (cut tag high low value rest q l) u = never (cc)

module _ (full : List ℕ) (all : List Row) where
  -- the bytes after a field, where they are written back wherever they stand
  after-cut : (fuel k : ℕ) (pre cur : List ℕ) (tag high low : ℕ) (value rest : List ℕ) → full ≡ pre ++ cur → length pre ≡ k → AreBytes cur
      → cur ≡ tag ∷ high ∷ low ∷ (value ++ rest)
      → length value ≡ in_two high low
      → ((k' : ℕ) (pre' cur' : List ℕ) → full ≡ pre' ++ cur' → length pre' ≡ k' → AreBytes cur' → Written full all (items_from fuel k' cur') cur')
      → Written full all (items_from fuel (k + 3 + in_two high low) rest) rest
  after-cut fuel k pre cur tag high low value rest whole place small q l later =
      later (k + 3 + in_two high low) (pre ++ (tag ∷ high ∷ low ∷ value)) rest
      (whole ∙ ap (λ (x : List ℕ). pre ++ x) q ∙ sym (append_assoc pre (tag ∷ high ∷ low ∷ value) rest))
      (omega (arith, length-append pre (tag ∷ high ∷ low ∷ value), l))
      (λ b i. small b (subst (λ (x : List ℕ). In b x) (sym q) (append_right (tag ∷ high ∷ low ∷ value) i)))

  cut-bytes : (cur : List ℕ) (tag high low : ℕ) (value rest : List ℕ) → AreBytes cur → cur ≡ tag ∷ high ∷ low ∷ (value ++ rest) → AreBytes (high ∷ low ∷ value)
  cut-bytes cur tag high low value rest small q b i = small b (subst (λ (x : List ℕ). In b x) (sym q) (there (append_left rest i)))

  items_back : (fuel k : ℕ) (pre cur : List ℕ) → full ≡ pre ++ cur → length pre ≡ k → AreBytes cur → Written full all (items_from fuel k cur) cur
  items_back zero k pre [] whole place small = λ done rs os split known read. none-some read
  items_back zero k pre (tag ∷ bs) whole place small = λ done rs os split known read. none-some read
  items_back (suc fuel) k pre cur whole place small = by-cut (cut-first fuel k cur) (λ k' pre' cur' w p s. items_back fuel k' pre' cur' w p s)
    where
      by-cut : {items : List Item} → Cut fuel k cur items
          → ((k' : ℕ) (pre' cur' : List ℕ) → full ≡ pre' ++ cur' → length pre' ≡ k' → AreBytes cur' → Written full all (items_from fuel k' cur') cur')
          → Written full all items cur
      by-cut (ended q) later = λ done rs os split known read. none-some read
      by-cut broken later = λ done rs os split known read. none-some read
      by-cut (cut tag high low value rest q l) later =
          let after = after-cut fuel k pre cur tag high low value rest whole place small q l later in
          rw q
          (field_back full all tag high low k pre value rest (item_of tag (k + 3) value) (says tag (k + 3) value) l (cut-bytes cur tag high low value rest small q)
          (whole ∙ ap (λ (x : List ℕ). pre ++ x) q) place (items_from fuel (k + 3 + in_two high low) rest) (no_items fuel (k + 3 + in_two high low) rest) after)

-- what the root's field turned into
root-read : (number parent e : ℕ) (items : List Item) (all : List Row) → rows_of_items (element_item number parent e ∷ items) ≡ some all
    → (rs : List Row) × (parent ≡ 0) × (all ≡ element_row number e 0 ∷ rs) × (rows_of_later_items 1 (placed 0 number e ∷ []) items ≡ some rs)
root-read number parent e items all read = by-parent (eqb parent 0) (eqb→eq parent 0) read
  where
    by-later : (o : Option (List Row)) → rows_of_later_items 1 (placed 0 number e ∷ []) items ≡ o → parent ≡ 0 → cons_row (element_row number e 0) o ≡ some all
        → (rs : List Row) × (parent ≡ 0) × (all ≡ element_row number e 0 ∷ rs) × (rows_of_later_items 1 (placed 0 number e ∷ []) items ≡ some rs)
    by-later none l p u = none-some u
    by-later (some rs) l p u = (rs, p, cc, l)

    by-parent : (b : Bool) → (T b → parent ≡ 0) → cond b (cons_row (element_row number e 0) (rows_of_later_items 1 (placed 0 number e ∷ []) items)) none ≡ some all
        → (rs : List Row) × (parent ≡ 0) × (all ≡ element_row number e 0 ∷ rs) × (rows_of_later_items 1 (placed 0 number e ∷ []) items ≡ some rs)
    by-parent true f u = by-later (rows_of_later_items 1 (placed 0 number e ∷ []) items) refl (f tt) u
    by-parent false f u = none-some u

-- All fields, where the root's number is 0.
module _ (full : List ℕ) (all : List Row) (small : AreBytes full) (root_number : (r : Row) → get_elem? all 0 ≡ some r → r.number ≡ 0) where
  root-back : (tag high low : ℕ) (value rest : List ℕ) {i : Item} (items : List Item) → Says tag (0 + 3) value i → full ≡ tag ∷ high ∷ low ∷ (value ++ rest)
      → length value ≡ in_two high low
      → (items ≡ [] → rest ≡ []) → Written full all items rest → rows_of_items (i ∷ items) ≡ some all → rest_written full all all ≡ tag ∷ high ∷ low ∷ (value ++ rest)
  root-back tag high low value rest items (an-element {a} {b} {c} {d} {e} t v) q l ends later read =
      let o = root-read (in_two a b) (in_two c d) e items all read in
      let r = element_row (in_two a b) e 0 in
      let up : number_at (get_elem? all 0) ≡ in_two c d = rw o.2 (root_number r (rw o.2) ∙ sym o.1) in
      let bytes = cut-bytes full all full tag high low value rest small q in
      let written : field_of full all r ≡ tag ∷ high ∷ low ∷ value = rw t (value-back element_tag high low a b c d (number_at (get_elem? all 0)) value (e ∷ []) v up l bytes) in
      ap (rest_written full all) o.2 ∙ row_back full all r o.0 (tag ∷ high ∷ low ∷ value) rest written
      (later (r ∷ []) o.0 (placed 0 (in_two a b) e ∷ []) o.2 (known r e) o.3)
    where
      known : (r : Row) (x : ℕ) → Known (r ∷ []) (placed 0 r.number x ∷ [])
      known r x p (here j) = (r, rw j, rw j)
      known r x p (there j) = elim j [ ]
  root-back tag high low value rest items (a-text w t v) q l ends later read = none-some read
  root-back tag high low value rest items (a-count {a} {b} t v) q l ends later read =
      field_back full all tag high low 0 [] value rest (count_item (in_two a b)) (a-count t v) l
      (cut-bytes full all full tag high low value rest small q) q refl items ends later [] all [] refl
      (λ p j. elim j [ ]) (same items ∙ read)
    where
      same : (is : List Item) → rows_of_later_items 0 [] (count_item (in_two a b) ∷ is) ≡ rows_of_items (count_item (in_two a b) ∷ is)
      same [] = refl
      same (x ∷ is) = refl
  root-back tag high low value rest items no_field q l ends later read = none-some read

  pub fields_back : (fuel : ℕ) → rows_of_items (items_from fuel 0 full) ≡ some all → rest_written full all all ≡ full
  fields_back zero read = none-some (zeros full ∙ read)
    where
      zeros : (bs : List ℕ) → none ≡ rows_of_items (items_from zero 0 bs)
      zeros [] = refl
      zeros (b ∷ bs) = refl
  fields_back (suc fuel) read = by-cut (cut-first fuel 0 full) read
    where
      by-cut : {items : List Item} → Cut fuel 0 full items → rows_of_items items ≡ some all → rest_written full all all ≡ full
      by-cut (ended q) u = none-some u
      by-cut broken u = none-some u
      by-cut (cut tag high low value rest q l) u =
          root-back tag high low value rest (items_from fuel (0 + 3 + in_two high low) rest) (says tag (0 + 3) value) q l (no_items fuel (0 + 3 + in_two high low) rest)
          (after-cut full all fuel 0 [] full tag high low value rest refl refl small q l (items_back full all fuel)) u ∙ sym q
