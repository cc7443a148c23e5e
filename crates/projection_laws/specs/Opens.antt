-- The rows that a later row may stand under, as the reader of an extract keeps them: the row before and those above it, each found by
-- its number.
use Rattle.std.specs.Prelude.{false, ◌||◌, List, [], ◌∷◌, ◌++◌, map, ◌⊎◌, ◌≡◌, refl, ℕ, zero, suc, ◌<◌, ◌≤◌, T, eqb, length}
use Rattle.std.proofs.lemmas.List.{map-append, length-map}
use Rattle.std.proofs.Common.{inl, inr, ⊎_elim, sym, ap, ap₂, subst, ◌∙◌, le_of_eq, arith, eqb→eq}
use Rattle.std.proofs.Math.Option.{some}
use Rattle.std.proofs.Math.Dec.{eqb_refl}
use Rattle.std.proofs.Math.ListN.{get_elem?}
use Rattle.extract_spec.specs.Reading.{Placed, open_from}
use Rattle.schema_spec.specs.Names.{element, text, is_text}
use Rattle.table_laws.specs.Nodes.{nodes-equal}
use Rattle.table_laws.specs.Places.{none-some, at_before, at_only, at-before-or-end}
use Rattle.table_spec.specs.Nodes.{Node, top, under, node_number, name_of, same, is_above}
use Rattle.table_spec.specs.Rows.{Row}
use Rattle.text_laws.specs.Tests.{or_cases, cond-true, cond-false, never}

abbrev pub placed : ℕ → ℕ → ℕ → Placed
placed i k e = record { row = i; number = k; element = e }

-- The elements among a node and its ancestors, nearest first, each with its place in the list of nodes; numbers rise from parent to child.
pub data Opens (before : List Node) : Node → List Placed → Type 0 where
  open-root : {k e : ℕ} → get_elem? before 0 ≡ some (top k (element e)) → Opens before (top k (element e)) (placed 0 k e ∷ [])
  open-element : {k e i : ℕ} {w : List ℕ} {p : Node} {os : List Placed} → get_elem? before i ≡ some (under k (element e) w p) → node_number p < k → Opens before p os
      → Opens before (under k (element e) w p) (placed i k e ∷ os)
  open-text : {k e : ℕ} {w : List ℕ} {p : Node} {os : List Placed} → node_number p < k → Opens before p os → Opens before (under k (text e) w p) os

pub opens-grow : {before : List Node} {y : Node} {os : List Placed} (z : Node) → Opens before y os → Opens (before ++ (z ∷ [])) y os
opens-grow {before} z (open-root {k = k} {e = e} g) = open-root (at_before before (z ∷ []) 0 (top k (element e)) g)
opens-grow {before} z (open-element {k = k} {e = e} {i = i} {w = w} {p = p} g h o) =
    open-element (at_before before (z ∷ []) i (under k (element e) w p) g) h (opens-grow z o)
opens-grow z (open-text h o) = open-text h (opens-grow z o)

-- an ancestor has a lower number
pub above_lower : {before : List Node} {y : Node} {os : List Placed} → Opens before y os → (p : Node) → T (is_above p y) → node_number p < node_number y
above_lower (open-root g) p t = absurd t
above_lower (open-element {p = q} g h o) p t =
    ⊎_elim (λ u. rw (nodes-equal p q u) h) (λ u. let l = above_lower o p u in omega arith) (or_cases (same p q) (is_above p q) t)
above_lower (open-text {p = q} h o) p t =
    ⊎_elim (λ u. rw (nodes-equal p q u) h) (λ u. let l = above_lower o p u in omega arith) (or_cases (same p q) (is_above p q) t)

-- looked up by its number, an element that is the node or above it is found, with those above it
abbrev pub FoundOpen : List Node → Node → List Placed → Type 0
FoundOpen before p os = (os' : List Placed) × (open_from (node_number p) os ≡ os') × Opens before p os'

found_first : (k : ℕ) (q : Placed) (os : List Placed) → q.number ≡ k → open_from k (q ∷ os) ≡ q ∷ os
found_first k q os e = cond-true (eqb q.number k) (q ∷ os) (open_from k os) (rw e (eqb_refl k))

found-later : (k : ℕ) (q : Placed) (os : List Placed) → k < q.number → open_from k (q ∷ os) ≡ open_from k os
found-later k q os h = cond-false (eqb q.number k) (q ∷ os) (open_from k os) (λ t. let e = eqb→eq q.number k t in omega arith)

pub opens-found : {before : List Node} {y : Node} {os : List Placed} → Opens before y os → (p : Node) → T (same p y || is_above p y) → (T (is_text (name_of p)) → ⊥)
    → FoundOpen before p os
opens-found {before} (open-root {k = k} {e = e} g) p t n =
    ⊎_elim
    (λ u. subst (λ (z : Node). FoundOpen before z (placed 0 k e ∷ [])) (sym (nodes-equal p (top k (element e)) u))
    (placed 0 k e ∷ [], found_first k (placed 0 k e) [] refl, open-root g))
    (λ u. absurd u) (or_cases (same p (top k (element e))) false t)
opens-found {before} (open-element {k = k} {e = e} {i = i} {w = w} {p = q} {os = os} g h o) p t n =
    ⊎_elim here (λ u. above u (opens-found o p u n)) (or_cases (same p y) (same p q || is_above p q) t)
  where
    y : Node
    y = under k (element e) w q

    here : T (same p y) → FoundOpen before p (placed i k e ∷ os)
    here u =
        subst (λ (z : Node). FoundOpen before z (placed i k e ∷ os)) (sym (nodes-equal p y u))
        (placed i k e ∷ os, found_first k (placed i k e) os refl, open-element g h o)

    above : T (same p q || is_above p q) → FoundOpen before p os → FoundOpen before p (placed i k e ∷ os)
    above u f =
        let l : node_number p < k = above_lower (open-element g h o) p u in
        (f.0, found-later (node_number p) (placed i k e) os l ∙ f.1, f.2)
opens-found {before} (open-text {k = k} {e = e} {w = w} {p = q} {os = os} h o) p t n =
    ⊎_elim (λ u. absurd (n (rw (nodes-equal p (under k (text e) w q) u) tt))) (λ u. opens-found o p u n)
    (or_cases (same p (under k (text e) w q)) (same p q || is_above p q) t)

-- the first of them is the element itself
pub opens-first : {before : List Node} {y : Node} {os : List Placed} → Opens before y os → (T (is_text (name_of y)) → ⊥)
    → (i e : ℕ) × (rest : List Placed) × (os ≡ placed i (node_number y) e ∷ rest) × (get_elem? before i ≡ some y) × (name_of y ≡ element e)
opens-first (open-root {e = e} g) n = (0, e, [], refl, g, refl)
opens-first (open-element {e = e} {i = i} {os = os} g h o) n = (i, e, os, refl, g, refl)
opens-first (open-text h o) n = absurd (n tt)

abbrev pub number_of_row : Row → ℕ
number_of_row r = r.number

-- The rows done, their nodes, the last of them, and the rows that the next one may stand under.
pub record ReachedRows (done : List Row) (before : List Node) (previous : Node) (os : List Placed) : Type 0 where
  pub numbers : map node_number before ≡ map number_of_row done
  pub opened : Opens before previous os
  pub bounded : (i : ℕ) (x : Node) → get_elem? before i ≡ some x → node_number x ≤ node_number previous
  pub distinct : (i j : ℕ) (x y : Node) → get_elem? before i ≡ some x → get_elem? before j ≡ some y → node_number x ≡ node_number y → i ≡ j

-- a node stands where its row does
pub row-of-node : (done : List Row) (before : List Node) → map node_number before ≡ map number_of_row done → (i : ℕ) (x : Node) → get_elem? before i ≡ some x
    → (q : Row) × (get_elem? done i ≡ some q) × (q.number ≡ node_number x)
row-of-node done [] e i x g = none-some g
row-of-node [] (y ∷ before) e i x g = never (cc)
row-of-node (r ∷ done) (y ∷ before) e zero x g = (r, refl, cc)
row-of-node (r ∷ done) (y ∷ before) e (suc i) x g = row-of-node done before (cc) i x g

pub same_count : (done : List Row) (before : List Node) → map node_number before ≡ map number_of_row done → length before ≡ length done
same_count done before e = sym (length-map before node_number) ∙ ap length e ∙ length-map done number_of_row

pub reached-first : (r : Row) (e : ℕ) → r.name ≡ element e
    → ReachedRows (r ∷ []) (top r.number r.name ∷ []) (top r.number r.name) (placed 0 r.number e ∷ [])
reached-first r e q =
    record { numbers = refl; opened = rw q (open-root refl); bounded = λ i x g. le_of_eq (ap node_number (at_only y i x g).1); distinct = apart }
  where
    y : Node
    y = top r.number r.name

    apart : (i j : ℕ) (x z : Node) → get_elem? (y ∷ []) i ≡ some x → get_elem? (y ∷ []) j ≡ some z → node_number x ≡ node_number z → i ≡ j
    apart i j x z g h n = (at_only y i x g).0 ∙ sym (at_only y j z h).0

-- one row more, with a higher number
pub reached-next : {done : List Row} {before : List Node} {previous : Node} {os : List Placed} → ReachedRows done before previous os
    → (r : Row) (y : Node) (os' : List Placed) → node_number y ≡ r.number → node_number previous < r.number → Opens (before ++ (y ∷ [])) y os'
    → ReachedRows (done ++ (r ∷ [])) (before ++ (y ∷ [])) y os'
reached-next {done} {before} {previous} {os} c r y os' e h o = record { numbers = all; opened = o; bounded = bound; distinct = apart }
  where
    all : map node_number (before ++ (y ∷ [])) ≡ map number_of_row (done ++ (r ∷ []))
    all = map-append node_number before (y ∷ []) ∙ ap₂ (λ (a : List ℕ) (k : ℕ). a ++ (k ∷ [])) c.numbers e ∙ sym (map-append number_of_row done (r ∷ []))

    lower : (i : ℕ) (x : Node) → get_elem? before i ≡ some x → node_number x < node_number y
    lower i x g = let b = c.bounded i x g in omega arith

    bound : (i : ℕ) (x : Node) → get_elem? (before ++ (y ∷ [])) i ≡ some x → node_number x ≤ node_number y
    bound i x g = ⊎_elim (λ u. let l = lower i x u in omega arith) (λ u. le_of_eq (ap node_number u.1)) (at-before-or-end before y i x g)

    pick : (i j : ℕ) (x z : Node) → node_number x ≡ node_number z → (get_elem? before i ≡ some x) ⊎ ((i ≡ length before) × (x ≡ y))
        → (get_elem? before j ≡ some z) ⊎ ((j ≡ length before) × (z ≡ y)) → i ≡ j
    pick i j x z q (inl u) (inl v) = c.distinct i j x z u v q
    pick i j x z q (inl u) (inr v) =
        let l = lower i x u in
        let k = ap node_number v.1 in
        absurd (omega arith)
    pick i j x z q (inr u) (inl v) =
        let l = lower j z v in
        let k = ap node_number u.1 in
        absurd (omega arith)
    pick i j x z q (inr u) (inr v) = cc

    apart : (i j : ℕ) (x z : Node) → get_elem? (before ++ (y ∷ [])) i ≡ some x → get_elem? (before ++ (y ∷ [])) j ≡ some z → node_number x ≡ node_number z → i ≡ j
    apart i j x z u v q = pick i j x z q (at-before-or-end before y i x u) (at-before-or-end before y j z v)
