-- The rows of an accepted journal are a well-formed table.
use Rattle.std.specs.Prelude.{Bool, true, false, not, ◌&&◌, ◌||◌, ◌⊎◌, ◌≡◌, refl, ℕ, suc, ◌+◌, ◌-◌, ◌≤◌, ◌<◌, T, eqb, leb, length, take, drop}
use mathlib.Core.List.Memᴰ.{append_cases}
use mathlib.Core.List.Memᴰ.{head as here}
use mathlib.Core.List.Memᴰ.{tail as there}
use mathlib.Core.List.{List, [], ◌∷◌, ◌++◌, reverse, reverse_aux, append-nil, Memᴰ as In}
use Rattle.std.proofs.Common.{inl, inr, sym, ap, subst, ◌∙◌, arith, le→leb, length-append, length-drop, length-take-le}
use Rattle.std.proofs.Math.Option.{Option, none, some}
use Rattle.std.proofs.Math.Dec.{eqb_refl}
use Rattle.std.proofs.Math.ListN.{get_elem?}
use Rattle.journal_laws.specs.Derivations.{Derives, finished, root-begins, child-begins, element-ends, blanks-outside, run_inside, text-inside, opening, MakesNoText, no-text-unjudged, no-text-misfit, no-text-unfilled, no-text-children, Accepts, derivation}
use Rattle.journal_laws.specs.Events.{ended-builds, none-foreign}
use Rattle.journal_laws.specs.Fillings.{Completable, all-completable, parent-completable, Fills, fills-begun, fills-child, fills-run, child-held, text-held}
use Rattle.journal_spec.specs.Builder.{Filling, unjudged, misfit, unfilled, filled_by_text, filled_by_children, filling_of, with_child, with_run, Open, Building, refill}
use Rattle.journal_spec.specs.Reading.{Machine, initial, run, ended, read_journal, machine_refusals, ends_early}
use Rattle.schema_spec.specs.Names.{Name, element, text, is_text}
use Rattle.schema_spec.specs.Schemas.{Schema, content_at}
use Rattle.schema_spec.specs.Types.{Types, types_of, holds}
use Rattle.table_laws.specs.Fits.{RowFits, fits-row}
use Rattle.table_laws.specs.Nodes.{nodes-same, nodes-equal}
use Rattle.table_laws.specs.Places.{none-some, at_before, at-end, at_in}
use Rattle.table_spec.specs.Nodes.{Node, top, under, node_number, name_of, same, is_above, depth_of, node_at, attach_to}
use Rattle.table_spec.specs.Rows.{Row, characters_of, element_row, text_row}
use Rattle.table_spec.specs.Tables.{same_parent, first_text, row_fits, later_rows, well_formed, bytes_inside, text_inside, well_formed_with}
use Rattle.text_laws.specs.Lists.{in-any, in_all, append-empty}
use Rattle.text_laws.specs.Refusals.{judged-accepted, given-free}
use Rattle.text_laws.specs.Tests.{or_left, or_right, and_intro, and_cases, not-intro, never}
use Rattle.text_spec.specs.Bytes.{is_foreign}
use Rattle.text_spec.specs.Limits.{max_depth, max_nodes, max_text_bytes}
use Rattle.text_spec.specs.Lists.{any_of, all_of, is_none, is_empty, list_of}
use Rattle.text_spec.specs.Refusals.{Refusal, accepted, at, all_at, given, misspelt, bad_nesting}
use Rattle.text_spec.specs.Texts.{length_refusals}
use Rattle.token_laws.specs.Events.{events_from, events-in-turn}
use Rattle.token_spec.specs.Lexer.{Event, between, misspelt_at}

-- ---- nodes

-- a node is another or above it
pub data UpFrom (p : Node) : Node → Type 0 where
  itself : UpFrom p p
  above : {k : ℕ} {n : Name} {w : List ℕ} {q : Node} → UpFrom p q → UpFrom p (under k n w q)

up-parent : {k : ℕ} {n : Name} {w : List ℕ} {p q : Node} → UpFrom (under k n w p) q → UpFrom p q
up-parent itself = above itself
up-parent (above h) = above (up-parent h)

up-open : (p q : Node) → UpFrom p q → T (same p q || is_above p q)
up-open p q itself = or_left (same p p) (is_above p p) (nodes-same p)
up-open p q (above {k = k} {n = n} {w = w} {q = r} h) = or_right (same p (under k n w r)) (same p r || is_above p r) (up-open p r h)

-- a number is below n, and the parent's number below it
abbrev ParentBefore : Node → Type 0
ParentBefore (top k n) = Unit {0}
ParentBefore (under k n w p) = node_number p < k

record Numbered (n : ℕ) (z : Node) : Type 0 where
  below : node_number z < n
  ordered : ParentBefore z

-- ---- the open elements and their nodes

-- open elements, the innermost first, whose rows are a node and its ancestors; under an outer one no text can make a node any more
data Chain (s : Schema) (before : List Node) : List Open → Node → Type 0 where
  the-root : {o : Open} {k e : ℕ} → get_elem? before o.row ≡ some (top k (element e)) → Fills s e o.filling → Chain s before (o ∷ []) (top k (element e))
  nested : {o u : Open} {os : List Open} {k e : ℕ} {w : List ℕ} {p : Node} → get_elem? before o.row ≡ some (under k (element e) w p) → Fills s e o.filling
      → MakesNoText u.filling → Chain s before (u ∷ os) p → Chain s before (o ∷ u ∷ os) (under k (element e) w p)

chain-node : {s : Schema} {before : List Node} {o : Open} {os : List Open} {p : Node} → Chain s before (o ∷ os) p → get_elem? before o.row ≡ some p
chain-node (the-root h f) = h
chain-node (nested h f m c) = h

chain-name : {s : Schema} {before : List Node} {o : Open} {os : List Open} {p : Node} → Chain s before (o ∷ os) p → (e : ℕ) × (name_of p ≡ element e) × Fills s e o.filling
chain-name (the-root {e = e} h f) = (e, refl, f)
chain-name (nested {e = e} h f m c) = (e, refl, f)

chain-depth : {s : Schema} {before : List Node} {os : List Open} {p : Node} → Chain s before os p → depth_of p ≡ length os
chain-depth (the-root h f) = refl
chain-depth (nested h f m c) = ap suc (chain-depth c)

chain_more : {s : Schema} {before : List Node} {os : List Open} {p : Node} (y : Node) → Chain s before os p → Chain s (before ++ (y ∷ [])) os p
chain_more {before = before} y (the-root {o = o} {k = k} {e = e} h f) = the-root (at_before before (y ∷ []) o.row (top k (element e)) h) f
chain_more {before = before} y (nested {o = o} {k = k} {e = e} {w = w} {p = p} h f m c) =
    nested (at_before before (y ∷ []) o.row (under k (element e) w p) h) f m (chain_more y c)

-- the innermost content changes
chain-refill : {s : Schema} {before : List Node} {o : Open} {os : List Open} {p : Node} (g : Filling → Filling) → ((e : ℕ) (f : Filling) → Fills s e f → Fills s e (g f))
    → Chain s before (o ∷ os) p → Chain s before (refill g (o ∷ os)) p
chain-refill g k (the-root {o = o} {e = e} h f) = the-root h (k e o.filling f)
chain-refill g k (nested {o = o} {e = e} h f m c) = nested h (k e o.filling f) m c

child-no-text : (a : ℕ) (f : Filling) → MakesNoText (with_child (some a) f)
child-no-text a unjudged = no-text-unjudged
child-no-text a misfit = no-text-misfit
child-no-text a unfilled = no-text-misfit
child-no-text a (filled_by_text e) = no-text-misfit
child-no-text a (filled_by_children q) = no-text-children

-- ---- one row more

later-row : (ty : Types) (before : List Node) (previous : Node) (r : Row) (y : Node) (rs : List Row) → node_at [] before r ≡ y → RowFits ty before previous r y
    → T (later_rows ty (before ++ (y ∷ [])) y rs) → T (later_rows ty before previous (r ∷ rs))
later-row ty before previous r y rs e f rest =
    subst (λ (z : Node). T (row_fits ty before previous r z && later_rows ty (before ++ (z ∷ [])) z rs)) (sym e)
    (and_intro (row_fits ty before previous r y) (later_rows ty (before ++ (y ∷ [])) y rs) (fits-row ty before previous r y f) rest)

-- no text row has this parent yet, where the parent's row is the last
first-of-parent : (before : List Node) (n e : ℕ) (w : List ℕ) (p : Node) → ((z : Node) → In z before → Numbered n z) → suc (node_number p) ≡ n
    → T (first_text before (under n (text e) w p))
first-of-parent before n e w p numbered last = not-intro (any_of (λ z. is_text (name_of z) && same_parent z (under n (text e) w p)) before) clash
  where
    no-sibling : (z : Node) → Numbered n z → T (same_parent z (under n (text e) w p)) → ⊥
    no-sibling (top k m) h t = t
    no-sibling (under k m v q) h t =
        let z : node_number q ≡ node_number p = ap node_number (nodes-equal q p t) in
        omega arith

    clash : T (any_of (λ z. is_text (name_of z) && same_parent z (under n (text e) w p)) before) → ⊥
    clash t =
        let r = in-any (λ z. is_text (name_of z) && same_parent z (under n (text e) w p)) before t in
        no-sibling r.0 (numbered r.0 r.1) (and_cases (is_text (name_of r.0)) (same_parent r.0 (under n (text e) w p)) r.2).1

-- the rows still to come
record Later (s : Schema) (final : List Row) (before : List Node) (previous : Node) (rs : List Row) : Type 0 where
  rows : List Row
  joined : final ≡ reverse_aux rows rs
  fit : T (later_rows (types_of s) before previous rows)

-- what stands while the root is open: the nodes so far, of which `previous` is the last, and the open elements
record Standing (s : Schema) (t : Bool) (before : List Node) (previous : Node) (n : ℕ) (o : Open) (os : List Open) : Type 0 where
  node : Node
  chain : Chain s before (o ∷ os) node
  up : UpFrom node previous
  shallow : length (o ∷ os) ≤ max_depth
  counted : length before ≡ n
  last : suc (node_number previous) ≡ n
  numbered : (z : Node) → In z before → Numbered n z
  fresh : t ≡ false → (e : ℕ) → o.filling ≡ filled_by_text e → node_number previous ≡ node_number node

data State (s : Schema) (t : Bool) (before : List Node) (previous : Node) (n : ℕ) : List Open → Type 0 where
  after-root : State s t before previous n []
  in-root : {o : Open} {os : List Open} → Standing s t before previous n o os → State s t before previous n (o ∷ os)

numbered_more : (before : List Node) (n : ℕ) (y : Node) → ((z : Node) → In z before → Numbered n z) → Numbered (suc n) y → (z : Node) → In z (before ++ (y ∷ [])) → Numbered (suc n) z
numbered_more before n y h hy z i = by (append_cases before i)
  where
    last_one : In z (y ∷ []) → Numbered (suc n) z
    last_one (here e) = subst (λ (x : Node). Numbered (suc n) x) (sym e) hy
    last_one (there j) = elim j [ ]

    by : In z before ⊎ In z (y ∷ []) → Numbered (suc n) z
    by (inl j) = record { below = (let k = h z j in omega arith); ordered = (h z j).ordered }
    by (inr j) = last_one j

not-text : {f : Filling} (e : ℕ) → MakesNoText f → f ≡ filled_by_text e → ⊥
not-text e no-text-unjudged h = never (cc)
not-text e no-text-misfit h = never (cc)
not-text e no-text-unfilled h = never (cc)
not-text e no-text-children h = never (cc)

true-false : true ≡ false → ⊥
true-false e = never (cc)

module _ (s : Schema) (before : List Node) (previous : Node) (n : ℕ) (o : Open) (os : List Open) where
  -- the node of a row under the innermost open element
  abbrev new_node : Node → Name → Row → Node
  new_node p a r = under n a (characters_of [] r) p

  node-before : {t : Bool} (h : Standing s t before previous n o os) → node_number h.node < n
  node-before h = numbered_below (h.numbered h.node (at_in before o.row h.node (chain-node h.chain)))
    where
      numbered_below : {z : Node} → Numbered n z → node_number z < n
      numbered_below k = k.below

  longer : {t : Bool} (h : Standing s t before previous n o os) (y : Node) → length (before ++ (y ∷ [])) ≡ suc n
  longer h y =
      let e : length (before ++ (y ∷ [])) ≡ length before + 1 = length-append before (y ∷ []) in
      let c : length before ≡ n = h.counted in
      omega arith

  standing-child : {t : Bool} (w : List ℕ) (k e : ℕ) (r : Row) → length (o ∷ os) < max_depth → (h : Standing s t before previous n o os)
      → let y = new_node h.node (element e) r in
      Standing s false (before ++ (y ∷ [])) y (suc n) (opening w k n (filling_of e (content_at s e))) (refill (with_child (some e)) (o ∷ os))
  standing-child w k e r deep h =
      let y = new_node h.node (element e) r in
      record {
        node = y;
        chain =
            nested (subst (λ (i : ℕ). get_elem? (before ++ (y ∷ [])) i ≡ some y) h.counted (at-end before y [])) (fills-begun s e) (child-no-text e o.filling)
            (chain_more y (chain-refill (with_child (some e)) (λ x f g. fills-child e g) h.chain));
        up = itself;
        shallow = deep;
        counted = longer h y;
        last = refl;
        numbered = numbered_more before n y h.numbered (record { below = omega arith; ordered = node-before h });
        fresh = λ q x f. refl;
      }

  standing-text : {t : Bool} (b : Bool) (e : ℕ) (r : Row) (h : Standing s t before previous n o os)
      → let y = new_node h.node (text e) r in
      Standing s true (before ++ (y ∷ [])) y (suc n) (opening o.name o.place o.row (with_run b o.filling)) os
  standing-text b e r h =
      let y = new_node h.node (text e) r in
      record {
        node = h.node;
        chain = chain_more y (chain-refill (with_run b) (λ x f g. fills-run b g) h.chain);
        up = above itself;
        shallow = h.shallow;
        counted = longer h y;
        last = refl;
        numbered = numbered_more before n y h.numbered (record { below = omega arith; ordered = node-before h });
        fresh = λ q x f. absurd (true-false q);
      }

  standing-run : {t : Bool} (b : Bool) → Standing s t before previous n o os
      → Standing s true before previous n (opening o.name o.place o.row (with_run b o.filling)) os
  standing-run b h =
      record {
        node = h.node;
        chain = chain-refill (with_run b) (λ x f g. fills-run b g) h.chain;
        up = h.up;
        shallow = h.shallow;
        counted = h.counted;
        last = h.last;
        numbered = h.numbered;
        fresh = λ q x f. absurd (true-false q);
      }

  state-end : {t : Bool} → Standing s t before previous n o os → State s false before previous n os
  state-end h = by h.chain h.up h.shallow
    where
      by : {us : List Open} {p : Node} → Chain s before (o ∷ us) p → UpFrom p previous → length (o ∷ us) ≤ max_depth → State s false before previous n us
      by (the-root e f) u d = after-root
      by (nested {p = p} e f m c) u d =
          in-root
          (record {
            node = p;
            chain = c;
            up = up-parent u;
            shallow = omega arith;
            counted = h.counted;
            last = h.last;
            numbered = h.numbered;
            fresh = λ q x g. absurd (not-text x m g);
          })

held_by : (s : Schema) (a b : Name) → T (holds s a b) → T ((types_of s).holds a b)
unfolding types_of
held_by s a b h = h

-- a child row, where the open element can be completed with it
child-row : (s : Schema) (final : List Row) {t : Bool} (before : List Node) (previous : Node) (n e : ℕ) (o : Open) (os : List Open) (rs : List Row)
    → (h : Standing s t before previous n o os) → Completable (with_child (some e) o.filling) → length (o ∷ os) < max_depth → n < max_nodes
    → let r = element_row n e o.row in
    let y = new_node s before previous n o os h.node (element e) r in
    Later s final (before ++ (y ∷ [])) y (r ∷ rs) → Later s final before previous rs
child-row s final before previous n e o os rs h c deep few l =
    let r = element_row n e o.row in
    let y = new_node s before previous n o os h.node (element e) r in
    let named = chain-name h.chain in
    let depth : depth_of h.node ≡ length (o ∷ os) = chain-depth h.chain in
    let prior : suc (node_number previous) ≡ n = h.last in
    record {
      rows = r ∷ l.rows;
      joined = l.joined;
      fit =
          later-row (types_of s) before previous r y l.rows (ap (attach_to n (element e) (characters_of [] r)) (chain-node h.chain))
          (record {
            rises = omega arith;
            small = few;
            is_open = up-open h.node previous h.up;
            held = held_by s (name_of h.node) (element e) (subst (λ (a : Name). T (holds s a (element e))) (sym named.1) (child-held s named.0 e named.2 c));
            shallow = omega arith;
            one_text = tt;
            cells = tt;
          })
          l.fit;
    }

text-row : (s : Schema) (final : List Row) (before : List Node) (previous : Node) (n e start l d : ℕ) (o : Open) (os : List Open) (rs : List Row)
    → (h : Standing s false before previous n o os) → o.filling ≡ filled_by_text e → 1 ≤ d → d ≤ l → l ≤ max_text_bytes → n < max_nodes
    → let r = text_row n e o.row start l d in
    let y = new_node s before previous n o os h.node (text e) r in
    Later s final (before ++ (y ∷ [])) y (r ∷ rs) → Later s final before previous rs
text-row s final before previous n e start l d o os rs h f pos low small few z =
    let r = text_row n e o.row start l d in
    let y = new_node s before previous n o os h.node (text e) r in
    let depth : depth_of h.node ≡ length (o ∷ os) = chain-depth h.chain in
    let prior : suc (node_number previous) ≡ n = h.last in
    let deep : length (o ∷ os) ≤ max_depth = h.shallow in
    let at_last : node_number previous ≡ node_number h.node = h.fresh refl e f in
    let named = chain-name h.chain in
    record {
      rows = r ∷ z.rows;
      joined = z.joined;
      fit =
          later-row (types_of s) before previous r y z.rows (ap (attach_to n (text e) (characters_of [] r)) (chain-node h.chain))
          (record {
            rises = omega arith;
            small = few;
            is_open = up-open h.node previous h.up;
            held = held_by s (name_of h.node) (text e) (subst (λ (a : Name). T (holds s a (text e))) (sym named.1) (text-held s named.0 e named.2 f));
            shallow = omega arith;
            one_text = first-of-parent before n e (characters_of [] r) h.node h.numbered (omega arith);
            cells =
                and_intro (leb 1 l) _ (le→leb 1 l (omega arith))
                (and_intro (leb l max_text_bytes) _ (le→leb l max_text_bytes small) (and_intro (leb 1 d) (leb d l) (le→leb 1 d pos) (le→leb d l low)));
          })
          z.fit;
    }

-- the rows to come of a derivation fit the nodes so far
later_rows_lem : {s : Schema} {final : List Row} {t : Bool} {es : List Event} {os : List Open} {rs : List Row} {n : ℕ} (before : List Node) (previous : Node)
    → Derives s final t es os true rs n → State s t before previous n os → Later s final before previous rs
later_rows_lem before previous finished after-root = record { rows = []; joined = refl; fit = tt }
later_rows_lem {s} {final} before previous (child-begins {w = w} {k = k} {e = e} {o = o} {os = os} {rs = rs} {n = n} named deep few d) (in-root h) =
    let r = element_row n e o.row in
    let y = new_node s before previous n o os h.node (element e) r in
    child-row s final before previous n e o os rs h (parent-completable e o (all-completable d)) deep few
    (later_rows_lem (before ++ (y ∷ [])) y d (in-root (standing-child s before previous n o os w k e r deep h)))
later_rows_lem {s} before previous (element-ends {o = o} {os = os} {n = n} same fits d) (in-root h) = later_rows_lem before previous d (state-end s before previous n o os h)
later_rows_lem before previous (blanks-outside e d) after-root = later_rows_lem before previous d after-root
later_rows_lem {s} before previous (run_inside {r = r} {o = o} {os = os} {n = n} e d) (in-root h) =
    later_rows_lem before previous d (in-root (standing-run s before previous n o os (is_none r.solid) h))
later_rows_lem {s} {final} before previous (text-inside {r = r} {l = l} {e = e} {o = o} {os = os} {rs = rs} {n = n} f pos small few d) (in-root h) =
    let row = text_row n e o.row r.start l (l - r.saved) in
    let y = new_node s before previous n o os h.node (text e) row in
    text-row s final before previous n e r.start l (l - r.saved) o os rs h f (omega arith) (omega arith) small few
    (later_rows_lem (before ++ (y ∷ [])) y d (in-root (standing-text s before previous n o os (is_none r.solid) e row h)))

-- ---- the whole table

abbrev root_node : Node
root_node = top 0 (element 0)

abbrev root_row : Row
root_row = element_row 0 0 0

rows-after-root : {s : Schema} {final : List Row} {t : Bool} {es : List Event} → Derives s final t es [] false [] 0
    → Later s final (root_node ∷ []) root_node (root_row ∷ [])
rows-after-root {s} (root-begins {w = w} {k = k} named few d) =
    later_rows_lem (root_node ∷ []) root_node d
    (in-root
    (record {
      node = root_node;
      chain = the-root refl (fills-begun s 0);
      up = itself;
      shallow = omega arith;
      counted = refl;
      last = refl;
      numbered = only-root;
      fresh = λ q x f. refl;
    }))
  where
    only-root : (z : Node) → In z (root_node ∷ []) → Numbered 1 z
    only-root z (here e) = subst (λ (x : Node). Numbered 1 x) (sym e) (record { below = omega arith; ordered = tt })
    only-root z (there i) = elim i [ ]
rows-after-root (blanks-outside e d) = rows-after-root d

pub reverse_twice : (rows rs acc : List Row) → reverse_aux (reverse_aux rows rs) acc ≡ reverse_aux rs (rows ++ acc)
reverse_twice [] rs acc = refl
reverse_twice (r ∷ rows) rs acc = reverse_twice rows (r ∷ rs) acc

root-well-formed : (s : Schema) (rows : List Row) → T (later_rows (types_of s) (root_node ∷ []) root_node rows) → T (well_formed (types_of s) (root_row ∷ rows))
unfolding well_formed types_of
root-well-formed s rows h = h

-- ---- acceptance

none-listed : {A : Type 0} (o : Option A) → list_of o ≡ [] → o ≡ none
none-listed none e = refl
none-listed (some x) e = never (cc)

closed-at-end : (o : Option Refusal) (os : List Open) (rt : Bool) → o ≡ none → (T (is_none o && (not (is_empty os) || not rt)) → ⊥) → (os ≡ []) × (rt ≡ true)
closed-at-end none [] true e h = (refl, refl)
closed-at-end none [] false e h = absurd (h tt)
closed-at-end none (x ∷ os) rt e h = absurd (h tt)
closed-at-end (some f) os rt e h = none-some (sym e)

-- what an accepted text was free of
record Free (m : Machine) (b : Building) : Type 0 where
  native : m.foreign ≡ []
  spelt : misspelt_at m.mode ≡ []
  accepts : Accepts b.rows b

free_of : (m : Machine) (b : Building) → machine_refusals m b ≡ [] → Free m b
free_of m b e =
    let early = given (is_none b.broken && (not (is_empty b.opens) || not b.rooted)) (at bad_nesting m.place) in
    let c1 = append-empty m.foreign (all_at misspelt (misspelt_at m.mode) ++ (list_of b.broken ++ (ends_early b m.place ++ b.faults))) e in
    let c2 = append-empty (all_at misspelt (misspelt_at m.mode)) (list_of b.broken ++ (ends_early b m.place ++ b.faults)) c1.1 in
    let c3 = append-empty (list_of b.broken) (ends_early b m.place ++ b.faults) c2.1 in
    let c4 = append-empty (ends_early b m.place) b.faults c3.1 in
    let whole = none-listed b.broken c3.0 in
    let shut = closed-at-end b.broken b.opens b.rooted whole (given-free (is_none b.broken && (not (is_empty b.opens) || not b.rooted)) (at bad_nesting m.place) c4.0) in
    record {
      native = c1.0;
      spelt = no-places (misspelt_at m.mode) c2.0;
      accepts = record { clean = record { unbroken = whole; faultless = c4.1 }; closed = shut.0; rooted = shut.1; rows = refl };
    }
  where
    no-places : (ks : List ℕ) → all_at misspelt ks ≡ [] → ks ≡ []
    no-places [] e = refl
    no-places (k ∷ ks) e =
        never (cc)

accepted-free : (limit : ℕ) (s : Schema) (lent : List ℕ) (rows : List Row) → read_journal limit s lent ≡ accepted rows
    → Free (run s initial lent) (ended s (run s initial lent)) × (reverse (ended s (run s initial lent)).rows ≡ rows)
unfolding read_journal
accepted-free limit s lent rows e =
    let m = run s initial lent in
    let b = ended s m in
    let j = judged-accepted (length_refusals limit lent ++ machine_refusals m b) (reverse b.rows) rows e in
    (free_of m b (append-empty (length_refusals limit lent) (machine_refusals m b) j.0).1, j.1)

-- a derivation of the events of an accepted text
accepted-derivation : (s : Schema) (lent : List ℕ) → Free (run s initial lent) (ended s (run s initial lent))
    → Derives s (ended s (run s initial lent)).rows false (events_from between 0 lent) [] false [] 0
accepted-derivation s lent f =
    derivation s (ended s (run s initial lent)).rows (events-in-turn between 0 lent tt) [] false [] 0
    (subst (λ (b : Building). Accepts (ended s (run s initial lent)).rows b) (ended-builds s initial lent) f.accepts)

pub accepted-table : (limit : ℕ) (s : Schema) (lent : List ℕ) (rows : List Row) → read_journal limit s lent ≡ accepted rows → T (well_formed (types_of s) rows)
accepted-table limit s lent rows e =
    let f = accepted-free limit s lent rows e in
    let l = rows-after-root (accepted-derivation s lent f.0) in
    let listed : rows ≡ root_row ∷ l.rows = sym f.1 ∙ ap reverse l.joined ∙ reverse_twice l.rows (root_row ∷ []) [] ∙ ap (λ (r : List Row). root_row ∷ r) (append-nil l.rows) in
    subst (λ (r : List Row). T (well_formed (types_of s) r)) (sym listed) (root-well-formed s l.rows l.fit)
