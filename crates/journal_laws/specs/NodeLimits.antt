-- Rows and refusal 16 over valid trees: the rows built are the tree's, and the faults found are its nodes beyond a limit.
use Rattle.std.specs.Prelude.{Bool, true, false, cond, not, ◌||◌, ◌⊎◌, ◌≡◌, refl, ℕ, suc, ◌+◌, ◌≤◌, ◌<◌, T, leb, ltb, length}
use mathlib.Core.List.Memᴰ.{append_cases}
use mathlib.Core.List.Memᴰ.{append_left}
use mathlib.Core.List.Memᴰ.{append_right}
use mathlib.Core.List.Memᴰ.{head as here}
use mathlib.Core.List.{List, [], ◌∷◌, ◌++◌, reverse, reverse_aux, reverse_aux-append, append-nil, Memᴰ as In}
use Rattle.std.proofs.Common.{inl, inr, sym, subst, ◌∙◌, add-zero, arith, leb→le, le→leb, ltb→lt, lt→ltb, length-append}
use Rattle.std.proofs.Math.Option.{Option, none, some}
use Rattle.std.proofs.Math.Path.{ap}
use Rattle.journal_laws.specs.Accepted.{reverse_twice}
use Rattle.journal_laws.specs.Contents.{forest-grows, end-grows, run-filling, given-other, filling_after, ends-content, not-declared, not-fitting, tree-faulty}
use Rattle.journal_laws.specs.Derivations.{MakesNoText, no-text-unjudged, no-text-misfit, no-text-unfilled, no-text-children}
use Rattle.journal_laws.specs.Forests.{Held, held, run_held, after_run, at_start, at_end, after_forest, root_start, tree_held}
use Rattle.journal_spec.specs.Builder.{Filling, unjudged, filled_by_text, filling_of, filling_for, with_child, with_run, fits_at_end, wrong_root}
use Rattle.journal_spec.specs.Trees.{Forest, nothing, data-node, element-node, index_of, count_in, rows_under, tree_rows, NodeStart, starts_under, tree_starts}
use Rattle.journal_spec.specs.Validity.{OnlyData, more, ContentFits, fits-pcdata, Occurs, here as occurs-here, inside, after-element, after-data, InTree, the-root, below}
use Rattle.schema_spec.specs.Models.{Content, empty, pcdata, children}
use Rattle.schema_spec.specs.Schemas.{Schema, element_named, content_at, is_pcdata}
use Rattle.table_spec.specs.Rows.{Row, element_row, text_row}
use Rattle.text_laws.specs.Refusals.{in-given, given-in}
use Rattle.text_laws.specs.Tests.{passed, or_left, or_right, or_cases}
use Rattle.text_spec.specs.Limits.{max_nodes, max_text_bytes}
use Rattle.text_spec.specs.Lists.{is_none, value_or}
use Rattle.text_spec.specs.Refusals.{Refusal, number_of, at, given, undeclared_element, bad_content, over_node_limit}
use Rattle.text_spec.specs.Texts.{SplitAt}
use Rattle.token_laws.specs.Passes.{solid_from}
use Rattle.token_spec.specs.Characters.{decode}

-- each element is declared, and its content fits
abbrev pub AllFit : Schema → Forest → Type 0
AllFit s f = (k : ℕ) (n : List ℕ) (c : Forest) → Occurs k n c f → (e : ℕ) × (element_named s n ≡ some e) × ContentFits s (content_at s e) c

-- text makes nodes in a forest under the element e exactly if the content so far says so
pub data Suits (s : Schema) (e : ℕ) : Filling → Forest → Type 0 where
  as-text : {f : Forest} → is_pcdata (content_at s e) ≡ true → OnlyData f → Suits s e (filled_by_text e) f
  as-other : {g : Filling} {f : Forest} → is_pcdata (content_at s e) ≡ false → MakesNoText g → Suits s e g f

content-suits : {f : Forest} (s : Schema) (e : ℕ) → ContentFits s (content_at s e) f → Suits s e (filling_of e (content_at s e)) f
content-suits {f} s e x = by (content_at s e) refl x
  where
    by : (c : Content ℕ) → content_at s e ≡ c → ContentFits s c f → Suits s e (filling_of e c) f
    by empty q y = as-other (ap is_pcdata q) no-text-unfilled
    by pcdata q (fits-pcdata d) = as-text (ap is_pcdata q) d
    by (children p) q y = as-other (ap is_pcdata q) no-text-children

element-suits : {f : Forest} (s : Schema) (n : List ℕ) → (e : ℕ) × (element_named s n ≡ some e) × ContentFits s (content_at s e) f → Suits s (index_of s n) (filling_for s (element_named s n)) f
element-suits {f} s n x = subst (λ (o : Option ℕ). Suits s (value_or 0 o) (filling_for s o) f) (sym x.1) (content-suits s x.0 x.2)

no-text-run : (b : Bool) {g : Filling} → MakesNoText g → MakesNoText (with_run b g)
no-text-run b no-text-unjudged = no-text-unjudged
no-text-run b no-text-misfit = no-text-misfit
no-text-run b no-text-unfilled = no-text-misfit
no-text-run true no-text-children = no-text-children
no-text-run false no-text-children = no-text-misfit

no-text-child : (e : Option ℕ) {g : Filling} → MakesNoText g → MakesNoText (with_child e g)
no-text-child e no-text-unjudged = no-text-unjudged
no-text-child e no-text-misfit = no-text-misfit
no-text-child e no-text-unfilled = no-text-misfit
no-text-child none no-text-children = no-text-misfit
no-text-child (some a) no-text-children = no-text-children

no-text-held : {g : Filling} (p k : ℕ) (w : List ℕ) (b : Filling) (fs : List Refusal) (rs : List Row) (n : ℕ) → MakesNoText g → run_held g p k w b fs rs n ≡ held b fs rs n
no-text-held p k w b fs rs n no-text-unjudged = refl
no-text-held p k w b fs rs n no-text-misfit = refl
no-text-held p k w b fs rs n no-text-unfilled = refl
no-text-held p k w b fs rs n no-text-children = refl

-- ---- nodes beyond a limit, of which m come before

pub data Over : ℕ → List NodeStart → ℕ → Type 0 where
  over-here : {m : ℕ} {x : NodeStart} {xs : List NodeStart} → (max_nodes ≤ m) ⊎ (max_text_bytes < x.bytes) → Over m (x ∷ xs) x.place
  over-later : {m : ℕ} {x : NodeStart} {xs : List NodeStart} {j : ℕ} → Over (suc m) xs j → Over m (x ∷ xs) j

over-left : {m j : ℕ} {xs : List NodeStart} (ys : List NodeStart) → Over m xs j → Over m (xs ++ ys) j
over-left ys (over-here h) = over-here h
over-left ys (over-later h) = over-later (over-left ys h)

over-right : {j : ℕ} (m : ℕ) (xs : List NodeStart) {ys : List NodeStart} → Over (m + length xs) ys j → Over m (xs ++ ys) j
over-right {j} m [] {ys} h = subst (λ (i : ℕ). Over i ys j) (add-zero m) h
over-right {j} m (x ∷ xs) {ys} h =
    let e : m + suc (length xs) ≡ suc m + length xs = omega arith in
    over-later (over-right (suc m) xs (subst (λ (i : ℕ). Over i ys j) e h))

over-cases : {j : ℕ} (m : ℕ) (xs : List NodeStart) {ys : List NodeStart} → Over m (xs ++ ys) j → Over m xs j ⊎ Over (m + length xs) ys j
over-cases {j} m [] {ys} h = inr (subst (λ (i : ℕ). Over i ys j) (sym (add-zero m)) h)
over-cases {j} m (x ∷ xs) {ys} (over-here h) = inl (over-here h)
over-cases {j} m (x ∷ xs) {ys} (over-later h) = by (over-cases (suc m) xs h)
  where
    by : Over (suc m) xs j ⊎ Over (suc m + length xs) ys j → Over m (x ∷ xs) j ⊎ Over (m + suc (length xs)) ys j
    by (inl y) = inl (over-later y)
    by (inr y) =
        let e : suc m + length xs ≡ m + suc (length xs) = omega arith in
        inr (subst (λ (i : ℕ). Over i ys j) e y)

pub over-split : {m j : ℕ} {xs : List NodeStart} → Over m xs j → (i : ℕ) × (p : SplitAt xs i) × ((max_nodes ≤ m + i) ⊎ (max_text_bytes < p.here.bytes)) × (p.here.place ≡ j)
over-split {m} (over-here {x = x} {xs = xs} h) = (0, record { before = []; here = x; after = xs; joined = refl; placed = refl }, by h, refl)
  where
    by : (max_nodes ≤ m) ⊎ (max_text_bytes < x.bytes) → (max_nodes ≤ m + 0) ⊎ (max_text_bytes < x.bytes)
    by (inl l) = inl (omega arith)
    by (inr l) = inr l
over-split {m} (over-later {x = x} {xs = xs} h) =
    let r = over-split h in
    let p = r.1 in
    (suc r.0, record { before = x ∷ p.before; here = p.here; after = p.after; joined = ap (λ (l : List NodeStart). x ∷ l) p.joined; placed = ap suc p.placed }, by r.0 p.here r.2, r.3)
  where
    by : (i : ℕ) (y : NodeStart) → (max_nodes ≤ suc m + i) ⊎ (max_text_bytes < y.bytes) → (max_nodes ≤ m + suc i) ⊎ (max_text_bytes < y.bytes)
    by i y (inl l) = inl (omega arith)
    by i y (inr l) = inr l

pub split-over : (m : ℕ) (u : List NodeStart) (x : NodeStart) (v : List NodeStart) → (max_nodes ≤ m + length u) ⊎ (max_text_bytes < x.bytes) → Over m (u ++ (x ∷ v)) x.place
split-over m [] x v (inl l) =
    let k : max_nodes ≤ m = omega arith in
    over-here (inl k)
split-over m [] x v (inr l) = over-here (inr l)
split-over m (y ∷ u) x v (inl l) = over-later (split-over (suc m) u x v (inl (omega arith)))
split-over m (y ∷ u) x v (inr l) = over-later (split-over (suc m) u x v (inr l))

-- ---- counts and rows

pub starts-count : (s : Schema) (e : ℕ) (f : Forest) → length (starts_under s e f) ≡ count_in s e f
starts-count s e nothing = refl
starts-count s e (data-node k w f) = by (is_pcdata (content_at s e)) (starts-count s e f)
  where
    by : (b : Bool) → length (starts_under s e f) ≡ count_in s e f
        → length (cond b (record { place = k; bytes = length w } ∷ starts_under s e f) (starts_under s e f)) ≡ cond b (suc (count_in s e f)) (count_in s e f)
    by true h = ap suc h
    by false h = h
starts-count s e (element-node k n c f) =
    let a = starts-count s (index_of s n) c in
    let b = starts-count s e f in
    let d : length (starts_under s (index_of s n) c ++ starts_under s e f) ≡ length (starts_under s (index_of s n) c) + length (starts_under s e f) =
    length-append (starts_under s (index_of s n) c) (starts_under s e f) in
    omega arith

suits-next : {s : Schema} {e k : ℕ} {w : List ℕ} {g : Filling} {f : Forest} (b : Bool) → Suits s e g (data-node k w f) → Suits s e (with_run b g) f
suits-next b (as-text q (more d)) = as-text q d
suits-next b (as-other q m) = as-other q (no-text-run b m)

suits-after : {s : Schema} {e k : ℕ} {n : List ℕ} {g : Filling} {c f : Forest} (o : Option ℕ) → Suits s e g (element-node k n c f) → Suits s e (with_child o g) f
suits-after o (as-text q d) = elim d [ ]
suits-after o (as-other q m) = as-other q (no-text-child o m)

-- what is built of a valid forest under the element e and the row p
record BuiltAs (s : Schema) (e p : ℕ) (f : Forest) (h r : Held) : Type 0 where
  count-is : r.count ≡ h.count + count_in s e f
  rows_are : r.rows ≡ reverse_aux (rows_under s e p h.count f) h.rows
  over-found : (j : ℕ) → Over h.count (starts_under s e f) j → In (at over_node_limit j) r.faults
  found-over : (j : ℕ) → In (at over_node_limit j) r.faults → In (at over_node_limit j) h.faults ⊎ Over h.count (starts_under s e f) j

-- what is found in a part is found in the whole
abbrev Grows : Held → Held → Type 0
Grows h r = (g : Refusal) → In g h.faults → In g r.faults

module _ (s : Schema) (e p k : ℕ) (w : List ℕ) (f : Forest) (fs : List Refusal) (rs : List Row) (n : ℕ) (r : Held) where
  abbrev after_text : Held
  after_text = held (filled_by_text e) (given (ltb max_text_bytes (length w) || leb max_nodes n) (at over_node_limit k) ++ fs) (text_row n e p k (length w) (length (decode w)) ∷ rs) (suc n)

  built-text : is_pcdata (content_at s e) ≡ true → BuiltAs s e p f after_text r → Grows after_text r → BuiltAs s e p (data-node k w f) (held (filled_by_text e) fs rs n) r
  built-text q b grows =
      record {
        count-is = rw q (let c : r.count ≡ suc n + count_in s e f = b.count-is in omega arith);
        rows_are = rw q b.rows_are;
        over-found = λ j o. over j (subst (λ (l : List NodeStart). Over n l j) listed o);
        found-over = λ j i. found j (b.found-over j i);
      }
    where
      x : NodeStart
      x = record { place = k; bytes = length w }

      listed : starts_under s e (data-node k w f) ≡ x ∷ starts_under s e f
      listed = rw q

      over : (j : ℕ) → Over n (x ∷ starts_under s e f) j → In (at over_node_limit j) r.faults
      over j (over-here h) = grows (at over_node_limit k) (append_left fs (in-given (ltb max_text_bytes (length w) || leb max_nodes n) (test h) refl))
        where
          test : (max_nodes ≤ n) ⊎ (max_text_bytes < length w) → T (ltb max_text_bytes (length w) || leb max_nodes n)
          test (inl l) = or_right (ltb max_text_bytes (length w)) (leb max_nodes n) (le→leb max_nodes n l)
          test (inr l) = or_left (ltb max_text_bytes (length w)) (leb max_nodes n) (lt→ltb max_text_bytes (length w) l)
      over j (over-later o) = b.over-found j o

      relist : (j : ℕ) → Over n (x ∷ starts_under s e f) j → Over n (starts_under s e (data-node k w f)) j
      relist j o = subst (λ (l : List NodeStart). Over n l j) (sym listed) o

      tested : T (ltb max_text_bytes (length w)) ⊎ T (leb max_nodes n) → (max_nodes ≤ n) ⊎ (max_text_bytes < length w)
      tested (inl t) = inr (ltb→lt max_text_bytes (length w) t)
      tested (inr t) = inl (leb→le max_nodes n t)

      new : (j : ℕ) → In (at over_node_limit j) (given (ltb max_text_bytes (length w) || leb max_nodes n) (at over_node_limit k)) ⊎ In (at over_node_limit j) fs
          → In (at over_node_limit j) fs ⊎ Over n (starts_under s e (data-node k w f)) j
      new j (inl i) =
          let g = given-in (ltb max_text_bytes (length w) || leb max_nodes n) (at over_node_limit k) (at over_node_limit j) i in
          inr (relist j
          (subst (λ (z : ℕ). Over n (x ∷ starts_under s e f) z) (sym (ap (λ (z : Refusal). z.place) g.1)) (over-here (tested (or_cases (ltb max_text_bytes (length w)) (leb max_nodes n) g.0)))))
      new j (inr i) = inl i

      found : (j : ℕ) → In (at over_node_limit j) after_text.faults ⊎ Over (suc n) (starts_under s e f) j → In (at over_node_limit j) fs ⊎ Over n (starts_under s e (data-node k w f)) j
      found j (inl i) = new j (append_cases (given (ltb max_text_bytes (length w) || leb max_nodes n) (at over_node_limit k)) i)
      found j (inr o) = inr (relist j (over-later o))

  built-no-text : (g a : Filling) → is_pcdata (content_at s e) ≡ false → BuiltAs s e p f (held a fs rs n) r → BuiltAs s e p (data-node k w f) (held g fs rs n) r
  built-no-text g a q b =
      record {
        count-is = rw q b.count-is;
        rows_are = rw q b.rows_are;
        over-found = λ j o. b.over-found j (subst (λ (l : List NodeStart). Over n l j) listed o);
        found-over = λ j i. subst (λ (l : List NodeStart). In (at over_node_limit j) fs ⊎ Over n l j) (sym listed) (b.found-over j i);
      }
    where
      listed : starts_under s e (data-node k w f) ≡ starts_under s e f
      listed = rw q

built-data : (s : Schema) (e p k : ℕ) (w : List ℕ) (f : Forest) {g : Filling} (fs : List Refusal) (rs : List Row) (n : ℕ) (r : Held) (b : Bool) → Suits s e g (data-node k w f)
    → BuiltAs s e p f (run_held g p k w (with_run b g) fs rs n) r → Grows (run_held g p k w (with_run b g) fs rs n) r → BuiltAs s e p (data-node k w f) (held g fs rs n) r
built-data s e p k w f fs rs n r b (as-text q d) x grows = built-text s e p k w f fs rs n r q x grows
built-data s e p k w f fs rs n r b (as-other {g = g} q m) x grows =
    built-no-text s e p k w f fs rs n r g (with_run b g) q (subst (λ (h : Held). BuiltAs s e p f h r) (no-text-held p k w (with_run b g) fs rs n m) x)

module _ (s : Schema) (e p k : ℕ) (m : List ℕ) (c f : Forest) (h r : Held) where
  abbrev inside_start : Held
  inside_start = at_start s p k (element_named s m) h

  abbrev after_element : Held
  after_element = at_end k (element_named s m) h.filling (after_forest s h.count c inside_start)

  built-element : BuiltAs s (index_of s m) h.count c inside_start (after_forest s h.count c inside_start) → BuiltAs s e p f after_element r → Grows after_element r
      → BuiltAs s e p (element-node k m c f) h r
  built-element b d grows =
      record {
        count-is =
            (let a1 : inner.count ≡ suc h.count + count_in s i c = b.count-is in let a2 : r.count ≡ inner.count + count_in s e f = d.count-is in omega arith);
        rows_are =
            d.rows_are ∙ ap (λ (z : ℕ). reverse_aux (rows_under s e p z f) inner.rows) b.count-is
            ∙ ap (λ (l : List Row). reverse_aux (rows_under s e p (suc h.count + count_in s i c) f) l) b.rows_are
            ∙ sym (reverse_aux-append (rows_under s i h.count (suc h.count) c) (rows_under s e p (suc h.count + count_in s i c) f) (element_row h.count i p ∷ h.rows));
        over-found = over;
        found-over = λ j x. found j (d.found-over j x);
      }
    where
      i : ℕ
      i = index_of s m

      inner : Held
      inner = after_forest s h.count c inside_start

      counted : suc h.count + length (starts_under s i c) ≡ inner.count
      counted = ap (λ (z : ℕ). suc h.count + z) (starts-count s i c) ∙ sym b.count-is

      from_inner : (g : Refusal) → In g inner.faults → In g r.faults
      from_inner g x = grows g (end-grows k (element_named s m) h.filling inner x)

      later : (j : ℕ) → Over (suc h.count) (starts_under s i c) j ⊎ Over (suc h.count + length (starts_under s i c)) (starts_under s e f) j → In (at over_node_limit j) r.faults
      later j (inl o) = from_inner (at over_node_limit j) (b.over-found j o)
      later j (inr o) = d.over-found j (subst (λ (z : ℕ). Over z (starts_under s e f) j) counted o)

      over : (j : ℕ) → Over h.count (starts_under s e (element-node k m c f)) j → In (at over_node_limit j) r.faults
      over j (over-here (inl l)) =
          from_inner (at over_node_limit k)
          (forest-grows s h.count c inside_start
          (append_right (given (is_none (element_named s m)) (at undeclared_element k)) (append_left h.faults (in-given (leb max_nodes h.count) (le→leb max_nodes h.count l) refl))))
      over j (over-here (inr l)) = absurd (omega arith)
      over j (over-later o) = later j (over-cases (suc h.count) (starts_under s i c) o)

      Goal : ℕ → Type 0
      Goal j = In (at over_node_limit j) h.faults ⊎ Over h.count (starts_under s e (element-node k m c f)) j

      at-start : (j : ℕ) → In (at over_node_limit j) (given (leb max_nodes h.count) (at over_node_limit k)) ⊎ In (at over_node_limit j) h.faults → Goal j
      at-start j (inl x) =
          let g = given-in (leb max_nodes h.count) (at over_node_limit k) (at over_node_limit j) x in
          inr (subst (λ (z : ℕ). Over h.count (starts_under s e (element-node k m c f)) z) (sym (ap (λ (z : Refusal). z.place) g.1)) (over-here (inl (leb→le max_nodes h.count g.0))))
      at-start j (inr x) = inl x

      declared : (j : ℕ) → In (at over_node_limit j) (given (is_none (element_named s m)) (at undeclared_element k)) ⊎ In (at over_node_limit j) (given (leb max_nodes h.count) (at over_node_limit k) ++ h.faults) → Goal j
      declared j (inl x) = absurd (given-other (is_none (element_named s m)) undeclared_element k (λ q. omega arith) x)
      declared j (inr x) = at-start j (append_cases (given (leb max_nodes h.count) (at over_node_limit k)) x)

      in-content : (j : ℕ) → In (at over_node_limit j) inside_start.faults ⊎ Over (suc h.count) (starts_under s i c) j → Goal j
      in-content j (inl x) = declared j (append_cases (given (is_none (element_named s m)) (at undeclared_element k)) x)
      in-content j (inr o) = inr (over-later (over-left (starts_under s e f) o))

      at-end : (j : ℕ) → In (at over_node_limit j) (given (not (fits_at_end inner.filling)) (at bad_content k)) ⊎ In (at over_node_limit j) inner.faults → Goal j
      at-end j (inl x) = absurd (given-other (not (fits_at_end inner.filling)) bad_content k (λ q. omega arith) x)
      at-end j (inr x) = in-content j (b.found-over j x)

      found : (j : ℕ) → In (at over_node_limit j) after_element.faults ⊎ Over inner.count (starts_under s e f) j → Goal j
      found j (inl x) = at-end j (append_cases (given (not (fits_at_end inner.filling)) (at bad_content k)) x)
      found j (inr o) = inr (over-later (over-right (suc h.count) (starts_under s i c) (subst (λ (z : ℕ). Over z (starts_under s e f) j) (sym counted) o)))

forest-built-as : (s : Schema) (e p : ℕ) (f : Forest) (h : Held) → Suits s e h.filling f → AllFit s f → BuiltAs s e p f h (after_forest s p f h)
unfolding after_forest
forest-built-as s e p nothing h x all = record { count-is = sym (add-zero h.count); rows_are = refl; over-found = λ j o. elim o [ ]; found-over = λ j i. inl i }
forest-built-as s e p (data-node k w f) h x all =
    let b = is_none (solid_from k w) in
    built-data s e p k w f h.faults h.rows h.count (after_forest s p f (after_run p k w h)) b x
    (forest-built-as s e p f (after_run p k w h) (subst (λ (g : Filling). Suits s e g f) (sym (run-filling h.filling p k w (with_run b h.filling) h.faults h.rows h.count)) (suits-next b x))
    (λ k' n' c' o. all k' n' c' (after-data o)))
    (λ g i. forest-grows s p f (after_run p k w h) i)
forest-built-as s e p (element-node k n c f) h x all =
    let first = at_start s p k (element_named s n) h in
    let next = at_end k (element_named s n) h.filling (after_forest s h.count c first) in
    built-element s e p k n c f h (after_forest s p f next)
    (forest-built-as s (index_of s n) h.count c first (element-suits s n (all k n c occurs-here)) (λ k' n' c' o. all k' n' c' (inside o)))
    (forest-built-as s e p f next (suits-after (element_named s n) x) (λ k' n' c' o. all k' n' c' (after-element o)))
    (λ g i. forest-grows s p f next i)

-- ---- the whole tree

abbrev pub AllFitTree : Schema → ℕ → List ℕ → Forest → Type 0
AllFitTree s k n c = (j : ℕ) (m : List ℕ) (d : Forest) → InTree k n c j m d → (e : ℕ) × (element_named s m ≡ some e) × ContentFits s (content_at s e) d

module _ (s : Schema) (k : ℕ) (n : List ℕ) (c : Forest) (all : AllFitTree s k n c) where
  root-built-as : BuiltAs s (index_of s n) 0 c (root_start s k (element_named s n)) (after_forest s 0 c (root_start s k (element_named s n)))
  root-built-as = forest-built-as s (index_of s n) 0 c (root_start s k (element_named s n)) (element-suits s n (all k n c the-root)) (λ j m d o. all j m d (below o))

  -- the rows built of a valid tree are its rows
  pub tree-rows : reverse (tree_held s k n c).rows ≡ tree_rows s n c
  unfolding tree_rows
  tree-rows = ap reverse root-built-as.rows_are ∙ reverse_twice (rows_under s (index_of s n) 0 1 c) (element_row 0 (index_of s n) 0 ∷ []) [] ∙ ap (λ (l : List Row). element_row 0 (index_of s n) 0 ∷ l) (append-nil (rows_under s (index_of s n) 0 1 c))

  -- 16 is found for exactly the nodes beyond a limit
  pub tree_over : (j : ℕ) → Over 0 (tree_starts s k n c) j → In (at over_node_limit j) (tree_held s k n c).faults
  tree_over j (over-here (inl l)) = absurd (omega arith)
  tree_over j (over-here (inr l)) = absurd (omega arith)
  tree_over j (over-later o) = end-grows k none unjudged (after_forest s 0 c (root_start s k (element_named s n))) (root-built-as.over-found j o)

  pub over-tree : (j : ℕ) → In (at over_node_limit j) (tree_held s k n c).faults → Over 0 (tree_starts s k n c) j
  over-tree j i = by (append_cases (given (not (fits_at_end inner.filling)) (at bad_content k)) i)
    where
      inner : Held
      inner = after_forest s 0 c (root_start s k (element_named s n))

      last : In (at over_node_limit j) (given (wrong_root [] (element_named s n)) (at bad_content k)) ⊎ In (at over_node_limit j) [] → Over 0 (tree_starts s k n c) j
      last (inl x) = absurd (given-other (wrong_root [] (element_named s n)) bad_content k (λ q. omega arith) x)
      last (inr x) = elim x [ ]

      first : In (at over_node_limit j) (given (is_none (element_named s n)) (at undeclared_element k)) ⊎ In (at over_node_limit j) (given (wrong_root [] (element_named s n)) (at bad_content k) ++ []) → Over 0 (tree_starts s k n c) j
      first (inl x) = absurd (given-other (is_none (element_named s n)) undeclared_element k (λ q. omega arith) x)
      first (inr x) = last (append_cases (given (wrong_root [] (element_named s n)) (at bad_content k)) x)

      found : In (at over_node_limit j) (root_start s k (element_named s n)).faults ⊎ Over 1 (starts_under s (index_of s n) c) j → Over 0 (tree_starts s k n c) j
      found (inl x) = first (append_cases (given (is_none (element_named s n)) (at undeclared_element k)) x)
      found (inr o) = over-later o

      by : In (at over_node_limit j) (given (not (fits_at_end inner.filling)) (at bad_content k)) ⊎ In (at over_node_limit j) inner.faults → Over 0 (tree_starts s k n c) j
      by (inl x) = absurd (given-other (not (fits_at_end inner.filling)) bad_content k (λ q. omega arith) x)
      by (inr x) = found (root-built-as.found-over j x)

-- a tree in which neither 14 nor 15 was found is valid
pub faultless-fits : (s : Schema) (k : ℕ) (n : List ℕ) (c : Forest) → ((f : Refusal) → In f (tree_held s k n c).faults → 16 ≤ number_of f.reason) → AllFitTree s k n c
faultless-fits s k n c h j m d t = by (element_named s m) refl
  where
    fit : (e : ℕ) → element_named s m ≡ some e → (b : Bool) → fits_at_end (filling_after s (filling_of e (content_at s e)) d) ≡ b → ContentFits s (content_at s e) d
    fit e q true z = ends-content s e (content_at s e) d (passed z)
    fit e q false z =
        let x = h (at bad_content j) (tree-faulty s k n c t (not-fitting (subst (λ (o : Option ℕ). T (not (fits_at_end (filling_after s (filling_for s o) d)))) (sym q) (rw z tt)))) in
        absurd (omega arith)

    by : (o : Option ℕ) → element_named s m ≡ o → (e : ℕ) × (element_named s m ≡ some e) × ContentFits s (content_at s e) d
    by none q =
        let x = h (at undeclared_element j) (tree-faulty s k n c t (not-declared (subst (λ (o : Option ℕ). T (is_none o)) (sym q) tt))) in
        absurd (omega arith)
    by (some e) q = (e, q, fit e q (fits_at_end (filling_after s (filling_of e (content_at s e)) d)) refl)
