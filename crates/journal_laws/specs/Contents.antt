-- Refusals 14 and 15 over trees: the faults found are the elements that are undeclared or whose content does not fit.
use Rattle.std.specs.Prelude.{Bool, not, ◌||◌, ◌⊎◌, ◌≡◌, refl, ℕ, leb, ltb, length}
use mathlib.Core.List.Memᴰ.{append_cases}
use mathlib.Core.List.Memᴰ.{append_left}
use mathlib.Core.List.Memᴰ.{append_right}
use mathlib.Core.List.{List, [], ◌∷◌, ◌++◌, Memᴰ as In}
use Rattle.std.proofs.Math.Logic.{inl, inr}
use Rattle.std.proofs.Common.{⊎_elim, sym, ap, subst, ◌∙◌, arith}
use Rattle.std.proofs.Math.Option.{Option, none, some}
use Rattle.std.proofs.Math.Dec.{T}
use Rattle.journal_laws.specs.Forests.{Held, run_held, after_run, at_start, at_end, after_forest, root_start, tree_held, blank-solid}
use Rattle.journal_laws.specs.Nesting.{Solid, only-blanks, solid-at, solid-of}
use Rattle.journal_spec.specs.Builder.{Filling, unjudged, misfit, unfilled, filled_by_text, filled_by_children, filling_of, filling_for, with_child, with_run, fits_at_end, wrong_root}
use Rattle.journal_spec.specs.Trees.{Forest, nothing, data-node, element-node}
use Rattle.journal_spec.specs.Validity.{ChildElements, no-children, blanks, child, OnlyData, no-data, more, ContentFits, fits-empty, fits-pcdata, fits-children, Occurs, here as occurs-here, inside, after-element, after-data, InTree, the-root, below}
use Rattle.schema_laws.specs.Models.{fits-sound, fits-complete}
use Rattle.schema_spec.specs.Models.{Content, empty, pcdata, children, Progress, started, advance, complete, advance_all, fits}
use Rattle.schema_spec.specs.Schemas.{Schema, element_named, content_at}
use Rattle.table_spec.specs.Rows.{Row}
use Rattle.text_laws.specs.Refusals.{in-given, given-in}
use Rattle.text_laws.specs.Tests.{not-elim}
use Rattle.text_spec.specs.Limits.{max_nodes, max_text_bytes}
use Rattle.text_spec.specs.Lists.{is_none}
use Rattle.text_spec.specs.Refusals.{Reason, Refusal, number_of, at, given, undeclared_element, bad_content, over_node_limit}
use Rattle.token_laws.specs.Passes.{solid_from}

-- the content of an element after a forest
unfoldable pub filling_after : Schema → Filling → Forest → Filling
filling_after s g nothing = g
filling_after s g (data-node k w f) = filling_after s (with_run (is_none (solid_from k w)) g) f
filling_after s g (element-node k n c f) = filling_after s (with_child (element_named s n) g) f

pub run-filling : (a : Filling) (p k : ℕ) (w : List ℕ) (g : Filling) (fs : List Refusal) (rs : List Row) (n : ℕ) → (run_held a p k w g fs rs n).filling ≡ g
run-filling unjudged p k w g fs rs n = refl
run-filling misfit p k w g fs rs n = refl
run-filling unfilled p k w g fs rs n = refl
run-filling (filled_by_text e) p k w g fs rs n = refl
run-filling (filled_by_children q) p k w g fs rs n = refl

pub held-filling : (s : Schema) (p : ℕ) (f : Forest) (h : Held) → (after_forest s p f h).filling ≡ filling_after s h.filling f
unfolding after_forest filling_after
held-filling s p nothing h = refl
held-filling s p (data-node k w f) h =
    held-filling s p f (after_run p k w h)
    ∙ ap (λ (g : Filling). filling_after s g f) (run-filling h.filling p k w (with_run (is_none (solid_from k w)) h.filling) h.faults h.rows h.count)
held-filling s p (element-node k n c f) h = held-filling s p f (at_end k (element_named s n) h.filling (after_forest s h.count c (at_start s p k (element_named s n) h)))

-- ---- a content fits exactly where the builder says so at its end

misfit-remains : (s : Schema) (f : Forest) → filling_after s misfit f ≡ misfit
unfolding filling_after
misfit-remains s nothing = refl
misfit-remains s (data-node k w f) = misfit-remains s f
misfit-remains s (element-node k n c f) = misfit-remains s f

pub unjudged-remains : (s : Schema) (f : Forest) → filling_after s unjudged f ≡ unjudged
unfolding filling_after
unjudged-remains s nothing = refl
unjudged-remains s (data-node k w f) = unjudged-remains s f
unjudged-remains s (element-node k n c f) = unjudged-remains s f

-- nothing can follow a misfit
no-misfit : {A : Type 0} (s : Schema) (f : Forest) → T (fits_at_end (filling_after s misfit f)) → A
no-misfit s f t = absurd (subst (λ (g : Filling). T (fits_at_end g)) (misfit-remains s f) t)

text-remains : {f : Forest} (s : Schema) (e : ℕ) → OnlyData f → filling_after s (filled_by_text e) f ≡ filled_by_text e
unfolding filling_after
text-remains s e no-data = refl
text-remains s e (more d) = text-remains s e d

children-advance : {s : Schema} {f : Forest} {es : List ℕ} (q : Progress) → ChildElements s f es → filling_after s (filled_by_children q) f ≡ filled_by_children (advance_all q es)
unfolding filling_after
children-advance q no-children = refl
children-advance {s} q (blanks {k = k} {w = w} {f = f} t c) =
    ap (λ (o : Option ℕ). filling_after s (with_run (is_none o) (filled_by_children q)) f) (blank-solid k w t) ∙ children-advance q c
children-advance {s} q (child {e = e} {f = f} h c) = ap (λ (o : Option ℕ). filling_after s (with_child o (filled_by_children q)) f) h ∙ children-advance (advance q e) c

pub content-ends : {s : Schema} {c : Content ℕ} {f : Forest} (e : ℕ) → ContentFits s c f → T (fits_at_end (filling_after s (filling_of e c) f))
unfolding filling_after fits
content-ends e fits-empty = tt
content-ends {s} e (fits-pcdata d) = subst (λ (g : Filling). T (fits_at_end g)) (sym (text-remains s e d)) tt
content-ends e (fits-children {p = p} {es = es} c h) = subst (λ (g : Filling). T (fits_at_end g)) (sym (children-advance (started p) c)) (fits-complete p es h)

only-data : (s : Schema) (e : ℕ) (f : Forest) → T (fits_at_end (filling_after s (filled_by_text e) f)) → OnlyData f
unfolding filling_after
only-data s e nothing t = no-data
only-data s e (data-node k w f) t = more (only-data s e f t)
only-data s e (element-node k n c f) t = no-misfit s f t

record Advanced (s : Schema) (q : Progress) (f : Forest) : Type 0 where
  elements : List ℕ
  in_order : ChildElements s f elements
  completes : T (complete (advance_all q elements))

child-elements : (s : Schema) (q : Progress) (f : Forest) → T (fits_at_end (filling_after s (filled_by_children q) f)) → Advanced s q f
unfolding filling_after
child-elements s q nothing t = record { elements = []; in_order = no-children; completes = t }
child-elements s q (data-node k w f) t = by (solid-of k w) t (child-elements s q f)
  where
    by : Solid k w → T (fits_at_end (filling_after s (with_run (is_none (solid_from k w)) (filled_by_children q)) f)) → (T (fits_at_end (filling_after s (filled_by_children q) f)) → Advanced s q f)
        → Advanced s q (data-node k w f)
    by (only-blanks e b) u ih =
        let r = ih (subst (λ (o : Option ℕ). T (fits_at_end (filling_after s (with_run (is_none o) (filled_by_children q)) f))) e u) in
        record { elements = r.elements; in_order = blanks b r.in_order; completes = r.completes }
    by (solid-at j e o n) u ih = no-misfit s f (subst (λ (o : Option ℕ). T (fits_at_end (filling_after s (with_run (is_none o) (filled_by_children q)) f))) e u)
child-elements s q (element-node k n c f) t = by (element_named s n) refl t (λ e. child-elements s (advance q e) f)
  where
    by : (o : Option ℕ) → element_named s n ≡ o → T (fits_at_end (filling_after s (with_child o (filled_by_children q)) f))
        → ((e : ℕ) → T (fits_at_end (filling_after s (filled_by_children (advance q e)) f)) → Advanced s (advance q e) f) → Advanced s q (element-node k n c f)
    by none h u ih = no-misfit s f u
    by (some e) h u ih =
        let r = ih e u in
        record { elements = e ∷ r.elements; in_order = child h r.in_order; completes = r.completes }

pub ends-content : (s : Schema) (e : ℕ) (c : Content ℕ) (f : Forest) → T (fits_at_end (filling_after s (filling_of e c) f)) → ContentFits s c f
unfolding filling_after fits
ends-content s e empty nothing t = fits-empty
ends-content s e empty (data-node k w f) t = no-misfit s f t
ends-content s e empty (element-node k n d f) t = no-misfit s f t
ends-content s e pcdata f t = fits-pcdata (only-data s e f t)
ends-content s e (children p) f t =
    let r = child-elements s (started p) f t in
    fits-children r.in_order (fits-sound p r.elements r.completes)

-- ---- what is found stays found

pub run-grows : {g : Refusal} (a : Filling) (p k : ℕ) (w : List ℕ) (b : Filling) (fs : List Refusal) (rs : List Row) (n : ℕ) → In g fs → In g (run_held a p k w b fs rs n).faults
run-grows unjudged p k w b fs rs n i = i
run-grows misfit p k w b fs rs n i = i
run-grows unfilled p k w b fs rs n i = i
run-grows (filled_by_text e) p k w b fs rs n i = append_right (given (ltb max_text_bytes (length w) || leb max_nodes n) (at over_node_limit k)) i
run-grows (filled_by_children q) p k w b fs rs n i = i

pub start-grows : {g : Refusal} (s : Schema) (p k : ℕ) (e : Option ℕ) (h : Held) → In g h.faults → In g (at_start s p k e h).faults
start-grows s p k e h i = append_right (given (is_none e) (at undeclared_element k)) (append_right (given (leb max_nodes h.count) (at over_node_limit k)) i)

pub end-grows : {g : Refusal} (k : ℕ) (e : Option ℕ) (a : Filling) (h : Held) → In g h.faults → In g (at_end k e a h).faults
end-grows k e a h i = append_right (given (not (fits_at_end h.filling)) (at bad_content k)) i

pub forest-grows : {g : Refusal} (s : Schema) (p : ℕ) (f : Forest) (h : Held) → In g h.faults → In g (after_forest s p f h).faults
unfolding after_forest
forest-grows s p nothing h i = i
forest-grows s p (data-node k w f) h i =
    forest-grows s p f (after_run p k w h) (run-grows h.filling p k w (with_run (is_none (solid_from k w)) h.filling) h.faults h.rows h.count i)
forest-grows s p (element-node k n c f) h i =
    let e = element_named s n in
    let inner = after_forest s h.count c (at_start s p k e h) in
    forest-grows s p f (at_end k e h.filling inner) (end-grows k e h.filling inner (forest-grows s h.count c (at_start s p k e h) (start-grows s p k e h i)))

-- ---- 14 and 15 are found where they should be

-- a fault that an element makes at its start or at its end is found in each forest in which it occurs
pub data Faulty (s : Schema) (k : ℕ) (n : List ℕ) (c : Forest) : Refusal → Type 0 where
  not-declared : T (is_none (element_named s n)) → Faulty s k n c (at undeclared_element k)
  not-fitting : T (not (fits_at_end (filling_after s (filling_for s (element_named s n)) c))) → Faulty s k n c (at bad_content k)

pub element-faulty : {g : Refusal} {k : ℕ} {n : List ℕ} {c : Forest} (s : Schema) (p : ℕ) (a : Filling) (h : Held) → Faulty s k n c g
    → In g (at_end k (element_named s n) a (after_forest s h.count c (at_start s p k (element_named s n) h))).faults
element-faulty {k = k} {n = n} {c = c} s p a h (not-declared t) =
    let e = element_named s n in
    end-grows k e a (after_forest s h.count c (at_start s p k e h))
    (forest-grows s h.count c (at_start s p k e h) (append_left (given (leb max_nodes h.count) (at over_node_limit k) ++ h.faults) (in-given (is_none e) t refl)))
element-faulty {k = k} {n = n} {c = c} s p a h (not-fitting t) =
    let e = element_named s n in
    let inner = after_forest s h.count c (at_start s p k e h) in
    append_left inner.faults
    (in-given (not (fits_at_end inner.filling)) (subst (λ (x : Filling). T (not (fits_at_end x))) (sym (held-filling s h.count c (at_start s p k e h))) t) refl)

pub forest-faulty : {g : Refusal} {k : ℕ} {n : List ℕ} {c f : Forest} (s : Schema) (p : ℕ) (h : Held) → Occurs k n c f → Faulty s k n c g → In g (after_forest s p f h).faults
unfolding after_forest
forest-faulty s p h (occurs-here {k = k} {n = n} {c = c} {f = f}) x =
    forest-grows s p f (at_end k (element_named s n) h.filling (after_forest s h.count c (at_start s p k (element_named s n) h))) (element-faulty s p h.filling h x)
forest-faulty s p h (inside {j = j} {m = m} {d = d} {f = f} o) x =
    let e = element_named s m in
    let inner = after_forest s h.count d (at_start s p j e h) in
    forest-grows s p f (at_end j e h.filling inner) (end-grows j e h.filling inner (forest-faulty s h.count (at_start s p j e h) o x))
forest-faulty s p h (after-element {j = j} {m = m} {d = d} o) x =
    forest-faulty s p (at_end j (element_named s m) h.filling (after_forest s h.count d (at_start s p j (element_named s m) h))) o x
forest-faulty s p h (after-data {j = j} {w = w} o) x = forest-faulty s p (after_run p j w h) o x

-- ---- 15 is found only where a content does not fit

-- a test for one reason finds no other
pub given-other : (b : Bool) (q : Reason) (k : ℕ) {r : Reason} {j : ℕ} → (number_of r ≡ number_of q → ⊥) → In (at r j) (given b (at q k)) → ⊥
given-other b q k {r} {j} h i = h (ap (λ (f : Refusal). number_of f.reason) (given-in b (at q k) (at r j) i).1)

abbrev pub Misfits : Schema → ℕ → List ℕ → Forest → Type 0
Misfits s k n c = (e : ℕ) × (element_named s n ≡ some e) × (ContentFits s (content_at s e) c → ⊥)

-- an element of a forest that starts at a place, with a property of its place, name and content
pub record FoundIn (P : ℕ → List ℕ → Forest → Type 0) (f : Forest) (k : ℕ) : Type 0 where
  pub name : List ℕ
  pub content : Forest
  pub occurs : Occurs k name content f
  pub so : P k name content

-- character data is found over a limit, and for no other reason
run-other : {r : Reason} {j : ℕ} → (number_of r ≡ number_of over_node_limit → ⊥) → (a : Filling) (p k : ℕ) (w : List ℕ) (b : Filling) (fs : List Refusal) (rs : List Row) (n : ℕ)
    → In (at r j) (run_held a p k w b fs rs n).faults → In (at r j) fs
run-other h unjudged p k w b fs rs n i = i
run-other h misfit p k w b fs rs n i = i
run-other h unfilled p k w b fs rs n i = i
run-other {r} {j} h (filled_by_text e) p k w b fs rs n i = by (append_cases (given (ltb max_text_bytes (length w) || leb max_nodes n) (at over_node_limit k)) i)
  where
    by : In (at r j) (given (ltb max_text_bytes (length w) || leb max_nodes n) (at over_node_limit k)) ⊎ In (at r j) fs → In (at r j) fs
    by (inl x) = absurd (given-other (ltb max_text_bytes (length w) || leb max_nodes n) over_node_limit k h x)
    by (inr x) = x
run-other h (filled_by_children q) p k w b fs rs n i = i

start-no-15 : {j : ℕ} (s : Schema) (p k : ℕ) (e : Option ℕ) (h : Held) → In (at bad_content j) (at_start s p k e h).faults → In (at bad_content j) h.faults
start-no-15 {j} s p k e h i = first (append_cases (given (is_none e) (at undeclared_element k)) i)
  where
    second : In (at bad_content j) (given (leb max_nodes h.count) (at over_node_limit k)) ⊎ In (at bad_content j) h.faults → In (at bad_content j) h.faults
    second (inl x) = absurd (given-other (leb max_nodes h.count) over_node_limit k (λ e. omega arith) x)
    second (inr x) = x

    first : In (at bad_content j) (given (is_none e) (at undeclared_element k)) ⊎ In (at bad_content j) (given (leb max_nodes h.count) (at over_node_limit k) ++ h.faults) → In (at bad_content j) h.faults
    first (inl x) = absurd (given-other (is_none e) undeclared_element k (λ e. omega arith) x)
    first (inr x) = second (append_cases (given (leb max_nodes h.count) (at over_node_limit k)) x)

-- an element that does not fit at its end is declared, and its content does not fit
pub misfit-at-end : (s : Schema) (k : ℕ) (n : List ℕ) (c : Forest) → T (not (fits_at_end (filling_after s (filling_for s (element_named s n)) c))) → Misfits s k n c
misfit-at-end s k n c t = by (element_named s n) refl t
  where
    by : (o : Option ℕ) → element_named s n ≡ o → T (not (fits_at_end (filling_after s (filling_for s o) c))) → Misfits s k n c
    by none e t = absurd (subst (λ (g : Filling). T (not (fits_at_end g))) (unjudged-remains s c) t)
    by (some x) e t = (x, e, λ f. not-elim (fits_at_end (filling_after s (filling_of x (content_at s x)) c)) t (content-ends x f))

end-15 : {j : ℕ} (s : Schema) (k : ℕ) (n : List ℕ) (c : Forest) (p : ℕ) (e : Option ℕ) (a : Filling) (h : Held)
    → In (at bad_content j) (at_end k e a (after_forest s p c h)).faults → h.filling ≡ filling_for s (element_named s n)
    → ((j ≡ k) × Misfits s k n c) ⊎ In (at bad_content j) (after_forest s p c h).faults
end-15 {j} s k n c p e a h i q = by (append_cases (given (not (fits_at_end (after_forest s p c h).filling)) (at bad_content k)) i)
  where
    by : In (at bad_content j) (given (not (fits_at_end (after_forest s p c h).filling)) (at bad_content k)) ⊎ In (at bad_content j) (after_forest s p c h).faults
        → ((j ≡ k) × Misfits s k n c) ⊎ In (at bad_content j) (after_forest s p c h).faults
    by (inl x) =
        let g = given-in (not (fits_at_end (after_forest s p c h).filling)) (at bad_content k) (at bad_content j) x in
        let y : filling_after s (filling_for s (element_named s n)) c ≡ (after_forest s p c h).filling = sym (held-filling s p c h ∙ ap (λ (z : Filling). filling_after s z c) q) in
        inl (ap (λ (r : Refusal). r.place) g.1, misfit-at-end s k n c (subst (λ (z : Filling). T (not (fits_at_end z))) (sym y) g.0))
    by (inr x) = inr x

-- What a forest finds for a reason was found before it, or an element of it has the property, where that is so of each element's start
-- and end, and the reason is not 16.
module _ (s : Schema) (r : Reason) (P : ℕ → List ℕ → Forest → Type 0) (h16 : number_of r ≡ number_of over_node_limit → ⊥)
    (starts : (j p k : ℕ) (n : List ℕ) (c : Forest) (h : Held) → In (at r j) (at_start s p k (element_named s n) h).faults
    → ((j ≡ k) × P k n c) ⊎ In (at r j) h.faults)
    (ends : (j p k : ℕ) (n : List ℕ) (c : Forest) (h : Held) → In (at r j) (at_end k (element_named s n) h.filling (after_forest s h.count c (at_start s p k (element_named s n) h))).faults
    → ((j ≡ k) × P k n c) ⊎ In (at r j) (after_forest s h.count c (at_start s p k (element_named s n) h)).faults) where
  forest-found : {j : ℕ} (p : ℕ) (f : Forest) (h : Held) → In (at r j) (after_forest s p f h).faults → In (at r j) h.faults ⊎ FoundIn P f j
  unfolding after_forest
  forest-found p nothing h i = inl i
  forest-found {j} p (data-node k w f) h i = by (forest-found p f (after_run p k w h) i)
    where
      by : In (at r j) (after_run p k w h).faults ⊎ FoundIn P f j → In (at r j) h.faults ⊎ FoundIn P (data-node k w f) j
      by (inl x) = inl (run-other h16 h.filling p k w (with_run (is_none (solid_from k w)) h.filling) h.faults h.rows h.count x)
      by (inr x) = inr (record { name = x.name; content = x.content; occurs = after-data x.occurs; so = x.so })
  forest-found {j} p (element-node k n c f) h i =
      outer (forest-found p f (at_end k (element_named s n) h.filling inner) i) (λ x. forest-found h.count c first x)
    where
      first : Held
      first = at_start s p k (element_named s n) h

      inner : Held
      inner = after_forest s h.count c first

      Found : Type 0
      Found = In (at r j) h.faults ⊎ FoundIn P (element-node k n c f) j

      itself : (j ≡ k) × P k n c → Found
      itself x = inr (record { name = n; content = c; occurs = subst (λ (z : ℕ). Occurs z n c (element-node k n c f)) (sym x.0) occurs-here; so = subst (λ (z : ℕ). P z n c) (sym x.0) x.1 })

      under-it : In (at r j) first.faults ⊎ FoundIn P c j → Found
      under-it (inl x) = ⊎_elim itself inl (starts j p k n c h x)
      under-it (inr x) = inr (record { name = x.name; content = x.content; occurs = inside x.occurs; so = x.so })

      outer : In (at r j) (at_end k (element_named s n) h.filling inner).faults ⊎ FoundIn P f j
          → (In (at r j) inner.faults → In (at r j) first.faults ⊎ FoundIn P c j) → Found
      outer (inl x) ih = ⊎_elim itself (λ y. under-it (ih y)) (ends j p k n c h x)
      outer (inr x) ih = inr (record { name = x.name; content = x.content; occurs = after-element x.occurs; so = x.so })

pub forest-15 : {j : ℕ} (s : Schema) (p : ℕ) (f : Forest) (h : Held) → In (at bad_content j) (after_forest s p f h).faults
    → In (at bad_content j) h.faults ⊎ FoundIn (Misfits s) f j
forest-15 s p f h i =
    forest-found s bad_content (Misfits s) (λ e. omega arith)
    (λ j p k n c h x. inr (start-no-15 s p k (element_named s n) h x))
    (λ j p k n c h x. end-15 s k n c h.count (element_named s n) h.filling (at_start s p k (element_named s n) h) x refl) p f h i

-- 14 is found only for an undeclared element
abbrev pub Undeclared : Schema → ℕ → List ℕ → Forest → Type 0
Undeclared s k n c = T (is_none (element_named s n))

start-14 : {j : ℕ} (s : Schema) (p k : ℕ) (e : Option ℕ) (h : Held) → In (at undeclared_element j) (at_start s p k e h).faults
    → ((j ≡ k) × T (is_none e)) ⊎ In (at undeclared_element j) h.faults
start-14 {j} s p k e h i = first (append_cases (given (is_none e) (at undeclared_element k)) i)
  where
    second : In (at undeclared_element j) (given (leb max_nodes h.count) (at over_node_limit k)) ⊎ In (at undeclared_element j) h.faults
        → ((j ≡ k) × T (is_none e)) ⊎ In (at undeclared_element j) h.faults
    second (inl x) = absurd (given-other (leb max_nodes h.count) over_node_limit k (λ e. omega arith) x)
    second (inr x) = inr x

    first : In (at undeclared_element j) (given (is_none e) (at undeclared_element k)) ⊎ In (at undeclared_element j) (given (leb max_nodes h.count) (at over_node_limit k) ++ h.faults)
        → ((j ≡ k) × T (is_none e)) ⊎ In (at undeclared_element j) h.faults
    first (inl x) =
        let g = given-in (is_none e) (at undeclared_element k) (at undeclared_element j) x in
        inl (ap (λ (r : Refusal). r.place) g.1, g.0)
    first (inr x) = second (append_cases (given (leb max_nodes h.count) (at over_node_limit k)) x)

end-no-14 : {j : ℕ} (k : ℕ) (e : Option ℕ) (a : Filling) (h : Held) → In (at undeclared_element j) (at_end k e a h).faults → In (at undeclared_element j) h.faults
end-no-14 {j} k e a h i = by (append_cases (given (not (fits_at_end h.filling)) (at bad_content k)) i)
  where
    by : In (at undeclared_element j) (given (not (fits_at_end h.filling)) (at bad_content k)) ⊎ In (at undeclared_element j) h.faults → In (at undeclared_element j) h.faults
    by (inl x) = absurd (given-other (not (fits_at_end h.filling)) bad_content k (λ e. omega arith) x)
    by (inr x) = x

pub forest-14 : {j : ℕ} (s : Schema) (p : ℕ) (f : Forest) (h : Held) → In (at undeclared_element j) (after_forest s p f h).faults
    → In (at undeclared_element j) h.faults ⊎ FoundIn (Undeclared s) f j
forest-14 s p f h i =
    forest-found s undeclared_element (Undeclared s) (λ e. omega arith)
    (λ j p k n c h x. start-14 s p k (element_named s n) h x)
    (λ j p k n c h x. inr (end-no-14 k (element_named s n) h.filling (after_forest s h.count c (at_start s p k (element_named s n) h)) x)) p f h i

-- ---- the whole tree

module _ (s : Schema) (k : ℕ) (n : List ℕ) (c : Forest) where
  root-inner : Held
  root-inner = after_forest s 0 c (root_start s k (element_named s n))

  -- an element that is undeclared or does not fit is found
  pub tree-faulty : {g : Refusal} {j : ℕ} {m : List ℕ} {d : Forest} → InTree k n c j m d → Faulty s j m d g → In g (tree_held s k n c).faults
  unfolding root-inner
  tree-faulty the-root (not-declared t) =
      end-grows k none unjudged root-inner
      (forest-grows s 0 c (root_start s k (element_named s n)) (append_left (given (wrong_root [] (element_named s n)) (at bad_content k) ++ []) (in-given (is_none (element_named s n)) t refl)))
  tree-faulty the-root (not-fitting t) =
      append_left root-inner.faults
      (in-given (not (fits_at_end root-inner.filling)) (subst (λ (x : Filling). T (not (fits_at_end x))) (sym (held-filling s 0 c (root_start s k (element_named s n)))) t) refl)
  tree-faulty (below o) x = end-grows k none unjudged root-inner (forest-faulty s 0 (root_start s k (element_named s n)) o x)

  -- a root that is declared but not the schema's is found
  pub tree-wrong-root : T (wrong_root [] (element_named s n)) → In (at bad_content k) (tree_held s k n c).faults
  unfolding root-inner
  tree-wrong-root t =
      end-grows k none unjudged root-inner
      (forest-grows s 0 c (root_start s k (element_named s n))
      (append_right (given (is_none (element_named s n)) (at undeclared_element k)) (append_left [] (in-given (wrong_root [] (element_named s n)) t refl))))

  pub data Misplaced (j : ℕ) : Type 0 where
    wrong-root : j ≡ k → T (wrong_root [] (element_named s n)) → Misplaced j
    wrong-content : {m : List ℕ} {d : Forest} → InTree k n c j m d → Misfits s j m d → Misplaced j

  -- 15 is found only for the root or for a content that does not fit
  pub tree-15 : {j : ℕ} → In (at bad_content j) (tree_held s k n c).faults → Misplaced j
  tree-15 {j} i = by (end-15 s k n c 0 none unjudged (root_start s k (element_named s n)) i refl)
    where
      last : In (at bad_content j) (given (wrong_root [] (element_named s n)) (at bad_content k)) ⊎ In (at bad_content j) [] → Misplaced j
      last (inl x) =
          let g = given-in (wrong_root [] (element_named s n)) (at bad_content k) (at bad_content j) x in
          wrong-root (ap (λ (r : Refusal). r.place) g.1) g.0
      last (inr x) = elim x [ ]

      first : In (at bad_content j) (given (is_none (element_named s n)) (at undeclared_element k)) ⊎ In (at bad_content j) (given (wrong_root [] (element_named s n)) (at bad_content k) ++ []) → Misplaced j
      first (inl x) = absurd (given-other (is_none (element_named s n)) undeclared_element k (λ e. omega arith) x)
      first (inr x) = last (append_cases (given (wrong_root [] (element_named s n)) (at bad_content k)) x)

      inner : In (at bad_content j) (root_start s k (element_named s n)).faults ⊎ FoundIn (Misfits s) c j → Misplaced j
      inner (inl x) = first (append_cases (given (is_none (element_named s n)) (at undeclared_element k)) x)
      inner (inr x) = wrong-content (below x.occurs) x.so

      by : ((j ≡ k) × Misfits s k n c) ⊎ In (at bad_content j) (after_forest s 0 c (root_start s k (element_named s n))).faults → Misplaced j
      by (inl x) = subst Misplaced (sym x.0) (wrong-content the-root x.1)
      by (inr x) = inner (forest-15 s 0 c (root_start s k (element_named s n)) x)

  -- 14 is found only for an undeclared element of the tree
  pub tree-14 : {j : ℕ} → In (at undeclared_element j) (tree_held s k n c).faults → (m : List ℕ) × (d : Forest) × InTree k n c j m d × T (is_none (element_named s m))
  tree-14 {j} i = by (forest-14 s 0 c (root_start s k (element_named s n)) (end-no-14 k none unjudged (after_forest s 0 c (root_start s k (element_named s n))) i))
    where
      root-only : In (at undeclared_element j) (given (is_none (element_named s n)) (at undeclared_element k))
          ⊎ In (at undeclared_element j) (given (wrong_root [] (element_named s n)) (at bad_content k) ++ []) → (m : List ℕ) × (d : Forest) × InTree k n c j m d × T (is_none (element_named s m))
      root-only (inl x) =
          let g = given-in (is_none (element_named s n)) (at undeclared_element k) (at undeclared_element j) x in
          (n, c, subst (λ (z : ℕ). InTree k n c z n c) (sym (ap (λ (r : Refusal). r.place) g.1)) the-root, g.0)
      root-only (inr x) = elim-last (append_cases (given (wrong_root [] (element_named s n)) (at bad_content k)) x)
        where
          elim-last : In (at undeclared_element j) (given (wrong_root [] (element_named s n)) (at bad_content k)) ⊎ In (at undeclared_element j) []
              → (m : List ℕ) × (d : Forest) × InTree k n c j m d × T (is_none (element_named s m))
          elim-last (inl y) = absurd (given-other (wrong_root [] (element_named s n)) bad_content k (λ e. omega arith) y)
          elim-last (inr y) = elim y [ ]

      by : In (at undeclared_element j) (root_start s k (element_named s n)).faults ⊎ FoundIn (Undeclared s) c j → (m : List ℕ) × (d : Forest) × InTree k n c j m d × T (is_none (element_named s m))
      by (inl x) = root-only (append_cases (given (is_none (element_named s n)) (at undeclared_element k)) x)
      by (inr x) = (x.name, x.content, below x.occurs, x.so)
