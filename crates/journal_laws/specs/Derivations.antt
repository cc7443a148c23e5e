-- Events that are built with nothing found against them, step by step, as a relation.
use Rattle.std.specs.Prelude.{Bool, cond, not, ◌||◌, ◌≡◌, ℕ, suc, ◌+◌, ◌-◌, ◌≤◌, ◌<◌, T, leb, ltb, length}
use Rattle.std.proofs.Math.Bool.{true, false}
use mathlib.Core.List.{List, [], ◌∷◌, ◌++◌}
use Rattle.std.proofs.Math.Option.{Option, none, some}
use Rattle.std.proofs.Math.Path.{refl, subst}
use Rattle.std.proofs.Common.{sym, ap, ◌∙◌, nltb→le}
use Rattle.std.proofs.Math.Dec.{eqb, eqb→eq, nleb→lt}
use Rattle.journal_laws.specs.Events.{build}
use Rattle.journal_laws.specs.Kept.{KeptByEnds, KeptByRuns, KeptByStarts, keep-unbroken}
use Rattle.journal_spec.specs.Builder.{Filling, unjudged, misfit, unfilled, filled_by_text, filled_by_children, filling_of, with_child, with_run, fits_at_end, Open, Building, building, breaks, parent_row, refill, filling_for, wrong_root, begin, on_start, end_of, outside, text_node, inside, on_unbroken, on_event}
use Rattle.schema_spec.specs.Models.{Progress}
use Rattle.schema_spec.specs.Schemas.{Schema, element_named, content_at}
use Rattle.table_laws.specs.Places.{none-some}
use Rattle.table_spec.specs.Rows.{Row, element_row, text_row}
use Rattle.text_laws.specs.Lists.{append-empty}
use Rattle.text_laws.specs.Refusals.{given-free}
use Rattle.text_laws.specs.Tests.{passed, or_left, or_right, not-intro, not-not}
use Rattle.text_spec.specs.Limits.{max_depth, max_nodes, max_text_bytes}
use Rattle.text_spec.specs.Lists.{is_none, value_or, same_bytes}
use Rattle.text_spec.specs.Refusals.{Refusal, at, given, bad_nesting, over_depth, undeclared_element, bad_content, over_node_limit}
use Rattle.token_laws.specs.Events.{InTurn, no_more, start-next, end-next, run-next}
use Rattle.token_spec.specs.Lexer.{Run, Event, starts, ends, runs}

-- ---- what was found stays

rest-free : (t : Bool) (f : Refusal) (fs : List Refusal) → given t f ++ fs ≡ [] → fs ≡ []
rest-free t f fs e = (append-empty (given t f) fs e).1

test-free : (t : Bool) (f : Refusal) (fs : List Refusal) → given t f ++ fs ≡ [] → T t → ⊥
test-free t f fs e = given-free t f (append-empty (given t f) fs e).0

-- no fault now, none before
abbrev FreeBefore : Building → Building → Type 0
FreeBefore b c = c.faults ≡ [] → b.faults ≡ []

begin-faults : (s : Schema) (n : List ℕ) (k : ℕ) (b : Building) → FreeBefore b (begin s n k b)
begin-faults s n k b e =
    let x = element_named s n in
    rest-free (leb max_nodes b.count) (at over_node_limit k) b.faults
    (rest-free (wrong_root b.opens x) (at bad_content k) (given (leb max_nodes b.count) (at over_node_limit k) ++ b.faults)
    (rest-free (is_none x) (at undeclared_element k) (given (wrong_root b.opens x) (at bad_content k) ++ (given (leb max_nodes b.count) (at over_node_limit k) ++ b.faults)) e))

unbroken-faults : (s : Schema) (e : Event) (b : Building) → FreeBefore b (on_unbroken s e b)
unbroken-faults s e b = keep-unbroken (FreeBefore b) by-ends b (λ h. h) by_runs s by-starts e
  where
    by-ends : KeptByEnds (FreeBefore b)
    by-ends = record { broken-12 = λ c k h. h; ended = λ c o os h x. h (rest-free (not (fits_at_end o.filling)) (at bad_content o.place) c.faults x) }

    by_runs : KeptByRuns (FreeBefore b) b
    by_runs = record { run_on = λ os x. x; text-on = λ os t k r x. rest-free t (at over_node_limit k) b.faults x }

    by-starts : KeptByStarts (FreeBefore b) s b
    by-starts = record { broken-13 = λ k x. x; begun = λ n k x. begin-faults s n k b x }

-- nothing has been found so far
pub record Clean (b : Building) : Type 0 where
  pub unbroken : b.broken ≡ none
  pub faultless : b.faults ≡ []

pub clean-event : (s : Schema) (e : Event) (b : Building) → Clean (on_event s e b) → Clean b
unfolding on_event
clean-event s e b c = by b.broken refl c
  where
    by : (o : Option Refusal) → b.broken ≡ o → Clean (cond (is_none o) (on_unbroken s e b) b) → Clean b
    by none h c = record { unbroken = h; faultless = unbroken-faults s e b c.faultless }
    by (some f) h c = c

pub clean-before : (s : Schema) (es : List Event) (b : Building) → Clean (build s es b) → Clean b
unfolding build
clean-before s [] b c = c
clean-before s (e ∷ es) b c = clean-event s e b (clean-before s es (on_event s e b) c)

-- ---- a derivation

abbrev pub opening : List ℕ → ℕ → ℕ → Filling → Open
opening n k row f = record { name = n; place = k; row = row; filling = f }

-- a content in which character data makes no node
pub data MakesNoText : Filling → Type 0 where
  no-text-unjudged : MakesNoText unjudged
  no-text-misfit : MakesNoText misfit
  no-text-unfilled : MakesNoText unfilled
  no-text-children : {q : Progress} → MakesNoText (filled_by_children q)

-- Events from open elements, rows (the last first) and their number on, to the final rows of a text, with nothing to find against them. First index: a run was last.
pub data Derives (s : Schema) (final : List Row) : Bool → List Event → List Open → Bool → List Row → ℕ → Type 0 where
  finished : {t : Bool} {n : ℕ} → Derives s final t [] [] true final n
  root-begins : {t : Bool} {w : List ℕ} {k : ℕ} {es : List Event} {rs : List Row} {n : ℕ} → element_named s w ≡ some 0 → n < max_nodes
      → Derives s final false es (opening w k n (filling_of 0 (content_at s 0)) ∷ []) true (element_row n 0 0 ∷ rs) (suc n)
      → Derives s final t (starts w k ∷ es) [] false rs n
  child-begins : {t rooted : Bool} {w : List ℕ} {k e : ℕ} {es : List Event} {o : Open} {os : List Open} {rs : List Row} {n : ℕ}
      → element_named s w ≡ some e → length (o ∷ os) < max_depth → n < max_nodes
      → Derives s final false es (opening w k n (filling_of e (content_at s e)) ∷ refill (with_child (some e)) (o ∷ os)) true (element_row n e o.row ∷ rs) (suc n)
      → Derives s final t (starts w k ∷ es) (o ∷ os) rooted rs n
  element-ends : {t rooted : Bool} {w : List ℕ} {k : ℕ} {es : List Event} {o : Open} {os : List Open} {rs : List Row} {n : ℕ}
      → T (same_bytes w o.name) → T (fits_at_end o.filling) → Derives s final false es os rooted rs n
      → Derives s final t (ends w k ∷ es) (o ∷ os) rooted rs n
  blanks-outside : {rooted : Bool} {r : Run} {l : ℕ} {es : List Event} {rs : List Row} {n : ℕ} → r.solid ≡ none
      → Derives s final true es [] rooted rs n → Derives s final false (runs r l ∷ es) [] rooted rs n
  run_inside : {rooted : Bool} {r : Run} {l : ℕ} {es : List Event} {o : Open} {os : List Open} {rs : List Row} {n : ℕ} → MakesNoText o.filling
      → Derives s final true es (refill (with_run (is_none r.solid)) (o ∷ os)) rooted rs n → Derives s final false (runs r l ∷ es) (o ∷ os) rooted rs n
  text-inside : {rooted : Bool} {r : Run} {l e : ℕ} {es : List Event} {o : Open} {os : List Open} {rs : List Row} {n : ℕ} → o.filling ≡ filled_by_text e
      → r.saved < l → l ≤ max_text_bytes → n < max_nodes
      → Derives s final true es (refill (with_run (is_none r.solid)) (o ∷ os)) rooted (text_row n e o.row r.start l (l - r.saved) ∷ rs) (suc n)
      → Derives s final false (runs r l ∷ es) (o ∷ os) rooted rs n

-- what is left at the end of an accepted text
pub record Accepts (final : List Row) (b : Building) : Type 0 where
  pub clean : Clean b
  pub closed : b.opens ≡ []
  pub rooted : b.rooted ≡ true
  pub rows : b.rows ≡ final

not-broken : (s : Schema) (final : List Row) (es : List Event) (f : Refusal) (b : Building) → Accepts final (build s es (breaks f b)) → ⊥
not-broken s final es f b a = none-some (sym (clean-before s es (breaks f b) a.clean).unbroken)

module _ (s : Schema) (final : List Row) where
  faultless-so-far : (es : List Event) (os : List Open) (rt : Bool) (fs : List Refusal) (rs : List Row) (n : ℕ) → Accepts final (build s es (building os rt fs rs n)) → fs ≡ []
  faultless-so-far es os rt fs rs n a = (clean-before s es (building os rt fs rs n) a.clean).faultless

  without-faults : (es : List Event) (os : List Open) (rt : Bool) (fs : List Refusal) (rs : List Row) (n : ℕ)
      → Accepts final (build s es (building os rt fs rs n)) → Accepts final (build s es (building os rt [] rs n))
  without-faults es os rt fs rs n a = subst (λ (l : List Refusal). Accepts final (build s es (building os rt l rs n))) (faultless-so-far es os rt fs rs n a) a

  -- what the rest derives from any state that is accepted in the end
  Rest : Bool → List Event → Type 0
  Rest t es = (os : List Open) (rt : Bool) (rs : List Row) (n : ℕ) → Accepts final (build s es (building os rt [] rs n)) → Derives s final t es os rt rs n

  -- the faults of a beginning, and what is built by it
  abbrev begin_faults : List Open → Option ℕ → ℕ → ℕ → List Refusal
  begin_faults os e k n =
      given (is_none e) (at undeclared_element k) ++ (given (wrong_root os e) (at bad_content k) ++ (given (leb max_nodes n) (at over_node_limit k) ++ []))

  abbrev begun : List ℕ → ℕ → List Open → Option ℕ → List Row → ℕ → Building
  begun w k os e rs n =
      building (opening w k n (filling_for s e) ∷ refill (with_child e) os) true (begin_faults os e k n) (element_row n (value_or 0 e) (parent_row os) ∷ rs) (suc n)

  below-limit : (n : ℕ) → (T (leb max_nodes n) → ⊥) → n < max_nodes
  below-limit n h = lt (leb max_nodes n) refl
    where
      lt : (t : Bool) → leb max_nodes n ≡ t → n < max_nodes
      lt true e = absurd (h (passed e))
      lt false e = nleb→lt max_nodes n (rw e tt)

  -- no refusal 14, 15 or 16 was found where an element began
  begin-tests : (w : List ℕ) (k : ℕ) (es : List Event) (os : List Open) (rs : List Row) (n : ℕ) (e : Option ℕ) → Accepts final (build s es (begun w k os e rs n))
      → (T (is_none e) → ⊥) × (T (wrong_root os e) → ⊥) × (n < max_nodes)
  begin-tests w k es os rs n e a =
      let all = faultless-so-far es (opening w k n (filling_for s e) ∷ refill (with_child e) os) true (begin_faults os e k n) (element_row n (value_or 0 e) (parent_row os) ∷ rs) (suc n) a in
      let late = given (leb max_nodes n) (at over_node_limit k) ++ [] in
      let later = rest-free (is_none e) (at undeclared_element k) (given (wrong_root os e) (at bad_content k) ++ late) all in (
        test-free (is_none e) (at undeclared_element k) (given (wrong_root os e) (at bad_content k) ++ late) all,
        test-free (wrong_root os e) (at bad_content k) late later,
        below-limit n (test-free (leb max_nodes n) (at over_node_limit k) [] (rest-free (wrong_root os e) (at bad_content k) late later)),
      )

  derive-root : (w : List ℕ) (k : ℕ) (es : List Event) (t : Bool) (rs : List Row) (n : ℕ) (e : Option ℕ) → element_named s w ≡ e → Rest false es
      → Accepts final (build s es (begun w k [] e rs n)) → Derives s final t (starts w k ∷ es) [] false rs n
  unfolding Rest
  derive-root w k es t rs n none h rest a = absurd ((begin-tests w k es [] rs n none a).0 tt)
  derive-root w k es t rs n (some x) h rest a = at_zero (is_zero (eqb x 0) refl)
    where
      is_zero : (t : Bool) → eqb x 0 ≡ t → x ≡ 0
      is_zero true e = eqb→eq x 0 (passed e)
      is_zero false e = absurd ((begin-tests w k es [] rs n (some x) a).1 (rw e tt))

      at_zero : x ≡ 0 → Derives s final t (starts w k ∷ es) [] false rs n
      at_zero z =
          root-begins (h ∙ ap (λ (y : ℕ). some y) z) (begin-tests w k es [] rs n (some x) a).2
          (subst (λ (y : ℕ). Derives s final false es (opening w k n (filling_of y (content_at s y)) ∷ []) true (element_row n y 0 ∷ rs) (suc n)) z
          (rest (opening w k n (filling_of x (content_at s x)) ∷ []) true (element_row n x 0 ∷ rs) (suc n)
          (without-faults es (opening w k n (filling_of x (content_at s x)) ∷ []) true (begin_faults [] (some x) k n) (element_row n x 0 ∷ rs) (suc n) a)))

  derive-child : (w : List ℕ) (k : ℕ) (es : List Event) (t rt : Bool) (o : Open) (os : List Open) (rs : List Row) (n : ℕ) (e : Option ℕ) → element_named s w ≡ e
      → length (o ∷ os) < max_depth → Rest false es → Accepts final (build s es (begun w k (o ∷ os) e rs n)) → Derives s final t (starts w k ∷ es) (o ∷ os) rt rs n
  unfolding Rest
  derive-child w k es t rt o os rs n none h d rest a = absurd ((begin-tests w k es (o ∷ os) rs n none a).0 tt)
  derive-child w k es t rt o os rs n (some x) h d rest a =
      let above = opening w k n (filling_of x (content_at s x)) ∷ refill (with_child (some x)) (o ∷ os) in
      child-begins h d (begin-tests w k es (o ∷ os) rs n (some x) a).2
      (rest above true (element_row n x o.row ∷ rs) (suc n) (without-faults es above true (begin_faults (o ∷ os) (some x) k n) (element_row n x o.row ∷ rs) (suc n) a))

  derive-start : (w : List ℕ) (k : ℕ) (es : List Event) (t : Bool) (os : List Open) (rt : Bool) (rs : List Row) (n : ℕ) → Rest false es
      → Accepts final (build s es (on_start s w k (building os rt [] rs n))) → Derives s final t (starts w k ∷ es) os rt rs n
  derive-start w k es t [] true rs n rest a = absurd (not-broken s final es (at bad_nesting k) (building [] true [] rs n) a)
  derive-start w k es t [] false rs n rest a = derive-root w k es t rs n (element_named s w) refl rest a
  derive-start w k es t (o ∷ os) rt rs n rest a = by (leb max_depth (length (o ∷ os))) refl a
    where
      by : (d : Bool) → leb max_depth (length (o ∷ os)) ≡ d
          → Accepts final (build s es (cond d (breaks (at over_depth k) (building (o ∷ os) rt [] rs n)) (begun w k (o ∷ os) (element_named s w) rs n)))
          → Derives s final t (starts w k ∷ es) (o ∷ os) rt rs n
      by true e a = absurd (not-broken s final es (at over_depth k) (building (o ∷ os) rt [] rs n) a)
      by false e a = derive-child w k es t rt o os rs n (element_named s w) refl (nleb→lt max_depth (length (o ∷ os)) (rw e tt)) rest a

  derive-end : (w : List ℕ) (k : ℕ) (es : List Event) (t : Bool) (os : List Open) (rt : Bool) (rs : List Row) (n : ℕ) → Rest false es
      → Accepts final (build s es (end_of os w k (building os rt [] rs n))) → Derives s final t (ends w k ∷ es) os rt rs n
  unfolding Rest
  derive-end w k es t [] rt rs n rest a = absurd (not-broken s final es (at bad_nesting k) (building [] rt [] rs n) a)
  derive-end w k es t (o ∷ os) rt rs n rest a = by (same_bytes w o.name) refl a
    where
      misfits : List Refusal
      misfits = given (not (fits_at_end o.filling)) (at bad_content o.place) ++ []

      by : (d : Bool) → same_bytes w o.name ≡ d
          → Accepts final (build s es (cond d (building os rt misfits rs n) (breaks (at bad_nesting k) (building (o ∷ os) rt [] rs n))))
          → Derives s final t (ends w k ∷ es) (o ∷ os) rt rs n
      by true e a =
          element-ends (passed e) (not-not (fits_at_end o.filling) (test-free (not (fits_at_end o.filling)) (at bad_content o.place) [] (faultless-so-far es os rt misfits rs n a)))
          (rest os rt rs n (without-faults es os rt misfits rs n a))
      by false e a = absurd (not-broken s final es (at bad_nesting k) (building (o ∷ os) rt [] rs n) a)

  derive-run : (r : Run) (l : ℕ) (es : List Event) (os : List Open) (rt : Bool) (rs : List Row) (n : ℕ) → r.saved < l → Rest true es
      → Accepts final (build s es (inside os r l (building os rt [] rs n))) → Derives s final false (runs r l ∷ es) os rt rs n
  unfolding Rest
  derive-run r l es [] rt rs n pos rest a = by r.solid refl a
    where
      by : (k : Option ℕ) → r.solid ≡ k → Accepts final (build s es (outside k (building [] rt [] rs n))) → Derives s final false (runs r l ∷ es) [] rt rs n
      by none e a = blanks-outside e (rest [] rt rs n a)
      by (some k) e a = absurd (not-broken s final es (at bad_nesting k) (building [] rt [] rs n) a)
  derive-run r l es (o ∷ os) rt rs n pos rest a = by o.filling refl a
    where
      refilled : List Open
      refilled = refill (with_run (is_none r.solid)) (o ∷ os)

      too_much : Bool
      too_much = ltb max_text_bytes l || leb max_nodes n

      small : (T (ltb max_text_bytes l) → ⊥) → l ≤ max_text_bytes
      small h = nltb→le max_text_bytes l (not-intro (ltb max_text_bytes l) h)

      by : (f : Filling) → o.filling ≡ f → Accepts final (build s es (text_node f r l o.row (building refilled rt [] rs n)))
          → Derives s final false (runs r l ∷ es) (o ∷ os) rt rs n
      by unjudged e a = run_inside {o = o} (rw e no-text-unjudged) (rest refilled rt rs n a)
      by misfit e a = run_inside {o = o} (rw e no-text-misfit) (rest refilled rt rs n a)
      by unfilled e a = run_inside {o = o} (rw e no-text-unfilled) (rest refilled rt rs n a)
      by (filled_by_text x) e a =
          let fs = given too_much (at over_node_limit r.start) ++ [] in
          let row = text_row n x o.row r.start l (l - r.saved) in
          let free = test-free too_much (at over_node_limit r.start) [] (faultless-so-far es refilled rt fs (row ∷ rs) (suc n) a) in
          text-inside e pos (small (λ h. free (or_left (ltb max_text_bytes l) (leb max_nodes n) h))) (below-limit n (λ h. free (or_right (ltb max_text_bytes l) (leb max_nodes n) h)))
          (rest refilled rt (row ∷ rs) (suc n) (without-faults es refilled rt fs (row ∷ rs) (suc n) a))
      by (filled_by_children q) e a = run_inside {o = o} (rw e no-text-children) (rest refilled rt rs n a)

  -- events in turn that are accepted in the end have a derivation
  pub derivation : {t : Bool} {es : List Event} → InTurn t es → (os : List Open) (rt : Bool) (rs : List Row) (n : ℕ)
      → Accepts final (build s es (building os rt [] rs n)) → Derives s final t es os rt rs n
  unfolding build on_event Rest
  derivation {t} no_more os rt rs n a = subst (λ (l : List Row). Derives s final t [] os rt l n) (sym a.rows) (rw (a.closed, a.rooted) finished)
  derivation {t} (start-next {w = w} {k = k} {es = es} h) os rt rs n a = derive-start w k es t os rt rs n (derivation h) a
  derivation {t} (end-next {w = w} {k = k} {es = es} h) os rt rs n a = derive-end w k es t os rt rs n (derivation h) a
  derivation (run-next {r = r} {l = l} {es = es} p h) os rt rs n a = derive-run r l es os rt rs n p (derivation h) a
