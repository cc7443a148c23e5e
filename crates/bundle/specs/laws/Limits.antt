-- The first path that passes a limit (9), against the refusals that the definition lists, and what holds where none does.
use Rattle.std.specs.Prelude.{Bool, true, false, cond, ◌≡◌, refl, ℕ, suc, ◌+◌, ◌*◌, ◌≤◌, ◌<◌, leb, ltb, length, Option, Some, None}
use mathlib.Core.List.Memᴰ.{head as here}
use mathlib.Core.List.Memᴰ.{tail as there}
use mathlib.Core.List.{List, [], ◌∷◌, ◌++◌, map, Memᴰ as In}
use Rattle.std.proofs.Common.{sym, ap, subst, ◌∙◌, arith, leb-false, ltb-false, length-append}
use Rattle.std.proofs.lemmas.List.{length-map}
use Rattle.bundle_text.specs.declared.steps.StepRead.{StepRead}
use Rattle.bundle_text.specs.notes.Laws.{cells-append, gather_append}
use Rattle.bundle_text.specs.notes.Notes.{cells_of, Written, all_paths, Line, all_steps}
use Rattle.bundle_text.specs.paths.Readings.{path_noted, first_over}
use Rattle.bundle_text.specs.steps.Readings.{plain_noted}
use Rattle.bundle_text.specs.written_steps.Readings.{step_noted, condition_of}
use Rattle.bundle.specs.laws.Order.{Later, later-none, later-all, later-append, Least}
use Rattle.compiled_paths.specs.Sizes.{written_steps, all_alternatives, inner_steps, steps_of_all, bracketed_steps, steps_of, steps-few}
use Rattle.path_laws.specs.Grammar.Sound.{parse-sound}
use Rattle.path_spec.specs.Grammar.{PathRead, AlternativeText, one-step, more-steps, ConditionText, one-alternative, more-alternatives, StepText, bare, conditional, PathText, last_step, next-step, BundleText, last-path, next-path}
use Rattle.path_spec.specs.Machine.{parse}
use Rattle.path_spec.specs.Paths.{PlainStep, WrittenStep, Condition, condition_paths}
use Rattle.path_spec.specs.Reading.{passes_condition_limit, passes_limit, limit_refusals}
use Rattle.schema_spec.specs.Declarations.{Use}
use Rattle.text_laws.specs.Tests.{or-false}
use Rattle.text_spec.specs.Limits.{max_steps, max_alternatives, max_paths, max_path_bytes, max_bundle_bytes}
use Rattle.text_spec.specs.Lists.{any_of, gather}
use Rattle.text_spec.specs.Machines.{spells}
use Rattle.text_spec.specs.Refusals.{Reason, number_of, Refusal, at, given, over_path_limit}

pub none_some : {x : ℕ} → ◌≡◌ {A = Option ℕ} None (Some x) → ⊥
none_some e = cc

-- ---- paths stand one after the other
abbrev Rising : ℕ → List PathRead → Type 0
Rising k [] = Unit {0}
Rising k (p ∷ ps) = (k ≤ p.place) × Rising p.place ps

rising-from : (j k : ℕ) (ps : List PathRead) → j ≤ k → Rising k ps → Rising j ps
rising-from j k [] h r = tt
rising-from j k (p ∷ ps) h r = let z = r.0 in (omega arith, r.1)

bundle-rising : {k : ℕ} {w : List ℕ} {ps : List PathRead} → BundleText k w ps → Rising k ps
bundle-rising (last-path p) = (omega arith, tt)
bundle-rising (next-path {k = k} {w = w} {ps = ps} p b) = (omega arith, rising-from k (suc (k + length w)) ps (omega arith) (bundle-rising b))

-- ---- refusals of 9
limits-after : (i k : ℕ) (ps : List PathRead) → Rising k ps → (g : Refusal) → In g (limit_refusals i ps) → (g.reason ≡ over_path_limit) × (k ≤ g.place)
limits-after i k [] r g m = elim m [ ]
limits-after i k (p ∷ ps) r g m =
    pick (passes_limit i p) (λ n. limits-after (suc i) k ps (rising-from k p.place ps r.0 r.1) g n) m
  where
    pick : (b : Bool) → (In g (limit_refusals (suc i) ps) → (g.reason ≡ over_path_limit) × (k ≤ g.place))
        → In g (given b (at over_path_limit p.place) ++ limit_refusals (suc i) ps) → (g.reason ≡ over_path_limit) × (k ≤ g.place)
    pick true h (here e) =
        let z = r.0 in
        let q : g.place ≡ p.place = ap (λ (f : Refusal). f.place) e in
        (ap (λ (f : Refusal). f.reason) e, omega arith)
    pick true h (there n) = h n
    pick false h n = h n

-- the first path over a limit has the least place
limits-first : (i k : ℕ) (ps : List PathRead) → Rising k ps → (m : ℕ) → first_over i ps ≡ Some m → Least over_path_limit m (limit_refusals i ps)
limits-first i k [] r m e = absurd (none_some e)
limits-first i k (p ∷ ps) r m e = pick (passes_limit i p) (λ f. limits-first (suc i) p.place ps r.1 m f) e
  where
    pick : (b : Bool) → (first_over (suc i) ps ≡ Some m → Least over_path_limit m (limit_refusals (suc i) ps)) → cond b (Some p.place) (first_over (suc i) ps) ≡ Some m
        → Least over_path_limit m (given b (at over_path_limit p.place) ++ limit_refusals (suc i) ps)
    pick true h f =
        let z : m ≡ p.place = cc in
        record {
          listed = here (ap (at over_path_limit) z);
          only = λ g n. (this g n).0;
          least = λ g n. let y = (this g n).1 in omega arith;
        }
      where
        this : (g : Refusal) → In g (at over_path_limit p.place ∷ limit_refusals (suc i) ps) → (g.reason ≡ over_path_limit) × (p.place ≤ g.place)
        this g (here e) = let q : g.place ≡ p.place = ap (λ (f : Refusal). f.place) e in (ap (λ (f : Refusal). f.reason) e, omega arith)
        this g (there n) = limits-after (suc i) p.place ps r.1 g n
    pick false h f = h f

limits-none : (i : ℕ) (ps : List PathRead) → first_over i ps ≡ None → limit_refusals i ps ≡ []
limits-none i [] e = refl
limits-none i (p ∷ ps) e = pick (passes_limit i p) (limits-none (suc i) ps) e
  where
    pick : (b : Bool) → (first_over (suc i) ps ≡ None → limit_refusals (suc i) ps ≡ []) → cond b (Some p.place) (first_over (suc i) ps) ≡ None
        → given b (at over_path_limit p.place) ++ limit_refusals (suc i) ps ≡ []
    pick true h f = absurd (none_some (sym f))
    pick false h f = h f

pub limits-later : (r : Reason) → number_of r < number_of over_path_limit → (i : ℕ) (ps : List PathRead) → Later r (limit_refusals i ps)
limits-later r h i [] = later-none r
limits-later r h i (p ∷ ps) = later-append r (given (passes_limit i p) (at over_path_limit p.place)) (limit_refusals (suc i) ps) (one (passes_limit i p)) (limits-later r h (suc i) ps)
  where
    one : (b : Bool) → Later r (given b (at over_path_limit p.place))
    one true = later-all r over_path_limit (p.place ∷ []) h
    one false = later-none r

module _ (text : List ℕ) (ps : List PathRead) (e : parse text ≡ spells ps) where
  pub over_first : (m : ℕ) → first_over 0 ps ≡ Some m → Least over_path_limit m (limit_refusals 0 ps)
  over_first = limits-first 0 0 ps (bundle-rising (parse-sound e))

  pub over_none : first_over 0 ps ≡ None → limit_refusals 0 ps ≡ []
  over_none = limits-none 0 ps

-- ---- how much there is where no limit is passed
condition-count : (s : List ℕ) (qs : List (List StepRead)) → length (condition_paths (condition_of s qs)) ≡ length qs
condition-count s [] = refl
condition-count s (q ∷ qs) = length-map (q ∷ qs) (map (plain_noted s))

alternatives-few : (s : List ℕ) (ws : List Written) → any_of (λ q. passes_condition_limit q.condition) (map (step_noted s) ws) ≡ false
    → length (all_paths ws) ≤ length ws * max_alternatives
alternatives-few s [] e = omega arith
alternatives-few s (w ∷ ws) e =
    let z = or-false (passes_condition_limit (condition_of s w.paths)) (any_of (λ q. passes_condition_limit q.condition) (map (step_noted s) ws)) e in
    let y = or-false (ltb max_alternatives (length (condition_paths (condition_of s w.paths)))) _ z.0 in
    let x = ltb-false max_alternatives (length (condition_paths (condition_of s w.paths))) y.0 in
    let v = alternatives-few s ws z.1 in
    omega (arith, condition-count s w.paths, length-append w.paths (all_paths ws))

-- so many paths, steps and alternatives, where the first path has i before it
lines-few : (s : List ℕ) (i : ℕ) (ls : List Line) → first_over i (map (path_noted s) ls) ≡ None → i ≤ max_paths
    → (i + length ls ≤ max_paths) × (length (all_steps ls) ≤ length ls * max_steps) × (length (all_paths (all_steps ls)) ≤ length (all_steps ls) * max_alternatives)
lines-few s i [] e h = (omega arith, omega arith, omega arith)
lines-few s i (l ∷ ls) e h = pick (passes_limit i (path_noted s l)) refl (λ f k. lines-few s (suc i) ls f k) e
  where
    pick : (b : Bool) → passes_limit i (path_noted s l) ≡ b
        → (first_over (suc i) (map (path_noted s) ls) ≡ None → suc i ≤ max_paths
        → (suc i + length ls ≤ max_paths) × (length (all_steps ls) ≤ length ls * max_steps) × (length (all_paths (all_steps ls)) ≤ length (all_steps ls) * max_alternatives))
        → cond b (Some l.place) (first_over (suc i) (map (path_noted s) ls)) ≡ None
        → (i + length (l ∷ ls) ≤ max_paths) × (length (all_steps (l ∷ ls)) ≤ length (l ∷ ls) * max_steps)
        × (length (all_paths (all_steps (l ∷ ls))) ≤ length (all_steps (l ∷ ls)) * max_alternatives)
    pick true p more f = absurd (none_some (sym f))
    pick false p more f =
        let z = or-false (leb max_paths i) _ p in
        let y = or-false (ltb max_steps (length (map (step_noted s) l.steps))) _ z.1 in
        let x = or-false (ltb max_path_bytes l.size) _ y.1 in
        let a = leb-false max_paths i z.0 in
        let b = ltb-false max_steps (length (map (step_noted s) l.steps)) y.0 in
        let c = alternatives-few s l.steps x.1 in
        let rest = more f (omega arith) in
        let r = rest.0 in
        let t = rest.1 in
        let u = rest.2 in
        let d = length-map l.steps (step_noted s) in
        let g = length-append l.steps (all_steps ls) in
        let j = ap length (gather_append (λ (w : Written). w.paths) l.steps (all_steps ls)) in
        let k = length-append (all_paths l.steps) (all_paths (all_steps ls)) in
        (omega arith, omega arith, omega arith)

-- the steps in brackets
inner-count : (s : List ℕ) (qs : List (List StepRead)) → steps_of_all (map (map (plain_noted s)) qs) ≡ length (cells_of qs)
inner-count s [] = refl
inner-count s (q ∷ qs) = let e = inner-count s qs in omega (arith, length-map q (plain_noted s), length-append q (cells_of qs))

condition-inner : (s : List ℕ) (qs : List (List StepRead)) → steps_of_all (condition_paths (condition_of s qs)) ≡ length (cells_of qs)
condition-inner s [] = refl
condition-inner s (q ∷ qs) = inner-count s (q ∷ qs)

bracketed-count : (s : List ℕ) (ws : List Written) → bracketed_steps (map (step_noted s) ws) ≡ length (cells_of (all_paths ws))
bracketed-count s [] = refl
bracketed-count s (w ∷ ws) =
    let e = bracketed-count s ws in
    let f = condition-inner s w.paths in
    let g = ap length (cells-append w.paths (all_paths ws)) in
    omega (arith, length-append (cells_of w.paths) (cells_of (all_paths ws)))

all-count : (s : List ℕ) (ls : List Line) → steps_of (map (path_noted s) ls) ≡ length (all_steps ls) + length (cells_of (all_paths (all_steps ls)))
all-count s [] = refl
all-count s (l ∷ ls) =
    let e = all-count s ls in
    let f = bracketed-count s l.steps in
    let d = length-map l.steps (step_noted s) in
    let g = length-append l.steps (all_steps ls) in
    let p = gather_append (λ (w : Written). w.paths) l.steps (all_steps ls) in
    let j = ap length (ap cells_of p ∙ cells-append (all_paths l.steps) (all_paths (all_steps ls))) in
    let k = length-append (cells_of (all_paths l.steps)) (cells_of (all_paths (all_steps ls))) in
    omega arith

-- there is a step outside brackets
path-some : {k : ℕ} {w : List ℕ} {ps : List (WrittenStep Use (Condition Use))} → PathText k w ps → 1 ≤ length ps
path-some (last_step p) = omega arith
path-some (next-step p q) = omega arith

steps-some : {k : ℕ} {w : List ℕ} {ps : List PathRead} → BundleText k w ps → 1 ≤ length (gather (λ p. p.path.steps) ps)
steps-some (last-path {s = s} p) = let z = path-some p in omega (arith, length-append s [])
steps-some (next-path {s = s} {ps = ps} p b) = let z = path-some p in omega (arith, length-append s (gather (λ p. p.path.steps) ps))

outer-count : (s : List ℕ) (ls : List Line) → length (gather (λ p. p.path.steps) (map (path_noted s) ls)) ≡ length (all_steps ls)
outer-count s [] = refl
outer-count s (l ∷ ls) =
    let e = outer-count s ls in
    let d = length-map l.steps (step_noted s) in
    let g = length-append l.steps (all_steps ls) in
    omega (arith, length-append (map (step_noted s) l.steps) (gather (λ p. p.path.steps) (map (path_noted s) ls)))

-- each alternative has a step
abbrev pub EachSome : {A : Type 0} → List (List A) → Type 0
EachSome [] = Unit {0}
EachSome (q ∷ qs) = (0 < length q) × EachSome qs

each_append : {A : Type 0} (ps qs : List (List A)) → EachSome ps → EachSome qs → EachSome (ps ++ qs)
each_append [] qs a b = b
each_append (p ∷ ps) qs a b = (a.0, each_append ps qs a.1 b)

each-split : {A : Type 0} (ps qs : List (List A)) → EachSome (ps ++ qs) → EachSome ps × EachSome qs
each-split [] qs a = (tt, a)
each-split (p ∷ ps) qs a = let z = each-split ps qs a.1 in ((a.0, z.0), z.1)

alternative-some : {k : ℕ} {w : List ℕ} {q : List (PlainStep Use)} → AlternativeText k w q → 0 < length q
alternative-some (one-step p) = omega arith
alternative-some (more-steps p a) = omega arith

condition-each : {k : ℕ} {w : List ℕ} {qs : List (List (PlainStep Use))} → ConditionText k w qs → EachSome qs
condition-each (one-alternative a) = (alternative-some a, tt)
condition-each (more-alternatives a c) = (alternative-some a, condition-each c)

step-each : {k : ℕ} {w : List ℕ} {p : WrittenStep Use (Condition Use)} → StepText k w p → EachSome (condition_paths p.condition)
step-each (bare p) = tt
step-each (conditional p c) = condition-each c

abbrev bracketed : List (WrittenStep Use (Condition Use)) → List (List (PlainStep Use))
bracketed ps = gather (λ p. condition_paths p.condition) ps

path-each : {k : ℕ} {w : List ℕ} {ps : List (WrittenStep Use (Condition Use))} → PathText k w ps → EachSome (bracketed ps)
path-each (last_step {p = p} a) = each_append (condition_paths p.condition) [] (step-each a) tt
path-each (next-step {p = p} {ps = ps} a b) = each_append (condition_paths p.condition) (bracketed ps) (step-each a) (path-each b)

bundle-each : {k : ℕ} {w : List ℕ} {ps : List PathRead} → BundleText k w ps → EachSome (gather (λ p. bracketed p.path.steps) ps)
bundle-each (last-path {s = s} a) = each_append (bracketed s) [] (path-each a) tt
bundle-each (next-path {s = s} {ps = ps} a b) = each_append (bracketed s) (gather (λ p. bracketed p.path.steps) ps) (path-each a) (bundle-each b)

plain-each : (s : List ℕ) (qs : List (List StepRead)) → EachSome (map (map (plain_noted s)) qs) → EachSome qs
plain-each s [] a = tt
plain-each s (q ∷ qs) a = let z = a.0 in (omega (arith, length-map q (plain_noted s)), plain-each s qs a.1)

condition-noted : (s : List ℕ) (qs : List (List StepRead)) → EachSome (condition_paths (condition_of s qs)) → EachSome qs
condition-noted s [] a = tt
condition-noted s (q ∷ qs) a = plain-each s (q ∷ qs) a

steps-noted : (s : List ℕ) (ws : List Written) → EachSome (bracketed (map (step_noted s) ws)) → EachSome (all_paths ws)
steps-noted s [] a = tt
steps-noted s (w ∷ ws) a =
    let z = each-split (condition_paths (condition_of s w.paths)) (bracketed (map (step_noted s) ws)) a in
    each_append w.paths (all_paths ws) (condition-noted s w.paths z.0) (steps-noted s ws z.1)

lines_noted : (s : List ℕ) (ls : List Line) → EachSome (gather (λ p. bracketed p.path.steps) (map (path_noted s) ls)) → EachSome (all_paths (all_steps ls))
lines_noted s [] a = tt
lines_noted s (l ∷ ls) a =
    let z = each-split (bracketed (map (step_noted s) l.steps)) (gather (λ p. bracketed p.path.steps) (map (path_noted s) ls)) a in
    subst EachSome (sym (gather_append (λ (w : Written). w.paths) l.steps (all_steps ls)))
    (each_append (all_paths l.steps) (all_paths (all_steps ls)) (steps-noted s l.steps z.0) (lines_noted s ls z.1))

pub record Few (ls : List Line) : Type 0 where
  pub paths : length ls ≤ max_paths
  pub steps : length (all_steps ls) ≤ written_steps
  pub alternatives : length (all_paths (all_steps ls)) ≤ all_alternatives
  pub inner : length (cells_of (all_paths (all_steps ls))) ≤ inner_steps
  pub each : EachSome (all_paths (all_steps ls))

pub all-few : (s : List ℕ) (ls : List Line) → length s ≤ max_bundle_bytes → parse s ≡ spells (map (path_noted s) ls) → first_over 0 (map (path_noted s) ls) ≡ None → Few ls
all-few s ls h e f =
    let z = lines-few s 0 ls f (omega arith) in
    let a = z.0 in
    let b = z.1 in
    let c = z.2 in
    let d = steps-few (parse-sound e) h in
    let g = all-count s ls in
    let j = steps-some (parse-sound e) in
    let k = outer-count s ls in
    record { paths = omega arith; steps = omega arith; alternatives = omega arith; inner = omega arith; each = lines_noted s ls (bundle-each (parse-sound e)) }
