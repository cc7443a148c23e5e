-- The needed names that are computed are the names on document 01's walks.
use Rattle.std.specs.Prelude.{Bool, ◌||◌, ◌⊎◌, ◌↔◌, ◌≡◌, refl, ℕ, ◌<◌, length}
use mathlib.Core.List.Memᴰ.{append_cases}
use mathlib.Core.List.Memᴰ.{append_left}
use mathlib.Core.List.Memᴰ.{append_right}
use mathlib.Core.List.{List, [], ◌∷◌, map, Memᴰ as In}
use Rattle.std.proofs.Math.Logic.{inl, inr, ⊎_elim}
use Rattle.std.proofs.Common.{sym}
use Rattle.std.proofs.Math.Path.{subst}
use Rattle.std.proofs.Math.Dec.{T}
use Rattle.inference_spec.specs.Needed.{linked, between, complete, need, keeps_all, wants_nothing, keeps_name, wants_names, from_root, needed_before_filter, needed_by_path, needed}
use Rattle.inference_spec.specs.Rules.{type, context, Point, at_start, after_axis, after_test, after_condition, alternative_from, tested, after_step, alternative_steps, AtOrAbove, Member, self-stays, child-type, descendant-type, descendant-or-self-type, descendant-or-self-added, parent-type, ancestor-type, ancestor-or-self-type, ancestor-or-self-added, test_type, no-condition, condition-type, condition-context}
use Rattle.inference_spec.specs.Types.{Env, env, all_below, all_above, cut_to, infer}
use Rattle.inference_spec.specs.Walks as walks
use Rattle.inference_spec.specs.Walks.{Passing, descends, descends-or-stays, Linked, by-self, by-child, by-descendant, stays-down, goes_down, by-parent, by-ancestor, stays_up, goes-up, Walk, at_last, onward, NeededOnWalk, own, conditional, later, Needs, PathNeeds, ReachedFromRoot, root, next, BundleNeeds, by-path}
use Rattle.path_spec.specs.Paths.{Axis, self, child, descendant, descendant_or_self, parent, ancestor, ancestor_or_self, NodeTest, Step, PlainStep, Condition, unconditional, alternatives, condition_paths, LocationPath, expand}
use Rattle.projection_laws.specs.Rules.{MembersAt, as_step, no_condition, same_condition, same-steps, Decides, below_set, above-set, alternative-from, step-members, all-decided, names-decided, start-members}
use Rattle.schema_laws.specs.Closure.{Closed, Chain, one, more, chain-from, chain-join, closure-chain, chain-closure, held_in, is_below-below, below-is_below}
use Rattle.schema_laws.specs.Names.{same-equal, same-name, in_within, within_in, element-in}
use Rattle.schema_spec.specs.Closure.{related, closure}
use Rattle.schema_spec.specs.Names.{Name, Names, element, same_name, within}
use Rattle.schema_spec.specs.Schemas.{Schema}
use Rattle.schema_spec.specs.Types.{Types, types_of, holds, Below, held, further, is_below}
use Rattle.text_laws.specs.Lists.{any-in, in-any, in-filter, filter-in, in-gather, gather-in}
use Rattle.text_laws.specs.Tests.{or_left, or_right, or_cases}
use Rattle.text_spec.specs.Lists.{any_of, gather}

below-join : {s : Schema} {a b c : Name} → Below s a b → Below s b c → Below s a c
below-join (held t) d = further t d
below-join (further t u) d = further t (below-join u d)

-- ---- every name of a step's type is a neighbour of one of the type before it
module _ {s : Schema} where
  axis-from : {x : Axis} {g : Point} {w : NodeTest ℕ} {b : Name} → Member s type (after_axis g x w) b → (a : Name) × Member s type g a × Linked s x a b
  axis-from (self-stays {n = b} i) = (b, i, by-self)
  axis-from (child-type {a = a} i h) = (a, i, by-child h)
  axis-from (descendant-type {a = a} i d) = (a, i, by-descendant d)
  axis-from (descendant-or-self-type (descendant-type {a = a} i d)) = (a, i, goes_down d)
  axis-from (descendant-or-self-added {n = b} i) = (b, i, stays-down)
  axis-from (parent-type {b = a} k h i) = (a, i, by-parent h)
  axis-from (ancestor-type {b = a} k d i) = (a, i, by-ancestor d)
  axis-from (ancestor-or-self-type (ancestor-type {b = a} k d i)) = (a, i, goes-up d)
  axis-from (ancestor-or-self-added {n = b} i) = (b, i, stays_up)

  test-from : {g : Point} {w : NodeTest ℕ} {n : Name} → Member s type (after_test g w) n → Member s type g n
  test-from (test_type i p) = i

  condition-from : {g : Point} {c : Condition ℕ} {n : Name} → Member s type (after_condition g c) n → Member s type g n
  condition-from (no-condition i) = i
  condition-from (condition-type q i j r) = i

  step_from : {g : Point} (p : Step ℕ (Condition ℕ)) {b : Name} → Member s type (after_step g p) b → (a : Name) × Member s type g a × Linked s p.axis a b
  step_from p i = axis-from (test-from (condition-from i))

  -- the context after a condition is of the context before it, and has all of that at or above a name that is kept
  context-from : {g : Point} {c : Condition ℕ} {n : Name} → Member s context (after_condition g c) n → Member s context g n
  context-from (no-condition k) = k
  context-from (condition-context k i r) = k

  context-kept : {g : Point} (c : Condition ℕ) {a n : Name} → Member s type (after_condition g c) a → Member s context g n → AtOrAbove s n a → Member s context (after_condition g c) n
  context-kept unconditional i k r = no-condition k
  context-kept (alternatives qs) i k r = condition-context k i r

  walk_first : {g : Point} {ps : List (Step ℕ (Condition ℕ))} {b : Name} {w : Names} → Walk s g ps (b ∷ w) → Member s type g b
  walk_first (at_last i) = i
  walk_first (onward i l r) = i

  -- a walk one step longer in front
  longer : {g : Point} (p : Step ℕ (Condition ℕ)) {ps : List (Step ℕ (Condition ℕ))} {b : Name} {w : Names} → Walk s (after_step g p) ps (b ∷ w) → (a : Name) × Walk s g (p ∷ ps) (a ∷ b ∷ w)
  longer p r =
      let f = step_from p (walk_first r) in
      (f.0, onward f.1 f.2 r)

  later-needs : {g : Point} (p : Step ℕ (Condition ℕ)) {ps : List (Step ℕ (Condition ℕ))} {n : Name} {w : Names} → Walk s (after_step g p) ps w → NeededOnWalk s (after_step g p) ps w n
      → Needs s g (p ∷ ps) n
  later-needs p (at_last {a = b} i) q =
      let r = longer p (at_last i) in
      record { walk = r.0 ∷ b ∷ []; complete = r.1; on_walk = later q }
  later-needs p (onward {a = b} {b = c} {w = w} i l z) q =
      let r = longer p (onward i l z) in
      record { walk = r.0 ∷ b ∷ c ∷ w; complete = r.1; on_walk = later q }

-- what a condition needs from a name of the point before it
pub data Wanted (s : Schema) (g : Point) (c : Condition ℕ) (a n : Name) : Type 0 where
  by-alternative : (q : List (PlainStep ℕ)) → In q (condition_paths c) → Needs s (alternative_from g a) (alternative_steps q) n → Wanted s g c a n

module _ (s : Schema) (full : 0 < length s) (closed : Closed s) where
  abbrev types : Types
  types = types_of s

  -- ---- neighbours: the test and the relation
  same-or-below : (a b : Name) → T (same_name a b || is_below types a b) → (a ≡ b) ⊎ Below s a b
  same-or-below a b t = ⊎_elim (λ h. inl (same-equal a b h)) (λ h. inr (is_below-below s a b h)) (or_cases (same_name a b) (is_below types a b) t)

  below-or-same : {a b : Name} → Below s a b → (x y : Name) → T (same_name x y || is_below types a b)
  below-or-same {a} {b} d x y = or_right (same_name x y) (is_below types a b) (below-is_below s closed d)

  itself : (a : Name) → T (same_name a a || is_below types a a)
  itself a = or_left (same_name a a) (is_below types a a) (same-name a)

  linked_of : (x : Axis) (a b : Name) → T (linked types x a b) → Linked s x a b
  unfolding types_of
  linked_of self a b t = subst (λ (z : Name). Linked s self a z) (same-equal a b t) by-self
  linked_of child a b t = by-child t
  linked_of descendant a b t = by-descendant (is_below-below s a b t)
  linked_of descendant_or_self a b t = ⊎_elim (λ e. subst (λ (z : Name). Linked s descendant_or_self a z) e stays-down) (λ d. goes_down d) (same-or-below a b t)
  linked_of parent a b t = by-parent t
  linked_of ancestor a b t = by-ancestor (is_below-below s b a t)
  linked_of ancestor_or_self a b t =
      ⊎_elim (λ h. subst (λ (z : Name). Linked s ancestor_or_self a z) (same-equal a b h) stays_up) (λ h. goes-up (is_below-below s b a h))
      (or_cases (same_name a b) (is_below types b a) t)

  of-linked : {x : Axis} {a b : Name} → Linked s x a b → T (linked types x a b)
  unfolding types_of
  of-linked (by-self {a = a}) = same-name a
  of-linked (by-child t) = t
  of-linked (by-descendant d) = below-is_below s closed d
  of-linked (stays-down {a = a}) = itself a
  of-linked (goes_down {a = a} {b = b} d) = below-or-same d a b
  of-linked (by-parent t) = t
  of-linked (by-ancestor d) = below-is_below s closed d
  of-linked (stays_up {a = a}) = itself a
  of-linked (goes-up {a = a} {b = b} d) = below-or-same d a b

  -- ---- names between two steps: the sets, and the pairs
  passed-between : (g h : Names) {n : Name} → In n (within (all_below types g) (all_above types h)) → (a : Name) × (b : Name) × In a g × In b h × Below s a n × Below s n b
  passed-between g h {n} i =
      let w = within_in (all_below types g) (all_above types h) i in
      let a = (below_set s closed g).sound n w.0 in
      let b = (above-set s closed h).sound n w.1 in
      (a.0, b.0, a.1, b.1, a.2, b.2)

  between-pair : (x : Axis) (g h : Names) {n : Name} → In n (between types x g h)
      → (a : Name) × (b : Name) × In a g × In b h × Passing x × Linked s x a b × Below s a n × Below s n b
  between-pair self g h i = elim i [ ]
  between-pair child g h i = elim i [ ]
  between-pair descendant g h i =
      let (a, b, j, k, u, v) = passed-between g h i in
      (a, b, j, k, descends, by-descendant (below-join u v), u, v)
  between-pair descendant_or_self g h i =
      let (a, b, j, k, u, v) = passed-between g h i in
      (a, b, j, k, descends-or-stays, goes_down (below-join u v), u, v)
  between-pair parent g h i = elim i [ ]
  between-pair ancestor g h i = elim i [ ]
  between-pair ancestor_or_self g h i = elim i [ ]

  between-passed : (g h : Names) {a b n : Name} → In a g → In b h → Below s a n → Below s n b → In n (within (all_below types g) (all_above types h))
  between-passed g h {a} {b} {n} i j u v = in_within ((below_set s closed g).complete n (a, i, u)) ((above-set s closed h).complete n (b, j, v))

  in_between : {x : Axis} (g h : Names) {a b n : Name} → Passing x → In a g → In b h → Below s a n → Below s n b → In n (between types x g h)
  in_between g h descends i j u v = between-passed g h i j u v
  in_between g h descends-or-stays i j u v = between-passed g h i j u v

  -- the names that conditions want are those listed
  abbrev pub Lists : {C : Type 0} → (C → Condition ℕ) → (Names → C → Name → Names) → Type 0
  Lists {C} as_condition wants =
      (g : Point) (a : Name) (k : Names) → MembersAt s (env (a ∷ []) k) (alternative_from g a) → (c : C) (n : Name) → In n (wants k c a) ↔ Wanted s g (as_condition c) a n

  -- ---- walks, for conditions that are tested as the rules say and whose names are listed
  module _ {C : Type 0} (as_condition : C → Condition ℕ) (keeps : Names → C → Name → Bool) (wants : Names → C → Name → Names) (decides : Decides s as_condition keeps) (lists : Lists as_condition wants) where
    abbrev step_of : Step ℕ C → Step ℕ (Condition ℕ)
    step_of = as_step as_condition

    abbrev steps_of : List (Step ℕ C) → List (Step ℕ (Condition ℕ))
    steps_of = map step_of

    -- from which context the alternatives of a kept name start: K is cut before or after the condition, which makes no difference
    abbrev near_context : Step ℕ C → Env → Name → Names
    near_context p e a = cut_to types (a ∷ []) (infer types keeps p e).context

    after : {g : Point} {e : Env} → MembersAt s e g → (p : Step ℕ C) → MembersAt s (infer types keeps p e) (after_step g (step_of p))
    after m p = step-members s closed as_condition keeps decides m p

    near-members : {g : Point} {e : Env} → MembersAt s e g → (p : Step ℕ C) (a : Name) → In a (infer types keeps p e).type
        → MembersAt s (env (a ∷ []) (near_context p e a)) (alternative_from (tested g (step_of p)) a)
    near-members {g} m p a i =
        let f = after m p in
        alternative-from s closed (tested g (step_of p)) a (f.types.known a i) f.contexts (λ n k. context-from k)
        (λ n k r. context-kept (as_condition p.condition) (f.types.sound a i) k r)

    walk_from : {g : Point} {e : Env} → MembersAt s e g → (ps : List (Step ℕ C)) (a : Name) → In a (complete types keeps wants ps e) → (w : Names) × Walk s g (steps_of ps) (a ∷ w)
    walk_from m [] a i = ([], at_last (m.types.sound a i))
    walk_from {g} {e = e} m (p ∷ ps) a i =
        let rest = complete types keeps wants ps (infer types keeps p e) in
        let f = filter-in (λ c. any_of (λ b. linked types p.axis c b) rest) e.type i in
        let b = in-any (λ b. linked types p.axis a b) rest f.1 in
        let r = walk_from {g = after_step g (step_of p)} (after m p) ps b.0 b.1 in
        (b.0 ∷ r.0, onward (m.types.sound a f.0) (linked_of p.axis a b.0 b.2) r.1)

    from-walk : {g : Point} {e : Env} → MembersAt s e g → (ps : List (Step ℕ C)) {a : Name} {w : Names} → Walk s g (steps_of ps) (a ∷ w) → In a (complete types keeps wants ps e)
    from-walk m [] {a} (at_last i) = m.types.complete a i
    from-walk {g} {e = e} m (p ∷ ps) {a} (onward i l r) =
        in-filter (λ c. any_of (λ b. linked types p.axis c b) (complete types keeps wants ps (infer types keeps p e))) (m.types.complete a i)
        (any-in (λ b. linked types p.axis a b) (from-walk {g = after_step g (step_of p)} (after m p) ps r) (of-linked l))

    complete-typed : (ps : List (Step ℕ C)) (e : Env) {a : Name} → In a (complete types keeps wants ps e) → In a e.type
    complete-typed [] e i = i
    complete-typed (p ∷ ps) e i = (filter-in (λ c. any_of (λ b. linked types p.axis c b) (complete types keeps wants ps (infer types keeps p e))) e.type i).0

    pub need-sound : {g : Point} {e : Env} → MembersAt s e g → (ps : List (Step ℕ C)) {n : Name} → In n (need types keeps wants ps e) → Needs s g (steps_of ps) n
    need-sound m [] {n} i = record { walk = n ∷ []; complete = at_last (m.types.sound n i); on_walk = own }
    need-sound {g} {e} m (p ∷ ps) {n} i =
        ⊎_elim by-own (λ j. ⊎_elim by-between (λ k. ⊎_elim by_condition (λ l. let z = need-sound {g = after_step g (step_of p)} (after m p) ps l in later-needs (step_of p) z.complete z.on_walk) (append_cases c k)) (append_cases b j))
        (append_cases d i)
      where
        f : Env
        f = infer types keeps p e

        d : Names
        d = complete types keeps wants (p ∷ ps) e

        h : Names
        h = complete types keeps wants ps f

        b : Names
        b = between types p.axis d h

        c : Names
        c = gather (λ a. wants (near_context p e a) p.condition a) h

        by-own : In n d → Needs s g (steps_of (p ∷ ps)) n
        by-own j =
            let w = walk_from m (p ∷ ps) n j in
            record { walk = n ∷ w.0; complete = w.1; on_walk = own }

        by-between : In n b → Needs s g (steps_of (p ∷ ps)) n
        by-between j =
            let q = between-pair p.axis d h j in
            let w = walk_from (after m p) ps q.1 q.3 in
            record {
              walk = q.0 ∷ q.1 ∷ w.0;
              complete = onward (m.types.sound q.0 (complete-typed (p ∷ ps) e q.2)) q.5 w.1;
              on_walk = walks.NeededOnWalk.between q.4 q.6 q.7;
            }

        by_condition : In n c → Needs s g (steps_of (p ∷ ps)) n
        by_condition j =
            let q = gather-in (λ a. wants (near_context p e a) p.condition a) h j in
            let w = walk_from (after m p) ps q.0 q.1 in
            let r = longer (step_of p) w.1 in
            wanted-needs r.1 ((lists (tested g (step_of p)) q.0 (near_context p e q.0) (near-members m p q.0 (complete-typed ps f q.1)) p.condition n).0 q.2)
          where
            wanted-needs : {a b : Name} {w : Names} → Walk s g (steps_of (p ∷ ps)) (a ∷ b ∷ w) → Wanted s (tested g (step_of p)) (as_condition p.condition) b n → Needs s g (steps_of (p ∷ ps)) n
            wanted-needs {a} {b} {w} r (by-alternative q i z) = record { walk = a ∷ b ∷ w; complete = r; on_walk = conditional q i z.complete z.on_walk }

    on-walk-needed : {g : Point} {e : Env} → MembersAt s e g → (ps : List (Step ℕ C)) {w : Names} {n : Name} → Walk s g (steps_of ps) w → NeededOnWalk s g (steps_of ps) w n → In n (need types keeps wants ps e)
    on-walk-needed {e = e} m [] r own = from-walk m [] r
    on-walk-needed {e = e} m (p ∷ ps) r own = append_left _ (from-walk m (p ∷ ps) r)
    on-walk-needed {e = e} m (p ∷ ps) (onward i l r) (walks.NeededOnWalk.between q u v) =
        let f = infer types keeps p e in
        let d = complete types keeps wants (p ∷ ps) e in
        let h = complete types keeps wants ps f in
        append_right d (append_left _ (in_between d h q (from-walk m (p ∷ ps) (onward i l r)) (from-walk (after m p) ps r) u v))
    on-walk-needed {g} {e} m (p ∷ ps) {n = n} (onward {b = b} i l r) (conditional q j y z) =
        let f = infer types keeps p e in
        let d = complete types keeps wants (p ∷ ps) e in
        let h = complete types keeps wants ps f in
        let k : In b h = from-walk (after m p) ps r in
        append_right d
        (append_right (between types p.axis d h)
        (append_left _
        (in-gather (λ a. wants (near_context p e a) p.condition a) k
        ((lists (tested g (step_of p)) b (near_context p e b) (near-members m p b (complete-typed ps f k)) p.condition n).1 (by-alternative q j (record { walk = _; complete = y; on_walk = z }))))))
    on-walk-needed {g} {e} m (p ∷ ps) (onward i l r) (later q) =
        let f = infer types keeps p e in
        let d = complete types keeps wants (p ∷ ps) e in
        let h = complete types keeps wants ps f in
        append_right d
        (append_right (between types p.axis d h) (append_right (gather (λ a. wants (near_context p e a) p.condition a) h) (on-walk-needed {g = after_step g (step_of p)} (after m p) ps r q)))

    pub need-complete : {g : Point} {e : Env} → MembersAt s e g → (ps : List (Step ℕ C)) {n : Name} → Needs s g (steps_of ps) n → In n (need types keeps wants ps e)
    need-complete m ps z = on-walk-needed m ps z.complete z.on_walk

  -- ---- conditions, paths
  nothing-listed : Lists no_condition wants_nothing
  nothing-listed g a k m c n = (λ i. elim i [ ], from)
    where
      from : Wanted s g unconditional a n → In n []
      from (by-alternative q i z) = elim i [ ]

  names-listed : Lists same_condition (wants_names types)
  names-listed g a k m c n = (to, from)
    where
      need_of : List (PlainStep ℕ) → Names
      need_of q = need types keeps_all wants_nothing (expand tt q) (env (a ∷ []) k)

      to : In n (gather need_of (condition_paths c)) → Wanted s g c a n
      to i =
          let q = gather-in need_of (condition_paths c) i in
          by-alternative q.0 q.1 (need-sound no_condition keeps_all wants_nothing (all-decided s closed) nothing-listed m (expand tt q.0) q.2)

      from : Wanted s g c a n → In n (gather need_of (condition_paths c))
      from (by-alternative q i z) = in-gather need_of i (need-complete no_condition keeps_all wants_nothing (all-decided s closed) nothing-listed m (expand tt q) z)

  pub path-needs : (p : LocationPath ℕ) (n : Name) → In n (needed_before_filter types p) → PathNeeds s p n
  unfolding needed_before_filter
  path-needs p n i =
      let ps = expand unconditional p.steps in
      rw (same-steps ps) at (need-sound same_condition (keeps_name types) (wants_names types) (names-decided s closed) names-listed (start-members s closed full p.start) ps i)

  pub needs-path : (p : LocationPath ℕ) (n : Name) → PathNeeds s p n → In n (needed_before_filter types p)
  unfolding needed_before_filter
  needs-path p n z =
      let ps = expand unconditional p.steps in
      let y : Needs s (at_start p.start) (map (as_step same_condition) ps) n = rw (same-steps ps) z in
      need-complete same_condition (keeps_name types) (wants_names types) (names-decided s closed) names-listed (start-members s closed full p.start) ps y

  -- "names that the root reaches by holdings inside this set"
  module _ (r : Names) (P : Name → Type 0) where
    abbrev inside : Names
    inside = within types.names r

    abbrev reached : Name → Bool
    reached n = same_name types.root n || related (closure inside types.holds) types.root n

    along-chain : ((n : Name) → In n r → P n) → {a b : Name} → ReachedFromRoot s P a → Chain inside types.holds a b → ReachedFromRoot s P b
    unfolding types_of
    along-chain known z (one {b = b} i j t) = next z t (known b (within_in types.names r j).1)
    along-chain known z (more {b = b} i t c) = along-chain known (next z t (known b (within_in types.names r (chain-from c)).1)) c

    filter-reached : ((n : Name) → In n r → P n) → (n : Name) → In n (from_root types r) → ReachedFromRoot s P n
    unfolding from_root types_of
    filter-reached known n i =
        let f = filter-in reached inside i in
        ⊎_elim (λ h. subst (λ (z : Name). ReachedFromRoot s P z) (same-equal (element 0) n h) (root (known (element 0) (subst (λ (z : Name). In z r) (sym (same-equal (element 0) n h)) (within_in types.names r f.0).1))))
        (λ h.
        let c = closure-chain inside types.holds (element 0) n h in
        along-chain known (root (known (element 0) (within_in types.names r (chain-from c)).1)) c)
        (or_cases (same_name types.root n) (related (closure inside types.holds) types.root n) f.1)

    -- what is reached is in the set, and is the root or at the end of a chain from it
    reached-chain : ((n : Name) → P n → In n r) → {n : Name} → ReachedFromRoot s P n → In n inside × ((types.root ≡ n) ⊎ Chain inside types.holds types.root n)
    unfolding types_of
    reached-chain known (root i) = (in_within (element-in s 0 full) (known (element 0) i), inl refl)
    reached-chain known (next {a = a} {b = b} z t i) =
        let h = reached-chain known z in
        let j : In b inside = in_within (held_in s closed a b t) (known b i) in
        let step : Chain inside (holds s) a b = one h.0 j t in
        (j, inr (⊎_elim (λ e. subst (λ (x : Name). Chain inside (holds s) x b) (sym e) step) (λ c. chain-join c step) h.1))

    reached-filter : ((n : Name) → P n → In n r) → (n : Name) → ReachedFromRoot s P n → In n (from_root types r)
    unfolding from_root
    reached-filter known n z =
        let h = reached-chain known z in
        in-filter reached h.0
        (⊎_elim (λ e. or_left (same_name types.root n) (related (closure inside types.holds) types.root n) (subst (λ (x : Name). T (same_name types.root x)) e (same-name types.root)))
        (λ c. or_right (same_name types.root n) (related (closure inside types.holds) types.root n) (chain-closure inside types.holds c)) h.1)

  -- the names of a bundle
  pub bundle-needs : (ps : List (LocationPath ℕ)) (n : Name) → In n (needed types ps) → BundleNeeds s ps n
  unfolding needed needed_by_path
  bundle-needs ps n i =
      let g = gather-in (needed_by_path types) ps (within_in types.names (gather (needed_by_path types) ps) i).1 in
      by-path g.0 g.1 (filter-reached (needed_before_filter types g.0) (PathNeeds s g.0) (path-needs g.0) n g.2)

  pub needs-bundle : (ps : List (LocationPath ℕ)) (n : Name) → BundleNeeds s ps n → In n (needed types ps)
  unfolding needed needed_by_path
  needs-bundle ps n (by-path p i z) =
      let j = reached-filter (needed_before_filter types p) (PathNeeds s p) (needs-path p) n z in
      let h = reached-chain (needed_before_filter types p) (PathNeeds s p) (needs-path p) z in
      in_within (within_in types.names (needed_before_filter types p) h.0).0 (in-gather (needed_by_path types) i j)
