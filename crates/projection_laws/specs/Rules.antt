-- The types and contexts that are computed are those of document 01's rules: after each axis, test, condition and step.
use Rattle.std.specs.Prelude.{Bool, not, ◌||◌, ◌⊎◌, ◌↔◌, ◌≡◌, ℕ, ◌<◌, length}
use mathlib.Core.List.Memᴰ.{append_cases}
use mathlib.Core.List.Memᴰ.{append_left}
use mathlib.Core.List.Memᴰ.{append_right}
use mathlib.Core.List.Memᴰ.{eq_of_singleton as in_one}
use mathlib.Core.List.Memᴰ.{head as here}
use mathlib.Core.List.{List, [], ◌∷◌, ◌++◌, map, Memᴰ as In}
use Rattle.std.proofs.Common.{inl, inr, sym, ap, subst}
use Rattle.std.proofs.Math.Logic.{⊎_elim}
use Rattle.std.proofs.Math.Path.{refl}
use Rattle.std.proofs.Math.Dec.{T}
use Rattle.inference_spec.specs.Needed.{keeps_all, keeps_name, at_start as start_env}
use Rattle.inference_spec.specs.Rules.{Carried, type, context, Point, at_start, after_axis, after_test, after_condition, alternative_from, after_step, after_steps, alternative_steps, Downward, child-down, descendant-down, descendant-or-self-down, Upward, parent_up, ancestor-up, ancestor-or-self-up, AtOrAbove, at, above, Member, root-first, self-stays, child-type, descendant-type, descendant-or-self-type, descendant-or-self-added, downward-context, child-added, descendant-context, descendant-or-self-context, parent-type, ancestor-type, ancestor-or-self-type, ancestor-or-self-added, upward-context, test_type, test-context, no-condition, condition-type, alternative-type, alternative-context, condition-context}
use Rattle.inference_spec.specs.Types.{Env, env, held_by, holding, all_below, all_above, union_of, cut_to, move, narrow, infer, infer_all}
use Rattle.path_laws.specs.Selection.{passes-test, test-passes}
use Rattle.path_spec.specs.Paths.{Axis, self, child, descendant, descendant_or_self, parent, ancestor, ancestor_or_self, NodeTest, Step, PlainStep, Condition, unconditional, alternatives, Start, root_element, expand}
use Rattle.path_spec.specs.Selection.{Passes, passes}
use Rattle.schema_laws.specs.Closure.{Closed, holder_in, held_in, is_below-decides, below_names}
use Rattle.schema_laws.specs.Names.{has_in, in-has, in_within, within_in, element-in}
use Rattle.schema_spec.specs.Names.{Name, Names, element, has, within, names_of}
use Rattle.schema_spec.specs.Schemas.{Schema}
use Rattle.schema_spec.specs.Types.{Types, types_of, holds, Below, is_below}
use Rattle.text_laws.specs.Lists.{any-in, in-any, in-filter, filter-in, member-fills}
use Rattle.text_laws.specs.Tests.{or_left, or_right, or_cases, not-intro}
use Rattle.text_spec.specs.Lists.{any_of, filter_by, is_empty}

-- a list has exactly the names with a property, and they are names of the schema
pub record Members (s : Schema) (l : Names) (P : Name → Type 0) : Type 0 where
  pub sound : (n : Name) → In n l → P n
  pub complete : (n : Name) → P n → In n l
  pub known : (n : Name) → In n l → In n (names_of s)

-- what is computed at a point is what the rules give there
pub record MembersAt (s : Schema) (e : Env) (g : Point) : Type 0 where
  pub types : Members s e.type (Member s type g)
  pub contexts : Members s e.context (Member s context g)

-- steps with conditions of some kind, as steps; a step without brackets, and a step itself
abbrev pub as_step : {C : Type 0} → (C → Condition ℕ) → Step ℕ C → Step ℕ (Condition ℕ)
as_step f p = record { written = p.written; axis = p.axis; test = p.test; condition = f p.condition }

abbrev pub no_condition : Unit {0} → Condition ℕ
no_condition c = unconditional

abbrev pub same_condition : Condition ℕ → Condition ℕ
same_condition c = c

pub same-steps : (ps : List (Step ℕ (Condition ℕ))) → map (as_step same_condition) ps ≡ ps
same-steps [] = refl
same-steps (p ∷ ps) = ap (λ (qs : List (Step ℕ (Condition ℕ))). p ∷ qs) (same-steps ps)

-- what is computed after a step's test
abbrev pub after_testing : {C : Type 0} → Schema → Step ℕ C → Env → Env
after_testing s p e = narrow (types_of s) (passes p.test) (move (types_of s) p.axis p.test e)

-- what is computed after a condition is what the rule gives
abbrev pub Decides : {C : Type 0} → Schema → (C → Condition ℕ) → (Names → C → Name → Bool) → Type 0
Decides {C} s as_condition keeps =
    (g : Point) (w : NodeTest ℕ) (e : Env) → MembersAt s e (after_test g w) → (c : C)
    → MembersAt s (narrow (types_of s) (λ a. keeps (cut_to (types_of s) (a ∷ []) e.context) c a) e) (after_condition (after_test g w) (as_condition c))

not-both : {x : Axis} → Upward x → Downward x → ⊥
not-both parent_up d = elim d [ ]
not-both ancestor-up d = elim d [ ]
not-both ancestor-or-self-up d = elim d [ ]

-- the names that a relation leads to from one of a list
abbrev pub From : (Name → Name → Type 0) → Names → Name → Type 0
From R t n = (a : Name) × In a t × R a n

module _ (s : Schema) (closed : Closed s) where
  abbrev schema_types : Types
  schema_types = types_of s

  -- ---- sets of the inference
  from-set : (f : Name → Name → Bool) (R : Name → Name → Type 0) → ((a n : Name) → T (f a n) ↔ R a n) → ((a n : Name) → R a n → In n (names_of s)) → (t : Names)
      → Members s (filter_by (λ n. any_of (λ a. f a n) t) (names_of s)) (From R t)
  from-set f R decides known t =
      record {
        sound = λ n i.
            let a = in-any (λ a. f a n) t (filter-in (λ n. any_of (λ a. f a n) t) (names_of s) i).1 in
            (a.0, a.1, (decides a.0 n).0 a.2);
        complete = λ n r. in-filter (λ n. any_of (λ a. f a n) t) (known r.0 n r.2) (any-in (λ a. f a n) r.1 ((decides r.0 n).1 r.2));
        known = λ n i. (filter-in (λ n. any_of (λ a. f a n) t) (names_of s) i).0;
      }

  held-set : (t : Names) → Members s (held_by schema_types t) (From (λ a n. T (holds s a n)) t)
  unfolding types_of
  held-set = from-set (holds s) (λ a n. T (holds s a n)) (λ a n. (λ h. h, λ h. h)) (λ a n h. held_in s closed a n h)

  holding-set : (t : Names) → Members s (holding schema_types t) (From (λ b n. T (holds s n b)) t)
  unfolding types_of
  holding-set = from-set (λ b n. holds s n b) (λ b n. T (holds s n b)) (λ b n. (λ h. h, λ h. h)) (λ b n h. holder_in s n b h)

  pub below_set : (t : Names) → Members s (all_below schema_types t) (From (Below s) t)
  unfolding types_of
  below_set = from-set (is_below schema_types) (Below s) (is_below-decides s closed) (λ a n d. (below_names s closed d).1)

  pub above-set : (t : Names) → Members s (all_above schema_types t) (From (λ b n. Below s n b) t)
  unfolding types_of
  above-set = from-set (λ b n. is_below schema_types n b) (λ b n. Below s n b) (λ b n. is_below-decides s closed n b) (λ b n d. (below_names s closed d).0)

  -- a union of sets that are known by their properties
  union-members : {a b : Names} {P Q R : Name → Type 0} → Members s a P → Members s b Q → ((n : Name) → P n → R n) → ((n : Name) → Q n → R n) → ((n : Name) → R n → P n ⊎ Q n)
      → Members s (union_of schema_types a b) R
  unfolding types_of
  union-members {a} {b} m q left right cases =
      record {
        sound = λ n i.
            ⊎_elim (λ h. left n (m.sound n (has_in n a h))) (λ h. right n (q.sound n (has_in n b h)))
            (or_cases (has n a) (has n b) (filter-in (λ n. has n a || has n b) (names_of s) i).1);
        complete = λ n r.
            ⊎_elim
            (λ x.
            let i = m.complete n x in
            in-filter (λ n. has n a || has n b) (m.known n i) (or_left (has n a) (has n b) (in-has i)))
            (λ x.
            let i = q.complete n x in
            in-filter (λ n. has n a || has n b) (q.known n i) (or_right (has n a) (has n b) (in-has i))) (cases n r);
        known = λ n i. (filter-in (λ n. has n a || has n b) (names_of s) i).0;
      }

  -- a list by another property
  same-members : {l : Names} {P R : Name → Type 0} → Members s l P → ((n : Name) → P n → R n) → ((n : Name) → R n → P n) → Members s l R
  same-members m f h = record { sound = λ n i. f n (m.sound n i); complete = λ n r. m.complete n (h n r); known = m.known }

  from-members : {l t : Names} {Q : Name → Name → Type 0} {P R : Name → Type 0} → Members s l (From Q t) → Members s t P → ((a n : Name) → P a → Q a n → R n)
      → ((n : Name) → R n → (a : Name) × P a × Q a n) → Members s l R
  from-members m q f h =
      same-members m (λ n r. f r.0 n (q.sound r.0 r.1) r.2)
      (λ n r.
      let c = h n r in
      (c.0, q.complete c.0 c.1, c.2))

  within-members : {a b : Names} {P Q R : Name → Type 0} → Members s a P → Members s b Q → ((n : Name) → P n → Q n → R n) → ((n : Name) → R n → P n × Q n) → Members s (within a b) R
  within-members {a} {b} m q f h =
      record {
        sound = λ n i.
            let w = within_in a b i in
            f n (m.sound n w.0) (q.sound n w.1);
        complete = λ n r. in_within (m.complete n (h n r).0) (q.complete n (h n r).1);
        known = λ n i. m.known n (within_in a b i).0;
      }

  filter-members : (f : Name → Bool) {l : Names} {P R : Name → Type 0} → Members s l P → ((n : Name) → P n → T (f n) → R n) → ((n : Name) → R n → P n × T (f n)) → Members s (filter_by f l) R
  filter-members f {l} m k h =
      record {
        sound = λ n i.
            let r = filter-in f l i in
            k n (m.sound n r.0) r.1;
        complete = λ n r. in-filter f (m.complete n (h n r).0) (h n r).1;
        known = λ n i. m.known n (filter-in f l i).0;
      }

  -- ".. cut to T and above T"
  near : (t : Names) {n b : Name} → AtOrAbove s n b → In b t → In n (t ++ all_above schema_types t)
  near t at i = append_left (all_above schema_types t) i
  near t (above {n = n} {b = b} d) i = append_right t ((above-set t).complete n (b, i, d))

  cut_members : {t k : Names} {P Q R : Name → Type 0} → Members s t P → Members s k Q → ((n b : Name) → Q n → P b → AtOrAbove s n b → R n)
      → ((n : Name) → R n → (b : Name) × Q n × P b × AtOrAbove s n b) → Members s (cut_to schema_types t k) R
  cut_members {t} {k} m q f h =
      record {
        sound = λ n i.
            let w = within_in k (t ++ all_above schema_types t) i in
            ⊎_elim (λ j. f n n (q.sound n w.0) (m.sound n j) at)
            (λ j.
            let a = (above-set t).sound n j in
            f n a.0 (q.sound n w.0) (m.sound a.0 a.1) (above a.2)) (append_cases t w.1);
        complete = λ n r.
            let c = h n r in
            in_within (q.complete n c.1) (near t c.3 (m.complete c.0 c.2));
        known = λ n i. q.known n (within_in k (t ++ all_above schema_types t) i).0;
      }

  -- ---- axes
  module _ {g : Point} {e : Env} (m : MembersAt s e g) (w : NodeTest ℕ) where
    child-types : Members s (held_by schema_types e.type) (Member s type (after_axis g child w))
    child-types = from-members (held-set e.type) m.types (λ a n i h. child-type i h) from
      where
        from : (n : Name) → Member s type (after_axis g child w) n → (a : Name) × Member s type g a × T (holds s a n)
        from n (child-type {a = a} i h) = (a, i, h)

    descendant-types : Members s (all_below schema_types e.type) (Member s type (after_axis g descendant w))
    descendant-types = from-members (below_set e.type) m.types (λ a n i h. descendant-type i h) from
      where
        from : (n : Name) → Member s type (after_axis g descendant w) n → (a : Name) × Member s type g a × Below s a n
        from n (descendant-type {a = a} i h) = (a, i, h)

    descendant-or-self-types : Members s (union_of schema_types e.type (all_below schema_types e.type)) (Member s type (after_axis g descendant_or_self w))
    descendant-or-self-types = union-members m.types descendant-types (λ n i. descendant-or-self-added i) (λ n i. descendant-or-self-type i) cases
      where
        cases : (n : Name) → Member s type (after_axis g descendant_or_self w) n → Member s type g n ⊎ Member s type (after_axis g descendant w) n
        cases n (descendant-or-self-type i) = inr i
        cases n (descendant-or-self-added i) = inl i

    parent-types : Members s (within (holding schema_types e.type) e.context) (Member s type (after_axis g parent w))
    parent-types = within-members (holding-set e.type) m.contexts (λ n r k. parent-type k r.2 (m.types.sound r.0 r.1)) from
      where
        from : (n : Name) → Member s type (after_axis g parent w) n → From (λ b n. T (holds s n b)) e.type n × Member s context g n
        from n (parent-type {b = b} k h i) = ((b, m.types.complete b i, h), k)

    ancestor-types : Members s (within (all_above schema_types e.type) e.context) (Member s type (after_axis g ancestor w))
    ancestor-types = within-members (above-set e.type) m.contexts (λ n r k. ancestor-type k r.2 (m.types.sound r.0 r.1)) from
      where
        from : (n : Name) → Member s type (after_axis g ancestor w) n → From (λ b n. Below s n b) e.type n × Member s context g n
        from n (ancestor-type {b = b} k h i) = ((b, m.types.complete b i, h), k)

    ancestor-or-self-types : Members s (union_of schema_types e.type (within (all_above schema_types e.type) e.context)) (Member s type (after_axis g ancestor_or_self w))
    ancestor-or-self-types = union-members m.types ancestor-types (λ n i. ancestor-or-self-added i) (λ n i. ancestor-or-self-type i) cases
      where
        cases : (n : Name) → Member s type (after_axis g ancestor_or_self w) n → Member s type g n ⊎ Member s type (after_axis g ancestor w) n
        cases n (ancestor-or-self-type i) = inr i
        cases n (ancestor-or-self-added i) = inl i

    self-back : {x : Carried} {n : Name} → Member s x (after_axis g self w) n → Member s x g n
    self-back (self-stays i) = i
    self-back (downward-context d k) = elim d [ ]
    self-back (upward-context u k i r) = elim u [ ]

    child-passing : Members s (filter_by (passes w) (held_by schema_types e.type)) (λ n. Member s type (after_axis g child w) n × Passes w n)
    child-passing = filter-members (passes w) child-types (λ n i t. (i, passes-test w n t)) (λ n r. (r.0, test-passes r.1))

    child-contexts : Members s (union_of schema_types e.context (filter_by (passes w) (held_by schema_types e.type))) (Member s context (after_axis g child w))
    child-contexts = union-members m.contexts child-passing (λ n k. downward-context child-down k) (λ n r. child-added r.0 r.1) cases
      where
        cases : (n : Name) → Member s context (after_axis g child w) n → Member s context g n ⊎ (Member s type (after_axis g child w) n × Passes w n)
        cases n (downward-context d k) = inl k
        cases n (child-added i p) = inr (i, p)
        cases n (upward-context u k i r) = elim u [ ]

    descendant-contexts : Members s (union_of schema_types e.context (all_below schema_types e.type)) (Member s context (after_axis g descendant w))
    descendant-contexts = union-members m.contexts descendant-types (λ n k. downward-context descendant-down k) (λ n i. descendant-context i) cases
      where
        cases : (n : Name) → Member s context (after_axis g descendant w) n → Member s context g n ⊎ Member s type (after_axis g descendant w) n
        cases n (downward-context d k) = inl k
        cases n (descendant-context i) = inr i
        cases n (upward-context u k i r) = elim u [ ]

    descendant-or-self-contexts : Members s (union_of schema_types e.context (union_of schema_types e.type (all_below schema_types e.type))) (Member s context (after_axis g descendant_or_self w))
    descendant-or-self-contexts = union-members m.contexts descendant-or-self-types (λ n k. downward-context descendant-or-self-down k) (λ n i. descendant-or-self-context i) cases
      where
        cases : (n : Name) → Member s context (after_axis g descendant_or_self w) n → Member s context g n ⊎ Member s type (after_axis g descendant_or_self w) n
        cases n (downward-context d k) = inl k
        cases n (descendant-or-self-context i) = inr i
        cases n (upward-context u k i r) = elim u [ ]

    upward-back : {x : Axis} {n : Name} → Upward x → Member s context (after_axis g x w) n → (b : Name) × Member s context g n × Member s type (after_axis g x w) b × AtOrAbove s n b
    upward-back u (self-stays k) = elim u [ ]
    upward-back u (downward-context d k) = absurd (not-both u d)
    upward-back u (child-added i p) = elim u [ ]
    upward-back u (descendant-context i) = elim u [ ]
    upward-back u (descendant-or-self-context i) = elim u [ ]
    upward-back u (upward-context {b = b} v k i r) = (b, k, i, r)

    upward-contexts : {x : Axis} {t : Names} → Upward x → Members s t (Member s type (after_axis g x w)) → Members s (cut_to schema_types t e.context) (Member s context (after_axis g x w))
    upward-contexts u q = cut_members q m.contexts (λ n b k i r. upward-context u k i r) (λ n k. upward-back u k)

    pub axis-members : (x : Axis) → MembersAt s (move schema_types x w e) (after_axis g x w)
    axis-members self =
        record {
          types = same-members m.types (λ n i. self-stays i) (λ n i. self-back i);
          contexts = same-members m.contexts (λ n k. self-stays k) (λ n k. self-back k);
        }
    axis-members child = record { types = child-types; contexts = child-contexts }
    axis-members descendant = record { types = descendant-types; contexts = descendant-contexts }
    axis-members descendant_or_self = record { types = descendant-or-self-types; contexts = descendant-or-self-contexts }
    axis-members parent = record { types = parent-types; contexts = upward-contexts parent_up parent-types }
    axis-members ancestor = record { types = ancestor-types; contexts = upward-contexts ancestor-up ancestor-types }
    axis-members ancestor_or_self = record { types = ancestor-or-self-types; contexts = upward-contexts ancestor-or-self-up ancestor-or-self-types }

    -- ---- the test
    pub test-members : MembersAt s (narrow schema_types (passes w) e) (after_test g w)
    test-members = record { types = passing; contexts = cut_members passing m.contexts (λ n b k i r. test-context k i r) from }
      where
        filtered : (n : Name) → Member s type (after_test g w) n → Member s type g n × T (passes w n)
        filtered n (test_type i p) = (i, test-passes p)

        passing : Members s (filter_by (passes w) e.type) (Member s type (after_test g w))
        passing = filter-members (passes w) m.types (λ n i t. test_type i (passes-test w n t)) filtered

        from : (n : Name) → Member s context (after_test g w) n → (b : Name) × Member s context g n × Member s type (after_test g w) b × AtOrAbove s n b
        from n (test-context {b = b} k i r) = (b, k, i, r)

  -- ---- conditions
  -- "started from type {A} and K cut to A and above A", for a K that has the names of the point at or above A
  pub alternative-from : {k : Names} {Q : Name → Type 0} (g : Point) (a : Name) → In a (names_of s) → Members s k Q → ((n : Name) → Q n → Member s context g n)
      → ((n : Name) → Member s context g n → AtOrAbove s n a → Q n) → MembersAt s (env (a ∷ []) (cut_to schema_types (a ∷ []) k)) (alternative_from g a)
  alternative-from {k} {Q} g a i q f h = record { types = alone; contexts = cut_members alone q cut from }
    where
      only : (n : Name) → Member s type (alternative_from g a) n → n ≡ a
      only n alternative-type = refl

      alone : Members s (a ∷ []) (Member s type (alternative_from g a))
      alone =
          record {
            sound = λ n j. subst (λ (x : Name). Member s type (alternative_from g a) x) (sym (in_one j)) alternative-type;
            complete = λ n j. here (only n j);
            known = λ n j. subst (λ (x : Name). In x (names_of s)) (sym (in_one j)) i;
          }

      cut : (n b : Name) → Q n → Member s type (alternative_from g a) b → AtOrAbove s n b → Member s context (alternative_from g a) n
      cut n b c alternative-type r = alternative-context (f n c) r

      from : (n : Name) → Member s context (alternative_from g a) n → (b : Name) × Q n × Member s type (alternative_from g a) b × AtOrAbove s n b
      from n (alternative-context c r) = (a, h n c r, alternative-type, r)

  -- where no name is lost
  all-kept : {g : Point} {w : NodeTest ℕ} {e : Env} (f : Name → Bool) → ((n : Name) → T (f n)) → MembersAt s e (after_test g w)
      → MembersAt s (narrow schema_types f e) (after_condition (after_test g w) unconditional)
  all-kept {g} {w} {e} f all m =
      record { types = stay; contexts = cut_members stay m.contexts (λ n b k i r. no-condition k) (λ n k. cut n (back k)) }
    where
      back : {x : Carried} {n : Name} → Member s x (after_condition (after_test g w) unconditional) n → Member s x (after_test g w) n
      back (no-condition i) = i

      stay : Members s (filter_by f e.type) (Member s type (after_condition (after_test g w) unconditional))
      stay = filter-members f m.types (λ n i t. no-condition i) (λ n i. (back i, all n))

      -- K is within T and above T already
      cut : (n : Name) → Member s context (after_test g w) n
          → (b : Name) × Member s context (after_test g w) n × Member s type (after_condition (after_test g w) unconditional) b × AtOrAbove s n b
      cut n (test-context {b = b} k i r) = (b, test-context k i r, no-condition i, r)

  -- steps whose conditions are tested as the rules say
  module _ {C : Type 0} (as_condition : C → Condition ℕ) (keeps : Names → C → Name → Bool) (decides : Decides s as_condition keeps) where
    pub step-members : {g : Point} {e : Env} → MembersAt s e g → (p : Step ℕ C) → MembersAt s (infer schema_types keeps p e) (after_step g (as_step as_condition p))
    step-members {g} {e} m p =
        decides (after_axis g p.axis p.test) p.test (after_testing s p e) (test-members (axis-members m p.test p.axis) p.test) p.condition

    pub steps-members : {g : Point} {e : Env} → MembersAt s e g → (ps : List (Step ℕ C)) → MembersAt s (infer_all schema_types keeps ps e) (after_steps g (map (as_step as_condition) ps))
    steps-members m [] = m
    steps-members {g} m (p ∷ ps) = steps-members {g = after_step g (as_step as_condition p)} (step-members m p) ps

  pub all-decided : Decides s no_condition keeps_all
  all-decided g w e m c = all-kept (λ a. keeps_all (cut_to schema_types (a ∷ []) e.context) c a) (λ n. tt) m

  some-name : (l : Names) → T (not (is_empty l)) → (n : Name) × In n l
  some-name [] t = absurd t
  some-name (n ∷ l) t = (n, here refl)

  pub names-decided : Decides s same_condition (keeps_name schema_types)
  names-decided g w e m unconditional = all-kept (λ a. keeps_name schema_types (cut_to schema_types (a ∷ []) e.context) unconditional a) (λ n. tt) m
  names-decided g w e m (alternatives qs) =
      record { types = keeping; contexts = cut_members keeping m.contexts (λ n b k i r. condition-context k i r) cut }
    where
      h : Point
      h = after_test g w

      ends : Name → List (PlainStep ℕ) → Names
      ends a q = (infer_all schema_types keeps_all (expand tt q) (env (a ∷ []) (cut_to schema_types (a ∷ []) e.context))).type

      f : Name → Bool
      f a = any_of (λ q. not (is_empty (ends a q))) qs

      end-members : (a : Name) → Member s type h a → (q : List (PlainStep ℕ)) → Members s (ends a q) (Member s type (after_steps (alternative_from h a) (alternative_steps q)))
      end-members a i q =
          (steps-members no_condition keeps_all all-decided
          (alternative-from h a (m.types.known a (m.types.complete a i)) m.contexts (λ n k. k) (λ n k r. k)) (expand tt q)).types

      keeps : (a : Name) → Member s type h a → T (f a) → Member s type (after_condition h (alternatives qs)) a
      keeps a i t =
          let r = in-any (λ q. not (is_empty (ends a q))) qs t in
          let n = some-name (ends a r.0) r.2 in
          condition-type r.0 i r.1 ((end-members a i r.0).sound n.0 n.1)

      kept : (a : Name) → Member s type (after_condition h (alternatives qs)) a → Member s type h a × T (f a)
      kept a (condition-type {n = n} q i j r) =
          (i, any-in (λ q. not (is_empty (ends a q))) j (not-intro (is_empty (ends a q)) (λ t. member-fills ((end-members a i q).complete n r) t)))

      keeping : Members s (filter_by f e.type) (Member s type (after_condition h (alternatives qs)))
      keeping = filter-members f m.types keeps kept

      cut : (n : Name) → Member s context (after_condition h (alternatives qs)) n → (b : Name) × Member s context h n × Member s type (after_condition h (alternatives qs)) b × AtOrAbove s n b
      cut n (condition-context {b = b} k i r) = (b, k, i, r)

  -- ---- paths
  pub start-members : 0 < length s → (a : Start) → MembersAt s (start_env schema_types a) (at_start a)
  unfolding types_of
  start-members full root_element = record { types = root; contexts = root }
    where
      only : {x : Carried} (n : Name) → Member s x (at_start root_element) n → n ≡ element 0
      only n root-first = refl

      root : {x : Carried} → Members s (element 0 ∷ []) (Member s x (at_start root_element))
      root {x} =
          record {
            sound = λ n i. subst (λ (y : Name). Member s x (at_start root_element) y) (sym (in_one i)) root-first;
            complete = λ n i. here (only n i);
            known = λ n i. subst (λ (y : Name). In y (names_of s)) (sym (in_one i)) (element-in s 0 full);
          }

  -- THE THEOREM: after any steps the computed type and context are those of the rules
  pub rules-infer : 0 < length s → (a : Start) (ps : List (Step ℕ (Condition ℕ)))
      → MembersAt s (infer_all schema_types (keeps_name schema_types) ps (start_env schema_types a)) (after_steps (at_start a) ps)
  rules-infer full a ps =
      rw (same-steps ps) at (steps-members same_condition (keeps_name schema_types) names-decided (start-members full a) ps)
