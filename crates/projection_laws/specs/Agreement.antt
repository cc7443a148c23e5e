-- The main lemma: two documents that have the same nodes among those whose own and ancestors' names are all needed give a path the same
-- nodes. It is symmetric in the documents, and speaks of any start, any type and context, and any conditions with five laws.
use Rattle.std.specs.Prelude.{Bool, ◌≡◌, refl, ℕ, suc, T}
use mathlib.Core.List.Memᴰ.{append_left}
use mathlib.Core.List.Memᴰ.{append_right}
use mathlib.Core.List.Memᴰ.{head as here}
use mathlib.Core.List.{List, [], ◌∷◌, ◌++◌, Memᴰ as In}
use Rattle.std.proofs.Common.{ap, subst, arith}
use Rattle.inference_spec.specs.Needed.{linked, between, complete, need}
use Rattle.inference_spec.specs.Types.{Env, cut_to, move, narrow, infer, infer_all}
use Rattle.path_laws.specs.Paths.{passing_steps, step-parts}
use Rattle.path_laws.specs.Selection.{test-passes}
use Rattle.path_spec.specs.Paths.{Axis, WrittenAxis, NodeTest, WrittenStep, Step, passing, sibling_steps, order_steps, expand_step, expand_from}
use Rattle.path_spec.specs.Selection.{NodeSet, Passes, passes-node, passes, OnAxis, on-child, on-parent, Siblings, siblings, OnWritten, on-along, on-following, on-following-sibling, on-preceding, on-preceding-sibling, StepSet, PathSet}
use Rattle.projection_laws.specs.Documents.{SubsetOf, Within, Valid, AllValid, Lawful, edge-valid}
use Rattle.projection_laws.specs.Siblings.{SiblingsAbove, siblings-above, up-valid, down-valid}
use Rattle.projection_laws.specs.Soundness.{Typed, cut-within, narrow-typed, move-typed, axis-linked, axis-within}
use Rattle.schema_spec.specs.Names.{Name, Names}
use Rattle.schema_spec.specs.Types.{Types}
use Rattle.table_spec.specs.Nodes.{Node, node_number, name_of}
use Rattle.text_laws.specs.Lists.{any-in, in-filter, in-gather}
use Rattle.text_spec.specs.Lists.{any_of, gather}

-- the documents have the same nodes among those whose own and ancestors' names are in r
pub record Alike (r : Names) (d e : List Node) : Type 0 where
  pub forth : (y : Node) → Within r y → In y d → In y e
  pub back : (y : Node) → Within r y → In y e → In y d

pub alike_turned : {r : Names} {d e : List Node} → Alike r d e → Alike r e d
alike_turned a = record { forth = a.back; back = a.forth }

-- What is asked of conditions: a name that has a node where one holds is kept by it, and where all that it wants is in r it holds in
-- both of two documents that are alike, or in neither. `no_condition`, for the steps that an expansion puts in front of a written one, is
-- met by every node, keeps every name and wants none.
pub record ConditionLaws {C : Type 0} (s : Types) (Meets : List Node → C → Node → Type 0) (keeps : Names → C → Name → Bool) (wants : Names → C → Name → Names) (no_condition : C) : Type 0 where
  pub keeps-name : (doc : List Node) → AllValid s doc → (c : C) (k : Names) (y : Node) → Valid s y → Within k y → Meets doc c y → T (keeps k c (name_of y))
  pub agrees : (r : Names) (d e : List Node) → AllValid s d → AllValid s e → Alike r d e → (c : C) (k : Names) (y : Node) → Valid s y → Within k y
      → Within r y → SubsetOf (wants k c (name_of y)) r → Meets d c y → Meets e c y
  pub none-met : (doc : List Node) (y : Node) → Meets doc no_condition y
  pub none-keeps : (k : Names) (a : Name) → T (keeps k no_condition a)
  pub none-wants : (k : Names) (a : Name) → wants k no_condition a ≡ []

module _ {C : Type 0} (s : Types) (Meets : List Node → C → Node → Type 0) (doc : List Node) where
  -- an analysed step from one node to another; the nodes are valid, and need not be in the document
  pub record StepMade (p : Step ℕ C) (x y : Node) : Type 0 where
    pub valid : Valid s y
    pub axis : OnAxis p.axis x y
    pub test : Passes p.test (name_of y)
    pub condition : Meets doc p.condition y

  pub data Navigation : List (Step ℕ C) → Node → Node → Type 0 where
    stay : {x : Node} → Navigation [] x x
    step-along : {p : Step ℕ C} {ps : List (Step ℕ C)} {x y m : Node} → StepMade p x y → Navigation ps y m → Navigation (p ∷ ps) x m

  -- the same by written steps, in the document
  pub record WrittenStepMade (p : WrittenStep ℕ C) (x y : Node) : Type 0 where
    pub axis : OnWritten p.axis x y
    pub present : In y doc
    pub test : Passes p.test (name_of y)
    pub condition : Meets doc p.condition y

  pub data WrittenNavigation : List (WrittenStep ℕ C) → Node → Node → Type 0 where
    stay : {x : Node} → WrittenNavigation [] x x
    written_step : {p : WrittenStep ℕ C} {ps : List (WrittenStep ℕ C)} {x y m : Node} → WrittenStepMade p x y → WrittenNavigation ps y m → WrittenNavigation (p ∷ ps) x m

  pub navigation-join : {ps qs : List (Step ℕ C)} {x y m : Node} → Navigation ps x y → Navigation qs y m → Navigation (ps ++ qs) x m
  navigation-join stay u = u
  navigation-join (step-along h t) u = step-along h (navigation-join t u)

  -- a path leads from a set to the ends of navigations from its nodes
  pub navigation-of : (ps : List (WrittenStep ℕ C)) (S : NodeSet) (m : Node) → PathSet doc (Meets doc) ps S m → (x : Node) × S x × WrittenNavigation ps x m
  navigation-of [] S m i = (m, i, stay)
  navigation-of (p ∷ ps) S m i =
      let r = navigation-of ps (StepSet doc (Meets doc) p S) m i in
      let h = r.1 in
      (h.from, h.member, written_step (record { axis = h.axis; present = h.present; test = h.test; condition = h.condition }) r.2)

  pub of-navigation : {ps : List (WrittenStep ℕ C)} (S : NodeSet) {x m : Node} → S x → WrittenNavigation ps x m → PathSet doc (Meets doc) ps S m
  of-navigation S i stay = i
  of-navigation S {x} i (written_step {p = p} h t) =
      of-navigation (StepSet doc (Meets doc) p S) (record { from = x; member = i; axis = h.axis; present = h.present; test = h.test; condition = h.condition }) t

module _ {C : Type 0} (s : Types) (Meets : List Node → C → Node → Type 0) (no_condition : C) (none-met : (doc : List Node) (y : Node) → Meets doc no_condition y) (doc : List Node) where
  -- a step in front of the last part of a written step, and the last part
  passed : (i : ℕ) {a : Axis} {x y : Node} → OnAxis a x y → Valid s y → StepMade s Meets doc (passing no_condition i a) x y
  passed i {y = y} o v = record { valid = v; axis = o; test = passes-node; condition = none-met doc y }

  last-part : {i : ℕ} {a : Axis} {t : NodeTest ℕ} {c : C} {x y : Node} → OnAxis a x y → Valid s y → Passes t (name_of y) → Meets doc c y
      → Navigation s Meets doc (record { written = i; axis = a; test = t; condition = c } ∷ []) x y
  last-part o v q m = step-along (record { valid = v; axis = o; test = q; condition = m }) stay

  sibling-navigation : (i : ℕ) {t : NodeTest ℕ} {c : C} {x y : Node} → Siblings x y → Valid s y → Passes t (name_of y) → Meets doc c y
      → Navigation s Meets doc (sibling_steps no_condition i t c) x y
  sibling-navigation i (siblings e f) v q m = step-along (passed i (on-parent e) (edge-valid s f v)) (last-part (on-child f) v q m)

  order-navigation : (i : ℕ) {t : NodeTest ℕ} {c : C} {x y : Node} → Valid s x → SiblingsAbove x y → Valid s y → Passes t (name_of y) → Meets doc c y
      → Navigation s Meets doc (order_steps no_condition i t c) x y
  order-navigation i w r v q m =
      let second : Valid s r.second = down-valid s r.down v in
      step-along (passed i r.up (up-valid s r.up w))
      (navigation-join s Meets doc (sibling-navigation i (siblings r.first_edge r.second-edge) second passes-node (none-met doc r.second)) (last-part r.down v q m))

  -- a written step, in valid nodes, is a navigation of the steps by which it is analysed
  pub written-navigation : (i : ℕ) {a : WrittenAxis} {t : NodeTest ℕ} {c : C} {x y : Node} → OnWritten a x y → Valid s x → Valid s y → Passes t (name_of y) → Meets doc c y
      → Navigation s Meets doc (expand_step no_condition i a t c) x y
  written-navigation i (on-along o) w v q m = last-part o v q m
  written-navigation i (on-following {x = x} {y = y} f) w v q m =
      order-navigation i w (siblings-above s x y w v (λ e. (let k = ap node_number e in omega (arith, f.after))) f.no-descendant f.no-ancestor) v q m
  written-navigation i (on-following-sibling h l) w v q m = sibling-navigation i h v q m
  written-navigation i (on-preceding {x = x} {y = y} f) w v q m =
      order-navigation i w (siblings-above s x y w v (λ e. (let k = ap node_number e in omega (arith, f.after))) f.no-ancestor f.no-descendant) v q m
  written-navigation i (on-preceding-sibling h l) w v q m = sibling-navigation i h v q m

  pub written-expands : AllValid s doc → (i : ℕ) {ps : List (WrittenStep ℕ C)} {x m : Node} → Valid s x → WrittenNavigation s Meets doc ps x m → Navigation s Meets doc (expand_from no_condition i ps) x m
  written-expands ok i w stay = stay
  written-expands ok i w (written_step {y = y} h t) =
      let v : Valid s y = ok y h.present in
      navigation-join s Meets doc (written-navigation i h.axis w v h.test h.condition) (written-expands ok (suc i) v t)

  last-condition : (qs : List (Step ℕ C)) (p : Step ℕ C) (x y : Node) → Navigation s Meets doc (qs ++ (p ∷ [])) x y → Meets doc p.condition y
  last-condition [] p x y (step-along h stay) = h.condition
  last-condition (q ∷ qs) p x y (step-along {y = z} h l) = last-condition qs p z y l

  -- the condition of a written step stands at the end of its navigation
  pub navigation-condition : (i : ℕ) (a : WrittenAxis) (t : NodeTest ℕ) (c : C) (x y : Node) → Navigation s Meets doc (expand_step no_condition i a t c) x y → Meets doc c y
  navigation-condition i a t c x y n =
      last-condition (passing_steps no_condition i a) _ x y (subst (λ (l : List (Step ℕ C)). Navigation s Meets doc l x y) (step-parts no_condition i a t c) n)

module _ {C : Type 0} (s : Types) (law : Lawful s) (Meets : List Node → C → Node → Type 0) (keeps : Names → C → Name → Bool) (wants : Names → C → Name → Names) (no_condition : C) (laws : ConditionLaws s Meets keeps wants no_condition) where
  -- ---- in one document: types and contexts follow a navigation, and it runs along a complete walk
  step_typed : (doc : List Node) → AllValid s doc → (p : Step ℕ C) (e : Env) {x y : Node} → Valid s x → Typed e x → StepMade s Meets doc p x y → Typed (infer s keeps p e) y
  step_typed doc ok p e {x} {y} v f h =
      let n = narrow s (passes p.test) (move s p.axis p.test e) in
      let q = test-passes h.test in
      let g : Typed n y = narrow-typed s law (passes p.test) (move s p.axis p.test e) y h.valid q (move-typed s law p.test e h.axis v h.valid q f) in
      let k = cut_to s (name_of y ∷ []) n.context in
      narrow-typed s law (λ a. keeps (cut_to s (a ∷ []) n.context) p.condition a) n y h.valid
      (laws.keeps-name doc ok p.condition k y h.valid (cut-within s law (name_of y ∷ []) n.context y h.valid g.1 (here refl)) h.condition) g

  pub navigation-typed : (doc : List Node) → AllValid s doc → {ps : List (Step ℕ C)} (e : Env) {x m : Node} → Valid s x → Typed e x → Navigation s Meets doc ps x m
      → Typed (infer_all s keeps ps e) m
  navigation-typed doc ok e v f stay = f
  navigation-typed doc ok e v f (step-along {p = p} h t) = navigation-typed doc ok (infer s keeps p e) h.valid (step_typed doc ok p e v f h) t

  pub navigation-complete : (doc : List Node) → AllValid s doc → {ps : List (Step ℕ C)} (e : Env) {x m : Node} → Valid s x → Typed e x → Navigation s Meets doc ps x m
      → In (name_of x) (complete s keeps wants ps e)
  navigation-complete doc ok e v f stay = f.0
  navigation-complete doc ok e {x} v f (step-along {p = p} {ps = ps} h t) =
      in-filter (λ a. any_of (λ b. linked s p.axis a b) (complete s keeps wants ps (infer s keeps p e))) f.0
      (any-in (λ b. linked s p.axis (name_of x) b) (navigation-complete doc ok (infer s keeps p e) h.valid (step_typed doc ok p e v f h) t)
      (axis-linked s law h.axis v h.valid))

  pub complete-needed : (ps : List (Step ℕ C)) (e : Env) → SubsetOf (complete s keeps wants ps e) (need s keeps wants ps e)
  complete-needed [] e n i = i
  complete-needed (p ∷ ps) e n i = append_left _ i

  -- ---- in two documents: what is known after the first part ps of a navigation that goes on by qs
  pub record Arrived (r : Names) (e : List Node) (ps qs : List (Step ℕ C)) (v : Env) (x y : Node) : Type 0 where
    pub navigation : Navigation s Meets e ps x y
    pub safe : Within r y
    pub typed : Typed (infer_all s keeps ps v) y
    pub left : SubsetOf (need s keeps wants qs (infer_all s keeps ps v)) r

  module _ (r : Names) (d e : List Node) (dv : AllValid s d) (ev : AllValid s e) (al : Alike r d e) where
    -- THE MAIN LEMMA
    pub navigation-alike : {ps qs : List (Step ℕ C)} (v : Env) {x y m : Node} → Valid s x → Typed v x → Within r x → SubsetOf (need s keeps wants (ps ++ qs) v) r
        → Navigation s Meets d ps x y → Navigation s Meets d qs y m → Arrived r e ps qs v x y
    navigation-alike v o f w sub stay u = record { navigation = stay; safe = w; typed = f; left = sub }
    navigation-alike {qs = qs} v {x} o f w sub (step-along {p = p} {ps = ps} {y = y} h t) u =
        let q = infer s keeps p v in
        let all = ps ++ qs in
        let g = complete s keeps wants (p ∷ all) v in
        let k = complete s keeps wants all q in
        let typed : Typed q y = step_typed d dv p v o f h in
        let onward = navigation-join s Meets d t u in
        let gx : In (name_of x) g = navigation-complete d dv v o f (step-along h onward) in
        let ky : In (name_of y) k = navigation-complete d dv q h.valid typed onward in
        let b = between s p.axis g k in
        let c = gather (λ a. wants (cut_to s (a ∷ []) q.context) p.condition a) k in
        let rest = need s keeps wants all q in
        let sub-b : SubsetOf b r = λ n i. sub n (append_right g (append_left (c ++ rest) i)) in
        let sub-c : SubsetOf c r = λ n i. sub n (append_right g (append_right b (append_left rest i))) in
        let sub-r : SubsetOf rest r = λ n i. sub n (append_right g (append_right b (append_right c i))) in
        let safe : Within r y = axis-within s law g k r h.axis h.valid gx ky (sub-r (name_of y) (complete-needed all q (name_of y) ky)) sub-b w in
        let met : Meets e p.condition y =
        laws.agrees r d e dv ev al p.condition (cut_to s (name_of y ∷ []) q.context) y h.valid
        (cut-within s law (name_of y ∷ []) q.context y h.valid typed.1 (here refl)) safe
        (λ n i. sub-c n (in-gather (λ a. wants (cut_to s (a ∷ []) q.context) p.condition a) ky i)) h.condition in
        let z = navigation-alike q h.valid typed safe sub-r t u in
        record {
          navigation = step-along (record { valid = h.valid; axis = h.axis; test = h.test; condition = met }) z.navigation;
          safe = z.safe;
          typed = z.typed;
          left = z.left;
        }

    -- the same for written steps: a navigation in the one document is one in the other, and its end is safe
    pub written-alike : (i : ℕ) {ps : List (WrittenStep ℕ C)} (v : Env) {x m : Node} → Valid s x → Typed v x → Within r x → SubsetOf (need s keeps wants (expand_from no_condition i ps) v) r
        → WrittenNavigation s Meets d ps x m → WrittenNavigation s Meets e ps x m × Within r m
    written-alike i v o f w sub stay = (stay, w)
    written-alike i v {x} o f w sub (written_step {p = p} {ps = ps} {y = y} h t) =
        let q = expand_step no_condition i p.axis p.test p.condition in
        let u : Valid s y = dv y h.present in
        let a : Arrived r e q (expand_from no_condition (suc i) ps) v x y =
        navigation-alike v o f w sub (written-navigation s Meets no_condition laws.none-met d i h.axis o u h.test h.condition) (written-expands s Meets no_condition laws.none-met d dv (suc i) u t) in
        let z = written-alike (suc i) (infer_all s keeps q v) u a.typed a.safe a.left t in (
          written_step
              (record {
                axis = h.axis;
                present = al.forth y a.safe h.present;
                test = h.test;
                condition = navigation-condition s Meets no_condition laws.none-met e i p.axis p.test p.condition x y a.navigation;
              })
              z.0,
          z.1,
        )
