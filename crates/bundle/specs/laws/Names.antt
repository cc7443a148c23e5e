-- The least place of a name that no element has, against the refusals of 10 that the definition lists.
use Rattle.std.specs.Prelude.{Bool, cond, ◌⊎◌, ℕ, suc, ◌+◌, ◌≤◌, ◌<◌, T, ltb, length, Option, Some, None}
use Rattle.std.proofs.Math.Bool.{true, false}
use mathlib.Core.List.Memᴰ.{append_cases}
use mathlib.Core.List.Memᴰ.{append_left}
use mathlib.Core.List.Memᴰ.{append_right}
use mathlib.Core.List.Memᴰ.{head as here}
use mathlib.Core.List.Memᴰ.{tail as there}
use mathlib.Core.List.{List, [], ◌∷◌, ◌++◌, map, Memᴰ as In}
use Rattle.std.proofs.Common.{inl, inr, ⊎_elim, ap₂, subst, ◌∙◌}
use Rattle.std.proofs.Math.Option as Math
use Rattle.std.proofs.Math.Path.{◌≡◌, refl, sym, ap}
use native.Mathlib.Omega.{arith}
use borrow.Author.Tests.{ltb-true, ltb-false}
use Rattle.bundle_text.specs.declared.steps.StepRead.{StepRead}
use Rattle.bundle_text.specs.declared.steps.TestRead.{TestRead}
use Rattle.bundle_text.specs.declared.steps.TestRead.TheVariants.{Node, Text, Name}
use Rattle.bundle_text.specs.notes.Laws.{gather_append}
use Rattle.bundle_text.specs.notes.Notes.{cells_of, Written, outer_cells, all_paths, Line, all_steps}
use Rattle.bundle_text.specs.paths.Readings.{path_noted}
use Rattle.bundle_text.specs.steps.Readings.{use_at, test_noted, step_test, plain_noted}
use Rattle.bundle_text.specs.written_steps.Readings.{step_noted, condition_of}
use Rattle.bundle.specs.laws.Limits.{none_some}
use Rattle.bundle.specs.laws.Order.{Least, least-all}
use Rattle.bundle.specs.names_in_tests.Steps.{element_or, lost_of, compiled_test, earliest, earliest_of, lost_cell}
use Rattle.path_spec.specs.Grammar.{PathRead}
use Rattle.path_spec.specs.Paths.{PlainStep, condition_paths, test_uses, path_uses}
use Rattle.path_spec.specs.Reading.{undeclared_places}
use Rattle.schema_spec.specs.Declarations.{Use}
use Rattle.schema_spec.specs.Schemas.{Schema, index_from, element_named}
use Rattle.text_laws.specs.Lists.{in_map, map-in, in-gather, gather-in, in-filter, filter-in, is-none, memberless}
use Rattle.text_laws.specs.Tests.{never}
use Rattle.text_spec.specs.Lists.{gather, filter_by, is_none, same_bytes}
use Rattle.text_spec.specs.Refusals.{all_at, undeclared_in_path}
use Rattle.text_spec.specs.Scans.{name_at}

-- an index is below the number of names
pub index_below : (k : ℕ) (n : List ℕ) (ms : List (List ℕ)) (e : ℕ) → index_from k n ms ≡ Math.some e → e < k + length ms
index_below k n [] e h = never (cc)
index_below k n (m ∷ ms) e h = pick (same_bytes n m) (index_below (suc k) n ms e) h
  where
    pick : (b : Bool) → (index_from (suc k) n ms ≡ Math.some e → e < suc k + length ms) → cond b (Math.some k) (index_from (suc k) n ms) ≡ Math.some e → e < k + suc (length ms)
    pick true r q = let z : k ≡ e = cc in omega arith
    pick false r q = let z = r q in omega arith

-- ---- a test of the text under the names
module _ (names : List (List ℕ)) (text : List ℕ) where
  -- the names that the test of a step is written with
  abbrev pub uses_of : StepRead → List Use
  uses_of c = test_uses (step_test text c)

  abbrev pub Unknown : Use → Type 0
  Unknown u = index_from 0 u.name names ≡ Math.none

  lost-use : (c : StepRead) (m : ℕ) → lost_cell names text c ≡ Some m → (u : Use) × In u (uses_of c) × (u.place ≡ m) × Unknown u
  lost-use c m e = go c.test e
    where
      go : (t : TestRead) → lost_of (compiled_test names text t) ≡ Some m → (u : Use) × In u (test_uses (test_noted text t)) × (u.place ≡ m) × Unknown u
      go Node f = absurd (none_some f)
      go Text f = absurd (none_some f)
      go (Name p) f = pick (index_from 0 (name_at text p) names) refl f
        where
          pick : (o : Math.Option ℕ) → index_from 0 (name_at text p) names ≡ o → lost_of (element_or p o) ≡ Some m → (u : Use) × In u (test_uses (test_noted text (Name p))) × (u.place ≡ m) × Unknown u
          pick (Math.some i) q f = absurd (none_some f)
          pick Math.none q f = let z : p ≡ m = cc in (use_at text p, here refl, z, q)

  use-lost : (c : StepRead) (u : Use) → In u (uses_of c) → Unknown u → lost_cell names text c ≡ Some u.place
  use-lost c u i n = go c.test i
    where
      go : (t : TestRead) → In u (test_uses (test_noted text t)) → lost_of (compiled_test names text t) ≡ Some u.place
      go Node j = elim j [ ]
      go Text j = elim j [ ]
      go (Name p) (here e) =
          let z : index_from 0 (name_at text p) names ≡ Math.none = ap (λ (v : Use). index_from 0 v.name names) (sym e) ∙ n in
          ap (λ (o : Math.Option ℕ). lost_of (element_or p o)) z ∙ ap Some (ap (λ (v : Use). v.place) (sym e))
      go (Name p) (there j) = elim j [ ]

-- ---- the least of places
-- it is one of the two, and neither is less
record Lesser (a b r : Option ℕ) : Type 0 where
  one_of : (r ≡ a) ⊎ (r ≡ b)
  low-a : (x : ℕ) → a ≡ Some x → (y : ℕ) × (r ≡ Some y) × (y ≤ x)
  low-b : (x : ℕ) → b ≡ Some x → (y : ℕ) × (r ≡ Some y) × (y ≤ x)

lesser : (a b : Option ℕ) → Lesser a b (earliest a b)
lesser None b = record { one_of = inr refl; low-a = λ x e. absurd (none_some e); low-b = λ x e. (x, e, omega arith) }
lesser (Some a) None = record { one_of = inl refl; low-a = λ x e. (x, e, omega arith); low-b = λ x e. absurd (none_some e) }
lesser (Some a) (Some b) = go (ltb b a) refl
  where
    go : (t : Bool) → ltb b a ≡ t → Lesser (Some a) (Some b) (Some (cond t b a))
    go true r =
        let h = ltb-true b a r in
        record { one_of = inr refl; low-a = λ x e. (b, refl, (let z : a ≡ x = cc in omega arith)); low-b = λ x e. (b, refl, (let z : b ≡ x = cc in omega arith)) }
    go false r =
        let h = ltb-false b a r in
        record { one_of = inl refl; low-a = λ x e. (a, refl, (let z : a ≡ x = cc in omega arith)); low-b = λ x e. (a, refl, (let z : b ≡ x = cc in omega arith)) }

-- it is one of them, and none is less
record LeastOf (xs : List (Option ℕ)) (r : Option ℕ) : Type 0 where
  member : In r xs
  low : (x : ℕ) → In (Some x) xs → (y : ℕ) × (r ≡ Some y) × (y ≤ x)

least-of : (a : Option ℕ) (xs : List (Option ℕ)) → LeastOf (a ∷ xs) (earliest_of a xs)
least-of a [] = record { member = here refl; low = only }
  where
    only : (x : ℕ) → In (Some x) (a ∷ []) → (y : ℕ) × (a ≡ Some y) × (y ≤ x)
    only x (here e) = (x, sym e, omega arith)
    only x (there i) = elim i [ ]
least-of a (b ∷ xs) = go (lesser a b) (least-of (earliest a b) xs)
  where
    go : Lesser a b (earliest a b) → LeastOf (earliest a b ∷ xs) (earliest_of (earliest a b) xs) → LeastOf (a ∷ b ∷ xs) (earliest_of (earliest a b) xs)
    go l m = record { member = from m.member; low = below }
      where
        first : (earliest_of (earliest a b) xs ≡ earliest a b) → (earliest a b ≡ a) ⊎ (earliest a b ≡ b) → In (earliest_of (earliest a b) xs) (a ∷ b ∷ xs)
        first e (inl f) = here (e ∙ f)
        first e (inr f) = there (here (e ∙ f))

        from : In (earliest_of (earliest a b) xs) (earliest a b ∷ xs) → In (earliest_of (earliest a b) xs) (a ∷ b ∷ xs)
        from (here e) = first e l.one_of
        from (there i) = there (there i)

        by : (x : ℕ) → (y : ℕ) × (earliest a b ≡ Some y) × (y ≤ x) → (y : ℕ) × (earliest_of (earliest a b) xs ≡ Some y) × (y ≤ x)
        by x (y, e, h) = let z = m.low y (here (sym e)) in let k = z.2 in (z.0, z.1, omega arith)

        below : (x : ℕ) → In (Some x) (a ∷ b ∷ xs) → (y : ℕ) × (earliest_of (earliest a b) xs ≡ Some y) × (y ≤ x)
        below x (here e) = by x (l.low-a x (sym e))
        below x (there (here e)) = by x (l.low-b x (sym e))
        below x (there (there i)) = m.low x (there i)

-- ---- the names of all paths, step by step
module _ {A B C : Type 0} where
  gather-map : (f : B → List C) (g : A → B) (xs : List A) → gather f (map g xs) ≡ gather (λ x. f (g x)) xs
  gather-map f g [] = refl
  gather-map f g (x ∷ xs) = ap (λ l. f (g x) ++ l) (gather-map f g xs)

  gather-gather : (f : B → List C) (g : A → List B) (xs : List A) → gather f (gather g xs) ≡ gather (λ x. gather f (g x)) xs
  gather-gather f g [] = refl
  gather-gather f g (x ∷ xs) = gather_append f (g x) (gather g xs) ∙ ap (λ l. gather f (g x) ++ l) (gather-gather f g xs)

gather_cong : {A B : Type 0} (f g : A → List B) (xs : List A) → ((x : A) → f x ≡ g x) → gather f xs ≡ gather g xs
gather_cong f g [] h = refl
gather_cong f g (x ∷ xs) h = ap₂ (λ l m. l ++ m) (h x) (gather_cong f g xs h)

module _ (text : List ℕ) where
  abbrev cell_uses : StepRead → List Use
  cell_uses c = test_uses (step_test text c)

  abbrev step_uses : Written → List Use
  step_uses w = cell_uses w.cell ++ gather (gather cell_uses) w.paths

  alternatives-uses : (qs : List (List StepRead)) → gather (gather (λ r. test_uses r.test)) (map (map (plain_noted text)) qs) ≡ gather (gather cell_uses) qs
  alternatives-uses qs =
      gather-map (gather (λ (r : PlainStep Use). test_uses r.test)) (map (plain_noted text)) qs
      ∙ gather_cong (λ q. gather (λ (r : PlainStep Use). test_uses r.test) (map (plain_noted text) q)) (gather cell_uses) qs
      (λ q. gather-map (λ (r : PlainStep Use). test_uses r.test) (plain_noted text) q)

  condition-uses : (qs : List (List StepRead)) → gather (gather (λ r. test_uses r.test)) (condition_paths (condition_of text qs)) ≡ gather (gather cell_uses) qs
  condition-uses [] = refl
  condition-uses (q ∷ qs) = alternatives-uses (q ∷ qs)

  path-uses : (l : Line) → path_uses (path_noted text l).path ≡ gather step_uses l.steps
  path-uses l =
      gather-map (λ q. test_uses q.test ++ gather (gather (λ r. test_uses r.test)) (condition_paths q.condition)) (step_noted text) l.steps
      ∙ gather_cong _ step_uses l.steps (λ w. ap (λ (x : List Use). cell_uses w.cell ++ x) (condition-uses w.paths))

  all-uses : (ls : List Line) → gather (λ p. path_uses p.path) (map (path_noted text) ls) ≡ gather step_uses (all_steps ls)
  all-uses ls =
      gather-map (λ (p : PathRead). path_uses p.path) (path_noted text) ls ∙ gather_cong _ (λ l. gather step_uses l.steps) ls path-uses
      ∙ sym (gather-gather step_uses (λ (l : Line). l.steps) ls)

  abbrev all_cells : List Written → List StepRead
  all_cells ws = outer_cells ws ++ cells_of (all_paths ws)

  use-of-cell : (ws : List Written) (u : Use) → In u (gather step_uses ws) → (c : StepRead) × In c (all_cells ws) × In u (cell_uses c)
  use-of-cell ws u i = go (gather-in step_uses ws i)
    where
      go : (w : Written) × In w ws × In u (step_uses w) → (c : StepRead) × In c (all_cells ws) × In u (cell_uses c)
      go (w, j, k) = ⊎_elim outside inside (append_cases (cell_uses w.cell) k)
        where
          outside : In u (cell_uses w.cell) → (c : StepRead) × In c (all_cells ws) × In u (cell_uses c)
          outside m = (w.cell, append_left (cells_of (all_paths ws)) (in_map (λ (x : Written). x.cell) j), m)

          inside : In u (gather (gather cell_uses) w.paths) → (c : StepRead) × In c (all_cells ws) × In u (cell_uses c)
          inside m =
              let a = gather-in (gather cell_uses) w.paths m in
              let b = gather-in cell_uses a.0 a.2 in
              (b.0, append_right (outer_cells ws) (in-gather (λ (q : List StepRead). q) (in-gather (λ (x : Written). x.paths) j a.1) b.1), b.2)

  cell-of-use : (ws : List Written) (c : StepRead) (u : Use) → In c (all_cells ws) → In u (cell_uses c) → In u (gather step_uses ws)
  cell-of-use ws c u i m = ⊎_elim outside inside (append_cases (outer_cells ws) i)
    where
      outside : In c (outer_cells ws) → In u (gather step_uses ws)
      outside j =
          let a = map-in (λ (x : Written). x.cell) ws j in
          in-gather step_uses a.1 (append_left (gather (gather cell_uses) a.0.paths) (subst (λ (x : StepRead). In u (cell_uses x)) a.2 m))

      inside : In c (cells_of (all_paths ws)) → In u (gather step_uses ws)
      inside j =
          let a = gather-in (λ (q : List StepRead). q) (all_paths ws) j in
          let b = gather-in (λ (x : Written). x.paths) ws a.1 in
          in-gather step_uses b.1 (append_right (cell_uses b.0.cell) (in-gather (gather cell_uses) b.2 (in-gather cell_uses a.2 m)))

-- ---- refusals of 10
-- the least place of a name that no element has
abbrev pub lost_place : List (List ℕ) → List ℕ → List Line → Option ℕ
lost_place names text ls =
    earliest (earliest_of None (map (lost_cell names text) (outer_cells (all_steps ls)))) (earliest_of None (map (lost_cell names text) (cells_of (all_paths (all_steps ls)))))

module _ (names : List (List ℕ)) (text : List ℕ) (s : Schema) (e : names ≡ map (λ x. x.name) s) (ls : List Line) where
  abbrev places : List ℕ
  places = undeclared_places s (map (path_noted text) ls)

  unknown-as : (u : Use) → element_named s u.name ≡ index_from 0 u.name names
  unfolding element_named
  unknown-as u = ap (index_from 0 u.name) (sym e)

  place_in : (u : Use) → In u (gather (step_uses text) (all_steps ls)) → Unknown names text u → In u.place places
  place_in u i n =
      in_map (λ (v : Use). v.place)
      (in-filter (λ (v : Use). is_none (element_named s v.name)) (subst (In u) (sym (all-uses text ls)) i) (subst (λ (o : Math.Option ℕ). T (is_none o)) (sym (unknown-as u ∙ n)) tt))

  in_place : (k : ℕ) → In k places → (u : Use) × In u (gather (step_uses text) (all_steps ls)) × (k ≡ u.place) × Unknown names text u
  in_place k i =
      let a = map-in (λ (v : Use). v.place) (filter_by (λ (v : Use). is_none (element_named s v.name)) (gather (λ p. path_uses p.path) (map (path_noted text) ls))) i in
      let b = filter-in (λ (v : Use). is_none (element_named s v.name)) (gather (λ p. path_uses p.path) (map (path_noted text) ls)) a.1 in
      (a.0, subst (In a.0) (all-uses text ls) b.0, a.2, sym (unknown-as a.0) ∙ is-none (element_named s a.0.name) b.1)

  abbrev lost_in : List StepRead → List (Option ℕ)
  lost_in cs = map (lost_cell names text) cs

  abbrev outer : List StepRead
  outer = outer_cells (all_steps ls)

  abbrev inner : List StepRead
  inner = cells_of (all_paths (all_steps ls))

  both : Lesser (earliest_of None (lost_in outer)) (earliest_of None (lost_in inner)) (lost_place names text ls)
  both = lesser (earliest_of None (lost_in outer)) (earliest_of None (lost_in inner))

  -- no place is less
  lost-low : (c : StepRead) (x : ℕ) → In c (outer ++ inner) → lost_cell names text c ≡ Some x → (y : ℕ) × (lost_place names text ls ≡ Some y) × (y ≤ x)
  lost-low c x i f = ⊎_elim out inside (append_cases outer i)
    where
      out : In c outer → (y : ℕ) × (lost_place names text ls ≡ Some y) × (y ≤ x)
      out j =
          let a = (least-of None (lost_in outer)).low x (there (subst (λ (o : Option ℕ). In o (lost_in outer)) f (in_map (lost_cell names text) j))) in
          let b = both.low-a a.0 a.1 in
          let h = a.2 in
          let k = b.2 in
          (b.0, b.1, omega arith)

      inside : In c inner → (y : ℕ) × (lost_place names text ls ≡ Some y) × (y ≤ x)
      inside j =
          let a = (least-of None (lost_in inner)).low x (there (subst (λ (o : Option ℕ). In o (lost_in inner)) f (in_map (lost_cell names text) j))) in
          let b = both.low-b a.0 a.1 in
          let h = a.2 in
          let k = b.2 in
          (b.0, b.1, omega arith)

  -- it is one of them
  lost-cell : (m : ℕ) → lost_place names text ls ≡ Some m → (c : StepRead) × In c (outer ++ inner) × (lost_cell names text c ≡ Some m)
  lost-cell m f = ⊎_elim (λ h. out (sym h ∙ f)) (λ h. inside (sym h ∙ f)) both.one_of
    where
      found : (cs : List StepRead) → earliest_of None (lost_in cs) ≡ Some m → In (earliest_of None (lost_in cs)) (None ∷ lost_in cs) → (c : StepRead) × In c cs × (lost_cell names text c ≡ Some m)
      found cs g (here h) = absurd (none_some (sym h ∙ g))
      found cs g (there i) = let a = map-in (lost_cell names text) cs i in (a.0, a.1, sym a.2 ∙ g)

      out : earliest_of None (lost_in outer) ≡ Some m → (c : StepRead) × In c (outer ++ inner) × (lost_cell names text c ≡ Some m)
      out g = let a = found outer g (least-of None (lost_in outer)).member in (a.0, append_left inner a.1, a.2)

      inside : earliest_of None (lost_in inner) ≡ Some m → (c : StepRead) × In c (outer ++ inner) × (lost_cell names text c ≡ Some m)
      inside g = let a = found inner g (least-of None (lost_in inner)).member in (a.0, append_right outer a.1, a.2)

  -- a listed place is one of those found
  found-low : (k : ℕ) → In k places → (y : ℕ) × (lost_place names text ls ≡ Some y) × (y ≤ k)
  found-low k i =
      let a = in_place k i in
      let b = use-of-cell text (all_steps ls) a.0 a.1 in
      lost-low b.0 k b.1 (use-lost names text b.0 a.0 b.2 a.3 ∙ ap Some (sym a.2))

  pub lost-none : lost_place names text ls ≡ None → places ≡ []
  lost-none z = memberless places (λ k i. none_some (sym z ∙ (found-low k i).1))

  pub lost-first : (m : ℕ) → lost_place names text ls ≡ Some m → Least undeclared_in_path m (all_at undeclared_in_path places)
  lost-first m z = least-all undeclared_in_path m places listed (λ k i. low k (found-low k i))
    where
      low : (k : ℕ) → (y : ℕ) × (lost_place names text ls ≡ Some y) × (y ≤ k) → m ≤ k
      low k (y, f, h) = let q : ◌≡◌ {A = Option ℕ} (Some m) (Some y) = sym z ∙ f in let p : m ≡ y = cc in omega arith

      listed : In m places
      listed =
          let a = lost-cell m z in
          let b = lost-use names text a.0 m a.2 in
          subst (λ (k : ℕ). In k places) b.2 (place_in b.0 (cell-of-use text (all_steps ls) a.0 b.0 a.1 b.1) b.3)
