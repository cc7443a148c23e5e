-- What was noted of a bundle text within the limits has room among the compiled steps, and the compiled paths filled from it stand for its paths.
use mathlib.Core.List.{List, [], ◌∷◌, map, map-append, map-map}
use Rattle.std.specs.Prelude.{◌≡◌, refl, ℕ, zero, suc, ◌+◌, ◌≤◌, length, take, drop, set, replicate}
use Rattle.std.proofs.Math.Path.{sym, ap}
use Rattle.std.proofs.Math.Option as Math
use Rattle.std.proofs.Common.{subst, ◌∙◌, arith, length-append, take_at}
use Rattle.std.proofs.Math.ListN.{get_or}
use Rattle.std.proofs.lemmas.List.{length-map, length-replicate}
use Rattle.std.proofs.lemmas.List.Edits.{sets, sets-eq}
use Rattle.std.proofs.Math.Seq.{length-sets}
use Rattle.bundle_text.specs.declared.notes.Notes.{Notes}
use Rattle.bundle_text.specs.declared.steps.StepRead.{StepRead}
use Rattle.bundle_text.specs.declared.steps.TestRead.{TestRead}
use Rattle.bundle_text.specs.declared.steps.TestRead.TheVariants.{Node, Text, Name}
use Rattle.bundle_text.specs.notes.Laws.{cells-append, conditions-length, path-ends-length}
use Rattle.bundle_text.specs.notes.Notes.{no_step as no_read, no_notes, cells_of, Ended, EachEnded, Written, outer_cells, all_paths, condition_ends, Line, all_steps, path_ends, with_lines}
use Rattle.bundle_text.specs.paths.Readings.{path_noted}
use Rattle.bundle_text.specs.steps.Readings.{test_noted, use_at}
use Rattle.bundle.specs.columns.Filling.{outer_read, inner_read, steps_with, paths_with, Room}
use Rattle.bundle.specs.laws.Columns.{Along, Holds, along-append, sets-before, holds-sets, holds-before, Stands, Alternative, Alternatives, alternatives-append, Stand, paths-stand}
use Rattle.bundle.specs.laws.Limits.{Few}
use Rattle.bundle.specs.names_in_tests.Steps.{element_or, test_or, compiled_test, step_cell}
use Rattle.compiled_paths.specs.Paths.{paths_in, AtMost, Shaped}
use Rattle.compiled_paths.specs.Sizes.{written_steps, inner_steps, all_steps as step_count}
use Rattle.compiled_paths.specs.Steps.{written_axis, node_test, no_step, bundle_in}
use Rattle.compiled_paths.specs.declared.Step.{Step}
use Rattle.path_spec.specs.Grammar.{PathRead}
use Rattle.path_spec.specs.Paths.{named, rename_test, resolved_path}
use Rattle.schema_spec.specs.Declarations.{Use}
use Rattle.schema_spec.specs.Schemas.{Schema, index_from, element_named}
use Rattle.text_spec.specs.Limits.{max_declarations, max_paths}
use Rattle.text_spec.specs.Lists.{value_or}
use Rattle.text_spec.specs.Scans.{name_at}

-- ---- cells that are at most so large
abbrev Below : ℕ → List ℕ → Type 0
Below b [] = Unit {0}
Below b (x ∷ xs) = (x ≤ b) × Below b xs

set-most : (b : ℕ) (l : List ℕ) (i x : ℕ) → AtMost b l → x ≤ b → AtMost b (set l i x)
set-most b [] i x h g k = h k
set-most b (y ∷ l) zero x h g zero = g
set-most b (y ∷ l) zero x h g (suc k) = h (suc k)
set-most b (y ∷ l) (suc i) x h g zero = h 0
set-most b (y ∷ l) (suc i) x h g (suc k) = set-most b l i x (λ j. h (suc j)) g k

sets-most : (b : ℕ) (l : List ℕ) (i : ℕ) (xs : List ℕ) → AtMost b l → Below b xs → AtMost b (sets l i xs)
sets-most b l i [] h g = h
sets-most b l i (x ∷ xs) h g = sets-most b (set l i x) (suc i) xs (set-most b l i x h g.0) g.1

same-most : (b x n : ℕ) → x ≤ b → AtMost b (replicate n x)
same-most b x zero h zero = omega arith
same-most b x zero h (suc k) = omega arith
same-most b x (suc n) h zero = h
same-most b x (suc n) h (suc k) = same-most b x n h k

path-ends-below : (b k : ℕ) (ls : List Line) → k + length (all_steps ls) ≤ b → Below b (path_ends k ls)
path-ends-below b k [] h = tt
path-ends-below b k (l ∷ ls) h = let z = length-append l.steps (all_steps ls) in (omega arith, path-ends-below b (k + length l.steps) ls (omega arith))

condition-ends-below : (b n : ℕ) (ws : List Written) → written_steps + (n + length (cells_of (all_paths ws))) ≤ b → Below b (condition_ends n ws)
condition-ends-below b n [] h = tt
condition-ends-below b n (w ∷ ws) h =
    let e = ap length (cells-append w.paths (all_paths ws)) in
    let f = length-append (cells_of w.paths) (cells_of (all_paths ws)) in
    (omega arith, condition-ends-below b (n + length (cells_of w.paths)) ws (omega arith))

-- ---- the first cells
first-cells : {A : Type 0} (d : A) (n k : ℕ) (xs : List A) → k ≡ 0 + length xs → length xs ≤ n → take k (sets (replicate n d) 0 xs) ≡ xs
first-cells {A} d n k xs e h =
    let z : 0 + length xs ≤ length (replicate {A = A} n d) = omega (arith, length-replicate {A = A} n d) in
    ap (take k) (sets-eq xs (replicate n d) 0 z) ∙ take_at xs (drop (0 + length xs) (replicate n d)) k (omega arith)

-- the first cell of a column of ends, and what stands after it
first_cell : (n d : ℕ) (xs : List ℕ) → ◌≡◌ {A = ℕ} (get_or (sets (replicate (suc n) d) 1 xs) 0 0) d
first_cell n d xs = sets-before 0 (replicate (suc n) d) 1 xs 0 (omega arith)

ends-hold : (n d : ℕ) (xs : List ℕ) → length xs ≤ n → Holds 0 (sets (replicate (suc n) d) 1 xs) 1 xs
ends-hold n d xs h = holds-sets 0 (replicate (suc n) d) 1 xs (omega (arith, length-replicate {A = ℕ} n d))

-- ---- steps, under names that give elements
module _ (names : List (List ℕ)) (text : List ℕ) (f : Use → ℕ) (same : (u : Use) → f u ≡ value_or 0 (index_from 0 u.name names)) where
  test-same : (t : TestRead) → node_test (test_or (compiled_test names text t)) ≡ rename_test f (test_noted text t)
  test-same Node = refl
  test-same Text = refl
  test-same (Name p) = pick (index_from 0 (name_at text p) names) refl
    where
      pick : (o : Math.Option ℕ) → index_from 0 (name_at text p) names ≡ o → node_test (test_or (element_or p o)) ≡ named (f (use_at text p))
      pick (Math.some e) q = ap named (sym (same (use_at text p) ∙ ap (value_or 0) q))
      pick Math.none q = ap named (sym (same (use_at text p) ∙ ap (value_or 0) q))

  module _ (steps : List Step) where
    stands-at : (k : ℕ) (c : StepRead) → get_or steps k no_step ≡ step_cell names text c → Stands text f steps k c
    stands-at k c e = (ap (λ (p : Step). written_axis p.axis) e, ap (λ (p : Step). node_test p.test) e ∙ test-same c.test)

    steps-along : (k : ℕ) (cs : List StepRead) → Holds no_step steps k (map (step_cell names text) cs) → Along (Stands text f steps) k cs
    steps-along k [] h = tt
    steps-along k (c ∷ cs) h = (stands-at k c h.0, steps-along (suc k) cs h.1)

    alternative-along : (k : ℕ) (q : List StepRead) → Ended q → Holds no_step steps k (map (step_cell names text) q) → Alternative text f steps k q
    alternative-along k [] e h = absurd e
    alternative-along k (c ∷ []) e h = (stands-at k c h.0, ap (λ (p : Step). p.ends_alternative) h.0 ∙ e)
    alternative-along k (c ∷ d ∷ cs) e h = (stands-at k c h.0, ap (λ (p : Step). p.ends_alternative) h.0 ∙ e.0, alternative-along (suc k) (d ∷ cs) e.1 h.1)

    alternatives-along : (k : ℕ) (qs : List (List StepRead)) → EachEnded qs → Holds no_step steps k (map (step_cell names text) (cells_of qs)) → Alternatives text f steps k qs
    alternatives-along k [] e h = tt
    alternatives-along k (q ∷ qs) e h =
        let z = along-append _ k (map (step_cell names text) q) (map (step_cell names text) (cells_of qs)) (subst (Holds no_step steps k) (map-append (step_cell names text) q (cells_of qs)) h) in
        let l : k + length (map (step_cell names text) q) ≡ k + length q = omega (arith, length-map q (step_cell names text)) in
        (alternative-along k q e.0 z.0, alternatives-along (k + length q) qs e.1 (subst (λ (j : ℕ). Holds no_step steps j (map (step_cell names text) (cells_of qs))) l z.1))

-- written steps from k on, the first of which has n steps in brackets before it
module _ (text : List ℕ) (f : Use → ℕ) (steps : List Step) (conditions : List ℕ) where
  stand-from : (k n : ℕ) (ws : List Written) → get_or conditions k 0 ≡ written_steps + n → Holds 0 conditions (suc k) (condition_ends n ws) → Along (Stands text f steps) k (outer_cells ws)
      → Alternatives text f steps (written_steps + n) (all_paths ws) → Stand text f steps conditions k (written_steps + n) ws
  stand-from k n [] c cs o i = c
  stand-from k n (w ∷ ws) c cs o i =
      let y = alternatives-append text f steps (written_steps + n) w.paths (all_paths ws) i in
      let b : written_steps + n + length (cells_of w.paths) ≡ written_steps + (n + length (cells_of w.paths)) = omega arith in (
        c,
        o.0,
        y.0,
        subst (λ (j : ℕ). Stand text f steps conditions (suc k) j ws) (sym b)
            (stand-from (suc k) (n + length (cells_of w.paths)) ws cs.0 cs.1 o.1 (subst (λ (j : ℕ). Alternatives text f steps j (all_paths ws)) b y.1)),
      )

-- ---- what was noted
-- some paths are noted, whatever the cells hold that no step was noted in
pub record Noted (ls : List Line) (N : Notes) : Type 0 where
  pub counted : N.path_count ≡ length ls
  pub outer-counted : N.outer_count ≡ length (all_steps ls)
  pub inner-counted : N.inner_count ≡ length (cells_of (all_paths (all_steps ls)))
  pub outer-are : outer_read N ≡ outer_cells (all_steps ls)
  pub inner-are : inner_read N ≡ cells_of (all_paths (all_steps ls))
  pub paths-are : N.paths ≡ sets (replicate (max_paths + 1) 0) 1 (path_ends 0 ls)
  pub conditions-are : N.conditions ≡ sets (replicate (written_steps + 1) written_steps) 1 (condition_ends 0 (all_steps ls))

pub noted-lines : {ls : List Line} {N : Notes} → Few ls → N ≡ with_lines no_notes ls → Noted ls N
noted-lines {ls} few e =
    record {
      counted = ap (λ (M : Notes). M.path_count) e ∙ none (length ls);
      outer-counted = ap (λ (M : Notes). M.outer_count) e ∙ none (length (all_steps ls));
      inner-counted = ap (λ (M : Notes). M.inner_count) e ∙ none (length (cells_of (all_paths (all_steps ls))));
      outer-are =
          ap outer_read e
          ∙ first-cells no_read written_steps (0 + length (all_steps ls)) (outer_cells (all_steps ls)) (ap (λ (n : ℕ). 0 + n) (sym (length-map (all_steps ls) (λ (w : Written). w.cell))))
          (let z = few.steps in omega (arith, length-map (all_steps ls) (λ (w : Written). w.cell)));
      inner-are = ap inner_read e ∙ first-cells no_read inner_steps (0 + length (cells_of (all_paths (all_steps ls)))) (cells_of (all_paths (all_steps ls))) refl few.inner;
      paths-are = ap (λ (M : Notes). M.paths) e;
      conditions-are = ap (λ (M : Notes). M.conditions) e;
    }
  where
    none : (n : ℕ) → 0 + n ≡ n
    none n = omega arith

module _ {ls : List Line} {N : Notes} (few : Few ls) (ended : EachEnded (all_paths (all_steps ls))) (noted : Noted ls N) where
  pub noted-outer : outer_read N ≡ outer_cells (all_steps ls)
  noted-outer = noted.outer-are

  pub noted-inner : inner_read N ≡ cells_of (all_paths (all_steps ls))
  noted-inner = noted.inner-are

  pub noted-room : (names : List ℕ) → length names ≤ max_declarations → Room names N
  noted-room names h =
      let a = noted.outer-counted in
      let b = noted.inner-counted in
      let c = few.steps in
      let d = few.inner in
      record { few-names = h; few-outer = omega arith; few-inner = omega arith }

  pub noted-count : N.path_count ≡ length ls
  noted-count = noted.counted

  -- whatever step stands in cells that none is written to
  module _ (names : List (List ℕ)) (text : List ℕ) (unwritten : Step) where
    pub noted-shaped : Shaped (paths_with names text N unwritten)
    noted-shaped =
        let a = noted-count in
        let b = few.paths in
        let c = few.steps in
        let d = few.inner in
        record {
          few = omega arith;
          paths-in =
              subst (AtMost written_steps) (sym noted.paths-are)
              (sets-most written_steps _ 1 (path_ends 0 ls) (same-most written_steps 0 (suc max_paths) (omega arith)) (path-ends-below written_steps 0 ls (omega arith)));
          conditions-in =
              subst (AtMost step_count) (sym noted.conditions-are)
              (sets-most step_count _ 1 (condition_ends 0 (all_steps ls)) (same-most step_count written_steps (suc written_steps) (omega arith))
              (condition-ends-below step_count 0 (all_steps ls) (omega arith)));
        }

    abbrev steps : List Step
    steps = steps_with names text N unwritten

    abbrev first_steps : List Step
    first_steps = sets (replicate step_count unwritten) 0 (map (step_cell names text) (outer_read N))

    outer-holds : Holds no_step steps 0 (map (step_cell names text) (outer_read N))
    outer-holds =
        let a = few.steps in
        let b = length-map (outer_read N) (step_cell names text) in
        let c = ap length noted.outer-are in
        let d = length-map (all_steps ls) (λ (w : Written). w.cell) in
        holds-before no_step first_steps written_steps (map (step_cell names text) (inner_read N)) 0 (map (step_cell names text) (outer_read N)) (omega arith)
        (holds-sets no_step (replicate step_count unwritten) 0 (map (step_cell names text) (outer_read N)) (omega (arith, length-replicate {A = Step} step_count unwritten)))

    inner-holds : Holds no_step steps written_steps (map (step_cell names text) (inner_read N))
    inner-holds =
        let a = few.inner in
        let b = length-map (inner_read N) (step_cell names text) in
        let c = ap length noted.inner-are in
        holds-sets no_step first_steps written_steps (map (step_cell names text) (inner_read N))
        (omega (arith, length-sets (replicate step_count unwritten) 0 (map (step_cell names text) (outer_read N)), length-replicate {A = Step} step_count unwritten))

    module _ (s : Schema) (e : names ≡ map (λ x. x.name) s) where
      abbrev element : Use → ℕ
      element u = value_or 0 (element_named s u.name)

      by_name : (u : Use) → element u ≡ value_or 0 (index_from 0 u.name names)
      unfolding element_named
      by_name u = ap (λ (ns : List (List ℕ)). value_or 0 (index_from 0 u.name ns)) (sym e)

      outer-along : Along (Stands text element steps) 0 (outer_cells (all_steps ls))
      outer-along = subst (Along (Stands text element steps) 0) noted.outer-are (steps-along names text element by_name steps 0 (outer_read N) outer-holds)

      inner-along : Alternatives text element steps (written_steps + 0) (all_paths (all_steps ls))
      inner-along =
          alternatives-along names text element by_name steps written_steps (all_paths (all_steps ls)) ended
          (subst (λ (cs : List StepRead). Holds no_step steps written_steps (map (step_cell names text) cs)) noted.inner-are inner-holds)

      stands : Stand text element steps N.conditions 0 (written_steps + 0) (all_steps ls)
      stands =
          let c = few.steps in
          stand-from text element steps N.conditions 0 0 (all_steps ls)
          (ap (λ (l : List ℕ). get_or l 0 0) noted.conditions-are ∙ first_cell written_steps written_steps (condition_ends 0 (all_steps ls)))
          (subst (λ (l : List ℕ). Holds 0 l 1 (condition_ends 0 (all_steps ls))) (sym noted.conditions-are)
          (ends-hold written_steps written_steps (condition_ends 0 (all_steps ls)) (omega (arith, conditions-length 0 (all_steps ls)))))
          outer-along inner-along

      pub noted-paths : paths_in (paths_with names text N unwritten) ≡ map (λ p. resolved_path s p.path) (map (path_noted text) ls)
      unfolding paths_in
      noted-paths =
          let c = few.paths in
          ap (λ (n : ℕ). bundle_in steps N.conditions N.paths n 0) noted-count
          ∙ paths-stand text element steps N.conditions N.paths 0 0 (written_steps + 0) ls
          (ap (λ (l : List ℕ). get_or l 0 0) noted.paths-are ∙ first_cell max_paths 0 (path_ends 0 ls))
          (subst (λ (l : List ℕ). Holds 0 l 1 (path_ends 0 ls)) (sym noted.paths-are) (ends-hold max_paths 0 (path_ends 0 ls) (omega (arith, path-ends-length 0 ls)))) stands
          ∙ sym (map-map (λ (p : PathRead). resolved_path s p.path) (path_noted text) ls)
