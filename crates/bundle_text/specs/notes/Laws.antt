-- Laws of what is noted: steps after steps, and paths after paths.
use Rattle.std.specs.Prelude.{true, List, [], ◌∷◌, ◌++◌, ◌≡◌, refl, ℕ, suc, ◌+◌, length, set}
use Rattle.std.proofs.Common.{append-nil, append_assoc, sym, ap, ap₂, ◌∙◌, add-zero, add-suc, suc-add, arith, length-append}
use Rattle.std.proofs.lemmas.List.{map-append, length-map}
use Rattle.std.proofs.lemmas.List.Edits.{sets}
use Rattle.bundle_text.specs.declared.notes.Notes.{Notes}
use Rattle.bundle_text.specs.declared.steps.StepRead.{StepRead}
use Rattle.bundle_text.specs.notes.Notes.{uncounted, with_count, with_path, with_inners, cells_of, Ended, EachEnded, Goes, Written, with_written, outer_cells, all_paths, condition_ends, with_steps, Line, all_steps, path_ends, with_lines, Few}
use Rattle.compiled_paths.specs.Sizes.{written_steps}
use Rattle.text_spec.specs.Lists.{gather}

-- ---- lists
pub sets-append : {A : Type 0} (o : List A) (n : ℕ) (xs ys : List A) → sets o n (xs ++ ys) ≡ sets (sets o n xs) (n + length xs) ys
sets-append o n [] ys = ap (λ (k : ℕ). sets o k ys) (sym (add-zero n))
sets-append o n (x ∷ xs) ys =
    sets-append (set o n x) (suc n) xs ys ∙ ap (λ (k : ℕ). sets (sets (set o n x) (suc n) xs) k ys) (suc-add n (length xs) ∙ sym (add-suc n (length xs)))

pub gather_append : {A B : Type 0} (f : A → List B) (xs ys : List A) → gather f (xs ++ ys) ≡ gather f xs ++ gather f ys
gather_append f [] ys = refl
gather_append f (x ∷ xs) ys = ap (λ l. f x ++ l) (gather_append f xs ys) ∙ sym (append_assoc (f x) (gather f xs) (gather f ys))

pub cells-append : (ps qs : List (List StepRead)) → cells_of (ps ++ qs) ≡ cells_of ps ++ cells_of qs
cells-append ps qs = gather_append (λ (q : List StepRead). q) ps qs

pub paths-append : (ws vs : List Written) → all_paths (ws ++ vs) ≡ all_paths ws ++ all_paths vs
paths-append ws vs = gather_append (λ (w : Written). w.paths) ws vs

pub steps-append : (ks ls : List Line) → all_steps (ks ++ ls) ≡ all_steps ks ++ all_steps ls
steps-append ks ls = gather_append (λ (l : Line). l.steps) ks ls

-- the steps in the brackets of some steps and of some more
pub inner-append : (ws vs : List Written) → cells_of (all_paths (ws ++ vs)) ≡ cells_of (all_paths ws) ++ cells_of (all_paths vs)
inner-append ws vs = ap cells_of (paths-append ws vs) ∙ cells-append (all_paths ws) (all_paths vs)

pub conditions-length : (n : ℕ) (ws : List Written) → length (condition_ends n ws) ≡ length ws
conditions-length n [] = refl
conditions-length n (w ∷ ws) = ap suc (conditions-length (n + length (cells_of w.paths)) ws)

pub conditions-append : (n : ℕ) (ws vs : List Written) → condition_ends n (ws ++ vs) ≡ condition_ends n ws ++ condition_ends (n + length (cells_of (all_paths ws))) vs
conditions-append n [] vs = ap (λ (k : ℕ). condition_ends k vs) (sym (add-zero n))
conditions-append n (w ∷ ws) vs =
    let m : ℕ = n + length (cells_of w.paths) in
    let e : m + length (cells_of (all_paths ws)) ≡ n + length (cells_of (w.paths ++ all_paths ws)) =
    omega (arith, ap length (cells-append w.paths (all_paths ws)), length-append (cells_of w.paths) (cells_of (all_paths ws))) in
    ap (λ (l : List ℕ). (written_steps + m) ∷ l) (conditions-append m ws vs ∙ ap (λ (k : ℕ). condition_ends m ws ++ condition_ends k vs) e)

pub path-ends-length : (k : ℕ) (ls : List Line) → length (path_ends k ls) ≡ length ls
path-ends-length k [] = refl
path-ends-length k (l ∷ ls) = ap suc (path-ends-length (k + length l.steps) ls)

pub path-ends-append : (k : ℕ) (ls ms : List Line) → path_ends k (ls ++ ms) ≡ path_ends k ls ++ path_ends (k + length (all_steps ls)) ms
path-ends-append k [] ms = ap (λ (n : ℕ). path_ends n ms) (sym (add-zero k))
path-ends-append k (l ∷ ls) ms =
    let e : k + length l.steps + length (all_steps ls) ≡ k + length (l.steps ++ all_steps ls) = omega (arith, length-append l.steps (all_steps ls)) in
    ap (λ (z : List ℕ). (k + length l.steps) ∷ z) (path-ends-append (k + length l.steps) ls ms ∙ ap (λ (n : ℕ). path_ends (k + length l.steps) ls ++ path_ends n ms) e)

-- ---- the marks of last steps
pub goes-append : (ps qs : List StepRead) → Goes ps → Goes qs → Goes (ps ++ qs)
goes-append [] qs a b = b
goes-append (p ∷ ps) qs a b = (a.0, goes-append ps qs a.1 b)

pub ended-next : (ps : List StepRead) (p : StepRead) → Goes ps → p.ends_alternative ≡ true → Ended (ps ++ (p ∷ []))
ended-next [] p g e = e
ended-next (q ∷ []) p g e = (g.0, e)
ended-next (q ∷ r ∷ ps) p g e = (g.0, ended-next (r ∷ ps) p g.1 e)

-- steps outside brackets, none of which ends an alternative
pub outer-goes : (ws vs : List Written) → Goes (outer_cells ws) → Goes (outer_cells vs) → Goes (outer_cells (ws ++ vs))
outer-goes [] vs a b = b
outer-goes (w ∷ ws) vs a b = (a.0, outer-goes ws vs a.1 b)

pub ended-append : (ps qs : List (List StepRead)) → EachEnded ps → EachEnded qs → EachEnded (ps ++ qs)
ended-append [] qs a b = b
ended-append (p ∷ ps) qs a b = (a.0, ended-append ps qs a.1 b)

-- ---- what is noted
abbrev notes_of : List StepRead → ℕ → List ℕ → List StepRead → ℕ → List ℕ → ℕ → Notes
notes_of o k d i n y c = record { outer = o; outer_count = k; conditions = d; inner = i; inner_count = n; paths = y; path_count = c }

same-notes : {o o' i i' : List StepRead} {d d' y y' : List ℕ} {k k' n n' c c' : ℕ} → o ≡ o' → k ≡ k' → d ≡ d' → i ≡ i' → n ≡ n' → y ≡ y' → c ≡ c' → notes_of o k d i n y c ≡ notes_of o' k' d' i' n' y' c'
same-notes a b c d e f g = cc

pub inners-none : (N : Notes) → N ≡ with_inners N []
inners-none N = same-notes refl refl refl refl (omega arith) refl refl

pub steps-none : (N : Notes) → N ≡ with_steps N []
steps-none N = same-notes refl (omega arith) refl refl (omega arith) refl refl

pub lines-none : (N : Notes) → N ≡ with_lines N []
lines-none N = same-notes refl (omega arith) refl refl (omega arith) refl (omega arith)

-- notes of which nothing is counted
pub uncounted-same : {N : Notes} → Few 0 N → uncounted N ≡ N
uncounted-same f =
    let a = f.outer in
    let b = f.inner in
    let c = f.paths in
    same-notes refl (omega arith) refl refl (omega arith) refl (omega arith)

pub inners-more : (N : Notes) (ps qs : List StepRead) → with_inners (with_inners N ps) qs ≡ with_inners N (ps ++ qs)
inners-more N ps qs = same-notes refl refl refl (sym (sets-append N.inner N.inner_count ps qs)) (omega (arith, length-append ps qs)) refl refl

-- a step with the alternatives in its brackets
pub outer-one : (N : Notes) (w : Written) → with_count (with_written N w) ≡ with_steps N (w ∷ [])
outer-one N w =
    let e : cells_of w.paths ≡ cells_of (w.paths ++ []) = ap cells_of (sym (append-nil w.paths)) in
    same-notes refl refl refl (ap (sets N.inner N.inner_count) e) (ap (λ (l : List StepRead). N.inner_count + length l) e) refl refl

module _ (N : Notes) (ws vs : List Written) where
  outer-more : sets (sets N.outer N.outer_count (outer_cells ws)) (N.outer_count + length ws) (outer_cells vs) ≡ sets N.outer N.outer_count (outer_cells (ws ++ vs))
  outer-more =
      ap (λ (n : ℕ). sets (sets N.outer N.outer_count (outer_cells ws)) (N.outer_count + n) (outer_cells vs)) (sym (length-map ws (λ (w : Written). w.cell)))
      ∙ sym (sets-append N.outer N.outer_count (outer_cells ws) (outer_cells vs)) ∙ ap (sets N.outer N.outer_count) (sym (map-append (λ (w : Written). w.cell) ws vs))

  abbrev ends_are : ℕ → ℕ → List ℕ
  ends_are at n = sets (sets N.conditions (N.outer_count + 1) (condition_ends N.inner_count ws)) at (condition_ends n vs)

  conditions-more : sets (sets N.conditions (N.outer_count + 1) (condition_ends N.inner_count ws)) (N.outer_count + length ws + 1) (condition_ends (N.inner_count + length (cells_of (all_paths ws))) vs)
      ≡ sets N.conditions (N.outer_count + 1) (condition_ends N.inner_count (ws ++ vs))
  conditions-more =
      let e : N.outer_count + length ws + 1 ≡ N.outer_count + 1 + length (condition_ends N.inner_count ws) = omega (arith, conditions-length N.inner_count ws) in
      ap (λ (n : ℕ). ends_are n (N.inner_count + length (cells_of (all_paths ws)))) e
      ∙ sym (sets-append N.conditions (N.outer_count + 1) (condition_ends N.inner_count ws) (condition_ends (N.inner_count + length (cells_of (all_paths ws))) vs))
      ∙ ap (sets N.conditions (N.outer_count + 1)) (sym (conditions-append N.inner_count ws vs))

  inner-more : sets (sets N.inner N.inner_count (cells_of (all_paths ws))) (N.inner_count + length (cells_of (all_paths ws))) (cells_of (all_paths vs)) ≡ sets N.inner N.inner_count (cells_of (all_paths (ws ++ vs)))
  inner-more = sym (sets-append N.inner N.inner_count (cells_of (all_paths ws)) (cells_of (all_paths vs))) ∙ ap (sets N.inner N.inner_count) (sym (inner-append ws vs))

  inner-counted : N.inner_count + length (cells_of (all_paths ws)) + length (cells_of (all_paths vs)) ≡ N.inner_count + length (cells_of (all_paths (ws ++ vs)))
  inner-counted = let e = ap length (inner-append ws vs) in omega (arith, length-append (cells_of (all_paths ws)) (cells_of (all_paths vs)))

  pub steps-more : with_steps (with_steps N ws) vs ≡ with_steps N (ws ++ vs)
  steps-more = same-notes outer-more (omega (arith, length-append ws vs)) conditions-more inner-more inner-counted refl refl

-- a path with its steps
pub path-one : (N : Notes) (ls : List Line) (l : Line) → with_path (with_steps (with_lines N ls) l.steps) ≡ with_lines N (ls ++ (l ∷ []))
path-one N ls l =
    let ws : List Written = all_steps ls in
    let e : all_steps (ls ++ (l ∷ [])) ≡ ws ++ l.steps = steps-append ls (l ∷ []) ∙ ap (λ (x : List Written). ws ++ x) (append-nil l.steps) in
    let steps : with_steps N (ws ++ l.steps) ≡ with_steps N (all_steps (ls ++ (l ∷ []))) = ap (with_steps N) (sym e) in
    let done = steps-more N ws l.steps in
    let same = done ∙ steps in
    let at : N.path_count + length ls + 1 ≡ N.path_count + 1 + length (path_ends N.outer_count ls) = omega (arith, path-ends-length N.outer_count ls) in
    same-notes (ap (λ (M : Notes). M.outer) same) (ap (λ (M : Notes). M.outer_count) same) (ap (λ (M : Notes). M.conditions) same) (ap (λ (M : Notes). M.inner) same) (ap (λ (M : Notes). M.inner_count) same)
    (ap₂ (λ (n k : ℕ). set (sets N.paths (N.path_count + 1) (path_ends N.outer_count ls)) n k) at (last ls l)
    ∙ sym (sets-append N.paths (N.path_count + 1) (path_ends N.outer_count ls) ((N.outer_count + length ws + length l.steps) ∷ []))
    ∙ ap (sets N.paths (N.path_count + 1)) (sym (path-ends-append N.outer_count ls (l ∷ []))))
    (omega (arith, length-append ls (l ∷ [])))
  where
    last : (ks : List Line) (k : Line) → N.outer_count + length (all_steps ks) + length k.steps ≡ N.outer_count + length (all_steps ks) + length k.steps
    last ks k = refl
