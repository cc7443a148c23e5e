-- The first path that marks a row, by its place counted from 1.
use Rattle.std.specs.Prelude.{Bool, not, ◌≡◌, refl, eqb, get_or, set, drop, replicate}
use Rattle.std.specs.Int.{from_bool}
use Rattle.std.proofs.Math.Seq.{drop-length}
use Rattle.std.proofs.Math.Bool.{true, false, cond}
use mathlib.Core.List.{List, [], ◌∷◌, map}
use Rattle.std.proofs.Math.Path.{sym, ap}
use Rattle.std.proofs.Common.{◌∙◌, add-one, ne_eqb, length-set, drop-cons}
use Prim.Native.Nat.{ℕ, zero, suc, ◌+◌, ◌-◌, ◌≤◌, ◌<◌}
use native.Mathlib.Omega.{arith}
use Rattle.std.proofs.Math.ListN.{length, length-replicate}
use Rattle.std.proofs.lemmas.List.{get_or-replicate}
use Rattle.axis_passes.specs.steps.Steps.{TableColumns}
use Rattle.axis_passes.specs.steps.Tests.{names_in}
use Rattle.axis_passes.specs.declared.rows.Rows.{Rows}
use Rattle.axis_passes.specs.declared.scratch.Scratch.{Scratch}
use Rattle.axis_passes.specs.rows.Rows.{parents_in, codes_in, HeldTexts}
use Rattle.axis_passes.specs.scratch.Scratch.{Room, Kept, room-kept, kept-kept}
use Rattle.cells.specs.row_sets.Columns.{is_marked}
use Rattle.compiled_paths.specs.Steps.{bundle-next, bundle-none}
use Rattle.compiled_paths.specs.Paths.{paths_in, Shaped}
use Rattle.compiled_paths.specs.declared.CompiledPaths.{CompiledPaths}
use Rattle.path_spec.specs.Paths.{LocationPath}
use Rattle.selection_laws.specs.marks.Selection.{path_marks}
use Rattle.selection.specs.Steps.{PathPass, path-ranges}
use Rattle.selection.specs.one_path.Paths.{path_in, paths_from}
use Rattle.text_laws.specs.Loops.{Passed, passed_first, passed-next}

-- ---- definitions
-- the first of columns of marks that has the row, its place counted from i; 0 where none has it
unfoldable pub first_marked : ℕ → ℕ → List (List ℕ) → ℕ
first_marked i r [] = 0
first_marked i r (m ∷ ms) = cond (is_marked m r) i (first_marked (suc i) r ms)

abbrev pub columns_for : List ℕ → List ℕ → List (LocationPath ℕ) → List (List ℕ)
columns_for ps codes paths = map (path_marks ps (names_in codes)) paths

-- a cell for each row
pub record FirstPaths (ps codes : List ℕ) (paths : List (LocationPath ℕ)) (firsts : List ℕ) : Type 0 where
  pub long : length firsts ≡ length ps
  pub each : (r : ℕ) → r < length ps → get_or firsts r 0 ≡ first_marked 1 r (columns_for ps codes paths)

-- how many rows some path selects
unfoldable pub selected_count : List ℕ → ℕ
selected_count [] = 0
selected_count (f ∷ fs) = cond (eqb f 0) (selected_count fs) (suc (selected_count fs))

-- ---- one path more
abbrev pub first_of : ℕ → ℕ → ℕ → ℕ
first_of mark first place = cond (eqb mark 1) (cond (eqb first 0) place first) first

pub record Noted (m : List ℕ) (place : ℕ) (was out : List ℕ) : Type 0 where
  pub long : length out ≡ length was
  pub each : (r : ℕ) → r < length m → get_or out r 0 ≡ first_of (get_or m r 0) (get_or was r 0) place

-- ---- the loop over the rows
module _ (m : List ℕ) (place : ℕ) (was : List ℕ) where
  abbrev IsNoted : ℕ → ℕ → Type 0
  IsNoted r x = x ≡ first_of (get_or m r 0) (get_or was r 0) place

  pub record Noting (r : ℕ) (out : List ℕ) : Type 0 where
    pub within : r ≤ length m
    pub long : length out ≡ length was
    pub passed : Passed IsNoted 0 was r out

  pub noting-first : Noting 0 was
  noting-first = record { within = omega arith; long = refl; passed = passed_first IsNoted 0 was }

  pub noting-next : (r : ℕ) (out : List ℕ) (x : ℕ) → length m ≡ length was → Noting r out → r < length m → x ≡ first_of (get_or m r 0) (get_or out r 0) place
      → Noting (r + 1) (set out r x)
  noting-next r out x e w l q =
      record {
        within = omega arith;
        long = length-set out r x ∙ w.long;
        passed =
            passed-next IsNoted 0 was r out x (omega (arith, w.long)) w.passed
            (q ∙ ap (λ (f : ℕ). first_of (get_or m r 0) f place) (w.passed.kept r (omega arith)));
      }

  pub noting-all : (r : ℕ) (out : List ℕ) → Noting r out → length m ≤ r → Noted m place was out
  noting-all r out w l = record { long = w.long; each = λ k b. w.passed.done k (omega arith) }

-- ---- the loop over the paths
pub record FirstsPass (t : Rows) (c : CompiledPaths) (firsts m : List ℕ) (s : Scratch) : Type 0 where
  pub shaped : Shaped c
  pub table : TableColumns (parents_in t) (codes_in t)
  pub texts : HeldTexts t
  pub cells : length firsts ≡ length (parents_in t)
  pub room-marks : length m ≡ length (parents_in t)
  pub room : Room (parents_in t) s

-- the paths before i are noted; those from i on are left
pub record FirstsSoFar (t : Rows) (c : CompiledPaths) (i : ℕ) (firsts m : List ℕ) (s₀ s : Scratch) : Type 0 where
  pub within : i ≤ c.count
  pub cells : length firsts ≡ length (parents_in t)
  pub room-marks : length m ≡ length (parents_in t)
  pub kept : Kept s₀ s
  pub whole : (r : ℕ) → r < length (parents_in t)
      → first_marked 1 r (columns_for (parents_in t) (codes_in t) (paths_in c))
      ≡ cond (eqb (get_or firsts r 0) 0) (first_marked (suc i) r (columns_for (parents_in t) (codes_in t) (paths_from c (c.count - i) i))) (get_or firsts r 0)

module _ (t : Rows) (c : CompiledPaths) (was m₀ : List ℕ) (s₀ : Scratch) (h : FirstsPass t c was m₀ s₀) where
  abbrev ps : List ℕ
  ps = parents_in t

  abbrev codes : List ℕ
  codes = codes_in t

  pub firsts-begun : (x : List ℕ) → x ≡ replicate (length was) 0 → Kept s₀ s₀ → FirstsSoFar t c 0 x m₀ s₀ s₀
  unfolding paths_in
  firsts-begun x e kept =
      record {
        within = omega arith;
        cells = ap length e ∙ length-replicate (length was) 0 ∙ h.cells;
        room-marks = h.room-marks;
        kept = kept;
        whole = λ r l. nothing r ∙ ap (λ (f : ℕ). cond (eqb f 0) (left r) f) (clear r l);
      }
    where
      left : ℕ → ℕ
      left r = first_marked 1 r (columns_for ps codes (paths_from c (c.count - 0) 0))

      clear : (r : ℕ) → r < length ps → ◌≡◌ {A = ℕ} 0 (get_or x r 0)
      clear r l = sym (ap (λ (o : List ℕ). get_or o r 0) e ∙ get_or-replicate (length was) r 0 0 (omega (arith, h.cells)))

      nothing : (r : ℕ) → first_marked 1 r (columns_for ps codes (paths_from c c.count 0)) ≡ left r
      nothing r = let z : c.count ≡ c.count - 0 = omega arith in ap (λ (n : ℕ). first_marked 1 r (columns_for ps codes (paths_from c n 0))) z

  module _ (i : ℕ) (firsts m : List ℕ) (s : Scratch) (w : FirstsSoFar t c i firsts m s₀ s) where
    pub firsts-path : i < c.count → PathPass t c i m s
    firsts-path l = record { ranges = path-ranges c i h.shaped l; table = h.table; texts = h.texts; room-marks = w.room-marks; room = room-kept h.room w.kept }

    pub firsts-next : (x out : List ℕ) (y : Scratch) → i < c.count → x ≡ path_marks ps (names_in codes) (path_in c i) → Noted x (i + 1) firsts out
        → length x ≡ length m → Kept s y → FirstsSoFar t c (i + 1) out x s₀ y
    unfolding first_marked
    firsts-next x out y l e n lm kept =
        record {
          within = omega arith;
          cells = n.long ∙ w.cells;
          room-marks = lm ∙ w.room-marks;
          kept = kept-kept w.kept kept;
          whole = λ r b.
              w.whole r b ∙ ap (λ (ps' : List (LocationPath ℕ)). cond (eqb (get_or firsts r 0) 0) (first_marked (suc i) r (columns_for ps codes ps')) (get_or firsts r 0)) split
              ∙ ap (λ (k : List ℕ). cond (eqb (get_or firsts r 0) 0) (cond (is_marked k r) (suc i) (left r)) (get_or firsts r 0)) (sym e)
              ∙ one_more (get_or x r 0) (get_or firsts r 0) (left r)
              ∙ ap (λ (f : ℕ). cond (eqb f 0) (left r) f) (ap (first_of (get_or x r 0) (get_or firsts r 0)) (sym (add-one i)) ∙ sym (n.each r (omega (arith, lm, w.room-marks))))
              ∙ ap (λ (k : ℕ). cond (eqb (get_or out r 0) 0) (first_marked k r (columns_for ps codes (paths_from c (c.count - (i + 1)) (i + 1)))) (get_or out r 0)) (ap suc (sym (add-one i)));
        }
      where
        left : ℕ → ℕ
        left r = first_marked (suc (suc i)) r (columns_for ps codes (paths_from c (c.count - (i + 1)) (i + 1)))

        split : paths_from c (c.count - i) i ≡ path_in c i ∷ paths_from c (c.count - (i + 1)) (i + 1)
        split =
            let z : c.count - i - 1 ≡ c.count - (i + 1) = omega arith in
            bundle-next c.steps c.conditions c.paths (c.count - i) i (λ q. omega arith)
            ∙ ap (λ (k : ℕ). path_in c i ∷ paths_from c k (i + 1)) z

        one_more : (k f rest : ℕ) → cond (eqb f 0) (cond (eqb k 1) (suc i) rest) f ≡ cond (eqb (first_of k f (suc i)) 0) rest (first_of k f (suc i))
        one_more k zero rest = by (eqb k 1)
          where
            by : (b : Bool) → cond b (suc i) rest ≡ cond (eqb (cond b (suc i) 0) 0) rest (cond b (suc i) 0)
            by true = sym (ap (λ (t : Bool). cond t rest (suc i)) (ne_eqb (suc i) 0 (λ e. omega arith)))
            by false = refl
        one_more k (suc f) rest =
            let some = ne_eqb (suc f) 0 (λ e. omega arith) in
            ap (λ (t : Bool). cond t (cond (eqb k 1) (suc i) rest) (suc f)) some ∙ by (eqb k 1)
          where
            by : (b : Bool) → suc f ≡ cond (eqb (cond b (cond (eqb (suc f) 0) (suc i) (suc f)) (suc f)) 0) rest (cond b (cond (eqb (suc f) 0) (suc i) (suc f)) (suc f))
            by true =
                let some = ne_eqb (suc f) 0 (λ e. omega arith) in
                sym (ap (λ (t : Bool). cond (eqb (cond t (suc i) (suc f)) 0) rest (cond t (suc i) (suc f))) some ∙ ap (λ (t : Bool). cond t rest (suc f)) some)
            by false = sym (ap (λ (t : Bool). cond t rest (suc f)) (ne_eqb (suc f) 0 (λ e. omega arith)))

    pub firsts-all : c.count ≤ i → FirstPaths ps codes (paths_in c) firsts
    unfolding first_marked
    firsts-all l =
        record {
          long = w.cells;
          each = λ r b.
              sym (w.whole r b ∙ ap (λ (ps' : List (LocationPath ℕ)). cond (eqb (get_or firsts r 0) 0) (first_marked (suc i) r (columns_for ps codes ps')) (get_or firsts r 0)) none
              ∙ same (get_or firsts r 0));
        }
      where
        none : paths_from c (c.count - i) i ≡ []
        none = bundle-none c.steps c.conditions c.paths (c.count - i) i (omega arith)

        same : (f : ℕ) → cond (eqb f 0) 0 f ≡ f
        same zero = refl
        same (suc f) = ap (λ (t : Bool). cond t 0 (suc f)) (ne_eqb (suc f) 0 (λ e. omega arith))

-- ---- counting the rows that some path selects
unfoldable pub count_of : ℕ → ℕ
count_of first = cond (eqb first 0) 0 1

count_low : (first : ℕ) → count_of first ≤ 1
unfolding count_of
count_low first = by (eqb first 0)
  where
    by : (b : Bool) → cond b 0 1 ≤ 1
    by true = omega arith
    by false = omega arith

pub counted-low : (first k : ℕ) → k ≡ count_of first → k ≤ 1
counted-low first k e = omega (arith, count_low first)

pub count-test : (first : ℕ) → from_bool (not (eqb first 0)) ≡ count_of first
unfolding count_of
count-test first = by (eqb first 0)
  where
    by : (b : Bool) → from_bool (not b) ≡ cond b 0 1
    by true = refl
    by false = refl

pub record Counting (firsts : List ℕ) (r n : ℕ) : Type 0 where
  pub within : r ≤ length firsts
  pub low : n ≤ r
  pub whole : selected_count firsts ≡ n + selected_count (drop r firsts)

pub counting-first : (firsts : List ℕ) → Counting firsts 0 0
counting-first firsts = record { within = omega arith; low = omega arith; whole = omega arith }

module _ (firsts : List ℕ) (r n : ℕ) (w : Counting firsts r n) (l : r < length firsts) where
  one-counted : selected_count (drop r firsts) ≡ count_of (get_or firsts r 0) + selected_count (drop (r + 1) firsts)
  unfolding selected_count count_of
  one-counted = ap selected_count (drop-cons firsts r 0 l) ∙ by (eqb (get_or firsts r 0) 0) ∙ ap (λ (k : ℕ). count_of (get_or firsts r 0) + selected_count (drop k firsts)) (sym (add-one r))
    where
      by : (b : Bool) → cond b (selected_count (drop (suc r) firsts)) (suc (selected_count (drop (suc r) firsts))) ≡ cond b 0 1 + selected_count (drop (suc r) firsts)
      by true = omega arith
      by false = omega arith

  pub counting-next : (k : ℕ) → k ≡ count_of (get_or firsts r 0) → Counting firsts (r + 1) (n + k)
  counting-next k e = record { within = omega arith; low = omega (arith, w.low, count_low (get_or firsts r 0)); whole = omega (arith, w.whole, one-counted) }

pub counting-all : (firsts : List ℕ) (r n : ℕ) → Counting firsts r n → length firsts ≤ r → n ≡ selected_count firsts
unfolding selected_count
counting-all firsts r n w l =
    let e : r ≡ length firsts = omega (arith, w.within) in
    let none : selected_count (drop r firsts) ≡ 0 = ap (λ (k : ℕ). selected_count (drop k firsts)) e ∙ ap selected_count (drop-length firsts) in
    omega (arith, w.whole)
