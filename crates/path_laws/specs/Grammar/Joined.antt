-- Parts read from left to right, the last first, make the lists of the grammar: alternatives, conditions, paths, bundles.
use Rattle.std.specs.Prelude.{false, ◌≡◌, refl, ℕ, suc, ◌+◌, length}
use mathlib.Core.List.{List, [], ◌∷◌, ◌++◌, reverse, reverse_aux, append_assoc, append-nil}
use Rattle.std.proofs.Common.{subst, add-zero, arith, length-append}
use Rattle.path_spec.specs.Grammar.{PathRead, path_read, or_word, PlainText, AlternativeText, one-step, more-steps, ConditionText, one-alternative, more-alternatives, StepText, PathText, last_step, next-step, BundleText, last-path, next-path}
use Rattle.path_spec.specs.Paths.{WrittenStep, PlainStep, Condition}
use Rattle.schema_spec.specs.Declarations.{Use}
use Rattle.text_spec.specs.Lists.{is_empty}

-- parts from the place k on, each with what parts it from the next
pub data Before {A : Type 0} (separator : List ℕ) (Part : ℕ → List ℕ → A → Type 0) (k : ℕ) : List ℕ → List A → Type 0 where
  none_before : Before separator Part k [] []
  one_more : {u w : List ℕ} {ps : List A} {p : A} → Before separator Part k u ps → Part (k + length u) w p → Before separator Part k (u ++ (w ++ separator)) (p ∷ ps)

-- parts in front of a list of parts
module _ {A : Type 0} (separator : List ℕ) (Part : ℕ → List ℕ → A → Type 0) (Parts : ℕ → List ℕ → List A → Type 0)
    (next : (k : ℕ) (w r : List ℕ) (p : A) (ps : List A) → Part k w p → Parts (k + length w + length separator) r ps → Parts k (w ++ (separator ++ r)) (p ∷ ps)) where
  joined : {k : ℕ} {u : List ℕ} {qs : List A} → Before separator Part k u qs → (v : List ℕ) (ps : List A) → Parts (k + length u) v ps → Parts k (u ++ v) (reverse_aux qs ps)
  joined none_before v ps t = rw add-zero at t
  joined {k} (one_more {u = u} {w = w} {ps = qs} {p = p} b i) v ps t =
      subst (λ (l : List ℕ). Parts k l (reverse_aux qs (p ∷ ps))) (simp append_assoc)
      (joined b (w ++ (separator ++ v)) (p ∷ ps)
      (next (k + length u) w v p ps i (subst (λ (j : ℕ). Parts j v ps) (omega (arith, length-append u (w ++ separator), length-append w separator)) t)))

abbrev pub slash : List ℕ
slash = 0x2F ∷ []

abbrev pub line_feed : List ℕ
line_feed = 0x0A ∷ []

-- a list of the grammar whose place is counted in another way
shifted : {A : Type 0} (Parts : ℕ → List ℕ → List A → Type 0) {j : ℕ} {r : List ℕ} {ps : List A} (k : ℕ) → j ≡ k → Parts j r ps → Parts k r ps
shifted Parts {r} {ps} k e t = subst (λ (i : ℕ). Parts i r ps) e t

pub alternative-joined : {k : ℕ} {u w : List ℕ} {ps : List (PlainStep Use)} {p : PlainStep Use} → Before slash PlainText k u ps → PlainText (k + length u) w p
    → AlternativeText k (u ++ w) (reverse (p ∷ ps))
alternative-joined {w} {p} b t =
    joined slash PlainText AlternativeText (λ k w r p ps i a. more-steps i (shifted AlternativeText (suc (k + length w)) (omega arith) a)) b w (p ∷ []) (one-step t)

pub condition-joined : {k : ℕ} {u w : List ℕ} {qs : List (List (PlainStep Use))} {q : List (PlainStep Use)} → Before or_word AlternativeText k u qs
    → AlternativeText (k + length u) w q → ConditionText k (u ++ w) (reverse (q ∷ qs))
condition-joined {w} {q} b t = joined or_word AlternativeText ConditionText (λ k w r q qs a c. more-alternatives a c) b w (q ∷ []) (one-alternative t)

pub path-joined : {k : ℕ} {u w : List ℕ} {ps : List (WrittenStep Use (Condition Use))} {p : WrittenStep Use (Condition Use)} → Before slash StepText k u ps → StepText (k + length u) w p
    → PathText k (u ++ w) (reverse (p ∷ ps))
path-joined {w} {p} b t =
    joined slash StepText PathText (λ k w r p ps s q. next-step s (shifted PathText (suc (k + length w)) (omega arith) q)) b w (p ∷ []) (last_step t)

-- a line: a path where it is written
pub data Line : ℕ → List ℕ → PathRead → Type 0 where
  a-line : {k : ℕ} {w : List ℕ} {s : List (WrittenStep Use (Condition Use))} → PathText k w s → Line k w (path_read k (length w) s)

-- a bundle, or nothing
pub data Lines : ℕ → List ℕ → List PathRead → Type 0 where
  no_lines : {k : ℕ} → Lines k [] []
  some-lines : {k : ℕ} {w : List ℕ} {ps : List PathRead} → BundleText k w ps → Lines k w ps

next-line : (k : ℕ) (w r : List ℕ) (p : PathRead) (ps : List PathRead) → Line k w p → Lines (k + length w + length line_feed) r ps
    → Lines k (w ++ (line_feed ++ r)) (p ∷ ps)
next-line k w r p ps (a-line t) no_lines = some-lines (last-path t)
next-line k w r p ps (a-line t) (some-lines b) = some-lines (next-path t (shifted BundleText (suc (k + length w)) (omega arith) b))

pub lines-joined : {k : ℕ} {u : List ℕ} {ps : List PathRead} → Before line_feed Line k u ps → Lines k u (reverse ps)
lines-joined {k} {u} {ps} b = rw append-nil at (joined line_feed Line Lines next-line b [] [] no_lines)

pub reversed-filled : (ps qs : List PathRead) → is_empty qs ≡ false → is_empty (reverse_aux ps qs) ≡ false
reversed-filled [] qs e = e
reversed-filled (p ∷ ps) qs e = reversed-filled ps (p ∷ qs) refl
