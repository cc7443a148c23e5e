-- Laws of steps compiled one after the other.
use mathlib.Core.List.{List, [], ◌∷◌, ◌++◌, map, map-append}
use Rattle.std.specs.Prelude.{◌≡◌, refl, ℕ, ◌+◌, ◌<◌, length, take, set, get_or, Option, Result, Ok, Err}
use Rattle.std.specs.Result.{result_unwrap_or, result_err}
use Rattle.std.proofs.Common.{sym, ap, subst, ◌∙◌, add-one, arith, take-suc, length-take-le}
use Rattle.std.proofs.Math.Seq.{take-length}
use Rattle.std.proofs.lemmas.List.{length-map}
use Rattle.std.proofs.lemmas.List.Edits.{sets}
use Rattle.bundle_text.specs.declared.steps.StepRead.{StepRead}
use Rattle.bundle_text.specs.notes.Laws.{sets-append}
use Rattle.bundle_text.specs.notes.Notes.{no_step}
use Rattle.bundle.specs.names_in_tests.Steps.{test_or, lost_of, compiled_test, earliest, earliest_of, step_cell, lost_cell, Compiled}
use Rattle.compiled_paths.specs.declared.NodeTest.{NodeTest}
use Rattle.compiled_paths.specs.declared.NodeTest.TheVariants.{Element}
use Rattle.compiled_paths.specs.declared.Step.{Step}

unwraps : (r : Result NodeTest ℕ) → result_unwrap_or r (Element 0) ≡ test_or r
unwraps (Ok t) = refl
unwraps (Err p) = refl

errs : (r : Result NodeTest ℕ) → result_err r ≡ lost_of r
errs (Ok t) = refl
errs (Err p) = refl

earliest-more : (a : Option ℕ) (xs : List (Option ℕ)) (x : Option ℕ) → earliest_of a (xs ++ (x ∷ [])) ≡ earliest (earliest_of a xs) x
earliest-more a [] x = refl
earliest-more a (y ∷ xs) x = earliest-more (earliest a y) xs x

module _ {A B : Type 0} (f : A → B) (cells : List A) (d : A) (i : ℕ) (h : i < length cells) where
  map-next : map f (take (i + 1) cells) ≡ map f (take i cells) ++ (f (get_or cells i d) ∷ [])
  map-next = ap (λ (n : ℕ). map f (take n cells)) (add-one i) ∙ ap (map f) (take-suc cells i d h) ∙ map-append f (take i cells) (get_or cells i d ∷ [])

  column-next : (column column' : List B) (at : ℕ) → column' ≡ sets column at (map f (take i cells)) → set column' (at + i) (f (get_or cells i d)) ≡ sets column at (map f (take (i + 1) cells))
  column-next column column' at e =
      let l : i ≡ length (map f (take i cells)) = sym (length-map (take i cells) f ∙ length-take-le i cells (omega arith)) in
      ap (λ (c : List B). set c (at + i) (f (get_or cells i d))) e
      ∙ ap (λ (n : ℕ). set (sets column at (map f (take i cells))) (at + n) (f (get_or cells i d))) l
      ∙ sym (sets-append column at (map f (take i cells)) (f (get_or cells i d) ∷ [])) ∙ ap (sets column at) (sym map-next)

module _ (names : List (List ℕ)) (text : List ℕ) (cells : List StepRead) (at : ℕ) (steps : List Step) (lost : Option ℕ) where
  abbrev pub CompiledTo : ℕ → List Step → Option ℕ → Type 0
  CompiledTo i steps' least = Compiled names text (take i cells) at steps steps' lost least

  pub compiled-first : CompiledTo 0 steps lost
  compiled-first = record { wrote = refl; least = refl }

  module _ {steps' : List Step} {least : Option ℕ} {i : ℕ} (C : CompiledTo i steps' least) where
    pub compiled-all : i ≡ length cells → Compiled names text cells at steps steps' lost least
    compiled-all e = subst (λ (l : List StepRead). Compiled names text l at steps steps' lost least) (ap (λ (n : ℕ). take n cells) e ∙ take-length cells) C

    pub compiled-next : i < length cells → {p : Step} → p ≡ step_cell names text (get_or cells i no_step) → {least' : Option ℕ} → least' ≡ earliest least (lost_cell names text (get_or cells i no_step))
        → CompiledTo (i + 1) (set steps' (at + i) p) least'
    compiled-next h {p} e {least'} d =
        record {
          wrote = ap (set steps' (at + i)) e ∙ column-next (step_cell names text) cells no_step i h steps steps' at C.wrote;
          least =
              d ∙ ap (λ (a : Option ℕ). earliest a (lost_cell names text (get_or cells i no_step))) C.least
              ∙ sym (earliest-more lost (map (lost_cell names text) (take i cells)) (lost_cell names text (get_or cells i no_step)))
              ∙ ap (earliest_of lost) (sym (map-next (lost_cell names text) cells no_step i h));
        }

    -- by what compiling the test answers
    pub compiled-by : i < length cells → {r : Result NodeTest ℕ} → r ≡ compiled_test names text (get_or cells i no_step).test → {t : NodeTest} → t ≡ result_unwrap_or r (Element 0) → {o : Option ℕ} → o ≡ result_err r
        → {least' : Option ℕ} → least' ≡ earliest least o
        → CompiledTo (i + 1) (set steps' (at + i) (record { axis = (get_or cells i no_step).axis; test = t; ends_alternative = (get_or cells i no_step).ends_alternative })) least'
    compiled-by h {r} e {t} u {o} v d =
        compiled-next h
        (ap (λ (x : NodeTest). record { axis = (get_or cells i no_step).axis; test = x; ends_alternative = (get_or cells i no_step).ends_alternative }) (u ∙ unwraps r ∙ ap test_or e))
        (d ∙ ap (earliest least) (v ∙ errs r ∙ ap lost_of e))
