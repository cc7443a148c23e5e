-- Laws of reading all paths: one after the other, up to the text's end.
use Rattle.std.specs.Prelude.{Bool, true, false, cond, ◌||◌, List, [], ◌∷◌, ◌++◌, map, reverse, ◌≡◌, refl, ℕ, suc, ◌+◌, ◌-◌, ◌≤◌, ◌<◌, leb, ltb, length, Option, Some, None, Result, Ok, Err}
use Rattle.std.specs.Option.{option_or}
use Rattle.std.specs.Bool.{then_some}
use Rattle.std.proofs.lemmas.List.{map-append, reverse-append, reverse-reverse, length-map, length-reverse}
use Rattle.std.proofs.Common.{append-nil, sym, ap, ap₂, subst, ◌∙◌, add-zero, arith, length-append}
use Rattle.bundle_text.specs.alternatives.Conditions.{too_much}
use Rattle.bundle_text.specs.declared.conditions.Past.{Past}
use Rattle.bundle_text.specs.declared.notes.Notes.{Notes}
use Rattle.bundle_text.specs.declared.steps.StepRead.{StepRead}
use Rattle.bundle_text.specs.notes.Laws.{paths-append, steps-append, ended-append, outer-goes, lines-none, path-one}
use Rattle.bundle_text.specs.notes.Notes.{uncounted, with_path, EachEnded, Goes, Written, outer_cells, all_paths, with_steps, Line, all_steps, with_lines, Few}
use Rattle.bundle_text.specs.paths.Readings.{path_noted, first_over, ReadsBundle}
use Rattle.bundle_text.specs.steps.Readings.{plain_noted}
use Rattle.bundle_text.specs.written_steps.Readings.{step_noted, condition_of, over_condition, LineRead, LineAs, ReadsLine}
use Rattle.path_spec.specs.Grammar.{PathRead}
use Rattle.path_spec.specs.Machine.{line_start, bundle_machine, parse}
use Rattle.path_spec.specs.Reading.{passes_condition_limit, passes_limit}
use Rattle.text_laws.specs.Scans.{at-end}
use Rattle.text_spec.specs.Limits.{max_alternatives, max_alternative_steps, max_paths, max_steps, max_path_bytes}
use Rattle.text_spec.specs.Lists.{any_of}
use Rattle.text_spec.specs.Machines.{spells, from}

-- ---- limits
long_as : (s : List ℕ) (qs : List (List StepRead)) → any_of (λ q. ltb max_alternative_steps (length q)) qs ≡ any_of (λ q. ltb max_alternative_steps (length q)) (map (map (plain_noted s)) qs)
long_as s [] = refl
long_as s (q ∷ qs) = ap₂ (λ (n : ℕ) (b : Bool). ltb max_alternative_steps n || b) (sym (length-map q (plain_noted s))) (long_as s qs)

condition-limit : (s : List ℕ) (qs : List (List StepRead)) → too_much qs ≡ passes_condition_limit (condition_of s qs)
condition-limit s [] = refl
condition-limit s (q ∷ qs) = ap₂ (λ (n : ℕ) (b : Bool). ltb max_alternatives n || b) (sym (length-map (q ∷ qs) (map (plain_noted s)))) (long_as s (q ∷ qs))

conditions-limit : (s : List ℕ) (ws : List Written) → over_condition ws ≡ any_of (λ q. passes_condition_limit q.condition) (map (step_noted s) ws)
conditions-limit s [] = refl
conditions-limit s (w ∷ ws) = ap₂ (λ (a b : Bool). a || b) (condition-limit s w.paths) (conditions-limit s ws)

first_more : (i : ℕ) (ps : List PathRead) (p : PathRead) → first_over i (ps ++ (p ∷ [])) ≡ option_or (first_over i ps) (then_some (passes_limit (i + length ps) p) p.place)
first_more i [] p = go (passes_limit i p) ∙ ap (λ (k : ℕ). then_some (passes_limit k p) p.place) (sym (add-zero i))
  where
    go : (b : Bool) → cond b (Some p.place) None ≡ then_some b p.place
    go true = refl
    go false = refl
first_more i (q ∷ ps) p = pick (passes_limit i q) (first_more (suc i) ps p)
  where
    pick : (b : Bool) → first_over (suc i) (ps ++ (p ∷ [])) ≡ option_or (first_over (suc i) ps) (then_some (passes_limit (suc i + length ps) p) p.place)
        → cond b (Some q.place) (first_over (suc i) (ps ++ (p ∷ []))) ≡ option_or (cond b (Some q.place) (first_over (suc i) ps)) (then_some (passes_limit (i + suc (length ps)) p) p.place)
    pick true h = refl
    pick false h =
        let e : suc i + length ps ≡ i + suc (length ps) = omega arith in
        h ∙ ap (λ (k : ℕ). option_or (first_over (suc i) ps) (then_some (passes_limit k p) p.place)) e

-- ---- what was read up to i
pub record Upto (s : List ℕ) (N N' : Notes) (i : ℕ) (over : Option ℕ) : Type 0 where
  pub done : List Line
  pub high : i ≤ length s
  pub some : 0 < i → 0 < length done
  pub goes_on : Goes (outer_cells (all_steps done))
  pub ended : EachEnded (all_paths (all_steps done))
  pub noted : N' ≡ with_lines N done
  pub few : Few i N'
  pub limit : over ≡ first_over 0 (map (path_noted s) done)
  pub same : from bundle_machine (line_start []) s 0 ≡ from bundle_machine (line_start (reverse (map (path_noted s) done))) s i

-- notes in which nothing is counted
pub few-none : (N : Notes) {M : Notes} → M ≡ uncounted N → Few 0 M
few-none N e = subst (Few 0) (sym e) (record { outer = omega arith; inner = omega arith; paths = omega arith })

pub reads-anew : {s : List ℕ} (N : Notes) {M N' : Notes} {r : Result (Option ℕ) ℕ} → M ≡ uncounted N → ReadsBundle s M N' r → ReadsBundle s (uncounted N) N' r
reads-anew {s} N {M} {N'} {r} e R = subst (λ (K : Notes). ReadsBundle s K N' r) e R

pub upto-start : {s : List ℕ} {N : Notes} → Few 0 N → Upto s N N 0 None
upto-start f =
    record { done = []; high = omega arith; some = λ h. absurd (omega arith); goes_on = tt; ended = tt; noted = lines-none _; few = f; limit = refl; same = refl }

module _ {s : List ℕ} {N N' : Notes} {i : ℕ} {over : Option ℕ} (U : Upto s N N' i over) where
  pub upto-whole : length s ≤ i → 0 < length s → ReadsBundle s N N' (Ok over)
  unfolding parse
  upto-whole h l =
      record {
        says = record {
          lines = U.done;
          spelt = U.same ∙ finished (reverse (map (path_noted s) U.done)) refl;
          goes_on = U.goes_on;
          ended = U.ended;
          noted = U.noted;
          limit = U.limit;
        };
      }
    where
      finished : (ps : List PathRead) → reverse (map (path_noted s) U.done) ≡ ps → from bundle_machine (line_start ps) s i ≡ spells (map (path_noted s) U.done)
      finished [] e =
          let a = U.some (omega arith) in
          let c : length (map (path_noted s) U.done) ≡ 0 = sym (length-reverse (map (path_noted s) U.done)) ∙ ap length e in
          let f = length-map U.done (path_noted s) in
          absurd (omega arith)
      finished (p ∷ ps) e =
          at-end bundle_machine s i (line_start (p ∷ ps)) h ∙ ap (λ (q : List PathRead). spells (reverse q)) (sym e) ∙ ap spells (reverse-reverse (map (path_noted s) U.done))

  module _ {M : Notes} {r : Result Past ℕ} (L : ReadsLine s i N' M r) where
    pub line_as : {a : Result Past ℕ} → r ≡ a → LineAs s i N' M a
    line_as u = (subst (ReadsLine s i N' M) u L).says

    pub upto-fails : {j : ℕ} → r ≡ Err j → ReadsBundle s N M (Err j)
    unfolding parse
    upto-fails u = record { says = U.same ∙ (line_as u).1 (reverse (map (path_noted s) U.done)) }

    module _ {p : Past} (u : r ≡ Ok p) where
      abbrev R : LineRead s i N' M p
      R = line_as u

      steps-counted : M.outer_count ≡ N'.outer_count + length R.steps
      steps-counted = ap (λ (K : Notes). K.outer_count) R.noted

      pub upto-places : (i < p.at) × (p.at ≤ length s) × (N'.outer_count ≤ M.outer_count)
      upto-places = let e = steps-counted in (R.low, R.high, omega arith)

      pub upto-few : (M.outer_count ≤ p.at) × (M.path_count ≡ N'.path_count)
      upto-few = (R.few-steps, ap (λ (K : Notes). K.path_count) R.noted)

      abbrev one : Line
      one = record { place = i; size = p.at - 1 - i; steps = R.steps }

      module _ (few : Few 0 N) {b : Bool} (be : b ≡ (leb max_paths M.path_count || (ltb max_steps (M.outer_count - N'.outer_count) || (ltb max_path_bytes (p.at - 1 - i) || p.over_limit)))) where
        counted : M.path_count ≡ 0 + length (map (path_noted s) U.done)
        counted =
            let a = few.paths in
            let c = ap (λ (K : Notes). K.path_count) R.noted in
            let d = ap (λ (K : Notes). K.path_count) U.noted in
            omega (arith, length-map U.done (path_noted s))

        passes-now : b ≡ passes_limit (0 + length (map (path_noted s) U.done)) (path_noted s one)
        passes-now =
            let c : M.outer_count - N'.outer_count ≡ length (map (step_noted s) R.steps) = omega (arith, steps-counted, length-map R.steps (step_noted s)) in
            be ∙ ap₂ (λ (d n : ℕ). leb max_paths d || (ltb max_steps n || (ltb max_path_bytes (p.at - 1 - i) || p.over_limit))) counted c
            ∙ ap (λ (q : Bool). leb max_paths (0 + length (map (path_noted s) U.done)) || (ltb max_steps (length (map (step_noted s) R.steps)) || (ltb max_path_bytes (p.at - 1 - i) || q)))
            (R.limit ∙ conditions-limit s R.steps)

        module _ {over' : Option ℕ} (oe : over' ≡ option_or over (then_some b i)) {M' : Notes} (me : M' ≡ with_path M) where
          limit-now : over' ≡ first_over 0 (map (path_noted s) (U.done ++ (one ∷ [])))
          limit-now =
              oe ∙ ap₂ (λ (o : Option ℕ) (q : Bool). option_or o (then_some q i)) U.limit passes-now
              ∙ sym (first_more 0 (map (path_noted s) U.done) (path_noted s one)) ∙ ap (first_over 0) (sym (map-append (path_noted s) U.done (one ∷ [])))

          noted-now : M' ≡ with_lines N (U.done ++ (one ∷ []))
          noted-now = me ∙ ap with_path (R.noted ∙ ap (λ (K : Notes). with_steps K R.steps) U.noted) ∙ path-one N U.done one

          goes-now : Goes (outer_cells (all_steps (U.done ++ (one ∷ []))))
          goes-now =
              subst (λ (ws : List Written). Goes (outer_cells ws)) (sym (steps-append U.done (one ∷ []) ∙ ap (λ (l : List Written). all_steps U.done ++ l) (append-nil R.steps)))
              (outer-goes (all_steps U.done) R.steps U.goes_on R.goes_on)

          ended-now : EachEnded (all_paths (all_steps (U.done ++ (one ∷ []))))
          ended-now =
              subst EachEnded
              (sym (ap all_paths (steps-append U.done (one ∷ []) ∙ ap (λ (l : List Written). all_steps U.done ++ l) (append-nil R.steps)) ∙ paths-append (all_steps U.done) R.steps))
              (ended-append (all_paths (all_steps U.done)) (all_paths R.steps) U.ended R.ended)

          few-now : Few p.at M'
          few-now =
              let l = R.low in
              let a = R.few-steps in
              let c = R.few in
              let d = U.few.paths in
              let e = ap (λ (K : Notes). K.path_count) R.noted in
              subst (Few p.at) (sym me) (record { outer = omega arith; inner = omega arith; paths = omega arith })

          pub upto_next : Upto s N M' p.at over'
          upto_next =
              record {
                done = U.done ++ (one ∷ []);
                high = R.high;
                some = λ h. omega (arith, length-append U.done (one ∷ []));
                goes_on = goes-now;
                ended = ended-now;
                noted = noted-now;
                few = few-now;
                limit = limit-now;
                same =
                    U.same ∙ R.same (reverse (map (path_noted s) U.done))
                    ∙ ap (λ (ps : List PathRead). from bundle_machine (line_start ps) s p.at)
                    (sym (reverse-append (map (path_noted s) U.done) (path_noted s one ∷ [])) ∙ ap reverse (sym (map-append (path_noted s) U.done (one ∷ []))));
              }
