-- Laws of reading a path: steps one after the other, up to the line feed.
use Rattle.std.specs.Prelude.{Bool, true, false, ◌||◌, List, [], ◌∷◌, ◌++◌, map, reverse, ◌≡◌, refl, ℕ, ◌-◌, ◌≤◌, ◌<◌, length, Result, Ok, Err}
use Rattle.std.proofs.lemmas.List.{map-append, reverse-append, reverse-reverse}
use Rattle.std.proofs.Common.{append-nil, sym, ap, ap₂, subst, ◌∙◌, arith}
use Rattle.bundle_text.specs.alternatives.Conditions.{too_much}
use Rattle.bundle_text.specs.declared.alternative_ends.Follow.{Follow}
use Rattle.bundle_text.specs.declared.alternative_ends.Follow.TheVariants.{Close, More}
use Rattle.bundle_text.specs.declared.conditions.Past.{Past}
use Rattle.bundle_text.specs.declared.notes.Notes.{Notes}
use Rattle.bundle_text.specs.declared.steps.StepRead.{StepRead}
use Rattle.bundle_text.specs.notes.Laws.{paths-append, ended-append, outer-goes, inners-none, outer-one, steps-none, steps-more}
use Rattle.bundle_text.specs.notes.Notes.{with_count, with_inners, with_written, EachEnded, Goes, Written, outer_cells, all_paths, with_steps}
use Rattle.bundle_text.specs.written_steps.Readings.{stepped, StepPassed, UncountedRead, UncountedAs, ReadsUncounted, ReadsWritten, FollowedAs, Followed, step_noted, over_condition, ReadsLine}
use Rattle.path_spec.specs.Grammar.{PathRead, path_read}
use Rattle.path_spec.specs.Machine.{Outer, outside, line_start, after_brackets, begin_step, step, bundle_machine}
use Rattle.path_spec.specs.Paths.{Condition, WrittenStep}
use Rattle.schema_spec.specs.Declarations.{Use}
use Rattle.text_laws.specs.Scans.{same_at}
use Rattle.text_spec.specs.Machines.{from}

-- ---- one step more
over-more : (ws : List Written) (w : Written) → over_condition (ws ++ (w ∷ [])) ≡ (over_condition ws || too_much w.paths)
over-more [] w = last (too_much w.paths)
  where
    last : (b : Bool) → (b || false) ≡ (false || b)
    last true = refl
    last false = refl
over-more (v ∷ vs) w = ap (λ (b : Bool). too_much v.paths || b) (over-more vs w) ∙ assoc (too_much v.paths) (over_condition vs) (too_much w.paths)
  where
    assoc : (a b c : Bool) → (a || (b || c)) ≡ ((a || b) || c)
    assoc true b c = refl
    assoc false b c = refl

-- ---- a path
abbrev started : List PathRead → ℕ → List (WrittenStep Use (Condition Use)) → Outer
started ps at qs = record { paths = ps; start = at; steps = qs }

abbrev read-steps : List ℕ → List PathRead → ℕ → List Written → Outer
read-steps s ps at ws = started ps at (reverse (map (step_noted s) ws))

pub record Upto (s : List ℕ) (at : ℕ) (N N' : Notes) (i : ℕ) (over : Bool) : Type 0 where
  pub done : List Written
  pub low : at ≤ i
  pub high : i ≤ length s
  pub goes_on : Goes (outer_cells done)
  pub ended : EachEnded (all_paths done)
  pub noted : N' ≡ with_steps N done
  pub few-steps : N'.outer_count ≤ i
  pub few : N'.inner_count ≤ i
  pub limit : over ≡ over_condition done
  pub same : (ps : List PathRead) → from bundle_machine (begin_step (outside (started ps at []))) s at ≡ from bundle_machine (begin_step (outside (read-steps s ps at done))) s i

pub upto-start : {s : List ℕ} {at : ℕ} {N : Notes} → at < length s → N.outer_count ≤ at → N.inner_count ≤ at → Upto s at N N at false
upto-start h g f =
    record {
      done = [];
      low = omega arith;
      high = omega arith;
      goes_on = tt;
      ended = tt;
      noted = steps-none _;
      few-steps = g;
      few = f;
      limit = refl;
      same = λ ps. refl;
    }

line-begins : (s : List ℕ) (at : ℕ) (ps : List PathRead) → at < length s → from bundle_machine (line_start ps) s at ≡ from bundle_machine (begin_step (outside (started ps at []))) s at
unfolding step
line-begins s at ps h = same_at bundle_machine s at (line_start ps) (begin_step (outside (started ps at []))) h refl

-- the same step, where it leaves other notes
pub other-notes : {f g : Notes → Written → Notes} {s : List ℕ} {at : ℕ} {N N' M : Notes} {r : Past} (R : StepPassed f s at N N' r) → M ≡ g N R.step → M.inner_count ≤ r.at
    → StepPassed g s at N M r
other-notes R e few =
    record {
      step = R.step;
      place = R.place;
      before = R.before;
      past-brackets = R.past-brackets;
      brackets = R.brackets;
      low = R.low;
      high = R.high;
      goes_on = R.goes_on;
      ended = R.ended;
      noted = e;
      few = few;
      limit = R.limit;
      same = R.same;
    }

-- a step that is counted was noted before
module _ {s : List ℕ} {at : ℕ} {N N' : Notes} where
  pub noted-before : {r : Past} → ReadsWritten s at N N' (Ok r) → (M : Notes) × ReadsUncounted s at N M (Ok r) × (N' ≡ with_count M)
  noted-before {r} W =
      let R = W.says in
      let M : Notes = with_written N R.step in
      let e : N' ≡ with_count M = R.noted ∙ sym (outer-one N R.step) in
      (M, record { says = other-notes R refl (subst (λ (K : Notes). K.inner_count ≤ r.at) e R.few) }, e)

  pub fails-before : {j : ℕ} → ReadsWritten s at N N' (Err j) → ReadsUncounted s at N N' (Err j)
  fails-before W = record { says = W.says }

module _ {s : List ℕ} {at : ℕ} {N N' : Notes} {i : ℕ} {over : Bool} (U : Upto s at N N' i over) (h : at < length s) {M : Notes} {q : Result Past ℕ} (W : ReadsUncounted s i N' M q) where
  pub written_is : {a : Result Past ℕ} → q ≡ a → UncountedAs s i N' M a
  written_is u = (subst (ReadsUncounted s i N' M) u W).says

  pub upto-fails : {j : ℕ} → q ≡ Err j → ReadsLine s at N M (Err j)
  upto-fails u =
      let W = written_is u in
      record {
        says = (
          record { steps = U.done; inner = W.0.inner; noted = W.0.noted ∙ ap (λ (K : Notes). with_inners K W.0.inner) U.noted },
          λ ps. line-begins s at ps h ∙ U.same ps ∙ W.1 (read-steps s ps at U.done),
        );
      }

  module _ {r : Past} (u : q ≡ Ok r) where
    abbrev R : UncountedRead s i N' M r
    R = written_is u

    abbrev ws : List Written
    ws = U.done ++ (R.step ∷ [])

    pub upto-places : (i < r.at) × (r.at ≤ length s)
    upto-places = (R.low, R.high)

    reversed : (ps : List PathRead) → stepped s R.step.cell R.step.paths (read-steps s ps at U.done) ≡ read-steps s ps at ws
    reversed ps =
        ap (started ps at)
        (sym (reverse-append (map (step_noted s) U.done) (step_noted s R.step ∷ [])) ∙ ap reverse (sym (map-append (step_noted s) U.done (R.step ∷ []))))

    same-now : (ps : List PathRead) → from bundle_machine (begin_step (outside (started ps at []))) s at ≡ from bundle_machine (after_brackets (read-steps s ps at ws)) s r.at
    same-now ps = U.same ps ∙ R.same (read-steps s ps at U.done) ∙ ap (λ (z : Outer). from bundle_machine (after_brackets z) s r.at) (reversed ps)

    noted-one : with_count M ≡ with_steps N' (R.step ∷ [])
    noted-one = ap with_count R.noted ∙ outer-one N' R.step

    goes-now : Goes (outer_cells ws)
    goes-now = outer-goes U.done (R.step ∷ []) U.goes_on (R.goes_on, tt)

    ended-now : EachEnded (all_paths ws)
    ended-now =
        subst EachEnded (sym (paths-append U.done (R.step ∷ []) ∙ ap (λ (l : List (List StepRead)). all_paths U.done ++ l) (append-nil R.step.paths)))
        (ended-append (all_paths U.done) R.step.paths U.ended R.ended)

    pub upto-counts : (M.outer_count ≡ N'.outer_count) × (N'.outer_count ≤ i) × (M.inner_count ≤ r.at)
    upto-counts = (ap (λ (K : Notes). K.outer_count) R.noted, U.few-steps, R.few)

    module _ {M' : Notes} (me : M' ≡ with_count M) {b : Bool} (be : b ≡ (over || r.over_limit)) where
      noted-now : M' ≡ with_steps N ws
      noted-now = me ∙ noted-one ∙ ap (λ (K : Notes). with_steps K (R.step ∷ [])) U.noted ∙ steps-more N U.done (R.step ∷ [])

      few-now : (e : ℕ) → r.at < e → (M'.outer_count ≤ e) × (M'.inner_count ≤ e)
      few-now e g =
          let l = R.low in
          let a = U.few-steps in
          let b = R.few in
          let k = ap (λ (K : Notes). K.outer_count) R.noted in
          let m = ap (λ (K : Notes). K.outer_count) me in
          let n = ap (λ (K : Notes). K.inner_count) me in
          (omega arith, omega arith)

      limit-now : b ≡ over_condition ws
      limit-now = be ∙ ap₂ (λ (x y : Bool). x || y) U.limit R.limit ∙ sym (over-more U.done R.step)

      module _ {f : Result Follow ℕ} (F : Followed s r.at f) where
        followed-as : {a : Result Follow ℕ} → f ≡ a → FollowedAs s r.at a
        followed-as v = (subst (Followed s r.at) v F).says

        pub upto-stops : {e : ℕ} → f ≡ Err e → ReadsLine s at N M' (Err e)
        upto-stops v =
            record {
              says = (
                record { steps = ws; inner = []; noted = noted-now ∙ inners-none (with_steps N ws) },
                λ ps. line-begins s at ps h ∙ same-now ps ∙ followed-as v (read-steps s ps at ws),
              );
            }

        pub upto-later : {e : ℕ} → f ≡ Ok (More e) → (i < e) × (e ≤ length s)
        upto-later v =
            let g = (followed-as v).0 in
            let a = R.low in
            (omega arith, (followed-as v).1)

        pub upto_next : {e : ℕ} → f ≡ Ok (More e) → Upto s at N M' e b
        upto_next {e} v =
            let g = (followed-as v).0 in
            let a = R.low in
            let y = U.low in
            record {
              done = ws;
              low = omega arith;
              high = (followed-as v).1;
              goes_on = goes-now;
              ended = ended-now;
              noted = noted-now;
              few-steps = (few-now e g).0;
              few = (few-now e g).1;
              limit = limit-now;
              same = λ ps. same-now ps ∙ (followed-as v).2 (read-steps s ps at ws);
            }

        pub upto-closes : {e : ℕ} → f ≡ Ok (Close e) → ReadsLine s at N M' (Ok (record { at = e; over_limit = b }))
        upto-closes {e} v =
            let g = (followed-as v).0 in
            let j = (followed-as v).2 in
            let a = R.low in
            let y = U.low in
            let t : r.at - at ≡ e - 1 - at = omega arith in
            record {
              says = record {
                steps = ws;
                low = omega arith;
                high = (followed-as v).1;
                goes_on = goes-now;
                ended = ended-now;
                noted = noted-now;
                few-steps = (few-now e g).0;
                few = (few-now e g).1;
                limit = limit-now;
                same = λ ps. line-begins s at ps h ∙ same-now ps ∙ (followed-as v).3 (read-steps s ps at ws)
                    ∙ ap₂ (λ (c : ℕ) (z : List (WrittenStep Use (Condition Use))). from bundle_machine (line_start (path_read at c z ∷ ps)) s e) t (reverse-reverse (map (step_noted s) ws));
              };
            }

-- ---- the same of steps that are counted
module _ {s : List ℕ} {at : ℕ} {N N' : Notes} {i : ℕ} {over : Bool} (U : Upto s at N N' i over) (h : at < length s) {M : Notes} {q : Result Past ℕ} (W : ReadsWritten s i N' M q) where
  pub line-fails : {j : ℕ} → q ≡ Err j → ReadsLine s at N M (Err j)
  line-fails u = upto-fails U h (fails-before (subst (ReadsWritten s i N' M) u W)) refl

  module _ {r : Past} (u : q ≡ Ok r) where
    abbrev as-noted : (K : Notes) × ReadsUncounted s i N' K (Ok r) × (M ≡ with_count K)
    as-noted = noted-before (subst (ReadsWritten s i N' M) u W)

    module _ {b : Bool} (be : b ≡ (over || r.over_limit)) {f : Result Follow ℕ} (F : Followed s r.at f) where
      pub line-stops : {e : ℕ} → f ≡ Err e → ReadsLine s at N M (Err e)
      line-stops v = upto-stops U h as-noted.1 refl as-noted.2 be F v

      pub line-next : {e : ℕ} → f ≡ Ok (More e) → Upto s at N M e b
      line-next v = upto_next U h as-noted.1 refl as-noted.2 be F v

      pub line-closes : {e : ℕ} → f ≡ Ok (Close e) → ReadsLine s at N M (Ok (record { at = e; over_limit = b }))
      line-closes v = upto-closes U h as-noted.1 refl as-noted.2 be F v
