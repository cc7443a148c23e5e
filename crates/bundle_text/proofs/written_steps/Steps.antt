-- Laws of reading brackets, a step, and what follows it.
use Rattle.std.specs.Prelude.{Bool, true, false, List, [], ◌∷◌, ◌≡◌, refl, ℕ, ◌+◌, ◌≤◌, ◌<◌, ltb, length, Result, Ok, Err}
use Rattle.std.proofs.Common.{sym, ap, subst, ◌∙◌, arith, ltb-true, ltb-false, ne_eqb}
use Rattle.bundle_text.specs.alternatives.Conditions.{condition_noted, opened, ConditionAs, ReadsCondition}
use Rattle.bundle_text.specs.declared.alternative_ends.Follow.TheVariants.{Close, More}
use Rattle.bundle_text.specs.declared.conditions.Past.{Past}
use Rattle.bundle_text.specs.declared.notes.Notes.{Notes}
use Rattle.bundle_text.specs.declared.steps.StepRead.{StepRead}
use Rattle.bundle_text.specs.notes.Laws.{inners-none, outer-one}
use Rattle.bundle_text.specs.notes.Notes.{with_cell, with_count, with_outer}
use Rattle.bundle_text.specs.steps.Readings.{Stands, step_axis, step_test, PlainAs, ReadsPlain}
use Rattle.bundle_text.specs.written_steps.Lines.{other-notes}
use Rattle.bundle_text.specs.written_steps.Readings.{condition_of, stepped, BracketsRead, BracketsAs, ReadsBrackets, UncountedRead, UncountedAs, ReadsUncounted, ReadsWritten, line_ended, FollowedAs}
use Rattle.path_spec.specs.Machine.{Outer, outside, inside, State, dead, after_call, after_brackets, begin_step, with_step, step_done, step, bundle_machine}
use Rattle.path_spec.specs.Paths.{Condition}
use Rattle.schema_spec.specs.Declarations.{Use}
use Rattle.text_laws.specs.Scans.{step-at, dead-at, same_at, at-end}
use Rattle.text_laws.specs.Tests.{cond_no}
use Rattle.text_spec.specs.Limits.{max_bundle_bytes}
use Rattle.text_spec.specs.Machines.{from}
use Rattle.text_spec.specs.Scans.{byte_at}

-- ---- brackets
abbrev tested-past : List ℕ → StepRead → Outer → State
tested-past s c o = after_call (step_axis c) (step_test s c) (outside o)

module _ {s : List ℕ} {at : ℕ} {t : Bool} (S : Stands s at 0x5B t) where
  no-bracket : t ≡ false → (c : StepRead) (o : Outer) → from bundle_machine (tested-past s c o) s at ≡ from bundle_machine (after_brackets (stepped s c [] o)) s at
  unfolding step
  no-bracket f c o = go (ltb at (length s)) refl
    where
      go : (b : Bool) → ltb at (length s) ≡ b → from bundle_machine (tested-past s c o) s at ≡ from bundle_machine (after_brackets (stepped s c [] o)) s at
      go true g =
          let h : at < length s = ltb-true at (length s) g in
          same_at bundle_machine s at (tested-past s c o) (after_brackets (stepped s c [] o)) h
          (ap (λ (q : State). step_done (stepped s c [] o) at (byte_at s at) q) (cond_no (begin_step (inside (opened o (step_axis c) (step_test s c)))) dead (ne_eqb (byte_at s at) 0x5B (S.other f h))))
      go false g =
          let h = ltb-false at (length s) g in
          at-end bundle_machine s at (tested-past s c o) h ∙ sym (at-end bundle_machine s at (after_brackets (stepped s c [] o)) h)

  pub brackets-none : {N : Notes} → at ≤ length s → N.inner_count ≤ at → t ≡ false → ReadsBrackets s at N N (Ok (record { at = at; over_limit = false }))
  brackets-none h few f =
      record {
        says = record {
          paths = [];
          low = omega arith;
          high = h;
          ended = tt;
          noted = inners-none _;
          few = few;
          limit = refl;
          same = no-bracket f;
        };
      }

  open-bracket : t ≡ true → (c : StepRead) (o : Outer) → from bundle_machine (tested-past s c o) s at ≡ from bundle_machine (begin_step (inside (opened o (step_axis c) (step_test s c)))) s (at + 1)
  unfolding step
  open-bracket f c o =
      step-at bundle_machine s at (tested-past s c o) (begin_step (inside (opened o (step_axis c) (step_test s c)))) (S.here f).0 (ap (λ (b : ℕ). step (tested-past s c o) at b) (S.here f).1) refl

  condition-of : (qs : List (List StepRead)) → 0 < length qs → condition_noted s qs ≡ condition_of s qs
  condition-of [] h = absurd (omega arith)
  condition-of (q ∷ qs) h = refl

  brackets-as : (N N' : Notes) → t ≡ true → (r : Result Past ℕ) → ConditionAs s (at + 1) N N' r → BracketsAs s at N N' r
  brackets-as N N' f (Ok r) C =
      let l = C.low in
      record {
        paths = C.paths;
        low = omega arith;
        high = C.high;
        ended = C.ended;
        noted = C.noted;
        few = C.few;
        limit = C.limit;
        same = λ c z. open-bracket f c z ∙ C.same z (step_axis c) (step_test s c)
            ∙ ap (λ (d : Condition Use). from bundle_machine (after_brackets (with_step (step_axis c) (step_test s c) d z)) s r.at) (condition-of C.paths C.some);
      }
  brackets-as N N' f (Err j) C = (C.0, λ c z. open-bracket f c z ∙ C.1 z (step_axis c) (step_test s c))

  pub brackets-some : {N N' : Notes} {r : Result Past ℕ} → t ≡ true → ReadsCondition s (at + 1) N N' r → ReadsBrackets s at N N' r
  brackets-some {N} {N'} {r} f C = record { says = brackets-as N N' f r C.says }

-- ---- a step that is noted, and then counted
module _ {s : List ℕ} {at : ℕ} {N M : Notes} where
  module _ {q : Result Past ℕ} (U : ReadsUncounted s at N M q) where
    uncounted-as : {a : Result Past ℕ} → q ≡ a → UncountedAs s at N M a
    uncounted-as u = (subst (ReadsUncounted s at N M) u U).says

    pub counted-fails : {j : ℕ} → q ≡ Err j → ReadsWritten s at N M (Err j)
    counted-fails u = record { says = uncounted-as u }

    module _ {r : Past} (u : q ≡ Ok r) where
      abbrev U-read : UncountedRead s at N M r
      U-read = uncounted-as u

      pub counted-room : length s ≤ max_bundle_bytes → M.inner_count ≤ max_bundle_bytes
      counted-room h =
          let a = U-read.few in
          let b = U-read.high in
          omega arith

      pub outer-uncounted : M.outer_count ≡ N.outer_count
      outer-uncounted = ap (λ (K : Notes). K.outer_count) U-read.noted

      pub counted-reads : {N' : Notes} → N' ≡ with_count M → ReadsWritten s at N N' (Ok r)
      counted-reads e =
          record {
            says =
                other-notes U-read (e ∙ ap with_count U-read.noted ∙ outer-one N U-read.step)
                (subst (λ (K : Notes). K.inner_count ≤ r.at) (sym e) U-read.few);
          }

-- ---- a step
module _ {s : List ℕ} {at : ℕ} {p : Result (StepRead × ℕ) ℕ} (P : ReadsPlain s at p) where
  plain-as : {a : Result (StepRead × ℕ) ℕ} → p ≡ a → PlainAs s at a
  plain-as u = (subst (ReadsPlain s at) u P).says

  pub uncounted-fails : {N : Notes} {j : ℕ} → p ≡ Err j → ReadsUncounted s at N N (Err j)
  uncounted-fails u = record { says = (record { inner = []; noted = inners-none _ }, λ z. plain-as u (outside z)) }

  pub written-fails : {N : Notes} {j : ℕ} → p ≡ Err j → ReadsWritten s at N N (Err j)
  written-fails u = counted-fails (uncounted-fails u) refl

  module _ {c : StepRead} {j : ℕ} (u : p ≡ Ok (c, j)) where
    pub written-place : (at < j) × (j ≤ length s)
    written-place = ((plain-as u).0, (plain-as u).1)

    module _ {N M : Notes} {q : Result Past ℕ} (B : ReadsBrackets s j N M q) where
      pub brackets-read : {a : Result Past ℕ} → q ≡ a → BracketsAs s j N M a
      brackets-read v = (subst (ReadsBrackets s j N M) v B).says

      pub uncounted-stops : {e : ℕ} → q ≡ Err e → ReadsUncounted s at N M (Err e)
      uncounted-stops v =
          let B = brackets-read v in
          record { says = (B.0, λ z. (plain-as u).3 (outside z) ∙ B.1 c z) }

      pub written-stops : {e : ℕ} → q ≡ Err e → ReadsWritten s at N M (Err e)
      written-stops v = counted-fails (uncounted-stops v) refl

      module _ {r : Past} (v : q ≡ Ok r) where
        abbrev R : BracketsRead s j N M r
        R = brackets-read v

        pub written-counts : (M.outer_count ≡ N.outer_count) × (M.inner_count ≤ r.at)
        written-counts = (ap (λ (K : Notes). K.outer_count) R.noted, R.few)

        pub written-high : r.at ≤ length s
        written-high = R.high

        pub uncounted-reads : {N' : Notes} → N' ≡ with_cell M c → ReadsUncounted s at N N' (Ok r)
        uncounted-reads e =
            let g = (plain-as u).0 in
            let h = R.low in
            record {
              says = record {
                step = record { cell = c; paths = R.paths };
                place = j;
                before = g;
                past-brackets = h;
                brackets = R.same;
                low = omega arith;
                high = R.high;
                goes_on = (plain-as u).2;
                ended = R.ended;
                noted = e ∙ ap (λ (K : Notes). with_cell K c) R.noted;
                few = subst (λ (K : Notes). K.inner_count ≤ r.at) (sym e) R.few;
                limit = R.limit;
                same = λ z. (plain-as u).3 (outside z) ∙ R.same c z;
              };
            }

        pub written-reads : {N' : Notes} → N' ≡ with_outer M c → ReadsWritten s at N N' (Ok r)
        written-reads e = counted-reads (uncounted-reads refl) refl e

-- ---- what follows it
module _ (s : List ℕ) (at : ℕ) where
  pub follow-end : length s ≤ at → FollowedAs s at (Err at)
  follow-end l o = at-end bundle_machine s at (after_brackets o) l

  module _ (l : at < length s) where
    pub follow-slash : byte_at s at ≡ 0x2F → FollowedAs s at (Ok (More (at + 1)))
    unfolding step
    follow-slash e = (omega arith, omega arith, λ o. step-at bundle_machine s at (after_brackets o) (begin_step (outside o)) l (ap (λ (b : ℕ). step (after_brackets o) at b) e) refl)

    pub follow-line : byte_at s at ≡ 0x0A → FollowedAs s at (Ok (Close (at + 1)))
    unfolding step
    follow-line e = (omega arith, omega arith, refl, λ o. step-at bundle_machine s at (after_brackets o) (line_ended o at) l (ap (λ (b : ℕ). step (after_brackets o) at b) e) refl)

    pub follow-not : (byte_at s at ≡ 0x2F → ⊥) → (byte_at s at ≡ 0x0A → ⊥) → FollowedAs s at (Err at)
    unfolding step
    follow-not d e o = dead-at bundle_machine s at (after_brackets o) dead l (cond_no _ _ (ne_eqb (byte_at s at) 0x2F d) ∙ cond_no _ _ (ne_eqb (byte_at s at) 0x0A e)) refl
