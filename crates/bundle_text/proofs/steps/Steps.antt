-- Laws of reading a test and a step.
use mathlib.Core.Bool.{Bool, true, false}
use mathlib.Core.List.{List, [], ◌∷◌, ◌++◌}
use mathlib.Core.Option.{Option, none}
use mathlib.Core.Path.{◌≡◌, refl, sym, ap, subst, ◌∙◌}
use Prim.Native.Nat.{ℕ, ◌+◌, ◌≤◌, ◌<◌}
use native.Mathlib.Omega.{arith}
use borrow.Author.Tests.{eq-eqb, ne_eqb, ltb-true, ltb-false}
use lib.Dec.{T, ltb}
use lib.ListN.{length, take, length-append}
use lib.Seq.{take-append_seam}
use Rattle.std.specs.Prelude.{Result, Ok, Err}
use Rattle.bundle_text.specs.axes.Readings.{AxisAs, ReadsAxis}
use Rattle.bundle_text.specs.declared.steps.TestRead.{TestRead}
use Rattle.bundle_text.specs.declared.steps.TestRead.TheVariants.{Node, Text, Name}
use Rattle.bundle_text.specs.steps.Readings.{Stands, use_at, test_noted, Within, TestAs, ReadsTest, named-at, called, ReadsPlain}
use Rattle.compiled_paths.specs.Steps.{written_axis}
use Rattle.compiled_paths.specs.declared.Axis.{Axis}
use Rattle.path_laws.specs.Grammar.Machine.{test-naming}
use Rattle.path_spec.specs.Grammar.{PathRead}
use Rattle.path_spec.specs.Machine.{Context, State, dead, before_test, in_test, in_call, after_call, call_of, begin_step, step, ends, bundle_machine}
use Rattle.path_spec.specs.Paths.{WrittenAxis, named, any_node, any_text}
use Rattle.text.specs.scanning.OutcomeLaws.{named_end, named_past, named-fail}
use Rattle.text.specs.scanning.Outcomes.{Named}
use Rattle.text_laws.specs.Lists.{bytes-equal, bytes_same}
use Rattle.text_laws.specs.Scans.{step-at, dead-at, same_at, at-end}
use Rattle.text_laws.specs.Tests.{passed, failed, false_of, cond_yes, cond_no}
use Rattle.text_spec.specs.Bytes.{starts_name}
use Rattle.text_spec.specs.Lists.{bytes, same_bytes}
use Rattle.text_spec.specs.Machines.{spelt, from}
use Rattle.text_spec.specs.Scans.{byte_at, name_at}

-- ---- a text that stops short, a byte that leads nowhere
module _ (s : List ℕ) (at : ℕ) (before : WrittenAxis → Context → State) where
  pub test-end : ((a : WrittenAxis) (x : Context) → ends (before a x) ≡ none) → length s ≤ at → ReadsTest before s at (Err at)
  test-end silent l = record { says = λ a x. at-end bundle_machine s at (before a x) l ∙ ap (λ (o : Option (List PathRead)). spelt o at) (silent a x) }

  pub test-not : at < length s → ((a : WrittenAxis) (x : Context) → step (before a x) at (byte_at s at) ≡ dead) → ReadsTest before s at (Err at)
  test-not l to = record { says = λ a x. dead-at bundle_machine s at (before a x) dead l (to a x) refl }

-- ---- a reading that starts earlier
test-later : (before after : WrittenAxis → Context → State) (s : List ℕ) (at i : ℕ) → at ≤ i
    → ((a : WrittenAxis) (x : Context) → from bundle_machine (before a x) s at ≡ from bundle_machine (after a x) s i) → (r : Result (TestRead × ℕ) ℕ) → TestAs after s i r → TestAs before s at r
test-later before after s at i l to (Ok r) R =
    let g = R.0 in
    (omega arith, R.1, R.2, λ a x. to a x ∙ R.3 a x)
test-later before after s at i l to (Err j) R = λ a x. to a x ∙ R a x

-- ---- `)`
module _ {s : List ℕ} {at : ℕ} {b : Bool} (S : Stands s at 0x29 b) (t : TestRead) where
  pub close-past : Within s t → b ≡ true → ReadsTest (called s t) s at (Ok (t, at + 1))
  unfolding step
  close-past w f =
      let l = (S.here f).0 in
      record {
        says = (
          omega arith,
          omega arith,
          w,
          λ a x. step-at bundle_machine s at (called s t a x) (after_call a (test_noted s t) x) l (cond_yes (after_call a (test_noted s t) x) dead (eq-eqb (byte_at s at) 0x29 (S.here f).1)) refl,
        );
      }

  pub close-not : b ≡ false → ReadsTest (called s t) s at (Err at)
  unfolding step
  close-not f = go (ltb at (length s)) refl
    where
      go : (c : Bool) → ltb at (length s) ≡ c → ReadsTest (called s t) s at (Err at)
      go true e =
          let l = ltb-true at (length s) e in
          test-not s at (called s t) l (λ a x. cond_no (after_call a (test_noted s t) x) dead (ne_eqb (byte_at s at) 0x29 (S.other f l)))
      go false e = test-end s at (called s t) (λ a x. refl) (ltb-false at (length s) e)

-- ---- names that are called
append-cancel : (n w u : List ℕ) → n ++ u ≡ w ++ u → n ≡ w
append-cancel n w u e =
    let a = length-append n u in
    let b = length-append w u in
    let c = ap length e in
    let d : length n ≡ length w = omega arith in
    sym (take-append_seam n u) ∙ ap (take (length n)) e ∙ ap (λ (k : ℕ). take k (w ++ u)) d ∙ take-append_seam w u

append-differs : (n w u : List ℕ) → (n ≡ w → ⊥) → same_bytes (n ++ u) (w ++ u) ≡ false
append-differs n w u d = false_of (same_bytes (n ++ u) (w ++ u)) (λ t. d (append-cancel n w u (bytes-equal (n ++ u) (w ++ u) t)))

module _ (s : List ℕ) (p at : ℕ) (l : at < length s) (e : byte_at s at ≡ 0x28) where
  call_step : (a : WrittenAxis) (x : Context) → step (named-at s p a x) at (byte_at s at) ≡ call_of a (name_at s p) x
  unfolding step
  call_step a x = ap (λ (b : ℕ). step (named-at s p a x) at b) e

  call-of : (w : List ℕ) (t : TestRead) → name_at s p ≡ w → ((a : WrittenAxis) (x : Context) → call_of a w x ≡ called s t a x) → {r : Result (TestRead × ℕ) ℕ} → ReadsTest (called s t) s (at + 1) r
      → ReadsTest (named-at s p) s at r
  call-of w t h to {r} R =
      record {
        says =
            test-later (named-at s p) (called s t) s at (at + 1) (omega arith)
            (λ a x. step-at bundle_machine s at (named-at s p a x) (called s t a x) l (call_step a x ∙ ap (λ (n : List ℕ). call_of a n x) h ∙ to a x) refl) r R.says;
      }

  pub call-node : same_bytes (bytes "node") (name_at s p) ≡ true → {r : Result (TestRead × ℕ) ℕ} → ReadsTest (called s Node) s (at + 1) r → ReadsTest (named-at s p) s at r
  call-node h = call-of (bytes "node") Node (sym (bytes-equal (bytes "node") (name_at s p) (passed h))) (λ a x. refl)

  pub call-text : same_bytes (bytes "text") (name_at s p) ≡ true → {r : Result (TestRead × ℕ) ℕ} → ReadsTest (called s Text) s (at + 1) r → ReadsTest (named-at s p) s at r
  call-text h = call-of (bytes "text") Text (sym (bytes-equal (bytes "text") (name_at s p) (passed h))) (λ a x. refl)

  pub call-not : same_bytes (bytes "node") (name_at s p) ≡ false → same_bytes (bytes "text") (name_at s p) ≡ false → ReadsTest (named-at s p) s at (Err at)
  call-not d f =
      test-not s at (named-at s p) l
      (λ a x. call_step a x ∙ cond_no (in_call a any_node x) _ (append-differs (name_at s p) (bytes "node") (bytes "()") (other (bytes "node") d))
      ∙ cond_no (in_call a any_text x) dead (append-differs (name_at s p) (bytes "text") (bytes "()") (other (bytes "text") f)))
    where
      other : (w : List ℕ) → same_bytes w (name_at s p) ≡ false → name_at s p ≡ w → ⊥
      other w e h = failed e (subst (λ (v : List ℕ). T (same_bytes w v)) (sym h) (bytes_same w))

-- ---- a test
module _ (s : List ℕ) (at : ℕ) where
  pub due-end : length s ≤ at → ReadsTest before_test s at (Err at)
  due-end l = test-end s at before_test (λ a x. refl) l

  pub due-not : at < length s → starts_name (byte_at s at) ≡ false → ReadsTest before_test s at (Err at)
  unfolding step
  due-not l e = test-not s at before_test l (λ a x. cond_no (in_test a at (byte_at s at ∷ []) x) dead e)

module _ {s : List ℕ} {at : ℕ} (l : at < length s) (g : starts_name (byte_at s at) ≡ true) {r : Result ℕ ℕ} (N : Named s at r) where
  first_byte : (a : WrittenAxis) (x : Context) → from bundle_machine (before_test a x) s at ≡ from bundle_machine (in_test a at (byte_at s at ∷ []) x) s (at + 1)
  unfolding step
  first_byte a x = step-at bundle_machine s at (before_test a x) (in_test a at (byte_at s at ∷ []) x) l (cond_yes (in_test a at (byte_at s at ∷ []) x) dead g) refl

  pub due-long : {j : ℕ} → r ≡ Err j → ReadsTest before_test s at (Err j)
  due-long u = record { says = λ a x. first_byte a x ∙ named-fail N (test-naming a at x) u }

  module _ {j : ℕ} (u : r ≡ Ok j) where
    due-name : (a : WrittenAxis) (x : Context) → from bundle_machine (before_test a x) s at ≡ from bundle_machine (named-at s at a x) s j
    due-name a x = first_byte a x ∙ named_past N (test-naming a at x) u

    named-as : ((a : WrittenAxis) (x : Context) → from bundle_machine (named-at s at a x) s j ≡ from bundle_machine (after_call a (named (use_at s at)) x) s j) → ReadsTest before_test s at (Ok (Name at, j))
    named-as to =
        let h = named_end N u in
        let o = h.0 in
        record { says = (omega arith, h.1, l, λ a x. due-name a x ∙ to a x) }

    pub due-named : {b : Bool} → Stands s j 0x28 b → b ≡ false → ReadsTest before_test s at (Ok (Name at, j))
    unfolding step
    due-named S f = named-as (λ a x. go a x (ltb j (length s)) refl)
      where
        go : (a : WrittenAxis) (x : Context) (c : Bool) → ltb j (length s) ≡ c → from bundle_machine (named-at s at a x) s j ≡ from bundle_machine (after_call a (named (use_at s at)) x) s j
        go a x true e =
            let o = ltb-true j (length s) e in
            same_at bundle_machine s j (named-at s at a x) (after_call a (named (use_at s at)) x) o
            (cond_no _ _ ((named_end N u).2 o) ∙ cond_no (call_of a (name_at s at) x) _ (ne_eqb (byte_at s j) 0x28 (S.other f o)))
        go a x false e =
            let o = ltb-false j (length s) e in
            at-end bundle_machine s j (named-at s at a x) o ∙ sym (at-end bundle_machine s j (after_call a (named (use_at s at)) x) o)

    pub due-called : {o : Result (TestRead × ℕ) ℕ} → ReadsTest (named-at s at) s j o → ReadsTest before_test s at o
    due-called {o} R =
        let h = (named_end N u).0 in
        record { says = test-later before_test (named-at s at) s at j (omega arith) due-name o R.says }

-- ---- a step
module _ {s : List ℕ} {at : ℕ} {r : Result (Axis × ℕ) ℕ} (A : ReadsAxis begin_step s at r) where
  axis-as : {o : Result (Axis × ℕ) ℕ} → r ≡ o → AxisAs begin_step s at o
  axis-as u = (subst (ReadsAxis begin_step s at) u A).says

  pub plain-no-axis : {j : ℕ} → r ≡ Err j → ReadsPlain s at (Err j)
  plain-no-axis u = record { says = axis-as u }

  module _ {a : Axis} {i : ℕ} (u : r ≡ Ok (a, i)) {o : Result (TestRead × ℕ) ℕ} (T : ReadsTest before_test s i o) where
    test-as : {q : Result (TestRead × ℕ) ℕ} → o ≡ q → TestAs before_test s i q
    test-as v = (subst (ReadsTest before_test s i) v T).says

    pub plain-no-test : {j : ℕ} → o ≡ Err j → ReadsPlain s at (Err j)
    plain-no-test v = record { says = λ x. (axis-as u).2 x ∙ test-as v (written_axis a) x }

    pub plain-past : {t : TestRead} {j : ℕ} → o ≡ Ok (t, j) → ReadsPlain s at (Ok (record { axis = a; test = t; ends_alternative = false }, j))
    plain-past {t} {j} v =
        let g = (axis-as u).0 in
        let h = (test-as v).0 in
        record { says = (omega arith, (test-as v).1, refl, λ x. (axis-as u).2 x ∙ (test-as v).3 (written_axis a) x) }
