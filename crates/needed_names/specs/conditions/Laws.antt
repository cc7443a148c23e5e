-- Laws of names taken one by one, in the order of their codes.
use Rattle.std.specs.Prelude.{Bool, true, false, ◌&&◌, ◌||◌, ◌≡◌, refl, ℕ, ◌+◌, ◌<◌, ◌≤◌, eqb, length}
use Rattle.std.proofs.Math.Bool.{and-true}
use mathlib.Core.List.{List, [], ◌∷◌, Memᴰ as In}
use Rattle.std.proofs.Common.{⊎_elim, sym, ap, ap₂, ◌∙◌, arith, lt-ltb, le-ltb, eqb→eq, ltb→lt, lt→ltb}
use Rattle.std.proofs.Math.Path.{subst}
use Rattle.std.proofs.Math.Dec.{T, ltb, eqb_refl}
use Rattle.compiled_paths.specs.Steps.{alternatives_in, condition_in, condition-none, condition-some}
use Rattle.compiled_paths.specs.declared.Step.{Step as CompiledStep}
use Rattle.inference.specs.back_steps.Laws.{set_in-within}
use Rattle.names.specs.SetLaws.{set_of-in, in-set_of, schema-every}
use Rattle.names.specs.Sets.{member, set_of, every_name, set_in, Known}
use Rattle.names.specs.codes.Codes.{name_of_code}
use Rattle.names.specs.codes.Laws.{code_below, same-name-code, name-of-its-code}
use Rattle.names.specs.declared.NameSet.{NameSet}
use Rattle.needed_names.specs.conditions.Conditions.{keeps_in, wants_in}
use Rattle.path_spec.specs.Paths.{Condition, unconditional, alternatives}
use Rattle.schema_laws.specs.Names.{same-name, has_in, in-has}
use Rattle.schema_spec.specs.Names.{Name, Names, same_name, code_of, has, within, names_of}
use Rattle.schema_spec.specs.Schemas.{Schema}
use Rattle.text_laws.specs.Lists.{any-in, in-any, filter-cong, filter-filter, in-gather, gather-in}
use Rattle.text_laws.specs.Searches.{one_more}
use Rattle.text_laws.specs.Tests.{passed, false_of, or_left, or_right, or_cases, and_intro, and_cases, decided, same_test}
use Rattle.text_spec.specs.Limits.{max_declarations}
use Rattle.text_spec.specs.Lists.{any_of, filter_by, gather}

-- ---- a condition by its range
module _ (steps : List CompiledStep) (s : Schema) (n i : ℕ) where
  abbrev whole : Condition ℕ
  whole = condition_in steps n i

  abbrev some : Condition ℕ
  some = alternatives (alternatives_in steps n i)

  -- no alternative keeps all and wants nothing
  pub keeps-unconditional : (k t : NameSet) → n ≡ 0 → (m : Name) → member t m ≡ (member t m && keeps_in s k whole m)
  keeps-unconditional k t e m =
      sym (ap (λ (q : Condition ℕ). member t m && keeps_in s k q m) (condition-none steps n i e) ∙ and-true (member t m))

  pub wants-unconditional : (k h r : NameSet) → n ≡ 0 → set_in s r ≡ [] → set_in s r ≡ within (names_of s) (gather (wants_in s k whole) (set_in s h))
  wants-unconditional k h r e b =
      set_in-within s r [] b
      ∙ ap (within (names_of s)) (sym (ap (λ (q : Condition ℕ). gather (wants_in s k q) (set_in s h)) (condition-none steps n i e) ∙ none (set_in s h)))
    where
      none : (xs : Names) → gather (wants_in s k unconditional) xs ≡ []
      none [] = refl
      none (x ∷ xs) = none xs

  -- some are the condition
  pub keeps-conditional : (k t r : NameSet) → (n ≡ 0 → ⊥) → (m : Name) → member r m ≡ (member t m && keeps_in s k some m) → member r m ≡ (member t m && keeps_in s k whole m)
  keeps-conditional k t r d m h = h ∙ ap (λ (q : Condition ℕ). member t m && keeps_in s k q m) (sym (condition-some steps n i d))

  pub wants-conditional : (k h r : NameSet) → (n ≡ 0 → ⊥) → set_in s r ≡ within (names_of s) (gather (wants_in s k some) (set_in s h)) → set_in s r ≡ within (names_of s) (gather (wants_in s k whole) (set_in s h))
  wants-conditional k h r d e = e ∙ ap (λ (q : Condition ℕ). within (names_of s) (gather (wants_in s k q) (set_in s h))) (sym (condition-some steps n i d))

-- ---- names one by one, in the order of their codes
module _ (s : Schema) (small : length s ≤ max_declarations) where
  known : (n : Name) → In n (names_of s) → In n every_name
  known n i = schema-every s small n i

  pub kept-none : (F : Name → Bool) (out : NameSet) → ((n : Name) → member out n ≡ false) → (n : Name) → In n (names_of s) → member out n ≡ (ltb (code_of n) 0 && F n)
  kept-none F out h n i = h n ∙ sym (ap (λ (b : Bool). b && F n) (le-ltb (code_of n) 0 (omega arith)))

  pub kept-one-more : (F : Name → Bool) (v : Bool) (out r : NameSet) (c : ℕ) → (In (name_of_code c) (names_of s) → v ≡ F (name_of_code c))
      → ((n : Name) → In n (names_of s) → member out n ≡ (ltb (code_of n) c && F n)) → ((n : Name) → member r n ≡ (member out n || (same_name n (name_of_code c) && v)))
      → (n : Name) → In n (names_of s) → member r n ≡ (ltb (code_of n) (c + 1) && F n)
  kept-one-more F v out r c h inv new n i =
      new n ∙ ap₂ (λ (x y : Bool). x || (y && v)) (inv n i) (same-name-code n c (known n i)) ∙ ap (λ (b : Bool). (ltb (code_of n) c && F n) || b) (pick (eqb (code_of n) c) refl)
      ∙ one_more (λ j. F n) c (code_of n)
    where
      pick : (b : Bool) → eqb (code_of n) c ≡ b → (b && v) ≡ (b && F n)
      pick true e =
          let z : n ≡ name_of_code c = name-of-its-code n (known n i) ∙ ap name_of_code (eqb→eq (code_of n) c (passed e)) in
          h (subst (λ (x : Name). In x (names_of s)) z i) ∙ ap F (sym z)
      pick false e = refl

  pub kept-all : (F : Name → Bool) (out : NameSet) (c : ℕ) → c ≡ 64 → ((n : Name) → In n (names_of s) → member out n ≡ (ltb (code_of n) c && F n))
      → (n : Name) → In n (names_of s) → member out n ≡ F n
  kept-all F out c e inv n i =
      let l = code_below n (known n i) in
      inv n i ∙ ap (λ (b : Bool). b && F n) (lt-ltb (code_of n) c (omega arith))

  pub kept-filter : (f : Name → Bool) (t r : NameSet) → ((n : Name) → In n (names_of s) → member r n ≡ (member t n && f n)) → set_in s r ≡ filter_by f (set_in s t)
  unfolding set_of
  kept-filter f t r h =
      filter-filter (member r) f (member t) (names_of s) (λ n i x. and_cases (member t n) (f n) (subst T (h n i) x))
      (λ n i x y. subst T (sym (h n i)) (and_intro (member t n) (f n) x y))

  -- what the names of g with codes below c want
  abbrev pub wanted_below : (Name → Names) → NameSet → ℕ → Name → Bool
  wanted_below W g c n = any_of (λ a. ltb (code_of a) c && has n (W a)) (set_in s g)

  pub wanted-none : (W : Name → Names) (g out : NameSet) → ((n : Name) → member out n ≡ false) → (n : Name) → member out n ≡ wanted_below W g 0 n
  wanted-none W g out h n =
      h n ∙ sym (false_of (wanted_below W g 0 n) (λ t.
      let w = in-any (λ a. ltb (code_of a) 0 && has n (W a)) (set_in s g) t in
      let l = ltb→lt (code_of w.0) 0 (and_cases (ltb (code_of w.0) 0) (has n (W w.0)) w.2).0 in
      omega arith))

  pub wanted-one-more : (W : Name → Names) (g out one r : NameSet) (c : ℕ) → Known s g → (n : Name) → member out n ≡ wanted_below W g c n
      → member one n ≡ (member g (name_of_code c) && has n (W (name_of_code c))) → member r n ≡ (member out n || member one n) → member r n ≡ wanted_below W g (c + 1) n
  wanted-one-more W g out one r c only n inv new joined =
      joined ∙ ap₂ ◌||◌ inv new ∙ same_test (wanted_below W g c n || (member g (name_of_code c) && has n (W (name_of_code c)))) (wanted_below W g (c + 1) n)
      (λ t. ⊎_elim earlier now (or_cases (wanted_below W g c n) (member g (name_of_code c) && has n (W (name_of_code c))) t)) (λ t. back (in-any (test (c + 1)) (set_in s g) t))
    where
      test : ℕ → Name → Bool
      test d a = ltb (code_of a) d && has n (W a)

      earlier : T (wanted_below W g c n) → T (wanted_below W g (c + 1) n)
      earlier t =
          let w = in-any (test c) (set_in s g) t in
          let x = and_cases (ltb (code_of w.0) c) (has n (W w.0)) w.2 in
          let l = ltb→lt (code_of w.0) c x.0 in
          any-in (test (c + 1)) w.1 (and_intro (ltb (code_of w.0) (c + 1)) (has n (W w.0)) (lt→ltb (code_of w.0) (c + 1) (omega arith)) x.1)

      now : T (member g (name_of_code c) && has n (W (name_of_code c))) → T (wanted_below W g (c + 1) n)
      now t =
          let x = and_cases (member g (name_of_code c)) (has n (W (name_of_code c))) t in
          let i = only (name_of_code c) x.0 in
          let q : code_of (name_of_code c) ≡ c = eqb→eq (code_of (name_of_code c)) c (subst T (same-name-code (name_of_code c) c (known (name_of_code c) i)) (same-name (name_of_code c))) in
          any-in (test (c + 1)) (in-set_of g i x.0) (and_intro (ltb (code_of (name_of_code c)) (c + 1)) (has n (W (name_of_code c))) (lt→ltb (code_of (name_of_code c)) (c + 1) (omega arith)) x.1)

      back : (a : Name) × In a (set_in s g) × T (test (c + 1) a) → T (wanted_below W g c n || (member g (name_of_code c) && has n (W (name_of_code c))))
      back (a, i, t) =
          let x = and_cases (ltb (code_of a) (c + 1)) (has n (W a)) t in
          let m = set_of-in (names_of s) g i in
          ⊎_elim (λ e. or_right (wanted_below W g c n) (member g (name_of_code c) && has n (W (name_of_code c))) (at a m.0 m.1 x.1 (eqb→eq (code_of a) c e)))
          (λ d. or_left (wanted_below W g c n) (member g (name_of_code c) && has n (W (name_of_code c)))
          (any-in (test c) i (and_intro (ltb (code_of a) c) (has n (W a)) (lt→ltb (code_of a) c (less (ltb→lt (code_of a) (c + 1) x.0) (λ q. d (subst (λ (j : ℕ). T (eqb (code_of a) j)) q (eqb_refl (code_of a)))))) x.1)))
          (decided (eqb (code_of a) c))
        where
          less : code_of a < c + 1 → (code_of a ≡ c → ⊥) → code_of a < c
          less l d = omega arith

          at : (a : Name) → In a (names_of s) → T (member g a) → T (has n (W a)) → code_of a ≡ c → T (member g (name_of_code c) && has n (W (name_of_code c)))
          at a i m t e =
              let z : a ≡ name_of_code c = name-of-its-code a (known a i) ∙ ap name_of_code e in
              subst (λ (b : Name). T (member g b && has n (W b))) z (and_intro (member g a) (has n (W a)) m t)

  pub wanted-gather : (W : Name → Names) (g r : NameSet) (l : Names) (c : ℕ) → c ≡ 64 → set_in s g ≡ l → ((n : Name) → In n (names_of s) → member r n ≡ wanted_below W g c n)
      → set_in s r ≡ within (names_of s) (gather W l)
  unfolding set_of
  wanted-gather W g r l c e same inv =
      filter-cong (member r) (λ n. has n (gather W l)) (names_of s) (λ n i. inv n i ∙ same_test (wanted_below W g c n) (has n (gather W l)) (to n) (of n))
    where
      to : (n : Name) → T (wanted_below W g c n) → T (has n (gather W l))
      to n t =
          let w = in-any (λ a. ltb (code_of a) c && has n (W a)) (set_in s g) t in
          in-has (in-gather W (subst (λ (x : Names). In w.0 x) same w.1) (has_in n (W w.0) (and_cases (ltb (code_of w.0) c) (has n (W w.0)) w.2).1))

      of : (n : Name) → T (has n (gather W l)) → T (wanted_below W g c n)
      of n t =
          let w = gather-in W l (has_in n (gather W l) t) in
          let i = subst (λ (x : Names). In w.0 x) (sym same) w.1 in
          let h = code_below w.0 (known w.0 (set_of-in (names_of s) g i).0) in
          any-in (λ a. ltb (code_of a) c && has n (W a)) i (and_intro (ltb (code_of w.0) c) (has n (W w.0)) (lt→ltb (code_of w.0) c (omega arith)) (in-has w.2))
