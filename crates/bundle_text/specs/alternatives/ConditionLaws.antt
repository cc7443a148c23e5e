-- Laws of reading a condition: alternatives one after the other.
use Rattle.std.specs.Prelude.{Bool, true, false, ◌||◌, List, [], ◌∷◌, ◌++◌, map, reverse, ◌≡◌, refl, ℕ, ◌+◌, ◌-◌, ◌≤◌, ◌<◌, ltb, length, Result, Ok, Err}
use Rattle.std.proofs.lemmas.List.{reverse-append, reverse-reverse}
use Rattle.std.proofs.Common.{append-nil, sym, ap, ap₂, subst, ◌∙◌, arith, length-append}
use Rattle.bundle_text.specs.alternative_ends.Readings.{plain_past, closed, FollowedAs, Followed}
use Rattle.bundle_text.specs.alternatives.Conditions.{long_alternative, condition_noted, opened, ReadsCondition}
use Rattle.bundle_text.specs.alternatives.Readings.{in_alternative, AlternativeRead, AlternativeAs, ReadsAlternative}
use Rattle.bundle_text.specs.declared.alternative_ends.Follow.{Follow}
use Rattle.bundle_text.specs.declared.alternative_ends.Follow.TheVariants.{Close, More}
use Rattle.bundle_text.specs.declared.notes.Notes.{Notes}
use Rattle.bundle_text.specs.declared.steps.StepRead.{StepRead}
use Rattle.bundle_text.specs.notes.Laws.{ended-append, cells-append, inners-none, inners-more}
use Rattle.bundle_text.specs.notes.Notes.{with_inners, cells_of, EachEnded}
use Rattle.bundle_text.specs.steps.Readings.{plain_noted}
use Rattle.path_spec.specs.Machine.{Outer, Inner, inside, after_brackets, begin_step, with_step, bracketed, bundle_machine}
use Rattle.path_spec.specs.Paths.{WrittenAxis, NodeTest, PlainStep, alternatives}
use Rattle.schema_laws.specs.Lists.{map-reverse}
use Rattle.schema_spec.specs.Declarations.{Use}
use Rattle.text_spec.specs.Limits.{max_alternatives, max_alternative_steps}
use Rattle.text_spec.specs.Machines.{from}
use Rattle.text_spec.specs.Scans.{byte_at}

-- ---- one alternative more
long-more : (qs : List (List StepRead)) (q : List StepRead) → long_alternative (qs ++ (q ∷ [])) ≡ (long_alternative qs || ltb max_alternative_steps (length q))
long-more [] q = last (ltb max_alternative_steps (length q))
  where
    last : (b : Bool) → (b || false) ≡ (false || b)
    last true = refl
    last false = refl
long-more (p ∷ qs) q = ap (λ (b : Bool). ltb max_alternative_steps (length p) || b) (long-more qs q) ∙ assoc (ltb max_alternative_steps (length p)) (long_alternative qs) (ltb max_alternative_steps (length q))
  where
    assoc : (a b c : Bool) → (a || (b || c)) ≡ ((a || b) || c)
    assoc true b c = refl
    assoc false b c = refl

-- brackets in which the alternatives qs have been read
abbrev pub in_condition : List ℕ → List (List StepRead) → Inner → Inner
in_condition s qs x = record { outer = x.outer; axis = x.axis; test = x.test; alternatives = map (map (plain_noted s)) (reverse qs); steps = [] }

closed-alternative : (s : List ℕ) (c : StepRead) (cs : List StepRead) (qs : List (List StepRead)) (x : Inner)
    → closed s c (in_alternative s cs (in_condition s qs x)) ≡ in_condition s (qs ++ (reverse (c ∷ cs) ∷ [])) x
closed-alternative s c cs qs x =
    ap (λ (l : List (List (PlainStep Use))). record { outer = x.outer; axis = x.axis; test = x.test; alternatives = l; steps = [] })
    (ap (λ (q : List (PlainStep Use)). q ∷ map (map (plain_noted s)) (reverse qs)) (sym (map-reverse (plain_noted s) (c ∷ cs)))
    ∙ ap (map (map (plain_noted s))) (sym (reverse-append qs (reverse (c ∷ cs) ∷ []))))

bracketed-condition : (s : List ℕ) (qs : List (List StepRead)) (o : Outer) (a : WrittenAxis) (t : NodeTest Use)
    → bracketed (in_condition s qs (opened o a t)) ≡ with_step a t (condition_noted s qs) o
bracketed-condition s qs o a t =
    ap (λ (l : List (List (PlainStep Use))). with_step a t (alternatives l) o) (sym (map-reverse (map (plain_noted s)) (reverse qs)) ∙ ap (map (map (plain_noted s))) (reverse-reverse qs))

-- ---- what was read up to i
pub record Upto (s : List ℕ) (at : ℕ) (N N' : Notes) (i count : ℕ) (long : Bool) : Type 0 where
  pub done : List (List StepRead)
  pub low : at ≤ i
  pub high : i ≤ length s
  pub counted : count ≡ length done
  pub count-few : count ≤ i
  pub ended : EachEnded done
  pub noted : N' ≡ with_inners N (cells_of done)
  pub few : N'.inner_count ≤ i
  pub limit : long ≡ long_alternative done
  pub same : (o : Outer) (a : WrittenAxis) (t : NodeTest Use)
      → from bundle_machine (begin_step (inside (opened o a t))) s at ≡ from bundle_machine (begin_step (inside (in_condition s done (opened o a t)))) s i

pub upto-start : {s : List ℕ} {at : ℕ} {N : Notes} → at ≤ length s → N.inner_count ≤ at → Upto s at N N at 0 false
upto-start h f =
    record {
      done = [];
      low = omega arith;
      high = h;
      counted = refl;
      count-few = omega arith;
      ended = tt;
      noted = inners-none _;
      few = f;
      limit = refl;
      same = λ o a t. refl;
    }

module _ {s : List ℕ} {at : ℕ} {N N' : Notes} {i count : ℕ} {long : Bool} (U : Upto s at N N' i count long) {M : Notes} {r : Result ℕ ℕ} (A : ReadsAlternative s i N' M r) where
  pub alternative-as : {a : Result ℕ ℕ} → r ≡ a → AlternativeAs s i N' M a
  alternative-as u = (subst (ReadsAlternative s i N' M) u A).says

  pub upto-fails : {j : ℕ} → r ≡ Err j → ReadsCondition s at N M (Err j)
  upto-fails u =
      let A = alternative-as u in
      record {
        says = (
          record {
            inner = cells_of U.done ++ A.0.inner;
            noted = A.0.noted ∙ ap (λ (K : Notes). with_inners K A.0.inner) U.noted ∙ inners-more N (cells_of U.done) A.0.inner;
          },
          λ z a t. U.same z a t ∙ A.1 (in_condition s U.done (opened z a t)),
        );
      }

  module _ {j : ℕ} (u : r ≡ Ok j) where
    abbrev R : AlternativeRead s i N' M j
    R = alternative-as u

    abbrev q : List StepRead
    q = reverse (R.last ∷ R.before)

    abbrev qs : List (List StepRead)
    qs = U.done ++ (q ∷ [])

    upto-counts : M.inner_count ≡ N'.inner_count + length q
    upto-counts = ap (λ (K : Notes). K.inner_count) R.noted

    pub upto-counted : N'.inner_count ≤ M.inner_count
    upto-counted = let e = upto-counts in omega arith

    pub upto-place : (i < j) × (j ≤ length s) × (count + 1 ≤ j)
    upto-place =
        let l = R.low in
        let f = U.count-few in
        (l, R.high, omega arith)

    pub upto-stop : (j ≤ length s) × (j < length s → byte_at s j ≡ 0x2F → ⊥)
    upto-stop = (R.high, R.stop)

    noted-now : M ≡ with_inners N (cells_of qs)
    noted-now =
        R.noted ∙ ap (λ (K : Notes). with_inners K q) U.noted ∙ inners-more N (cells_of U.done) q
        ∙ ap (with_inners N) (ap (λ (l : List StepRead). cells_of U.done ++ l) (sym (append-nil q)) ∙ sym (cells-append U.done (q ∷ [])))

    ended-now : EachEnded qs
    ended-now = ended-append U.done (q ∷ []) U.ended (R.ended, tt)

    same-now : (z : Outer) (a : WrittenAxis) (t : NodeTest Use)
        → from bundle_machine (begin_step (inside (opened z a t))) s at ≡ from bundle_machine (plain_past s R.last (in_alternative s R.before (in_condition s U.done (opened z a t)))) s j
    same-now z a t = U.same z a t ∙ R.same (in_condition s U.done (opened z a t))

    few-at : (e : ℕ) → j < e → M.inner_count ≤ e
    few-at e h = let a = R.few in omega arith

    module _ {l : Bool} (le : l ≡ (long || ltb max_alternative_steps (M.inner_count - N'.inner_count))) where
      limit-now : l ≡ long_alternative qs
      limit-now =
          let f : M.inner_count - N'.inner_count ≡ length q = omega (arith, upto-counts) in
          le ∙ ap₂ (λ (b : Bool) (x : ℕ). b || ltb max_alternative_steps x) U.limit f ∙ sym (long-more U.done q)

      module _ {f : Result Follow ℕ} (F : Followed s j f) where
        followed-as : {a : Result Follow ℕ} → f ≡ a → FollowedAs s j a
        followed-as v = (subst (Followed s j) v F).says

        pub upto-stops : {e : ℕ} → f ≡ Err e → ReadsCondition s at N M (Err e)
        upto-stops v =
            record {
              says = (
                record { inner = cells_of qs; noted = noted-now },
                λ z a t. same-now z a t ∙ followed-as v R.last (in_alternative s R.before (in_condition s U.done (opened z a t))),
              );
            }

        pub upto-later : {e : ℕ} → f ≡ Ok (More e) → (i < e) × (e ≤ length s)
        upto-later v =
            let g = (followed-as v).0 in
            let a = R.low in
            (omega arith, (followed-as v).1)

        pub upto_next : {e : ℕ} → f ≡ Ok (More e) → Upto s at N M e (count + 1) l
        upto_next {e} v =
            let g = (followed-as v).0 in
            let a = R.low in
            let b = U.low in
            let y = U.count-few in
            let z = U.counted in
            record {
              done = qs;
              low = omega arith;
              high = (followed-as v).1;
              counted = omega (arith, length-append U.done (q ∷ []));
              count-few = omega arith;
              ended = ended-now;
              noted = noted-now;
              few = few-at e g;
              limit = limit-now;
              same = λ z a t. same-now z a t ∙ (followed-as v).2 R.last (in_alternative s R.before (in_condition s U.done (opened z a t)))
                  ∙ ap (λ (y : Inner). from bundle_machine (begin_step (inside y)) s e) (closed-alternative s R.last R.before U.done (opened z a t));
            }

        pub upto-closes : {e : ℕ} → f ≡ Ok (Close e) → {over : Bool} → over ≡ (ltb max_alternatives (count + 1) || l) → ReadsCondition s at N M (Ok (record { at = e; over_limit = over }))
        upto-closes {e} v {over} ve =
            let g = (followed-as v).0 in
            let a = R.low in
            let b = U.low in
            let z = U.counted in
            let d = length-append U.done (q ∷ []) in
            let h : count + 1 ≡ length qs = omega arith in
            record {
              says = record {
                paths = qs;
                some = omega arith;
                low = omega arith;
                high = (followed-as v).1;
                ended = ended-now;
                noted = noted-now;
                few = few-at e g;
                limit = ve ∙ ap₂ (λ (p : ℕ) (b : Bool). ltb max_alternatives p || b) h limit-now;
                same = λ z a t. same-now z a t ∙ (followed-as v).2 R.last (in_alternative s R.before (in_condition s U.done (opened z a t)))
                    ∙ ap (λ (y : Inner). from bundle_machine (after_brackets (bracketed y)) s e) (closed-alternative s R.last R.before U.done (opened z a t))
                    ∙ ap (λ (y : Outer). from bundle_machine (after_brackets y) s e) (bracketed-condition s qs z a t);
              };
            }
