-- Each bundle text of the grammar is read as the paths that it spells.
use Rattle.std.specs.Prelude.{true, false, ◌&&◌, ◌≡◌, refl, ℕ, suc, ◌+◌, ◌-◌, T, eqb, leb, length}
use mathlib.Core.List.{List, [], ◌∷◌, ◌++◌, reverse, reverse_aux, reverse-reverse}
use Rattle.std.proofs.Math.Option.{some}
use Rattle.std.proofs.Common.{sym, ap, subst, ◌∙◌, arith, leb→le}
use Rattle.path_laws.specs.Grammar.Joined.{reversed-filled}
use Rattle.path_laws.specs.Grammar.Machine.{bundle-dead, test-naming}
use Rattle.path_spec.specs.Grammar.{PathRead, path_read, or_word, TestText, a-name, any-node, any-text, PlainText, plain, AlternativeText, one-step, more-steps, ConditionText, one-alternative, more-alternatives, StepText, bare, conditional, PathText, last_step, next-step, BundleText, last-path, next-path}
use Rattle.path_spec.specs.Machine.{Outer, Inner, Context, outside, inside, State, line_start, before_test, in_test, after_call, after_brackets, begin_step, with_step, with_plain, with_alternative, bracketed, tested, step, ends, bundle_machine, parse}
use Rattle.path_spec.specs.Paths.{self, child, descendant, descendant_or_self, parent, ancestor, ancestor_or_self, WrittenAxis, along, following, following_sibling, preceding, preceding_sibling, spell_axis, NodeTest, named, WrittenStep, PlainStep, Condition, unconditional, alternatives}
use Rattle.schema_spec.specs.Declarations.{Use}
use Rattle.text_laws.specs.Machines.{final, final-append, final-spells}
use Rattle.text_laws.specs.Scans.{name-final}
use Rattle.text_laws.specs.Tests.{and_cases, true_of}
use Rattle.text_spec.specs.Bytes.{starts_name, continues_name, is_name}
use Rattle.text_spec.specs.Limits.{max_name_bytes}
use Rattle.text_spec.specs.Lists.{all_of, is_empty}
use Rattle.text_spec.specs.Machines.{Parsed, spells}

-- an axis leads to its test
axis-read : (a : WrittenAxis) (x : Context) (k : ℕ) → final bundle_machine (begin_step x) (spell_axis a) k ≡ before_test a x
unfolding step
axis-read (along self) x k = refl
axis-read (along child) x k = refl
axis-read (along descendant) x k = refl
axis-read (along descendant_or_self) x k = refl
axis-read (along parent) x k = refl
axis-read (along ancestor) x k = refl
axis-read (along ancestor_or_self) x k = refl
axis-read following x k = refl
axis-read following_sibling x k = refl
axis-read preceding x k = refl
axis-read preceding_sibling x k = refl

-- a state in which a step's axis and test stand complete
data TestEnd : State → WrittenAxis → NodeTest Use → Context → Type 0 where
  by_name : {a : WrittenAxis} {k : ℕ} {n : List ℕ} {x : Context} → TestEnd (in_test a k n x) a (named (record { place = k; name = n })) x
  by_call : {a : WrittenAxis} {t : NodeTest Use} {x : Context} → TestEnd (after_call a t x) a t x

-- what follows a name is the same as what follows a call, but for a byte of a name and for `(`
test-end-step : {q : State} {a : WrittenAxis} {t : NodeTest Use} {x : Context} → TestEnd q a t x → (k b : ℕ) → continues_name b ≡ false → eqb b 0x28 ≡ false
    → step q k b ≡ tested a t x k b
unfolding step
test-end-step by_name k b e f = rw (e, f)
test-end-step by_call k b e f = refl

name-begins : (a : WrittenAxis) (x : Context) (k b : ℕ) → starts_name b ≡ true → step (before_test a x) k b ≡ in_test a k (b ∷ []) x
unfolding step
name-begins a x k b e = rw e

name-read : (a : WrittenAxis) (n : List ℕ) (x : Context) (k : ℕ) → T (is_name n) → final bundle_machine (before_test a x) n k ≡ in_test a k n x
name-read a [] x k t = absurd t
name-read a (b ∷ n) x k t =
    let c = and_cases (starts_name b) (all_of continues_name n && leb (length (b ∷ n)) max_name_bytes) t in
    let d = and_cases (all_of continues_name n) (leb (length (b ∷ n)) max_name_bytes) c.1 in
    rw (name-begins a x k b (true_of (starts_name b) c.0)) (name-final (test-naming a k x) (b ∷ []) n (suc k) d.0 (omega (arith, leb→le (length (b ∷ n)) max_name_bytes d.1)))

test_read : {k : ℕ} {w : List ℕ} {t : NodeTest Use} → TestText k w t → (a : WrittenAxis) (x : Context) → TestEnd (final bundle_machine (before_test a x) w k) a t x
unfolding step
test_read {k} (a-name n h) a x = rw (name-read a n x k h) by_name
test_read any-node a x = by_call
test_read any-text a x = by_call

plain-read : {k : ℕ} {w : List ℕ} {p : PlainStep Use} → PlainText k w p → (x : Context) → TestEnd (final bundle_machine (begin_step x) w k) p.axis p.test x
plain-read {k} (plain {w = w} a t) x = rw (final-append bundle_machine (begin_step x) (spell_axis a) w k, axis-read a x k) (test_read t a x)

-- ---- in brackets. A state after the last step of an alternative, with the brackets that this step leaves
data AlternativeEnd : State → Inner → Type 0 where
  alternative-end : {q : State} {a : WrittenAxis} {t : NodeTest Use} {i : Inner} → TestEnd q a t (inside i) → AlternativeEnd q (with_plain a t i)

next-in-alternative : {q : State} {i : Inner} → AlternativeEnd q i → (k : ℕ) → step q k 0x2F ≡ begin_step (inside i)
next-in-alternative (alternative-end c) k = test-end-step c k 0x2F refl refl

alternative-closed : {q : State} {i : Inner} → AlternativeEnd q i → (k : ℕ) → step q k 0x5D ≡ after_brackets (bracketed (with_alternative i))
alternative-closed (alternative-end c) k = test-end-step c k 0x5D refl refl

alternative-parted : {q : State} {i : Inner} → AlternativeEnd q i → (r : List ℕ) (k : ℕ)
    → final bundle_machine q (or_word ++ r) k ≡ final bundle_machine (begin_step (inside (with_alternative i))) r (k + length or_word)
unfolding step
alternative-parted {q} {i} (alternative-end c) r k =
    rw (test-end-step c k 0x20 refl refl) (ap (final bundle_machine (begin_step (inside (with_alternative i))) r) (omega arith))

with_steps : List (PlainStep Use) → Inner → Inner
with_steps q i = record { outer = i.outer; axis = i.axis; test = i.test; alternatives = i.alternatives; steps = reverse_aux q i.steps }

alternative-read : {k : ℕ} {w : List ℕ} {q : List (PlainStep Use)} → AlternativeText k w q → (i : Inner)
    → AlternativeEnd (final bundle_machine (begin_step (inside i)) w k) (with_steps q i)
unfolding with_steps
alternative-read (one-step p) i = alternative-end (plain-read p (inside i))
alternative-read {k} (more-steps {w = w} {r = r} {p = p} s a) i =
    rw (final-append bundle_machine (begin_step (inside i)) w (0x2F ∷ r) k, next-in-alternative (alternative-end (plain-read s (inside i))) (k + length w))
    (alternative-read a (with_plain p.axis p.test i))

-- a state after the last alternative, with the brackets that it leaves
data ConditionEnd : State → Inner → Type 0 where
  condition-end : {q : State} {i : Inner} → AlternativeEnd q i → ConditionEnd q (with_alternative i)

condition-closed : {q : State} {i : Inner} → ConditionEnd q i → (k : ℕ) → step q k 0x5D ≡ after_brackets (bracketed i)
condition-closed (condition-end e) k = alternative-closed e k

-- the brackets of a step of o, with complete alternatives
abbrev opened : Outer → WrittenAxis → NodeTest Use → List (List (PlainStep Use)) → Inner
opened o a t c = record { outer = o; axis = a; test = t; alternatives = c; steps = [] }

condition-read : {k : ℕ} {w : List ℕ} {c : List (List (PlainStep Use))} → ConditionText k w c → (o : Outer) (a : WrittenAxis) (t : NodeTest Use) (d : List (List (PlainStep Use)))
    → ConditionEnd (final bundle_machine (begin_step (inside (opened o a t d))) w k) (opened o a t (reverse_aux c d))
unfolding with_steps
condition-read {k} {w} (one-alternative {q = q} x) o a t d =
    subst (λ (l : List (PlainStep Use)). ConditionEnd (final bundle_machine (begin_step (inside (opened o a t d))) w k) (opened o a t (l ∷ d))) (reverse-reverse q)
    (condition-end (alternative-read x (opened o a t d)))
condition-read {k} (more-alternatives {w = w} {r = r} {q = q} {qs = qs} x y) o a t d =
    rw (final-append bundle_machine (begin_step (inside (opened o a t d))) w (or_word ++ r) k, alternative-parted (alternative-read x (opened o a t d)) r (k + length w))
    (subst (λ (l : List (PlainStep Use)). ConditionEnd (final bundle_machine (begin_step (inside (opened o a t (l ∷ d)))) r (k + length w + length or_word)) (opened o a t (reverse_aux qs (q ∷ d))))
    (sym (reverse-reverse q)) (condition-read y o a t (q ∷ d)))

-- ---- a state after a step, with the path that it leaves
data StepEnd : State → Outer → Type 0 where
  bare-end : {q : State} {a : WrittenAxis} {t : NodeTest Use} {o : Outer} → TestEnd q a t (outside o) → StepEnd q (with_step a t unconditional o)
  brackets-end : {o : Outer} → StepEnd (after_brackets o) o

next-in-path : {q : State} {o : Outer} → StepEnd q o → (k : ℕ) → step q k 0x2F ≡ begin_step (outside o)
unfolding step
next-in-path (bare-end c) k = test-end-step c k 0x2F refl refl
next-in-path brackets-end k = refl

path-closed : {q : State} {o : Outer} → StepEnd q o → (k : ℕ)
    → step q k 0x0A ≡ line_start (path_read o.start (k - o.start) (reverse o.steps) ∷ o.paths)
unfolding step
path-closed (bare-end c) k = test-end-step c k 0x0A refl refl
path-closed brackets-end k = refl

step-read : {k : ℕ} {w : List ℕ} {p : WrittenStep Use (Condition Use)} → StepText k w p → (o : Outer)
    → StepEnd (final bundle_machine (begin_step (outside o)) w k) (with_step p.axis p.test p.condition o)
step-read (bare p) o = bare-end (plain-read p (outside o))
step-read {k} (conditional {w = w} {r = r} {p = p} {qs = qs} s d) o = subst (λ (q : State). StepEnd q (with_step p.axis p.test (alternatives qs) o)) (sym closed) brackets-end
  where
    closed : final bundle_machine (begin_step (outside o)) (w ++ (0x5B ∷ (r ++ (0x5D ∷ [])))) k ≡ after_brackets (with_step p.axis p.test (alternatives qs) o)
    closed =
        final-append bundle_machine (begin_step (outside o)) w (0x5B ∷ (r ++ (0x5D ∷ []))) k
        ∙ ap (λ (q : State). final bundle_machine q (r ++ (0x5D ∷ [])) (suc (k + length w))) (test-end-step (plain-read s (outside o)) (k + length w) 0x5B refl refl)
        ∙ final-append bundle_machine (begin_step (inside (opened o p.axis p.test []))) r (0x5D ∷ []) (suc (k + length w))
        ∙ condition-closed (condition-read d o p.axis p.test []) (suc (k + length w) + length r)
        ∙ ap (λ (l : List (List (PlainStep Use))). after_brackets (with_step p.axis p.test (alternatives l) o)) (reverse-reverse qs)

with_path : List (WrittenStep Use (Condition Use)) → Outer → Outer
with_path p o = record { paths = o.paths; start = o.start; steps = reverse_aux p o.steps }

path-read : {k : ℕ} {w : List ℕ} {p : List (WrittenStep Use (Condition Use))} → PathText k w p → (o : Outer) → StepEnd (final bundle_machine (begin_step (outside o)) w k) (with_path p o)
unfolding with_path
path-read (last_step s) o = step-read s o
path-read {k} (next-step {w = w} {r = r} {p = p} s q) o =
    rw (final-append bundle_machine (begin_step (outside o)) w (0x2F ∷ r) k, next-in-path (step-read s o) (k + length w))
    (path-read q (with_step p.axis p.test p.condition o))

-- ---- lines
axis-filled : (a : WrittenAxis) (w : List ℕ) → is_empty (spell_axis a ++ w) ≡ false
axis-filled (along self) w = refl
axis-filled (along child) w = refl
axis-filled (along descendant) w = refl
axis-filled (along descendant_or_self) w = refl
axis-filled (along parent) w = refl
axis-filled (along ancestor) w = refl
axis-filled (along ancestor_or_self) w = refl
axis-filled following w = refl
axis-filled following_sibling w = refl
axis-filled preceding w = refl
axis-filled preceding_sibling w = refl

append-filled : (w v : List ℕ) → is_empty w ≡ false → is_empty (w ++ v) ≡ false
append-filled [] v e = cc
append-filled (b ∷ w) v e = refl

plain-filled : {k : ℕ} {w : List ℕ} {p : PlainStep Use} → PlainText k w p → is_empty w ≡ false
plain-filled (plain {w = w} a t) = axis-filled a w

step-filled : {k : ℕ} {w : List ℕ} {p : WrittenStep Use (Condition Use)} → StepText k w p → is_empty w ≡ false
step-filled (bare p) = plain-filled p
step-filled (conditional {w = w} {r = r} p c) = append-filled w (0x5B ∷ (r ++ (0x5D ∷ []))) (plain-filled p)

path-filled : {k : ℕ} {w : List ℕ} {p : List (WrittenStep Use (Condition Use))} → PathText k w p → is_empty w ≡ false
path-filled (last_step s) = step-filled s
path-filled (next-step {w = w} {r = r} s q) = append-filled w (0x2F ∷ r) (step-filled s)

-- at the start of a line a path begins
abbrev line : List PathRead → ℕ → Outer
line ps k = record { paths = ps; start = k; steps = [] }

line-begins : (w : List ℕ) → is_empty w ≡ false → (ps : List PathRead) (k : ℕ) → final bundle_machine (line_start ps) w k ≡ final bundle_machine (begin_step (outside (line ps k))) w k
unfolding step
line-begins [] e ps k = cc
line-begins (b ∷ w) e ps k = refl

line_read : {k : ℕ} {w : List ℕ} {p : List (WrittenStep Use (Condition Use))} → PathText k w p → (r : List ℕ) (ps : List PathRead)
    → final bundle_machine (line_start ps) (w ++ (0x0A ∷ r)) k ≡ final bundle_machine (line_start (path_read k (length w) p ∷ ps)) r (suc (k + length w))
unfolding with_path
line_read {k} {w} {p} t r ps =
    line-begins (w ++ (0x0A ∷ r)) (append-filled w (0x0A ∷ r) (path-filled t)) ps k
    ∙ final-append bundle_machine (begin_step (outside (line ps k))) w (0x0A ∷ r) k
    ∙ ap (λ (q : State). final bundle_machine q r (suc (k + length w))) (path-closed (path-read t (line ps k)) (k + length w) ∙ same-path (omega arith) (reverse-reverse p))
  where
    same-path : k + length w - k ≡ length w → reverse (reverse p) ≡ p
        → line_start (path_read k (k + length w - k) (reverse (reverse p)) ∷ ps) ≡ line_start (path_read k (length w) p ∷ ps)
    same-path e f = rw (e, f)

lines-read : {k : ℕ} {w : List ℕ} {ps : List PathRead} → BundleText k w ps → (qs : List PathRead) → final bundle_machine (line_start qs) w k ≡ line_start (reverse_aux ps qs)
lines-read (last-path t) qs = line_read t [] qs
lines-read {k} (next-path {w = w} {r = r} {s = s} t b) qs = line_read t r qs ∙ lines-read b (path_read k (length w) s ∷ qs)

ends_some : (qs : List PathRead) → is_empty qs ≡ false → ends (line_start qs) ≡ some (reverse qs)
ends_some [] e = cc
ends_some (q ∷ qs) e = refl

bundle-filled : {k : ℕ} {w : List ℕ} {ps : List PathRead} → BundleText k w ps → is_empty (reverse ps) ≡ false
bundle-filled (last-path t) = refl
bundle-filled {k} (next-path {w = w} {s = s} {ps = ps} t b) = reversed-filled ps (path_read k (length w) s ∷ []) refl

pub parse-complete : {text : List ℕ} {ps : List PathRead} → BundleText 0 text ps → parse text ≡ spells ps
unfolding parse
parse-complete {text} {ps} b =
    let e : final bundle_machine (line_start []) text 0 ≡ line_start (reverse ps) = lines-read b [] in
    final-spells bundle-dead (line_start []) text 0 (ap ends e ∙ ends_some (reverse ps) (bundle-filled b)) ∙ ap {B = Parsed (List PathRead)} spells (reverse-reverse ps)
