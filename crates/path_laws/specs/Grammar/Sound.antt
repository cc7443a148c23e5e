-- What the machine spells is a bundle text of the grammar: what each state says of the text read so far.
use Rattle.std.specs.Prelude.{Bool, true, false, cond, List, [], ◌∷◌, ◌++◌, map, reverse, ◌≡◌, refl, ℕ, suc, ◌+◌, ◌-◌, T, eqb, ltb, length}
use Rattle.std.proofs.Common.{append_assoc, append-nil, sym, ap, subst, ◌∙◌, zero-add, arith, eqb→eq, ltb→lt, length-append}
use Rattle.path_laws.specs.Grammar.Joined.{Before, none_before, one_more, slash, line_feed, alternative-joined, condition-joined, path-joined, Line, a-line, Lines, no_lines, some-lines, lines-joined, reversed-filled}
use Rattle.path_laws.specs.Grammar.Machine.{ends-line}
use Rattle.path_spec.specs.Grammar.{PathRead, path_read, node_call, text_call, or_word, TestText, a-name, any-node, any-text, PlainText, plain, AlternativeText, StepText, bare, conditional, PathText, BundleText}
use Rattle.path_spec.specs.Machine.{Choice, all_choices, Outer, Inner, Context, outside, inside, State, dead, line_start, in_axis, before_test, in_test, in_call, after_call, in_or, after_brackets, goes_on, going_on, axis_by, begin_step, with_step, with_plain, with_alternative, bracketed, step_done, tested, call_of, step, bundle_machine, parse}
use Rattle.path_spec.specs.Paths.{WrittenAxis, written_axes, spell_axis, NodeTest, named, WrittenStep, PlainStep, Condition, alternatives}
use Rattle.schema_spec.specs.Declarations.{Use}
use Rattle.text_laws.specs.Bytes.{one-byte-name, name-snoc}
use Rattle.text_laws.specs.Lists.{bytes-equal}
use Rattle.text_laws.specs.Machines.{final, run-spells}
use Rattle.text_laws.specs.Tests.{never}
use Rattle.text_spec.specs.Bytes.{starts_name, continues_name, is_name}
use Rattle.text_spec.specs.Limits.{max_name_bytes}
use Rattle.text_spec.specs.Lists.{bytes, is_empty, same_bytes}
use Rattle.text_spec.specs.Machines.{spells, matching}

-- ---- a path before one of its steps: lines, then steps
data InPath : Outer → List ℕ → Type 0 where
  in_path : {ps : List PathRead} {l u : List ℕ} {s : List (WrittenStep Use (Condition Use))} → Before line_feed Line 0 l ps → Before slash StepText (length l) u s
      → InPath (record { paths = ps; start = length l; steps = s }) (l ++ u)

-- a path after one of its steps
data StepDone : Outer → List ℕ → Type 0 where
  step-done : {o : Outer} {u w : List ℕ} {p : WrittenStep Use (Condition Use)} → InPath o u → StepText (length u) w p
      → StepDone (with_step p.axis p.test p.condition o) (u ++ w)

done-slash : {o : Outer} {u : List ℕ} → StepDone o u → InPath o (u ++ slash)
done-slash (step-done {w = w} {p = p} (in_path {ps = ps} {l = l} {u = u} {s = s} b c) t) =
    subst (InPath (record { paths = ps; start = length l; steps = p ∷ s })) (simp append_assoc)
    (in_path b (one_more c (subst (λ (j : ℕ). StepText j w p) (length-append l u) t)))

done-line : {o : Outer} {u : List ℕ} → StepDone o u
    → Before line_feed Line 0 (u ++ line_feed) (path_read o.start (length u - o.start) (reverse o.steps) ∷ o.paths)
done-line (step-done {w = w} {p = p} (in_path {ps = ps} {l = l} {u = u} {s = s} b c) t) =
    let q : PathText (length l) (u ++ w) (reverse (p ∷ s)) = path-joined c (subst (λ (j : ℕ). StepText j w p) (length-append l u) t) in
    let r : Line (0 + length l) (u ++ w) (path_read (length l) (length (u ++ w)) (reverse (p ∷ s))) = rw zero-add (a-line q) in
    let e : length (u ++ w) ≡ length (l ++ u ++ w) - length l = omega (arith, length-append (l ++ u) w, length-append l u, length-append u w) in
    subst (λ (r : List ℕ). Before line_feed Line 0 r (path_read (length l) (length (l ++ u ++ w) - length l) (reverse (p ∷ s)) ∷ ps)) (simp append_assoc)
    (subst (λ (n : ℕ). Before line_feed Line 0 (l ++ (u ++ w ++ line_feed)) (path_read (length l) n (reverse (p ∷ s)) ∷ ps)) e
    (one_more b r))

-- ---- brackets before a step of one of their alternatives: the path, the step that carries them, alternatives, steps
data InAlternative : Inner → List ℕ → Type 0 where
  in-alternative : {o : Outer} {a : WrittenAxis} {t : NodeTest Use} {u w c s : List ℕ} {qs : List (List (PlainStep Use))} {ps : List (PlainStep Use)}
      → InPath o u → PlainText (length u) w (record { axis = a; test = t; condition = tt })
      → Before or_word AlternativeText (suc (length u + length w)) c qs → Before slash PlainText (suc (length u + length w) + length c) s ps
      → InAlternative (record { outer = o; axis = a; test = t; alternatives = qs; steps = ps }) (u ++ (w ++ (0x5B ∷ (c ++ s))))

-- brackets after a step, with its text
data PlainDone : Inner → List ℕ → Type 0 where
  plain_done : {i : Inner} {u w : List ℕ} {p : PlainStep Use} → InAlternative i u → PlainText (length u) w p → PlainDone (with_plain p.axis p.test i) (u ++ w)

-- where the next step stands
plain-place : (u w c s : List ℕ) → length (u ++ (w ++ (0x5B ∷ (c ++ s)))) ≡ suc (length u + length w) + length c + length s
plain-place u w c s = simp length-append (omega arith)

plain-slash : {i : Inner} {u : List ℕ} → PlainDone i u → InAlternative i (u ++ slash)
plain-slash (plain_done {w = v} {p = p} (in-alternative {o = o} {a = a} {t = t} {u = u} {w = w} {c = c} {s = s} {qs = qs} {ps = ps} b f d e) x) =
    subst (InAlternative (record { outer = o; axis = a; test = t; alternatives = qs; steps = p ∷ ps })) (simp append_assoc)
    (in-alternative b f d (one_more e (subst (λ (j : ℕ). PlainText j v p) (plain-place u w c s) x)))

plain-or : {i : Inner} {u : List ℕ} → PlainDone i u → InAlternative (with_alternative i) (u ++ or_word)
plain-or (plain_done {w = v} {p = p} (in-alternative {o = o} {a = a} {t = t} {u = u} {w = w} {c = c} {s = s} {qs = qs} {ps = ps} b f d e) x) =
    subst (InAlternative (record { outer = o; axis = a; test = t; alternatives = reverse (p ∷ ps) ∷ qs; steps = [] })) (simp (append_assoc, append-nil))
    (in-alternative b f (one_more d (alternative-joined e (subst (λ (j : ℕ). PlainText j v p) (plain-place u w c s) x))) none_before)

plain_closed : {i : Inner} {u : List ℕ} → PlainDone i u → StepDone (bracketed (with_alternative i)) (u ++ (0x5D ∷ []))
plain_closed (plain_done {w = v} {p = p} (in-alternative {o = o} {a = a} {t = t} {u = u} {w = w} {c = c} {s = s} {qs = qs} {ps = ps} b f d e) x) =
    subst (StepDone (with_step a t (alternatives (reverse (reverse (p ∷ ps) ∷ qs))) o)) (simp append_assoc)
    (step-done b (conditional f (condition-joined d (alternative-joined e (subst (λ (j : ℕ). PlainText j v p) (plain-place u w c s) x)))))

data InContext : Context → List ℕ → Type 0 where
  in-outer : {o : Outer} {u : List ℕ} → InPath o u → InContext (outside o) u
  in_inner : {i : Inner} {u : List ℕ} → InAlternative i u → InContext (inside i) u

-- the axes that may still be meant begin with v
data Meant (v : List ℕ) : List Choice → Type 0 where
  none-meant : Meant v []
  also-meant : {c : Choice} {cs : List Choice} → spell_axis c.axis ≡ v ++ c.rest → Meant v cs → Meant v (c ∷ cs)

-- ---- what each state says of the text read so far
data Read : State → List ℕ → Type 0 where
  no_way : {u : List ℕ} → Read dead u
  at-line : {ps : List PathRead} {u : List ℕ} → Before line_feed Line 0 u ps → Read (line_start ps) u
  in-axis : {cs : List Choice} {x : Context} {u v : List ℕ} → InContext x u → Meant v cs → Read (in_axis cs x) (u ++ v)
  before-test : {a : WrittenAxis} {x : Context} {u : List ℕ} → InContext x u → Read (before_test a x) (u ++ spell_axis a)
  in-test : {a : WrittenAxis} {j : ℕ} {n : List ℕ} {x : Context} {u : List ℕ} → InContext x u → j ≡ length u + length (spell_axis a) → T (is_name n)
      → Read (in_test a j n x) (u ++ (spell_axis a ++ n))
  in-call : {a : WrittenAxis} {t : NodeTest Use} {x : Context} {u : List ℕ} (n : List ℕ) → InContext x u → ((k : ℕ) → TestText k (n ++ (0x29 ∷ [])) t)
      → Read (in_call a t x) (u ++ (spell_axis a ++ n))
  after-call : {a : WrittenAxis} {t : NodeTest Use} {x : Context} {u n : List ℕ} → InContext x u → ((k : ℕ) → TestText k n t)
      → Read (after_call a t x) (u ++ (spell_axis a ++ n))
  in-or : {i : Inner} {w : List ℕ} (u v : List ℕ) → InAlternative i (u ++ (v ++ w)) → Read (in_or w i) (u ++ v)
  after-brackets : {o : Outer} {u : List ℕ} → StepDone o u → Read (after_brackets o) u

-- a choice by a test, and by whether the byte b is c
by-test : {q r : State} {u : List ℕ} (t : Bool) → (T t → Read q u) → (t ≡ false → Read r u) → Read (cond t q r) u
by-test true f g = f tt
by-test false f g = g refl

by_byte : {q r : State} (u : List ℕ) (b c : ℕ) → Read q (u ++ (c ∷ [])) → Read r (u ++ (b ∷ [])) → Read (cond (eqb b c) q r) (u ++ (b ∷ []))
by_byte {q} u b c f g = by-test (eqb b c) (λ t. subst (λ (d : ℕ). Read q (u ++ (d ∷ []))) (sym (eqb→eq b c t)) f) (λ e. g)

-- ---- axes
meant-by : (axes : List WrittenAxis) → Meant [] (map (λ a. record { axis = a; rest = spell_axis a }) axes)
meant-by [] = none-meant
meant-by (a ∷ axes) = also-meant refl (meant-by axes)

all-meant : Meant [] all_choices
all-meant = meant-by written_axes

begins : {x : Context} {u : List ℕ} → InContext x u → Read (begin_step x) u
begins {x} {u} i = subst (Read (begin_step x)) (append-nil u) (in-axis i all-meant)

goes_on_lem : (v : List ℕ) (b : ℕ) (a : WrittenAxis) (r : List ℕ) {later : List Choice} → spell_axis a ≡ v ++ r → Meant (v ++ (b ∷ [])) later
    → Meant (v ++ (b ∷ [])) (goes_on b a r later)
goes_on_lem v b a [] e m = m
goes_on_lem v b a (d ∷ w) {later} e m = pick (eqb b d) (eqb→eq b d)
  where
    pick : (t : Bool) → (T t → b ≡ d) → Meant (v ++ (b ∷ [])) (cond t (record { axis = a; rest = w } ∷ later) later)
    pick true h = also-meant (e ∙ ap (λ (c : ℕ). v ++ (c ∷ w)) (sym (h tt)) ∙ sym (append_assoc v (b ∷ []) w)) m
    pick false h = m

going_on_lem : {v : List ℕ} {cs : List Choice} (b : ℕ) → Meant v cs → Meant (v ++ (b ∷ [])) (going_on b cs)
going_on_lem b none-meant = none-meant
going_on_lem {v} b (also-meant {c = c} e m) = goes_on_lem v b c.axis c.rest e (going_on_lem b m)

axis-by : {v u : List ℕ} {cs : List Choice} {x : Context} → InContext x u → Meant v cs → Read (axis_by cs x) (u ++ v)
axis-by i none-meant = no_way
axis-by {v} {u} {x} i (also-meant {c = c} {cs = cs} e m) = pick c.axis c.rest e
  where
    pick : (a : WrittenAxis) (r : List ℕ) → spell_axis a ≡ v ++ r → Read (cond (is_empty r) (before_test a x) (in_axis (record { axis = a; rest = r } ∷ cs) x)) (u ++ v)
    pick a [] f = subst (λ (l : List ℕ). Read (before_test a x) (u ++ l)) (f ∙ append-nil v) (before-test i)
    pick a (d ∷ r) f = in-axis i (also-meant f m)

axis-byte : {v u : List ℕ} {cs : List Choice} {x : Context} (b : ℕ) → InContext x u → Meant v cs → Read (axis_by (going_on b cs) x) (u ++ v ++ (b ∷ []))
axis-byte {v} {u} {cs} {x} b i m = rw append_assoc (axis-by i (going_on_lem b m))

-- ---- the byte after a step
done-byte : {o : Outer} {u : List ℕ} {q : State} (b : ℕ) → StepDone o u → Read q (u ++ (b ∷ [])) → Read (step_done o (length u) b q) (u ++ (b ∷ []))
done-byte {u} b d f = by_byte u b 0x2F (begins (in-outer (done-slash d))) (by_byte u b 0x0A (at-line (done-line d)) f)

opens : {o : Outer} {u w : List ℕ} {p : PlainStep Use} → InPath o u → PlainText (length u) w p
    → InAlternative (record { outer = o; axis = p.axis; test = p.test; alternatives = []; steps = [] }) (u ++ w ++ (0x5B ∷ []))
opens i t = rw append_assoc (in-alternative i t none_before none_before)

tested-byte : {x : Context} {u w : List ℕ} {p : PlainStep Use} (b : ℕ) → InContext x u → PlainText (length u) w p
    → Read (tested p.axis p.test x (length (u ++ w)) b) (u ++ w ++ (b ∷ []))
tested-byte {u} {w} b (in-outer i) t = done-byte b (step-done i (bare t)) (by_byte (u ++ w) b 0x5B (begins (in_inner (opens i t))) no_way)
tested-byte {u} {w} b (in_inner i) t =
    let d = plain_done i t in
    by_byte (u ++ w) b 0x2F (begins (in_inner (plain-slash d)))
    (by_byte (u ++ w) b 0x20 (in-or (u ++ w) (0x20 ∷ []) (plain-or d)) (by_byte (u ++ w) b 0x5D (after-brackets (plain_closed d)) no_way))

-- ---- names and calls
-- a call: its name, then `(`
calls : {a : WrittenAxis} {t : NodeTest Use} {x : Context} {u : List ℕ} (n w : List ℕ) → InContext x u → ((k : ℕ) → TestText k w t) → T (same_bytes (n ++ bytes "()") w)
    → Read (in_call a t x) (u ++ (spell_axis a ++ n) ++ (0x28 ∷ []))
calls {a} {t} {x} {u} n w i f h =
    subst (Read (in_call a t x)) (simp append_assoc)
    (in-call (n ++ (0x28 ∷ [])) i (λ k. subst (λ (l : List ℕ). TestText k l t) (sym (bytes-equal (n ++ bytes "()") w h) ∙ sym (append_assoc n (0x28 ∷ []) (0x29 ∷ []))) (f k)))

call-of : (a : WrittenAxis) {x : Context} {u : List ℕ} (n : List ℕ) → InContext x u → Read (call_of a n x) (u ++ (spell_axis a ++ n) ++ (0x28 ∷ []))
call-of a n i =
    by-test (same_bytes (n ++ bytes "()") node_call) (λ h. calls n node_call i (λ k. any-node) h)
    (λ e. by-test (same_bytes (n ++ bytes "()") text_call) (λ h. calls n text_call i (λ k. any-text) h) (λ e. no_way))

-- ---- a byte in ` or `
or_byte : {i : Inner} (u v w : List ℕ) (b : ℕ) → InAlternative i (u ++ (v ++ w)) → Read (matching dead w b (begin_step (inside i)) (λ r. in_or r i)) (u ++ v ++ (b ∷ []))
or_byte u v [] b x = no_way
or_byte u v (c ∷ []) b x = by_byte (u ++ v) b c (begins (in_inner (rw append_assoc x))) no_way
or_byte {i} u v (c ∷ d ∷ w) b x = by_byte (u ++ v) b c (rw append_assoc (in-or {i = i} {w = d ∷ w} u (v ++ (c ∷ [])) (rw append_assoc x))) no_way

-- ---- a byte in any state
read_byte : {q : State} {u : List ℕ} (b : ℕ) → Read q u → Read (step q (length u) b) (u ++ (b ∷ []))
unfolding step
read_byte b no_way = no_way
read_byte b (at-line {ps = ps} {u = u} l) =
    let i : InPath (record { paths = ps; start = length u; steps = [] }) u = rw append-nil at (in_path l none_before) in
    rw append-nil at (axis-byte b (in-outer i) all-meant)
read_byte b (in-axis i m) = axis-byte b i m
read_byte b (before-test {a = a} {x = x} {u = u} i) =
    by-test (starts_name b) (λ t. rw append_assoc (in-test i (length-append u (spell_axis a)) (one-byte-name b t))) (λ e. no_way)
read_byte b (in-test {a = a} {j = j} {n = n} {x = x} {u = u} i e t) =
    by-test (continues_name b)
    (λ c. by-test (ltb (length n) max_name_bytes) (λ l. subst (Read (in_test a j (n ++ (b ∷ [])) x)) (simp append_assoc) (in-test i e (name-snoc n b t c (ltb→lt (length n) max_name_bytes l)))) (λ l. no_way))
    (λ c. by_byte (u ++ (spell_axis a ++ n)) b 0x28 (call-of a n i)
    (tested-byte b i (plain a (subst (λ (k : ℕ). TestText k n (named (record { place = j; name = n }))) e (a-name n t)))))
read_byte b (in-call {a = a} {t = t} {x = x} {u = u} n i f) =
    by_byte (u ++ (spell_axis a ++ n)) b 0x29 (subst (Read (after_call a t x)) (simp append_assoc) (after-call {n = n ++ (0x29 ∷ [])} i f)) no_way
read_byte b (after-call {a = a} i f) = tested-byte b i (plain a (f _))
read_byte b (in-or {w = w} u v i) = or_byte u v w b i
read_byte b (after-brackets d) = done-byte b d no_way

read-text : (v : List ℕ) {q : State} {u : List ℕ} → Read q u → Read (final bundle_machine q v (length u)) (u ++ v)
read-text [] {q} {u} r = rw append-nil r
read-text (b ∷ v) {q} {u} r =
    let e : length (u ++ (b ∷ [])) ≡ suc (length u) = omega (arith, length-append u (b ∷ [])) in
    subst (λ (k : ℕ). Read (final bundle_machine (step q (length u) b) v k) (u ++ (b ∷ v))) e
    (subst (Read (final bundle_machine (step q (length u) b) v (length (u ++ (b ∷ []))))) (append_assoc u (b ∷ []) v) (read-text v (read_byte b r)))

lines_of : {ps : List PathRead} {u : List ℕ} → Read (line_start ps) u → Lines 0 u (reverse ps)
lines_of (at-line b) = lines-joined b

bundle-of : {k : ℕ} {u : List ℕ} {ps : List PathRead} → Lines k u ps → is_empty ps ≡ false → BundleText k u ps
bundle-of no_lines e = never (cc)
bundle-of (some-lines b) e = b

pub parse-sound : {text : List ℕ} {ps : List PathRead} → parse text ≡ spells ps → BundleText 0 text ps
unfolding parse
parse-sound {text} {ps} e =
    let r = ends-line (final bundle_machine (line_start []) text 0) (run-spells bundle_machine (line_start []) text 0 e) in
    let l : Lines 0 text (reverse (r.0 ∷ r.1)) = lines_of (subst (λ (q : State). Read q text) r.2 (read-text text (at-line none_before))) in
    subst (λ (qs : List PathRead). BundleText 0 text qs) (sym r.3) (bundle-of l (reversed-filled r.1 (r.0 ∷ []) refl))
