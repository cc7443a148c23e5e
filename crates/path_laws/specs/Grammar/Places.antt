-- A bundle text that the machine does not spell departs from the grammar at the machine's place: refusal 8.
use Rattle.std.specs.Prelude.{Bool, true, false, cond, List, [], ◌∷◌, ◌++◌, ◌≡◌, refl, ℕ, suc, ◌+◌, eqb, ltb, length}
use Rattle.std.proofs.Math.Dec.{eqb_refl}
use Rattle.path_laws.specs.Grammar.Complete.{parse-complete}
use Rattle.path_laws.specs.Grammar.Machine.{bundle-dead, or-keyword}
use Rattle.path_laws.specs.Grammar.Sound.{parse-sound}
use Rattle.path_spec.specs.Conditions.{Grammatical}
use Rattle.path_spec.specs.Grammar.{PathRead, BundleText, node_call, text_call}
use Rattle.path_spec.specs.Machine.{Choice, all_choices, Outer, Inner, Context, outside, inside, State, dead, line_start, in_axis, before_test, in_test, in_call, after_call, in_or, after_brackets, is_dead, going_on, axis_by, begin_step, step_done, tested, step, bundle_machine, parse}
use Rattle.path_spec.specs.Paths.{WrittenAxis, NodeTest}
use Rattle.schema_spec.specs.Declarations.{Use}
use Rattle.text_laws.specs.Departures.{Recognises, Completion, completion-after, Completable, parse-departs as machine-departs, departs-parse as departs-machine}
use Rattle.text_laws.specs.Machines.{final}
use Rattle.text_laws.specs.Scans.{keyword-final}
use Rattle.text_laws.specs.Tests.{never, true_of}
use Rattle.text_spec.specs.Bytes.{starts_name, continues_name}
use Rattle.text_spec.specs.Limits.{max_name_bytes}
use Rattle.text_spec.specs.Lists.{bytes, is_empty, same_bytes}
use Rattle.text_spec.specs.Machines.{departs, matching}
use Rattle.text_spec.specs.Texts.{Departs}

-- ---- the states that are reached: something of an axis, and of ` or `, is still to come
data Reached : State → Type 0 where
  no_way : Reached dead
  at-line : {ps : List PathRead} → Reached (line_start ps)
  in-axis : {a : WrittenAxis} {b : ℕ} {w : List ℕ} {cs : List Choice} {x : Context} → Reached (in_axis (record { axis = a; rest = b ∷ w } ∷ cs) x)
  before-test : {a : WrittenAxis} {x : Context} → Reached (before_test a x)
  in-test : {a : WrittenAxis} {j : ℕ} {n : List ℕ} {x : Context} → Reached (in_test a j n x)
  in-call : {a : WrittenAxis} {t : NodeTest Use} {x : Context} → Reached (in_call a t x)
  after-call : {a : WrittenAxis} {t : NodeTest Use} {x : Context} → Reached (after_call a t x)
  in-or : {b : ℕ} {w : List ℕ} {i : Inner} → Reached (in_or (b ∷ w) i)
  after-brackets : {o : Outer} → Reached (after_brackets o)

by-test : {q r : State} (t : Bool) → Reached q → Reached r → Reached (cond t q r)
by-test true f g = f
by-test false f g = g

axis-reached : (cs : List Choice) (x : Context) → Reached (axis_by cs x)
axis-reached [] x = no_way
axis-reached (c ∷ cs) x = pick c.axis c.rest
  where
    pick : (a : WrittenAxis) (w : List ℕ) → Reached (cond (is_empty w) (before_test a x) (in_axis (record { axis = a; rest = w } ∷ cs) x))
    pick a [] = before-test
    pick a (b ∷ w) = in-axis

done-reached : {q : State} (o : Outer) (k b : ℕ) → Reached q → Reached (step_done o k b q)
done-reached o k b r = by-test (eqb b 0x2F) in-axis (by-test (eqb b 0x0A) at-line r)

tested-reached : (a : WrittenAxis) (t : NodeTest Use) (x : Context) (k b : ℕ) → Reached (tested a t x k b)
tested-reached a t (outside o) k b = done-reached _ k b (by-test (eqb b 0x5B) in-axis no_way)
tested-reached a t (inside i) k b = by-test (eqb b 0x2F) in-axis (by-test (eqb b 0x20) in-or (by-test (eqb b 0x5D) after-brackets no_way))

or-reached : (w : List ℕ) (i : Inner) (b : ℕ) → Reached (matching dead w b (begin_step (inside i)) (λ v. in_or v i))
or-reached [] i b = no_way
or-reached (c ∷ []) i b = by-test (eqb b c) in-axis no_way
or-reached (c ∷ d ∷ w) i b = by-test (eqb b c) in-or no_way

step-reached : {q : State} (k b : ℕ) → Reached q → Reached (step q k b)
unfolding step
step-reached k b no_way = no_way
step-reached k b at-line = axis-reached (going_on b all_choices) _
step-reached k b (in-axis {a = a} {b = d} {w = w} {cs = cs} {x = x}) = axis-reached (going_on b (record { axis = a; rest = d ∷ w } ∷ cs)) x
step-reached k b before-test = by-test (starts_name b) in-test no_way
step-reached k b (in-test {a = a} {j = j} {n = n} {x = x}) =
    by-test (continues_name b) (by-test (ltb (length n) max_name_bytes) in-test no_way)
    (by-test (eqb b 0x28) (by-test (same_bytes (n ++ bytes "()") node_call) in-call (by-test (same_bytes (n ++ bytes "()") text_call) in-call no_way)) (tested-reached a _ x k b))
step-reached k b in-call = by-test (eqb b 0x29) after-call no_way
step-reached k b (after-call {a = a} {t = t} {x = x}) = tested-reached a t x k b
step-reached k b (in-or {b = c} {w = w} {i = i}) = or-reached (c ∷ w) i b
step-reached k b (after-brackets {o = o}) = done-reached o k b no_way

-- ---- each of them but the dead one goes on to a bundle
test-goes-on : (a : WrittenAxis) (x : Context) (k : ℕ) → Completion bundle_machine (before_test a x) k
unfolding step
test-goes-on a (outside o) k = record { rest = bytes "a\n"; result = _; ends = refl }
test-goes-on a (inside i) k = record { rest = bytes "a]\n"; result = _; ends = refl }

name-goes-on : (a : WrittenAxis) (j : ℕ) (n : List ℕ) (x : Context) (k : ℕ) → Completion bundle_machine (in_test a j n x) k
unfolding step
name-goes-on a j n (outside o) k = record { rest = bytes "\n"; result = _; ends = refl }
name-goes-on a j n (inside i) k = record { rest = bytes "]\n"; result = _; ends = refl }

call-goes-on : (a : WrittenAxis) (t : NodeTest Use) (x : Context) (k : ℕ) → Completion bundle_machine (after_call a t x) k
unfolding step
call-goes-on a t (outside o) k = record { rest = bytes "\n"; result = _; ends = refl }
call-goes-on a t (inside i) k = record { rest = bytes "]\n"; result = _; ends = refl }

brackets-go-on : (o : Outer) (k : ℕ) → Completion bundle_machine (after_brackets o) k
unfolding step
brackets-go-on o k = record { rest = bytes "\n"; result = _; ends = refl }

open-call-goes-on : (a : WrittenAxis) (t : NodeTest Use) (x : Context) (k : ℕ) → Completion bundle_machine (in_call a t x) k
unfolding step
open-call-goes-on a t x k = completion-after (bytes ")") refl refl (call-goes-on a t x (k + length (bytes ")")))

-- the first axis that may still be meant is read to its end
axis-ends : (w : List ℕ) (b : ℕ) (a : WrittenAxis) (cs : List Choice) (x : Context) (k : ℕ)
    → final bundle_machine (in_axis (record { axis = a; rest = b ∷ w } ∷ cs) x) (b ∷ w) k ≡ before_test a x
unfolding step
axis-ends [] b a cs x k = rw (true_of (eqb b b) (eqb_refl b))
axis-ends (c ∷ w) b a cs x k = rw (true_of (eqb b b) (eqb_refl b)) (axis-ends w c a (going_on b cs) x (suc k))

axis-goes-on : (a : WrittenAxis) (b : ℕ) (w : List ℕ) (cs : List Choice) (x : Context) (k : ℕ) → Completion bundle_machine (in_axis (record { axis = a; rest = b ∷ w } ∷ cs) x) k
axis-goes-on a b w cs x k = completion-after (b ∷ w) (axis-ends w b a cs x k) refl (test-goes-on a x (k + length (b ∷ w)))

line-goes-on : (ps : List PathRead) (k : ℕ) → Completion bundle_machine (line_start ps) k
unfolding step
line-goes-on ps k = record { rest = bytes "self::a\n"; result = _; ends = refl }

goes_on_lem : {q : State} (k : ℕ) → Reached q → is_dead q ≡ false → Completion bundle_machine q k
goes_on_lem k no_way e = never (cc)
goes_on_lem k (at-line {ps = ps}) e = line-goes-on ps k
goes_on_lem k (in-axis {a = a} {b = b} {w = w} {cs = cs} {x = x}) e = axis-goes-on a b w cs x k
goes_on_lem k (before-test {a = a} {x = x}) e = test-goes-on a x k
goes_on_lem k (in-test {a = a} {j = j} {n = n} {x = x}) e = name-goes-on a j n x k
goes_on_lem k (in-call {a = a} {t = t} {x = x}) e = open-call-goes-on a t x k
goes_on_lem k (after-call {a = a} {t = t} {x = x}) e = call-goes-on a t x k
goes_on_lem k (in-or {b = b} {w = w} {i = i}) e = completion-after (b ∷ w) (keyword-final (or-keyword i) (b ∷ w) k) refl (axis-goes-on _ _ _ _ (inside i) (k + length (b ∷ w)))
goes_on_lem k (after-brackets {o = o}) e = brackets-go-on o k

bundle-completable : Completable bundle_machine Reached
bundle-completable = record { starts = at-line; steps = λ q k b r. step-reached k b r; completes = λ q k r e. goes_on_lem k r e }

bundle-recognised : Recognises bundle_machine (BundleText 0)
unfolding parse
bundle-recognised = record { complete = λ text ps b. parse-complete b; sound = λ text ps e. parse-sound e }

pub parse-departs : (text : List ℕ) (k : ℕ) → parse text ≡ departs k → Departs Grammatical text k
unfolding parse
parse-departs = machine-departs bundle-dead bundle-recognised bundle-completable

-- and where a text departs, the machine does not spell it
pub departs-parse : (text : List ℕ) (k : ℕ) → Departs Grammatical text k → parse text ≡ departs k
unfolding parse
departs-parse = departs-machine bundle-dead bundle-recognised bundle-completable
