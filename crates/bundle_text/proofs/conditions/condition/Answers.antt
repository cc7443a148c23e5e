-- `condition` meets its contract: alternative by alternative.
use Rattle.std.specs.Prelude.{◌||◌, ◌≡◌, Bool, true, false, Ok}
use Rattle.std.proofs.Common.{refl, ap, ◌∙◌, lt-ltb, le-ltb, ◌+◌}
use Rattle.std.proofs.lemmas.Result.{err_from_is_err_and}
use Rattle.bundle_text.specs.alternatives.ConditionLaws.{upto-start, upto-fails, upto-stop, upto-stops, upto_next, upto-closes}
use Rattle.text_spec.specs.Limits.{max_alternatives}
use Rattle.bundle_text.proofs.conditions.condition.Goals as goal

pub loop-end-init : goal.loop-end-init
loop-end-init c = upto-start c.requires.within c.requires.few

pub returns-in_err-end : goal.returns-in_err-end
returns-in_err-end c =
    let p = err_from_is_err_and c.from_residual.result c.from_residual.ensures.1 in
    rw (p.1, p.2) (upto-fails c.loop-end.invariant c.alternative.ensures c.in_err-end.was)

pub after_alternative-requires : goal.after_alternative-requires
after_alternative-requires c = upto-stop c.loop-end.invariant c.alternative.ensures c.in_ok-end.was

pub returns-in_err-next : goal.returns-in_err-next
returns-in_err-next c =
    let p = err_from_is_err_and c.from_residual-in_err-next.result c.from_residual-in_err-next.ensures.1 in
    rw (p.1, p.2) (upto-stops c.loop-end.invariant c.alternative.ensures c.in_ok-end.was refl c.after_alternative.ensures c.in_err-next.was)

pub loop-end-preserved : goal.loop-end-preserved
loop-end-preserved c =
    upto_next c.loop-end.invariant c.alternative.ensures c.in_ok-end.was refl c.after_alternative.ensures (c.in_ok-next.was ∙ ap Ok c.in-More.is)

-- either of two tests
first_holds : (a b : Bool) → a ≡ true → a ≡ (a || b)
first_holds a b e = rw e

first_fails : (a b : Bool) → a ≡ false → b ≡ (a || b)
first_fails a b e = rw e

pub returns-then-count-gt-MAX_ALTERNATIVES : goal.returns-then-count-gt-MAX_ALTERNATIVES
returns-then-count-gt-MAX_ALTERNATIVES c =
    upto-closes c.loop-end.invariant c.alternative.ensures c.in_ok-end.was refl c.after_alternative.ensures (c.in_ok-next.was ∙ ap Ok c.in-Close.is)
    (first_holds _ _ (lt-ltb max_alternatives (c.loop-end.count + 1) c.if-count-gt-MAX_ALTERNATIVES.true))

pub returns-else-count-gt-MAX_ALTERNATIVES : goal.returns-else-count-gt-MAX_ALTERNATIVES
returns-else-count-gt-MAX_ALTERNATIVES c =
    upto-closes c.loop-end.invariant c.alternative.ensures c.in_ok-end.was refl c.after_alternative.ensures (c.in_ok-next.was ∙ ap Ok c.in-Close.is)
    (first_fails _ _ (le-ltb max_alternatives (c.loop-end.count + 1) c.if-count-gt-MAX_ALTERNATIVES.false))
