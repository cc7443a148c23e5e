-- `skip` meets its contract: the bytes from `at` up to i are blanks.
use Rattle.std.proofs.Common.{sym, ◌∙◌, arith}
use Rattle.text_spec.specs.Bytes.{is_blank}
use Rattle.text.proofs.scanning.Bytes.{each_none, each_more}
use Rattle.text.proofs.scanning.skip.Goals as goal

pub loop-i-init : goal.loop-i-init
loop-i-init c = each_none is_blank c.args.s.now _

pub returns-then-not-is_blank : goal.returns-then-not-is_blank
returns-then-not-is_blank c =
    record { low = omega arith; high = omega arith; blanks = c.loop-i.invariant; stop = λ _. sym c.is_blank.ensures ∙ c.if-not-is_blank.true }

pub loop-i-preserved : goal.loop-i-preserved
loop-i-preserved c =
    each_more is_blank c.args.s.now _ _ c.loop-i.invariant (sym c.is_blank.ensures ∙ c.if-not-is_blank.false)

pub returns : goal.returns
returns c =
    record { low = c.requires; high = omega arith; blanks = λ k h l. c.loop-i.invariant k h (omega arith); stop = λ h. absurd (omega arith) }
