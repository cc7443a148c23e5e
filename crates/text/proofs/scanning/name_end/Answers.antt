-- `name_end` meets its contract: the bytes from j up to e go on as a name.
use Rattle.std.proofs.Common.{sym, ◌∙◌, arith, rules}
use Rattle.text_laws.specs.Bytes.{starts-continues}
use Rattle.text_spec.specs.Bytes.{continues_name}
use Rattle.text_spec.specs.Scans.{byte_at}
use Rattle.text.proofs.scanning.Bytes.{each_none, each_more}
use Rattle.text.proofs.scanning.name_end.Goals as goal

pub loop-e-init : goal.loop-e-init
loop-e-init c =
    let s = c.args.s.now in
    let j = c.args.j in
    (search rules, each_more continues_name s j j (each_none continues_name s j) (starts-continues (byte_at s j) c.requires.1))

pub returns-then-not-continues_name : goal.returns-then-not-continues_name
returns-then-not-continues_name c =
    record { says = (omega arith, omega arith, omega arith, c.loop-e.invariant.1, λ _. sym c.continues_name.ensures ∙ c.if-not-continues_name.true) }

pub returns-then-e-j-ge-MAX_NAME_BYTES : goal.returns-then-e-j-ge-MAX_NAME_BYTES
returns-then-e-j-ge-MAX_NAME_BYTES c =
    let goes = sym c.continues_name.ensures ∙ c.if-not-continues_name.false in
    record { says = (omega arith, omega arith, each_more continues_name c.args.s.now _ _ c.loop-e.invariant.1 goes) }

pub loop-e-preserved : goal.loop-e-preserved
loop-e-preserved c =
    let goes = sym c.continues_name.ensures ∙ c.if-not-continues_name.false in
    (omega arith, each_more continues_name c.args.s.now _ _ c.loop-e.invariant.1 goes)

pub returns : goal.returns
returns c =
    record { says = (omega arith, omega arith, omega arith, λ k h l. c.loop-e.invariant.1 k h (omega arith), λ h. absurd (omega arith)) }
