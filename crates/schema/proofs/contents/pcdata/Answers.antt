-- `pcdata` meets its contract: the keyword, blanks, and the byte after them.
use Rattle.std.proofs.Common.{◌≡◌, ◌≤◌, ◌<◌, length, refl, rules}
use Rattle.std.proofs.lemmas.Result.{err_from_is_err_and}
use Rattle.schema.proofs.contents.Contents.{pcdata-fails, pcdata-end, pcdata-close, pcdata-not}
use Rattle.text.specs.scanning.OutcomeLaws.{spelt-end}
use Rattle.text_spec.specs.Scans.{byte_at}
use Rattle.schema.proofs.contents.pcdata.Goals as goal

pub returns-in_err-spell : goal.returns-in_err-spell
returns-in_err-spell c =
    let p = err_from_is_err_and c.from_residual.result c.from_residual.ensures.1 in
    rw (p.1, p.2) (pcdata-fails c.in_err-spell.ensures refl)

pub skip-i-requires : goal.skip-i-requires
skip-i-requires c = (spelt-end c.in_ok-spell.ensures refl).1

pub returns-in-Some-eq41 : goal.returns-in-Some-eq41
returns-in-Some-eq41 c =
    let l : c.skip-i.result < length c.args.s.now = search rules in
    let e : byte_at c.args.s.now c.skip-i.result ≡ 41 = search rules in
    pcdata-close c.in_ok-spell.ensures refl c.skip-i.ensures l e

pub returns-in_default : goal.returns-in_default
returns-in_default c =
    let l : c.skip-i.result < length c.args.s.now = search rules in
    let e : byte_at c.args.s.now c.skip-i.result ≡ 41 → ⊥ = search rules in
    pcdata-not c.in_ok-spell.ensures refl c.skip-i.ensures l e

pub returns-in_default-2 : goal.returns-in_default-2
returns-in_default-2 c =
    let l : length c.args.s.now ≤ c.skip-i.result = search rules in
    pcdata-end c.in_ok-spell.ensures refl c.skip-i.ensures l
