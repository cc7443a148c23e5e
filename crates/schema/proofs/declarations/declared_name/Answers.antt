-- `declared_name` meets its contract.
use Rattle.std.proofs.Common.{◌≡◌, ◌≤◌, ◌<◌, true, false, length, refl, rules}
use Rattle.std.proofs.lemmas.Result.{err_from_is_err_and}
use Rattle.schema.proofs.declarations.Declarations.{name-end, name-not, name-fails, name-reads}
use Rattle.text.specs.scanning.OutcomeLaws.{named_end}
use Rattle.text_spec.specs.Bytes.{starts_name}
use Rattle.text_spec.specs.Scans.{byte_at}
use Rattle.schema.proofs.declarations.declared_name.Goals as goal

pub name_end-requires : goal.name_end-requires
name_end-requires c =
    let l : c.args.i < length c.args.s.now = search rules in
    let e : starts_name (byte_at c.args.s.now c.args.i) ≡ true = search rules in
    (l, e)

pub space-requires : goal.space-requires
space-requires c = (named_end c.in_ok-name_end-in-Some.ensures refl).1

pub returns-in_err-name_end-in-Some : goal.returns-in_err-name_end-in-Some
returns-in_err-name_end-in-Some c =
    let l : c.args.i < length c.args.s.now = search rules in
    let e : starts_name (byte_at c.args.s.now c.args.i) ≡ true = search rules in
    let p = err_from_is_err_and c.from_residual.result c.from_residual.ensures.1 in
    rw (p.1, p.2) (record { says = name-fails c.args.s.now c.args.i l (c.requires.1 l) e c.in_err-name_end-in-Some.ensures refl })

pub returns-in_ok-name_end-in-Some : goal.returns-in_ok-name_end-in-Some
returns-in_ok-name_end-in-Some c =
    let l : c.args.i < length c.args.s.now = search rules in
    let e : starts_name (byte_at c.args.s.now c.args.i) ≡ true = search rules in
    name-reads c.args.s.now c.args.i l (c.requires.1 l) e c.in_ok-name_end-in-Some.ensures refl c.space.ensures

pub returns-in_default : goal.returns-in_default
returns-in_default c =
    let l : c.args.i < length c.args.s.now = search rules in
    let e : starts_name (byte_at c.args.s.now c.args.i) ≡ false = search rules in
    record { says = name-not c.args.s.now c.args.i l (c.requires.1 l) e }

pub returns-in_default-2 : goal.returns-in_default-2
returns-in_default-2 c =
    let l : length c.args.s.now ≤ c.args.i = search rules in
    record { says = name-end c.args.s.now c.args.i l }
