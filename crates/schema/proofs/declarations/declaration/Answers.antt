-- `declaration` meets its contract: keyword, name, content and end.
use Rattle.std.proofs.Common.{refl, arith, rules}
use Rattle.std.proofs.lemmas.Result.{err_from_is_err_and}
use Rattle.schema.proofs.declarations.Declarations.{declaration-fails, name-known, declaration-name-fails, content-known, declaration-content-fails, declaration-reads}
use Rattle.schema.proofs.declarations.declaration.Goals as goal

pub returns-in_err-name : goal.returns-in_err-name
returns-in_err-name c =
    let p = err_from_is_err_and c.from_residual.result c.from_residual.ensures.1 in
    rw (p.1, p.2) (record { says = declaration-fails c.in_err-name.ensures refl })

pub declared_name-requires : goal.declared_name-requires
declared_name-requires c = let k = name-known c.in_ok-name.ensures refl in (k.1, k.2)

pub returns-in_err-body : goal.returns-in_err-body
returns-in_err-body c =
    let p = err_from_is_err_and c.from_residual-in_err-body.result c.from_residual-in_err-body.ensures.1 in
    rw (p.1, p.2) (record { says = declaration-name-fails c.in_ok-name.ensures refl c.in_err-body.ensures refl })

pub body-requires : goal.body-requires
body-requires c =
    let k = name-known c.in_ok-name.ensures refl in
    let h = content-known c.in_ok-name.ensures refl c.in_ok-body.ensures refl in
    let n = c.requires.1 in
    let a = k.0 in
    let b = h.0 in
    (h.1, omega arith, h.2)

pub returns-in_err-read : goal.returns-in_err-read
returns-in_err-read c =
    let p = err_from_is_err_and c.from_residual-in_err-read.result c.from_residual-in_err-read.ensures.1 in
    rw (p.1, p.2) (record { says = declaration-content-fails c.in_ok-name.ensures refl c.in_ok-body.ensures refl _ refl c.in_err-read.ensures refl })

pub returns : goal.returns
returns c =
    let kept = c.in_ok-read.ensures.kept in
    let read = declaration-reads c.in_ok-name.ensures refl c.in_ok-body.ensures refl _ refl c.in_ok-read.ensures refl in
    search (rules, read, kept.uses, kept.predecessors)
