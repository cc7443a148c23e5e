-- `keyword` meets its contract.
use Rattle.std.proofs.Common.{refl}
use Rattle.std.proofs.lemmas.Result.{err_from_is_err_and}
use Rattle.schema.proofs.declarations.Declarations.{keyword-not, keyword-fails, keyword-reads}
use Rattle.text.specs.scanning.OutcomeLaws.{spelt-end}
use Rattle.schema.proofs.declarations.keyword.Goals as goal

pub returns-then-s-at-ne60 : goal.returns-then-s-at-ne60
returns-then-s-at-ne60 c =
    record { says = keyword-not c.args.s.now c.args.at c.requires.0 (c.requires.1 c.requires.0) c.if-s-at-ne60.true }

pub returns-in_err-spell : goal.returns-in_err-spell
returns-in_err-spell c =
    let p = err_from_is_err_and c.from_residual.result c.from_residual.ensures.1 in
    rw (p.1, p.2) (record { says = keyword-fails c.args.s.now c.args.at c.requires.0 c.if-s-at-ne60.false c.in_err-spell.ensures refl })

pub space-requires : goal.space-requires
space-requires c = (spelt-end c.in_ok-spell.ensures refl).1

pub returns : goal.returns
returns c = keyword-reads c.args.s.now c.args.at c.requires.0 c.if-s-at-ne60.false c.in_ok-spell.ensures refl c.space.ensures
