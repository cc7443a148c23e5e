-- `twice` meets its contract: none of the first i names is declared before it.
use Rattle.std.proofs.Common.{◌≡◌, true, false, refl, sym, ◌∙◌, get_or, arith, rules}
use Rattle.std.specs.Prelude.{is_some}
use Rattle.schema_reader.specs.declared_names.Naming.{among-by, twice-here, twice-later, twice-never}
use Rattle.schema_reader.proofs.declared_names.twice.Goals as goal

pub returns-then-is_some : goal.returns-then-is_some
returns-then-is_some c =
    let l = c.loop-i in
    let g = c.args in
    let t : is_some c.find.result ≡ true = search rules in
    sym (l.invariant ∙ twice-here g.s.now g.names.now l.i c.loop-i-test.true (sym (among-by g.s.now g.names.now _ l.i (get_or g.names.now l.i 0) (omega arith) refl c.find.result c.find.ensures) ∙ t))

pub loop-i-preserved : goal.loop-i-preserved
loop-i-preserved c =
    let l = c.loop-i in
    let g = c.args in
    let t : is_some c.find.result ≡ false = search rules in
    l.invariant ∙ twice-later g.s.now g.names.now l.i c.loop-i-test.true (sym (among-by g.s.now g.names.now _ l.i (get_or g.names.now l.i 0) (omega arith) refl c.find.result c.find.ensures) ∙ t)

pub returns : goal.returns
returns c =
    let l = c.loop-i in
    let g = c.args in
    sym (l.invariant ∙ twice-never g.s.now g.names.now l.i c.loop-i-test.false)
