-- `make_under` meets its contract: the journal's refusal, or its rows and the bytes.
use Rattle.std.specs.Prelude.{refl}
use Rattle.std.proofs.Common.{sym, ◌∙◌}
use native.Mathlib.Omega.{arith}
use Rattle.compiled_schema.specs.Places.{compiled-few}
use Rattle.host_making.specs.accepted.Making.{refused-made, first-asked, made-settled}
use Rattle.hosts.specs.columns.Rows.{rows-read}
use Rattle.text_laws.specs.Cells.{padded-zeros}
use Rattle.host_making.proofs.accepted.make_under.Goals as goal

pub read_compiled-requires : goal.read_compiled-requires
read_compiled-requires c =
    let pre = c.requires in
    (pre.made, omega arith, pre.equal)

pub write_under-requires : goal.write_under-requires
write_under-requires c =
    let pre = c.requires in
    let was = c.in-Ok.ensures.read in
    let rows = rows-read _ _ _ _ (was.answer pre.read) (was.cells pre.read) c.in-Ok.rows refl in
    (pre.shaped, compiled-few _ _ pre.made, first-asked _ _ pre.read _ _ pre.equal _ _ rows)

pub returns-in-Ok-clause-made : goal.returns-in-Ok-clause-made
returns-in-Ok-clause-made c =
    let pre = c.requires in
    let was = c.in-Ok.ensures.read in
    let rows = rows-read _ _ _ _ (was.answer pre.read) (was.cells pre.read) c.in-Ok.rows refl in
    made-settled _ _ pre.read _ _ pre.equal _ _ rows _ pre.made _ _ _ _ c.write_under.ensures.written

pub returns-in-Err-clause-made : goal.returns-in-Err-clause-made
returns-in-Err-clause-made c =
    let pre = c.requires in
    let was = c.in-Err.ensures.read in
    refused-made _ _ _ _ _ (was.answer pre.read) (was.cells pre.read) _ c.in-Err.refusal refl _ _ (c.fill.ensures.after (λ y e. e) ∙ sym (padded-zeros _))
