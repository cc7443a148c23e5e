-- `measure` meets its contract: so many bytes and rows behind, in each turn a row more.
use native.Mathlib.Omega.{arith}
use Rattle.extract_writer.specs.rows.Measure.{measuring-none, rows_few, mark-low, measuring-next, measured, marked-bound}
use Rattle.extract_writer.proofs.rows.measure.Goals as goal

pub loop-r-init : goal.loop-r-init
loop-r-init c = measuring-none _ _ _

pub overflow_add-bytes : goal.overflow_add-bytes
overflow_add-bytes c =
    let loop = c.loop-r in
    omega (arith, loop.invariant.low, loop.invariant.within, c.requires.few, marked-bound _ _ _ _ c.marked_size-bytes.ensures (omega (arith, c.type_inv.decoded loop.r)))

pub overflow_cast-rows : goal.overflow_cast-rows
overflow_cast-rows c =
    let loop = c.loop-r in
    omega (arith, mark-low _ _ _ c.requires loop.r loop.bytes loop.rows loop.invariant c.loop-r-test.true)

pub overflow_add-rows : goal.overflow_add-rows
overflow_add-rows c =
    let loop = c.loop-r in
    omega
    (arith, mark-low _ _ _ c.requires loop.r loop.bytes loop.rows loop.invariant c.loop-r-test.true, rows_few _ _ _ c.requires loop.r loop.bytes loop.rows loop.invariant c.loop-r-test.true, c.requires.few)

pub loop-r-preserved : goal.loop-r-preserved
loop-r-preserved c =
    let loop = c.loop-r in
    measuring-next _ _ _ c.requires loop.r loop.bytes loop.rows loop.invariant c.loop-r-test.true _ c.marked_size-bytes.ensures (marked-bound _ _ _ _ c.marked_size-bytes.ensures (omega (arith, c.type_inv.decoded loop.r)))

pub returns : goal.returns
returns c =
    let loop = c.loop-r in
    measured _ _ _ loop.r loop.bytes loop.rows loop.invariant c.loop-r-test.false
