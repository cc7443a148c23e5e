use native.Mathlib.Omega.{arith}
use Rattle.listing.specs.Prints.{header-fits, new-long, same-long, row-pass, row_fits_lem, taken}
use Rattle.listing.proofs.print_rows.Goals as goal

pub slice_bounds-line-end : goal.slice_bounds-line-end
slice_bounds-line-end c =
    header-fits c.args.listed.selected c.args.listed.kept c.args.listed.rows _ _ c.put_header-size.ensures

pub slice_bounds-write_all-end : goal.slice_bounds-write_all-end
slice_bounds-write_all-end c =
    taken _ _ (header-fits c.args.listed.selected c.args.listed.kept c.args.listed.rows _ _ c.put_header-size.ensures)

pub loop-r-init : goal.loop-r-init
loop-r-init c = new-long _ _ _ c.put_header-size.ensures

pub put_row-n-requires : goal.put_row-n-requires
put_row-n-requires c =
    let names = c.of-names.ensures in
    row-pass _ _ _ c.args.listed c.requires _ (omega arith) c.of-names.result names.text names.starts names.sizes _ c.loop-r.invariant

pub slice_bounds-line-end-in-loop-r : goal.slice_bounds-line-end-in-loop-r
slice_bounds-line-end-in-loop-r c =
    let names = c.of-names.ensures in
    row_fits_lem _ _ _ c.args.listed c.requires _ (omega arith) c.of-names.result names.text names.starts names.sizes _ _ _ c.loop-r.invariant c.put_row-n.ensures

pub slice_bounds-write_all-end-in-loop-r : goal.slice_bounds-write_all-end-in-loop-r
slice_bounds-write_all-end-in-loop-r c =
    let names = c.of-names.ensures in
    taken _ _ (row_fits_lem _ _ _ c.args.listed c.requires _ (omega arith) c.of-names.result names.text names.starts names.sizes _ _ _ c.loop-r.invariant c.put_row-n.ensures)

pub loop-r-preserved : goal.loop-r-preserved
loop-r-preserved c =
    same-long _ _ _ _ c.loop-r.invariant c.put_row-n.ensures
