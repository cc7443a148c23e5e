use Rattle.listing.specs.Prints.{refusal-fits, taken}
use Rattle.listing.proofs.print_refusal.Goals as goal

pub slice_bounds-line-end : goal.slice_bounds-line-end
slice_bounds-line-end c = refusal-fits _ _ _ c.put_refusal-n.ensures

pub slice_bounds-write_all-end : goal.slice_bounds-write_all-end
slice_bounds-write_all-end c = taken _ _ (refusal-fits _ _ _ c.put_refusal-n.ensures)
