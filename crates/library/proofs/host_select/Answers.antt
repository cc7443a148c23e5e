-- `host_select` meets its contract, that of the function it calls.
use Rattle.library.proofs.host_select.Goals as goal

pub returns : goal.returns
returns c = c.select_from.ensures
