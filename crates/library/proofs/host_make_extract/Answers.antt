-- `host_make_extract` meets its contract, that of the function it calls.
use Rattle.library.proofs.host_make_extract.Goals as goal

pub returns : goal.returns
returns c = c.make_extract.ensures
