use Rattle.listing_text.specs.parts.Parts.{number-room, number_put}
use Rattle.listing_text.proofs.parts.put_number.Goals as goal

pub put_decimal-requires : goal.put_decimal-requires
put_decimal-requires c =
    let text = c.put_text-next.ensures in
    number-room _ _ _ c.args.n _ _ c.requires text

pub returns : goal.returns
returns c = number_put _ _ _ _ _ _ _ _ c.put_text-next.ensures c.put_decimal.ensures
