use Rattle.listing_text.specs.parts.Parts.{refused-line-written}
use Rattle.listing_text.proofs.parts.put_refusal.Goals as goal

pub returns : goal.returns
returns c = refused-line-written c.args.refused c.number.ensures c.put_refusal_by.ensures
