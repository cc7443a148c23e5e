use Rattle.listing_text.specs.nodes.Nodes.{first-room, second-room, third-room, fourth-pass, fifth-room, line-written}
use Rattle.listing_text.proofs.nodes.put_line.Goals as goal

pub put_decimal-first-requires : goal.put_decimal-first-requires
put_decimal-first-requires c =
    first-room _ _ _ _ _ _ _ c.requires c.args.number 0

pub put_number-second-requires : goal.put_number-second-requires
put_number-second-requires c =
    second-room _ _ _ _ _ _ _ c.requires c.args.number 0 _ _ c.put_decimal-first.ensures

pub put_text-third-requires : goal.put_text-third-requires
put_text-third-requires c =
    third-room _ _ _ _ _ _ _ c.requires c.args.number c.args.place _ _ c.put_decimal-first.ensures _ _ c.put_number-second.ensures

pub put_tags-fourth-requires : goal.put_tags-fourth-requires
put_tags-fourth-requires c =
    fourth-pass _ _ _ _ _ _ _ c.requires c.args.number c.args.place _ _ c.put_decimal-first.ensures _ _ c.put_number-second.ensures _ _ c.put_text-third.ensures

pub put_text-requires : goal.put_text-requires
put_text-requires c =
    fifth-room _ _ _ _ _ _ _ c.requires c.args.number c.args.place _ _ c.put_decimal-first.ensures _ _ c.put_number-second.ensures _ _ c.put_text-third.ensures _ _ c.put_tags-fourth.ensures

pub returns : goal.returns
returns c =
    line-written _ _ _ _ _ _ _ c.requires c.args.number c.args.place _ _ c.put_decimal-first.ensures _ _ c.put_number-second.ensures _ _ c.put_text-third.ensures _ _ c.put_tags-fourth.ensures _ _ c.put_text.ensures
