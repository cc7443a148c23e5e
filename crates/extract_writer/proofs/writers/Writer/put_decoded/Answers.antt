-- `put_decoded` meets its contract: in each turn plain bytes and a character are written, so that less of the text is left.
use mathlib.Core.Path.{ap}
use native.Mathlib.Omega.{arith}
use lib.ListN.{length}
use Rattle.extract_writer.specs.decoded_texts.Decoded.{decoding-none, decoding-room, rest-plain, decoding-all, plain-room, character-room, decoding-next, decoding-from}
use Rattle.extract_writer.proofs.writers.Writer.put_decoded.Goals as goal

pub loop-plain-init : goal.loop-plain-init
loop-plain-init c = decoding-none _ _

pub put_plain-requires : goal.put_plain-requires
put_plain-requires c = plain-room c.loop-plain.invariant _ c.in-Some.ensures c.requires

pub put_character-next-requires-clause-room : goal.put_character-next-requires-clause-room
put_character-next-requires-clause-room c = character-room c.loop-plain.invariant _ c.in-Some.ensures _ c.put_plain.ensures c.requires

pub loop-plain-preserved : goal.loop-plain-preserved
loop-plain-preserved c =
    decoding-from _ c.loop-plain.rest.now c.put_character-next.result _ _
    (decoding-next c.loop-plain.invariant _ c.in-Some.ensures _ c.put_plain.ensures _ _ c.put_character-next.ensures)

pub put_plain-requires-2 : goal.put_plain-requires-2
put_plain-requires-2 c =
    omega (arith, decoding-room c.loop-plain.invariant c.requires, ap length (rest-plain c.loop-plain.invariant c.in_default.ensures))

pub returns : goal.returns
returns c = decoding-all c.loop-plain.invariant c.in_default.ensures _ c.put_plain-2.ensures
