-- `put_decoded` meets its contract: in each turn plain bytes and a character are written, so that less of the text is left.
use lib.ListN.{length}
use Rattle.extract_writer.specs.decoded_texts.Decoded.{Decoding}
use Rattle.extract_writer.proofs.writers.Writer.put_decoded.Given as goal

abbrev pub invariant-loop-plain : goal.invariant-loop-plain
invariant-loop-plain l = Decoding l.text l.rest l.initial.self l.self

abbrev pub decreases-loop-plain : goal.decreases-loop-plain
decreases-loop-plain l = length l.rest
