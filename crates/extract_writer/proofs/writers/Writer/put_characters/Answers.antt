-- `put_characters` meets its contract: a text as long as its characters is copied, any other is decoded.
use mathlib.Core.Path.{sym, ap}
use native.Mathlib.Omega.{arith}
use lib.ListN.{length}
use Rattle.extract_writer.specs.decoded_texts.Decoded.{copied-as, decoded-as}
use Rattle.extract_writer.specs.writers.Writers.{puts-as}
use Rattle.extract_writer.proofs.writers.Writer.put_characters.Goals as goal

pub put_all-requires : goal.put_all-requires
put_all-requires c = omega (arith, c.if-decoded-text.true, c.requires.room)

pub put_decoded-requires : goal.put_decoded-requires
put_decoded-requires c =
    omega (arith, ap length (decoded-as c.args.text.now c.args.decoded c.if-decoded-text.false), c.requires.spelt, c.requires.room)

pub returns-then-decoded-text : goal.returns-then-decoded-text
returns-then-decoded-text c = puts-as (sym (copied-as c.args.text.now c.args.decoded c.if-decoded-text.true)) c.put_all.ensures

pub returns-else-decoded-text : goal.returns-else-decoded-text
returns-else-decoded-text c = puts-as (sym (decoded-as c.args.text.now c.args.decoded c.if-decoded-text.false)) c.put_decoded.ensures
