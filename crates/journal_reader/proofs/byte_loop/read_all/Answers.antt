use Rattle.std.proofs.Common.{sym, subst, get_or}
use Prim.Native.Nat.{ℕ, ◌<◌}
use native.Mathlib.Nat.{lt_trans}
use Rattle.journal_lexer.specs.state.Places.{no_place}
use Rattle.journal_reader.specs.byte_loop.Whole.{none_read, more-read, all_read}
use Rattle.journal_reader.specs.rows.Kept.{same-all, same-then}
use Rattle.journal_reader.proofs.byte_loop.read_all.Goals as goal

pub loop-at-init : goal.loop-at-init
loop-at-init c = (same-all _, none_read c.start-x.ensures c.requires.0)

pub read_byte-x-requires : goal.read_byte-x-requires
read_byte-x-requires c =
    let at = c.loop-at in
    let read = at.invariant.1 in
    let byte = (c.type_inv.text at.at).fits in
    record {
      usable = read.usable;
      handed =
          record {
            room = subst (λ (k : ℕ). k < no_place) (sym read.place) (lt_trans c.loop-at-test.true c.requires.2);
            lent = read.usable.lent;
            byte = byte;
            kind = c.requires.1.kind (get_or c.args.text.now at.at 0) byte;
          };
      sized = c.requires.3;
      few = c.requires.4;
    }

pub loop-at-preserved : goal.loop-at-preserved
loop-at-preserved c =
    let read = c.loop-at.invariant in
    (same-then read.0 c.read_byte-x.ensures.same, more-read c.loop-at-test.true read.1 c.read_byte-x.ensures.read)

pub returns-clause-read : goal.returns-clause-read
returns-clause-read c = all_read c.loop-at.invariant.1 c.loop-at.auto.at-end c.loop-at-test.false
