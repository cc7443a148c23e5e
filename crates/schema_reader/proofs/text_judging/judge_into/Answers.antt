-- `judge_into` meets its contract: 2, then 3, then the others.
use Rattle.std.proofs.Common.{◌≡◌, length, rules}
use Rattle.schema_reader.specs.judging_laws.Outcomes.{refused-into, read-empty, read-long, read-foreign, readable}
use Rattle.schema_reader.proofs.text_judging.judge_into.Goals as goal
use Rattle.schema_reader.proofs.text_judging.judge_into.Goals.{then-is_empty-via-then-is_empty, then-is_empty-via-else-is_empty+then-text-gt-MAX_BYTES}

pub returns-then-is_empty : goal.returns-then-is_empty
returns-then-is_empty c =
    rw c.of.ensures
    (elim c.then-is_empty.branch [
      | then-is_empty-via-then-is_empty w ↦ (let e : length c.args.text.now ≡ 0 = search rules in refused-into (read-empty c.args.text.now e))
      | then-is_empty-via-else-is_empty+then-text-gt-MAX_BYTES w ↦ refused-into (read-long c.args.text.now w.if-text-gt-MAX_BYTES.true)
    ])

pub returns-in-Some : goal.returns-in-Some
returns-in-Some c =
    let e : length c.args.text.now ≡ 0 → ⊥ = search rules in
    rw c.at.ensures (refused-into (read-foreign c.args.text.now e c.if-text-gt-MAX_BYTES.false c.in-Some.ensures))

pub judge-requires : goal.judge-requires
judge-requires c =
    let e : length c.args.text.now ≡ 0 → ⊥ = search rules in
    (readable c.args.text.now e c.if-text-gt-MAX_BYTES.false c.in_default.ensures, c.requires.0, c.requires.1)
