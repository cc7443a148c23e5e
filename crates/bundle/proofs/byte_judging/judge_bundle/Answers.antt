-- `judge_bundle` meets its contract: 2, then 3, then the others.
use mathlib.Core.List.{map}
use Rattle.std.proofs.Common.{◌≡◌, length, rules}
use Rattle.bundle.specs.Outcomes.{judge-empty, judge-long, judge-foreign, readable}
use Rattle.text_spec.specs.Scans.{name_at}
use Rattle.bundle.proofs.byte_judging.judge_bundle.Goals as goal
use Rattle.bundle.proofs.byte_judging.judge_bundle.Goals.{then-is_empty-via-then-is_empty, then-is_empty-via-else-is_empty+then-text-gt-MAX_BYTES}

pub returns-then-is_empty : goal.returns-then-is_empty
returns-then-is_empty c =
    elim c.then-is_empty.branch [
      | then-is_empty-via-then-is_empty w ↦ rw c.of.ensures (judge-empty (map (name_at c.args.schema.now) c.args.names.now) c.args.text.now (search rules))
      | then-is_empty-via-else-is_empty+then-text-gt-MAX_BYTES w ↦ rw c.of.ensures (judge-long (map (name_at c.args.schema.now) c.args.names.now) c.args.text.now w.if-text-gt-MAX_BYTES.true)
    ]

pub returns-in-Some : goal.returns-in-Some
returns-in-Some c =
    let some : length c.args.text.now ≡ 0 → ⊥ = search rules in
    rw c.at.ensures (judge-foreign (map (name_at c.args.schema.now) c.args.names.now) c.args.text.now some c.if-text-gt-MAX_BYTES.false c.first_foreign.ensures c.in-Some.is)

pub judge_paths-requires : goal.judge_paths-requires
judge_paths-requires c =
    let some : length c.args.text.now ≡ 0 → ⊥ = search rules in
    (c.requires, readable (map (name_at c.args.schema.now) c.args.names.now) c.args.text.now some c.if-text-gt-MAX_BYTES.false c.first_foreign.ensures c.in-None.is)
