use Rattle.std.proofs.Common.{List, ℕ, length, ap, arith}
use Rattle.journal_builder.specs.element_names.Reading.{name_at-short}
use Rattle.journal_builder.proofs.element_names.words_at.Goals as goal

pub overflow_cast-i : goal.overflow_cast-i
overflow_cast-i c =
    let l = c.loop-i-test.true in
    omega (arith, c.requires, name_at-short c.args.text.now c.args.p, ap (λ (n : List ℕ). length n) c.name_at-bytes.ensures.value)
