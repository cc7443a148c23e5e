-- `held_words`: the words that the loop has passed are those of their sets.
use Rattle.std.proofs.Common.{◌≡◌, length}
use Rattle.compiled_schema.specs.held_words.Words.{WordAt}
use Rattle.text_laws.specs.Loops.{Passed}
use Rattle.text_spec.specs.Limits.{max_declarations}
use Rattle.compiled_schema.proofs.held_words.held_words.Given as goal

abbrev pub invariant-loop-i : goal.invariant-loop-i
invariant-loop-i l = (length l.out ≡ max_declarations) × Passed (WordAt l.sets) 0 l.initial.out l.i l.out
