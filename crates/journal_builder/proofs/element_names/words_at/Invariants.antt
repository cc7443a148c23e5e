use Rattle.std.proofs.Common.{◌≡◌, take}
use Rattle.text.specs.name_words.Words.{words_of}
use Rattle.journal_builder.proofs.element_names.words_at.Given as goal

abbrev pub invariant-loop-i : goal.invariant-loop-i
invariant-loop-i l = l.name ≡ words_of (take l.i l.bytes)
