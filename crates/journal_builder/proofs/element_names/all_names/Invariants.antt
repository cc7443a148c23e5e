use Rattle.std.proofs.Common.{◌≡◌, ℕ, ◌<◌, length, get_or}
use Rattle.journal_builder.specs.element_names.Reading.{name_of}
use Rattle.text.specs.name_words.Words.{words_of}
use Rattle.text_spec.specs.Limits.{max_declarations}
use Rattle.text_spec.specs.Scans.{name_at}
use Rattle.journal_builder.proofs.element_names.all_names.Given as goal

abbrev pub invariant-loop-e : goal.invariant-loop-e
invariant-loop-e l = (length l.names ≡ max_declarations) × ((a : ℕ) → a < l.e → name_of l.names a ≡ words_of (name_at l.text (get_or l.places a 0)))
