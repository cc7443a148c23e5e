-- The 64 bits of a set that has only names of a schema.
use Rattle.std.specs.Prelude.{◌≡◌, ◌≤◌, length}
use Rattle.std.proofs.Common.{ap, ◌∙◌}
use Rattle.names.specs.Encoding.{handed-back}
use Rattle.names.specs.Sets.{set_of, every_name, set_in, Known}
use Rattle.names.specs.declared.NameSet.{NameSet}
use Rattle.schema_spec.specs.Names.{Names, word_of_set, names_of}
use Rattle.schema_spec.specs.Schemas.{Schema}
use Rattle.text_spec.specs.Limits.{max_declarations}

pub word-of-known : (s : Schema) → length s ≤ max_declarations → (x : NameSet) (l : Names) → Known s x → set_in s x ≡ l → word_of_set every_name (set_of every_name x) ≡ word_of_set (names_of s) l
word-of-known s small x l only e = handed-back s small x only ∙ ap (word_of_set (names_of s)) e
