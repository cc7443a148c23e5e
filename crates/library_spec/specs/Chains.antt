-- "the chain of tags from the root down to it, a text ending in `text()`"
use Rattle.std.specs.Prelude.{List, ◌++◌, ℕ}
use Rattle.schema_spec.specs.Names.{Name, element, text}
use Rattle.schema_spec.specs.Schemas.{Schema, name_at}
use Rattle.table_spec.specs.Nodes.{Node, top, under}
use Rattle.text_spec.specs.Lists.{bytes}

abbrev pub tag : Schema → Name → List ℕ
tag s (element e) = name_at s e
tag s (text e) = bytes "text()"

abbrev pub chain : Schema → Node → List ℕ
chain s (top k n) = bytes "/" ++ tag s n
chain s (under k n w p) = chain s p ++ (bytes "/" ++ tag s n)
