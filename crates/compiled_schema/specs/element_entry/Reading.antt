-- An accepted text, read declaration by declaration, and the entry that one of its declarations gives.
use Rattle.std.specs.Prelude.{List, [], ◌≡◌, ℕ, ◌+◌, ◌≤◌, length, take}
use Rattle.compiled_schema.specs.declared.element_entry.DeclaredElement.{DeclaredElement}
use Rattle.compiled_schema.specs.entry_parts.Entries.{EntryOf}
use Rattle.names.specs.Sets.{member}
use Rattle.schema.specs.Judging.{used_in}
use Rattle.schema_spec.specs.Declarations.{Declaration}
use Rattle.schema_spec.specs.Machine.{between, from}
use Rattle.schema_spec.specs.Names.{Name, element}
use Rattle.schema_spec.specs.Reading.{read_schema}
use Rattle.schema_spec.specs.Records.{schema_in}
use Rattle.schema_spec.specs.Schemas.{content_at}
use Rattle.schema_spec.specs.Types.{holds}
use Rattle.text.specs.scanning.Outcomes.{NoBlank}
use Rattle.text_spec.specs.Refusals.{accepted}

-- an accepted text, and the elements that its models use
pub record AcceptedWith (text uses : List ℕ) : Type 0 where
  pub read : read_schema text ≡ accepted (schema_in text)
  pub elements : take (length (used_in (schema_in text))) uses ≡ used_in (schema_in text)

-- the first d declarations of such a text were read, their models use n names, and the next declaration stands at i
pub record AtDeclaration (text uses : List ℕ) (d n i : ℕ) : Type 0 where
  pub given : AcceptedWith text uses
  -- the last first
  pub done : List Declaration
  pub same : from (between []) text 0 ≡ from (between done) text i
  pub count : length done ≡ d
  pub used : n ≡ length (used_in (take d (schema_in text)))
  pub high : i ≤ length text
  pub no-blank : NoBlank text i

-- what the declaration of element d gives
pub record EntryMade (text uses : List ℕ) (d n : ℕ) (r : DeclaredElement) : Type 0 where
  pub next : AtDeclaration text uses (d + 1) (n + r.entry.size) r.next
  pub entry : EntryOf (content_at (schema_in text) d) r.entry
  pub held : (n : Name) → member r.«holds» n ≡ holds (schema_in text) (element d) n
