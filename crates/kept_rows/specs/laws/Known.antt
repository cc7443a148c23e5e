-- The rows of a table that is well formed under an accepted schema have that schema's names; a set of its names passes them by their codes.
use mathlib.Core.List.{List, Memᴰ as In}
use Rattle.std.proofs.Math.Logic.{⊎_elim}
use Rattle.std.specs.Prelude.{◌≡◌, ℕ, T}
use Rattle.std.proofs.Common.{sym, ap, ◌∙◌}
use Rattle.std.proofs.Math.Path.{subst}
use Rattle.kept_rows.specs.Kept.{in_set}
use Rattle.kept_rows.specs.laws.Codes.{codes-named}
use Rattle.kept_rows.specs.laws.Cut.{PassesFor}
use Rattle.names.specs.SetLaws.{has-set_of}
use Rattle.names.specs.Sets.{member, set_in}
use Rattle.names.specs.declared.NameSet.{NameSet}
use Rattle.schema_laws.specs.Accepted.{accepted-filled, accepted-held, accepted-element, accepted-text}
use Rattle.schema_laws.specs.Names.{element-in}
use Rattle.schema_spec.specs.Names.{Name, Names, element, text as text_name, has, names_of}
use Rattle.schema_spec.specs.Reading.{read_schema}
use Rattle.schema_spec.specs.Schemas.{Schema}
use Rattle.schema_spec.specs.Types.{types_of}
use Rattle.table_laws.specs.Codes.{HasCode, NamesCoded}
use Rattle.table_laws.specs.Fits.{row-held}
use Rattle.table_spec.specs.Rows.{Row}
use Rattle.table_spec.specs.Tables.{well_formed}
use Rattle.text_spec.specs.Refusals.{accepted}

module _ (schema : List ℕ) (s : Schema) (read : read_schema schema ≡ accepted s) where
  -- the root's name, or one that some name holds
  name-known : (n : Name) → (n ≡ element 0 → In n (names_of s)) × ((a : Name) → T ((types_of s).holds a n) → In n (names_of s))
  unfolding types_of
  name-known n = (λ e. subst (λ (x : Name). In x (names_of s)) (sym e) (element-in s 0 (accepted-filled schema s read)), λ a t. (accepted-held schema s read a n t).1)

  name-coded : (n : Name) → In n (names_of s) → HasCode n
  name-coded (element e) i = accepted-element schema s read e i
  name-coded (text_name e) i = accepted-text schema s read e i

  module _ (rows : List Row) (ok : T (well_formed (types_of s) rows)) where
    rows-known : (r : Row) → In r rows → In r.name (names_of s)
    unfolding types_of
    rows-known r i = ⊎_elim (λ e. (name-known r.name).0 e) (λ h. (name-known r.name).1 h.0 h.1) (row-held (types_of s) rows ok i)

    pub rows-coded : NamesCoded rows
    rows-coded r i = name-coded r.name (rows-known r i)

    pub set-passes : (x : NameSet) (names : Names) → set_in s x ≡ names → PassesFor (in_set x) names rows
    set-passes x names e r i =
        ap (member x) (codes-named rows rows-coded r i) ∙ sym (has-set_of (names_of s) x r.name (rows-known r i)) ∙ ap (λ (l : Names). has r.name l) e
