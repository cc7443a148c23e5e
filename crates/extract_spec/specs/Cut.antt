-- Cutting a table to a set of names.
use Rattle.std.specs.Prelude.{Bool, cond, List, [], ◌∷◌, ◌++◌, ℕ, length, take}
use Rattle.schema_spec.specs.Names.{Names, has, set_of_word}
use Rattle.schema_spec.specs.Types.{Types}
use Rattle.table_spec.specs.Nodes.{Node, all_names, node_at}
use Rattle.table_spec.specs.Rows.{Row, with_parent}
use Rattle.text_spec.specs.Lists.{filter_by}

-- "keeps a row if its name and the names of all its ancestors are in the set"
abbrev pub kept : Names → Node → Bool
kept set y = all_names (λ n. has n set) y

-- "numbers stay, parent rows are renumbered": a parent's new row is the count of rows kept before it
abbrev pub renumbered : Names → List Node → Row → Row
renumbered set before r =
    with_parent (length (filter_by (kept set) (take r.parent before))) r

abbrev pub cut_from : Names → List Node → List Row → List Row
cut_from set before [] = []
cut_from set before (r ∷ rs) =
    let y = node_at [] before r in
    let rest = cut_from set (before ++ (y ∷ [])) rs in
    cond (kept set y) (renumbered set before r ∷ rest) rest

unfoldable pub cut : Names → List Row → List Row
cut set rows = cut_from set [] rows

-- to a set that is handed in as 64 bits, of which those without a name are ignored
unfoldable pub cut_to_word : Types → ℕ → List Row → List Row
cut_to_word s word rows = cut (set_of_word s.names word) rows
