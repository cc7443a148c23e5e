-- A cut keeps exactly the rows that document 01 says, with their numbers.
use mathlib.Core.List.{List, Memᴰ as In}
use Rattle.std.proofs.Common.{sym, subst}
use Rattle.std.specs.Prelude.{ℕ, T}
use Rattle.extract_spec.specs.Conditions.{Kept}
use Rattle.extract_spec.specs.Cut.{kept, cut}
use Rattle.projection_laws.specs.Cutting.{rows_cut}
use Rattle.projection_laws.specs.Documents.{Within, own-within, above_within, within-kept, kept-within}
use Rattle.schema_spec.specs.Names.{Names}
use Rattle.schema_spec.specs.Types.{Types}
use Rattle.table_spec.specs.Nodes.{Node, top, under, edge, parent, higher, nodes_of}
use Rattle.table_spec.specs.Rows.{Row}
use Rattle.table_spec.specs.Tables.{well_formed}
use Rattle.text_laws.specs.Lists.{in-filter, filter-in}

within_all : (set : Names) (y : Node) → Within set y → Kept set y
within_all set y w = record { own = own-within set y w; above = λ x a. own-within set x (above_within set a w) }

all-within : (set : Names) (y : Node) → Kept set y → Within set y
all-within set (top k n) h = h.own
all-within set (under k n w p) h =
    (h.own, all-within set p (record { own = h.above p (parent edge); above = λ x a. h.above x (higher a edge) }))

-- the test and the sentence
pub kept-sound : (set : Names) (y : Node) → T (kept set y) → Kept set y
kept-sound set y t = within_all set y (kept-within set y t)

pub kept-complete : (set : Names) (y : Node) → Kept set y → T (kept set y)
kept-complete set y h = within-kept set y (all-within set y h)

-- THE THEOREM: the nodes of a cut table are the nodes of the table whose own and ancestors' names are in the set, unchanged
pub cut-sound : (s : Types) (set : Names) (lent : List ℕ) (rows : List Row) → T (well_formed s rows) → (y : Node) → In y (nodes_of lent (cut set rows))
    → In y (nodes_of lent rows) × Kept set y
cut-sound s set lent rows ok y i =
    let f = filter-in (kept set) (nodes_of lent rows) (subst (λ (l : List Node). In y l) (rows_cut s set lent rows ok) i) in
    (f.0, kept-sound set y f.1)

pub cut-complete : (s : Types) (set : Names) (lent : List ℕ) (rows : List Row) → T (well_formed s rows) → (y : Node) → In y (nodes_of lent rows) → Kept set y
    → In y (nodes_of lent (cut set rows))
cut-complete s set lent rows ok y i h =
    subst (λ (l : List Node). In y l) (sym (rows_cut s set lent rows ok)) (in-filter (kept set) i (kept-complete set y h))
