-- Cases of the steps by which written steps are analysed: their axes, tests, conditions and numbers.
use Rattle.std.specs.Prelude.{List, [], ◌∷◌, ℕ}
use Rattle.path_spec.specs.Paths.{Axis, child, descendant_or_self, parent, ancestor_or_self, WrittenAxis, along, following, following_sibling, preceding, preceding_sibling, NodeTest, named, any_node, WrittenStep, Step, expand}
use Rattle.text_spec.specs.Cases.{Case, case, AllHold, answered}

-- conditions are numbers here: 0 is none, and the path has condition 7 and test 5 on both of its steps
abbrev pub twice : WrittenAxis → List (WrittenStep ℕ ℕ)
twice a =
    let p : WrittenStep ℕ ℕ = record { axis = a; test = named 5; condition = 7 } in
    p ∷ p ∷ []

abbrev pub analysed : ℕ → Axis → NodeTest ℕ → ℕ → Step ℕ ℕ
analysed i a t c = record { written = i; axis = a; test = t; condition = c }

-- "parent::node()/child::test", each time
abbrev pub by_siblings : List (Step ℕ ℕ)
by_siblings = analysed 1 parent any_node 0 ∷ analysed 1 child (named 5) 7 ∷ analysed 2 parent any_node 0 ∷ analysed 2 child (named 5) 7 ∷ []

-- "by way of ancestor-or-self, the sibling axis and descendant-or-self"
abbrev pub by_order : List (Step ℕ ℕ)
by_order =
    analysed 1 ancestor_or_self any_node 0 ∷ analysed 1 parent any_node 0 ∷ analysed 1 child any_node 0 ∷ analysed 1 descendant_or_self (named 5) 7 ∷ analysed 2 ancestor_or_self any_node 0
    ∷ analysed 2 parent any_node 0 ∷ analysed 2 child any_node 0 ∷ analysed 2 descendant_or_self (named 5) 7 ∷ []

pub cases : List (Case WrittenAxis (List (Step ℕ ℕ)))
cases =
    case (along child) (analysed 1 child (named 5) 7 ∷ analysed 2 child (named 5) 7 ∷ [])
    ∷ case following_sibling by_siblings
    ∷ case preceding_sibling by_siblings
    ∷ case following by_order
    ∷ case preceding by_order
    ∷ []

pub all_hold : AllHold (λ a. expand 0 (twice a)) cases
unfolding cases
all_hold = answered cases
