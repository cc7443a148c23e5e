-- The names that a path and a bundle need (document 01, "Needed names"), computing.
use Rattle.std.specs.Prelude.{Bool, true, not, ◌||◌, List, [], ◌∷◌, ◌++◌, ℕ}
use Rattle.inference_spec.specs.Types.{Env, env, all_below, all_above, cut_to, infer, infer_all}
use Rattle.path_spec.specs.Paths.{Axis, self, child, descendant, descendant_or_self, parent, ancestor, ancestor_or_self, Step, Condition, unconditional, alternatives, condition_paths, Start, root_element, LocationPath, expand}
use Rattle.schema_spec.specs.Closure.{related, closure}
use Rattle.schema_spec.specs.Names.{Name, Names, same_name, within, word_of_set}
use Rattle.schema_spec.specs.Types.{Types, is_below}
use Rattle.text_spec.specs.Lists.{any_of, filter_by, gather, is_empty}

-- "neighbours related as the axis says"
abbrev pub linked : Types → Axis → Name → Name → Bool
linked s self a b = same_name a b
linked s child a b = s.holds a b
linked s descendant a b = is_below s a b
linked s descendant_or_self a b = same_name a b || is_below s a b
linked s parent a b = s.holds b a
linked s ancestor a b = is_below s b a
linked s ancestor_or_self a b = same_name a b || is_below s b a

-- "for descendant and descendant-or-self, every name below the one and above the next": of the names of two neighbouring steps.
-- A name below the one and above the next makes the two related, so no pair is lost or added by taking the sets whole.
abbrev pub between : Types → Axis → Names → Names → Names
between s self g h = []
between s child g h = []
between s descendant g h = within (all_below s g) (all_above s h)
between s descendant_or_self g h = within (all_below s g) (all_above s h)
between s parent g h = []
between s ancestor g h = []
between s ancestor_or_self g h = []

-- `wants`: the names that a condition needs from a name, in a context
module _ {C : Type 0} (s : Types) (keeps : Names → C → Name → Bool) (wants : Names → C → Name → Names) where
  -- the names of T from which a walk goes to the last step
  abbrev pub complete : List (Step ℕ C) → Env → Names
  complete [] e = e.type
  complete (p ∷ ps) e =
      let next = complete ps (infer s keeps p e) in
      filter_by (λ a. any_of (λ b. linked s p.axis a b) next) e.type

  -- own names, names between, and what conditions need, step by step
  abbrev pub need : List (Step ℕ C) → Env → Names
  need [] e = e.type
  need (p ∷ ps) e =
      let f = infer s keeps p e in
      let g = complete (p ∷ ps) e in
      let h = complete ps f in
      g ++ (between s p.axis g h ++ (gather (λ a. wants (cut_to s (a ∷ []) f.context) p.condition a) h ++ need ps f))

-- steps without brackets
abbrev pub keeps_all : Names → Unit {0} → Name → Bool
keeps_all k c a = true

abbrev pub wants_nothing : Names → Unit {0} → Name → Names
wants_nothing k c a = []

-- "if some alternative .. ends with a type that isn't empty"
abbrev pub keeps_name : Types → Names → Condition ℕ → Name → Bool
keeps_name s k unconditional a = true
keeps_name s k (alternatives qs) a = any_of (λ q. not (is_empty (infer_all s keeps_all (expand tt q) (env (a ∷ []) k)).type)) qs

-- "the same for every alternative from it"
abbrev pub wants_names : Types → Names → Condition ℕ → Name → Names
wants_names s k c a = gather (λ q. need s keeps_all wants_nothing (expand tt q) (env (a ∷ []) k)) (condition_paths c)

-- "Last, keep only names that the root reaches by holdings inside this set."
unfoldable pub from_root : Types → Names → Names
from_root s r =
    let m = within s.names r in
    let c = closure m s.holds in
    filter_by (λ n. same_name s.root n || related c s.root n) m

-- the type and the context that a path starts with: "both {root} at first"
abbrev pub at_start : Types → Start → Env
at_start s root_element = env (s.root ∷ []) (s.root ∷ [])

unfoldable pub needed_before_filter : Types → LocationPath ℕ → Names
needed_before_filter s p = need s (keeps_name s) (wants_names s) (expand unconditional p.steps) (at_start s p.start)

unfoldable pub needed_by_path : Types → LocationPath ℕ → Names
needed_by_path s p = from_root s (needed_before_filter s p)

-- "A bundle's needed names are the union", in the schema's order
unfoldable pub needed : Types → List (LocationPath ℕ) → Names
needed s ps = within s.names (gather (needed_by_path s) ps)

-- as 64 bits
unfoldable pub needed_word : Types → List (LocationPath ℕ) → ℕ
needed_word s ps = word_of_set s.names (needed s ps)
