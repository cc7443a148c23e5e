-- Types and contexts, step by step (source document 000, 4.1; document 01, "Needed names"). Sets are lists of names.
use Rattle.std.specs.Prelude.{Bool, ◌||◌, List, [], ◌∷◌, ◌++◌, ℕ}
use Rattle.path_spec.specs.Paths.{Axis, self, child, descendant, descendant_or_self, parent, ancestor, ancestor_or_self, NodeTest, Step}
use Rattle.path_spec.specs.Selection.{passes}
use Rattle.schema_spec.specs.Names.{Name, Names, has, within}
use Rattle.schema_spec.specs.Types.{Types, is_below}
use Rattle.text_spec.specs.Lists.{any_of, filter_by}

-- all that a set holds; those that hold a name of it; all below it; all above it
abbrev pub held_by : Types → Names → Names
held_by s t = filter_by (λ n. any_of (λ a. s.holds a n) t) s.names

abbrev pub holding : Types → Names → Names
holding s t = filter_by (λ n. any_of (λ b. s.holds n b) t) s.names

abbrev pub all_below : Types → Names → Names
all_below s t = filter_by (λ n. any_of (λ a. is_below s a n) t) s.names

abbrev pub all_above : Types → Names → Names
all_above s t = filter_by (λ n. any_of (λ b. is_below s n b) t) s.names

abbrev pub union_of : Types → Names → Names → Names
union_of s a b = filter_by (λ n. has n a || has n b) s.names

-- "K is cut to T and above T"
abbrev pub cut_to : Types → Names → Names → Names
cut_to s t k = within k (t ++ all_above s t)

-- "Carry a type T and a context K"
pub record Env : Type 0 where
  pub type : Names
  pub context : Names

abbrev pub env : Names → Names → Env
env t k = record { type = t; context = k }

-- by axis; the test matters to K for child alone
abbrev pub move : Types → Axis → NodeTest ℕ → Env → Env
-- "self: T and K stay."
move s self w e = e
-- "child: T' = all that T holds", "K' = K with T' added, for child only those of T' that pass the step's test"
move s child w e =
    let t = held_by s e.type in
    env t (union_of s e.context (filter_by (passes w) t))
-- "descendant: T' = all below T"
move s descendant w e =
    let t = all_below s e.type in
    env t (union_of s e.context t)
-- "descendant-or-self: T added to that"
move s descendant_or_self w e =
    let t = union_of s e.type (all_below s e.type) in
    env t (union_of s e.context t)
-- "parent: T' = those in K that hold a name of T", "K' = K within T' and above T'"
move s parent w e =
    let t = within (holding s e.type) e.context in
    env t (cut_to s t e.context)
-- "ancestor: those in K above T"
move s ancestor w e =
    let t = within (all_above s e.type) e.context in
    env t (cut_to s t e.context)
-- "ancestor-or-self: T added to that"
move s ancestor_or_self w e =
    let t = union_of s e.type (within (all_above s e.type) e.context) in
    env t (cut_to s t e.context)

-- a filter on T, after which K is cut
abbrev pub narrow : Types → (Name → Bool) → Env → Env
narrow s f e =
    let t = filter_by f e.type in
    env t (cut_to s t e.context)

-- A condition is given by whether it keeps a name, in a context: "started from type {A} and K cut to A and above A".
module _ {C : Type 0} (s : Types) (keeps : Names → C → Name → Bool) where
  -- "then the test filters T; K is cut", "then a condition keeps name A of T if ..; K is cut again"
  abbrev pub infer : Step ℕ C → Env → Env
  infer p e =
      let f = narrow s (passes p.test) (move s p.axis p.test e) in
      narrow s (λ a. keeps (cut_to s (a ∷ []) f.context) p.condition a) f

  abbrev pub infer_all : List (Step ℕ C) → Env → Env
  infer_all [] e = e
  infer_all (p ∷ ps) e = infer_all ps (infer p e)
