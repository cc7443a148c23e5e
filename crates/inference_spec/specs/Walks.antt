-- Walks as document 01 says them, and the names that they need, over the rules for T and K: nothing is computed here.
use mathlib.Core.List.{List, [], ◌∷◌, Memᴰ}
use Rattle.std.specs.Prelude.{ℕ, T}
use Rattle.inference_spec.specs.Rules.{type, Point, at_start, alternative_from, tested, after_step, alternative_steps, Member}
use Rattle.path_spec.specs.Paths.{Axis, self, child, descendant, descendant_or_self, parent, ancestor, ancestor_or_self, Step, PlainStep, Condition, unconditional, condition_paths, LocationPath, expand}
use Rattle.schema_spec.specs.Names.{Name, Names, element}
use Rattle.schema_spec.specs.Schemas.{Schema}
use Rattle.schema_spec.specs.Types.{holds, Below}

-- the axes with names between
pub data Passing : Axis → Type 0 where
  descends : Passing descendant
  descends-or-stays : Passing descendant_or_self

module _ (s : Schema) where
  -- two neighbours of a walk
  pub data Linked : Axis → Name → Name → Type 0 where
    by-self : {a : Name} → Linked self a a
    by-child : {a b : Name} → T (holds s a b) → Linked child a b
    by-descendant : {a b : Name} → Below s a b → Linked descendant a b
    stays-down : {a : Name} → Linked descendant_or_self a a
    goes_down : {a b : Name} → Below s a b → Linked descendant_or_self a b
    by-parent : {a b : Name} → T (holds s b a) → Linked parent a b
    by-ancestor : {a b : Name} → Below s b a → Linked ancestor a b
    stays_up : {a : Name} → Linked ancestor_or_self a a
    goes-up : {a b : Name} → Below s b a → Linked ancestor_or_self a b

  -- "A walk takes one name from each step's T, from the start to the last step, neighbours related as the axis says."
  pub data Walk : Point → List (Step ℕ (Condition ℕ)) → Names → Type 0 where
    at_last : {g : Point} {a : Name} → Member s type g a → Walk g [] (a ∷ [])
    onward : {g : Point} {p : Step ℕ (Condition ℕ)} {ps : List (Step ℕ (Condition ℕ))} {a b : Name} {w : Names} → Member s type g a → Linked p.axis a b
        → Walk (after_step g p) ps (b ∷ w) → Walk g (p ∷ ps) (a ∷ b ∷ w)

  -- what a complete walk needs
  pub data NeededOnWalk : Point → List (Step ℕ (Condition ℕ)) → Names → Name → Type 0 where
    -- "every name on a complete walk"
    own : {g : Point} {ps : List (Step ℕ (Condition ℕ))} {n : Name} {w : Names} → NeededOnWalk g ps (n ∷ w) n
    -- "for descendant and descendant-or-self, every name below the one and above the next"
    between : {g : Point} {p : Step ℕ (Condition ℕ)} {ps : List (Step ℕ (Condition ℕ))} {a b n : Name} {w : Names} → Passing p.axis → Below s a n → Below s n b
        → NeededOnWalk g (p ∷ ps) (a ∷ b ∷ w) n
    -- "for each name on a complete walk that carries a condition, the same for every alternative from it"
    conditional : {g : Point} {p : Step ℕ (Condition ℕ)} {ps : List (Step ℕ (Condition ℕ))} {a b n : Name} {v w : Names} (q : List (PlainStep ℕ))
        → Memᴰ q (condition_paths p.condition) → Walk (alternative_from (tested g p) b) (alternative_steps q) v
        → NeededOnWalk (alternative_from (tested g p) b) (alternative_steps q) v n → NeededOnWalk g (p ∷ ps) (a ∷ b ∷ w) n
    -- and so for the steps that follow
    later : {g : Point} {p : Step ℕ (Condition ℕ)} {ps : List (Step ℕ (Condition ℕ))} {a b n : Name} {w : Names} → NeededOnWalk (after_step g p) ps (b ∷ w) n
        → NeededOnWalk g (p ∷ ps) (a ∷ b ∷ w) n

  pub record Needs (g : Point) (ps : List (Step ℕ (Condition ℕ))) (n : Name) : Type 0 where
    pub walk : Names
    pub complete : Walk g ps walk
    pub on_walk : NeededOnWalk g ps walk n

  -- the names that a path needs before the last filter
  abbrev pub PathNeeds : LocationPath ℕ → Name → Type 0
  PathNeeds p n = Needs (at_start p.start) (expand unconditional p.steps) n

  -- "names that the root reaches by holdings inside this set"
  pub data ReachedFromRoot (In : Name → Type 0) : Name → Type 0 where
    root : In (element 0) → ReachedFromRoot In (element 0)
    next : {a b : Name} → ReachedFromRoot In a → T (holds s a b) → In b → ReachedFromRoot In b

  -- what a bundle needs: "the union"
  pub data BundleNeeds (ps : List (LocationPath ℕ)) (n : Name) : Type 0 where
    by-path : (p : LocationPath ℕ) → Memᴰ p ps → ReachedFromRoot (PathNeeds p) n → BundleNeeds ps n
