-- Steps without brackets and document 01's conditions meet the laws that the main lemma asks for.
use Rattle.std.specs.Prelude.{Bool, not, List, [], ◌∷◌, refl, ℕ, T}
use mathlib.Core.List.Memᴰ.{head as here}
use Rattle.std.proofs.Common.{sym, subst}
use Rattle.inference_spec.specs.Needed.{need, keeps_all, wants_nothing, keeps_name, wants_names}
use Rattle.inference_spec.specs.Types.{env, infer_all}
use Rattle.path_spec.specs.Paths.{PlainStep, Condition, unconditional, alternatives, expand}
use Rattle.path_spec.specs.Selection.{PathSet, Always, Only, Holds, no-condition, alternative}
use Rattle.projection_laws.specs.Agreement.{Alike, ConditionLaws, WrittenNavigation, navigation-of, of-navigation, written-expands, navigation-typed, written-alike}
use Rattle.projection_laws.specs.Documents.{SubsetOf, Within, Valid, AllValid, Lawful}
use Rattle.schema_spec.specs.Names.{Names}
use Rattle.schema_spec.specs.Types.{Types}
use Rattle.table_spec.specs.Nodes.{Node, name_of}
use Rattle.text_laws.specs.Lists.{any-in, in-gather, member-fills}
use Rattle.text_laws.specs.Tests.{not-intro}
use Rattle.text_spec.specs.Lists.{is_empty}

-- no condition, for steps without brackets
abbrev pub Free : List Node → Unit {0} → Node → Type 0
Free doc = Always

pub free-fair : (s : Types) → ConditionLaws s Free keeps_all wants_nothing tt
free-fair s = record { keeps-name = λ doc ok c k y v w m. tt; agrees = λ r d e dv ev al c k y v w u sub m. m; none-met = λ doc y. tt; none-keeps = λ k a. tt; none-wants = λ k a. refl }

-- an alternative that selects a node from y is a navigation from y
pub alternative-navigation : (s : Types) (doc : List Node) (q : List (PlainStep ℕ)) (y z : Node) → PathSet doc Always q (Only y) z → WrittenNavigation s Free doc q y z
alternative-navigation s doc q y z i =
    let r = navigation-of s Free doc q (Only y) z i in
    subst (λ (x : Node). WrittenNavigation s Free doc q x z) (sym r.1) r.2

module _ (s : Types) (law : Lawful s) where
  -- where an alternative selects a node, its type from that name is not empty
  condition-keeps : (doc : List Node) → AllValid s doc → (c : Condition ℕ) (k : Names) (y : Node) → Valid s y → Within k y → Holds doc c y → T (keeps_name s k c (name_of y))
  condition-keeps doc ok unconditional k y v w h = tt
  condition-keeps doc ok (alternatives qs) k y v w (alternative q z i p) =
      let e = env (name_of y ∷ []) k in
      let laws = free-fair s in
      let reached : List (PlainStep ℕ) → Bool = λ l. not (is_empty (infer_all s keeps_all (expand tt l) e).type) in
      let typed = navigation-typed s law Free keeps_all wants_nothing tt laws doc ok e v (here refl, w) (written-expands s Free tt laws.none-met doc ok 1 v (alternative-navigation s doc q y z p)) in
      any-in reached i (not-intro (is_empty (infer_all s keeps_all (expand tt q) e).type) (member-fills typed.0))

  condition-agrees : (r : Names) (d e : List Node) → AllValid s d → AllValid s e → Alike r d e → (c : Condition ℕ) (k : Names) (y : Node) → Valid s y → Within k y
      → Within r y → SubsetOf (wants_names s k c (name_of y)) r → Holds d c y → Holds e c y
  condition-agrees r d e dv ev al unconditional k y v w u sub h = no-condition
  condition-agrees r d e dv ev al (alternatives qs) k y v w u sub (alternative q z i p) =
      let start = env (name_of y ∷ []) k in
      let t =
      written-alike s law Free keeps_all wants_nothing tt (free-fair s) r d e dv ev al 1 start v (here refl, w) u
      (λ n j. sub n (in-gather (λ l. need s keeps_all wants_nothing (expand tt l) start) i j)) (alternative-navigation s d q y z p) in
      alternative q z i (of-navigation s Free e (Only y) refl t.0)

  pub condition-fair : ConditionLaws s Holds (keeps_name s) (wants_names s) unconditional
  condition-fair = record { keeps-name = condition-keeps; agrees = condition-agrees; none-met = λ doc y. no-condition; none-keeps = λ k a. tt; none-wants = λ k a. refl }
