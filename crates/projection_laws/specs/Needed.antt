-- For an accepted schema: the types and contexts that are computed are those of document 01's rules, the needed names those on its walks,
-- and the 64 bits answered are the bits of these names.
use mathlib.Core.List.{List, [], Memᴰ as In}
use Rattle.std.specs.Prelude.{◌↔◌, ◌≡◌, T}
use Rattle.std.proofs.Common.{sym, subst}
use Prim.Native.Nat.{ℕ, ◌<◌, ◌^◌}
use Rattle.inference_spec.specs.Needed.{keeps_name, at_start as start_env, needed_by_path, needed, needed_word}
use Rattle.inference_spec.specs.Rules.{type, context, at_start, after_steps, Member}
use Rattle.inference_spec.specs.Types.{Env, infer_all}
use Rattle.inference_spec.specs.Walks.{Walk, PathNeeds, ReachedFromRoot, root, next, BundleNeeds, by-path}
use Rattle.library_spec.specs.Conditions.{SchemaTaken}
use Rattle.path_spec.specs.Paths.{Step, Condition, unconditional, Start, LocationPath, expand}
use Rattle.projection_laws.specs.Rules.{rules-infer}
use Rattle.projection_laws.specs.Walks.{bundle-needs, needs-bundle}
use Rattle.schema_laws.specs.Accepted.{accepted-length, accepted-filled, accepted-closed}
use Rattle.schema_laws.specs.Names.{within_in}
use Rattle.schema_laws.specs.Words.{Coded, schema-coded, word-has, has_word, word-named, word_below}
use Rattle.schema_laws.specs.reading.Reading.{schema-read-once}
use Rattle.schema_spec.specs.Names.{Name, Names, code_of, has_bit, names_of}
use Rattle.schema_spec.specs.Reading.{read_schema}
use Rattle.schema_spec.specs.Schemas.{Schema}
use Rattle.schema_spec.specs.Types.{types_of}
use Rattle.text_laws.specs.Lists.{memberless}
use Rattle.text_spec.specs.Lists.{gather}
use Rattle.text_spec.specs.Refusals.{accepted}

module _ (schema : List ℕ) (s : Schema) (taken : SchemaTaken schema s) where
  read : read_schema schema ≡ accepted s
  read = sym (schema-read-once schema taken)

  -- what is computed after these steps
  abbrev pub inferred : Start → List (Step ℕ (Condition ℕ)) → Env
  inferred a ps = infer_all (types_of s) (keeps_name (types_of s)) ps (start_env (types_of s) a)

  -- THE THEOREMS
  -- after any steps, T and K are those of the rules
  pub type-by-rules : (a : Start) (ps : List (Step ℕ (Condition ℕ))) (n : Name) → In n (inferred a ps).type ↔ Member s type (after_steps (at_start a) ps) n
  type-by-rules a ps n =
      let m = (rules-infer s (accepted-closed schema s read) (accepted-filled schema s read) a ps).types in
      (m.sound n, m.complete n)

  pub context-by-rules : (a : Start) (ps : List (Step ℕ (Condition ℕ))) (n : Name) → In n (inferred a ps).context ↔ Member s context (after_steps (at_start a) ps) n
  context-by-rules a ps n =
      let m = (rules-infer s (accepted-closed schema s read) (accepted-filled schema s read) a ps).contexts in
      (m.sound n, m.complete n)

  module _ (ps : List (LocationPath ℕ)) where
    -- the needed names are those on complete walks, between their neighbours and on the walks of their conditions
    pub needed-sound : (n : Name) → In n (needed (types_of s) ps) → BundleNeeds s ps n
    needed-sound n i = bundle-needs s (accepted-filled schema s read) (accepted-closed schema s read) ps n i

    pub needed-complete : (n : Name) → BundleNeeds s ps n → In n (needed (types_of s) ps)
    needed-complete n z = needs-bundle s (accepted-filled schema s read) (accepted-closed schema s read) ps n z

    -- "No complete walk: the set is empty."
    pub no-walk-none : ((p : LocationPath ℕ) → In p ps → (w : Names) → Walk s (at_start p.start) (expand unconditional p.steps) w → ⊥) → needed (types_of s) ps ≡ []
    no-walk-none none = memberless (needed (types_of s) ps) (λ n i. contrary n (needed-sound n i))
      where
        some_walk : (p : LocationPath ℕ) {n : Name} → ReachedFromRoot s (PathNeeds s p) n → (w : Names) × Walk s (at_start p.start) (expand unconditional p.steps) w
        some_walk p (root z) = (z.walk, z.complete)
        some_walk p (next r h z) = (z.walk, z.complete)

        contrary : (n : Name) → BundleNeeds s ps n → ⊥
        contrary n (by-path p i z) =
            let w = some_walk p z in
            none p i w.0 w.1

    needed-in : (n : Name) → In n (needed (types_of s) ps) → In n (names_of s)
    unfolding needed types_of
    needed-in n i = (within_in (names_of s) (gather (needed_by_path (types_of s)) ps) i).0

    coded : Coded (names_of s)
    coded = schema-coded s (accepted-length schema s read)

    -- a bit is set exactly if it is the bit of a needed name
    pub needed-bits : (i : ℕ) → T (has_bit (needed_word (types_of s) ps) i) ↔ ((n : Name) × BundleNeeds s ps n × (i ≡ code_of n))
    unfolding needed_word types_of
    needed-bits i = (to, from)
      where
        word : ℕ
        word = needed_word (types_of s) ps

        to : T (has_bit word i) → (n : Name) × BundleNeeds s ps n × (i ≡ code_of n)
        to t =
            let w = word-named (names_of s) (needed (types_of s) ps) coded i t in
            (w.0, needed-sound w.0 w.2, w.3)

        from : (n : Name) × BundleNeeds s ps n × (i ≡ code_of n) → T (has_bit word i)
        from (n, z, e) =
            let j = needed-complete n z in
            subst (λ (k : ℕ). T (has_bit word k)) (sym e) (word-has (names_of s) (needed (types_of s) ps) coded (needed-in n j) j)

    -- the bit of a name of the schema is set exactly if the name is needed
    pub needed-bit : (n : Name) → In n (names_of s) → T (has_bit (needed_word (types_of s) ps) (code_of n)) ↔ BundleNeeds s ps n
    unfolding needed_word types_of
    needed-bit n i = (
      λ t. needed-sound n (has_word (names_of s) (needed (types_of s) ps) coded i t),
      λ z. word-has (names_of s) (needed (types_of s) ps) coded i (needed-complete n z),
    )

    -- and there are 64
    pub needed-below : needed_word (types_of s) ps < 2 ^ 64
    unfolding needed_word types_of
    needed-below = word_below s (accepted-length schema s read) (needed (types_of s) ps)
