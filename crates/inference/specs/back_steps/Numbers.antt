-- Laws of one step by the number of its axis: names between two neighbouring steps, and where the axis leads.
use Rattle.std.specs.Prelude.{Bool, cond, [], ◌≡◌, ℕ, eqb}
use Rattle.std.proofs.Math.Bool.{true, false}
use Rattle.std.proofs.Common.{refl, sym, ap, ◌∙◌, ne_eqb}
use Rattle.compiled_paths.specs.Columns.{axis_of}
use Rattle.inference_spec.specs.Needed.{between}
use Rattle.inference_spec.specs.Types.{Env, move}
use Rattle.path_spec.specs.Paths.{Axis, self, child, parent, ancestor, ancestor_or_self, NodeTest}
use Rattle.schema_spec.specs.Names.{Names}
use Rattle.schema_spec.specs.Schemas.{Schema}
use Rattle.schema_spec.specs.Types.{types_of}

-- every number but those of descendant and descendant-or-self
pub none_between : (s : Schema) (c : ℕ) (g h : Names) → (c ≡ 2 → ⊥) → (c ≡ 3 → ⊥) → between (types_of s) (axis_of c) g h ≡ []
unfolding axis_of
none_between s c g h d2 d3 = rw (ne_eqb c 2 d2, ne_eqb c 3 d3) (pick (eqb c 1) (eqb c 4) (eqb c 5) (eqb c 6))
  where
    pick : (p q r t : Bool) → between (types_of s) (cond p child (cond q parent (cond r ancestor (cond t ancestor_or_self self)))) g h ≡ []
    pick true q r t = refl
    pick false true r t = refl
    pick false false true t = refl
    pick false false false true = refl
    pick false false false false = refl

pub move-along : (s : Schema) (c : ℕ) (w : NodeTest ℕ) (r e : Env) (x : Axis) → axis_of c ≡ x → r ≡ move (types_of s) x w e → r ≡ move (types_of s) (axis_of c) w e
move-along s c w r e x d h = h ∙ ap (λ (a : Axis). move (types_of s) a w e) (sym d)
