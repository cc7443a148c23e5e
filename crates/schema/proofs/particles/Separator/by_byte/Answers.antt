-- `Separator::by_byte` meets its contract: 0, `,` or any other byte.
use Rattle.std.proofs.Common.{◌≡◌, ◌∙◌, subst, ap, ne_eqb, rules}
use Rattle.schema.specs.particles.Automata.{PartedBy}
use Rattle.schema.specs.particles.Parting.{separator_in, parted-by-byte}
use Rattle.text_laws.specs.Tests.{cond_no}
use Rattle.schema.proofs.particles.Separator.by_byte.Goals as goal

pub returns-in-0-clause-parts : goal.returns-in-0-clause-parts
returns-in-0-clause-parts c f H = subst (PartedBy f) (ap separator_in c.in-0.is) (parted-by-byte H)

pub returns-in-44-clause-parts : goal.returns-in-44-clause-parts
returns-in-44-clause-parts c f H = subst (PartedBy f) (ap separator_in c.in-44.is) (parted-by-byte H)

pub returns-in_default-clause-parts : goal.returns-in_default-clause-parts
returns-in_default-clause-parts c f H =
    let zero : c.args.b ≡ 0 → ⊥ = search rules in
    let comma : c.args.b ≡ 44 → ⊥ = search rules in
    subst (PartedBy f) (cond_no _ _ (ne_eqb c.args.b 0 zero) ∙ cond_no _ _ (ne_eqb c.args.b 44 comma)) (parted-by-byte H)
