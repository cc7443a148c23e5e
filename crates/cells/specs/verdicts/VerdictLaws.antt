-- No refusal has the number of an accepted text.
use Rattle.std.specs.Prelude.{◌≡◌}
use Rattle.std.proofs.Common.{ap, arith}
use Rattle.text_laws.specs.Order.{number-from-2}
use Rattle.text_spec.specs.Refusals.{Reason, number_of}

pub number-some : (r : Reason) → number_of r ≡ 0 → ⊥
number-some r e =
    let h = number-from-2 r (λ q. omega (arith, ap number_of q, e)) in
    omega arith
