-- `names::NameSet::is_empty` meets its contract: a set without names has the words of the empty one.
use mathlib.Core.Path.{sym, subst, ◌∙◌}
use native.Mathlib.Omega.{arith}
use lib.Dec.{T}
use Rattle.names.proofs.Words.{same-sets}
use Rattle.names.proofs.NameSet.is_empty.Goals as goal

pub returns : goal.returns
returns c =
    let same = same-sets c.args.self c.empty.result (omega arith) (omega arith) (omega arith) (omega arith) in
    (λ t n. same.0 (subst T c.eq.ensures t) n ∙ c.empty.ensures n, λ h. subst T (sym c.eq.ensures) (same.1 (λ n. h n ∙ sym (c.empty.ensures n))))
