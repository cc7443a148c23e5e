-- `Asked::steps` meets its contract.
use Rattle.std.proofs.Common.{rules, arith, ◌≡◌, ◌≤◌, ℕ, ◌+◌, ◌-◌, map, take, drop, length, sym, ap, ◌∙◌}
use Rattle.compiled_paths.specs.Steps.{plain_step}
use Rattle.inference.specs.plain_steps.Laws.{plain-slice}
use Rattle.needed_names.proofs.asked.Asked.steps.Goals as goal

pub returns : goal.returns
returns c =
    let steps = c.args.self.now.paths.now.steps in
    let inside : c.args.k + c.args.n ≤ length steps = search rules in
    let size : c.args.k + c.args.n - c.args.k ≡ c.args.n = omega arith in
    ap (λ (m : ℕ). map plain_step (take m (drop c.args.k steps))) size ∙ sym (plain-slice steps c.args.n c.args.k inside)
