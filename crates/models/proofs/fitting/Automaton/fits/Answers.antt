-- `Automaton::fits` meets its contract: the state is that after the children passed.
use mathlib.Core.Bool.{Bool}
use mathlib.Core.List.{List}
use mathlib.Core.Logic.{◌↔◌}
use mathlib.Core.Path.{◌≡◌, sym, ap, subst, ◌∙◌}
use Prim.Native.Nat.{ℕ, ◌<◌}
use native.Mathlib.Numerals.{add-one}
use native.Mathlib.Omega.{arith}
use lib.Dec.{T}
use lib.ListN.{length, take}
use lib.Seq.{take-suc, take_all}
use Rattle.models.specs.declared.fitting.State.TheVariants.{Start}
use Rattle.models.specs.fitting.Fitting.{Run, done, run_more, run-decides}
use Rattle.schema_spec.specs.Models.{Fits}
use Rattle.models.proofs.fitting.Automaton.fits.Goals as goal

pub loop-child-init : goal.loop-child-init
loop-child-init c = done

pub loop-child-preserved : goal.loop-child-preserved
loop-child-preserved c =
    let at = c.loop-child in
    let a = c.args.self.now in
    let less : at.child-index < length c.args.children.now = omega arith in
    subst (λ (w : List ℕ). Run a.ends a.elements.now a.predecessors.now Start w c.step-state.result)
    (sym (ap (λ (n : ℕ). take n c.args.children.now) (add-one at.child-index) ∙ take-suc c.args.children.now at.child-index 0 less)) (run_more at.invariant c.step-state.ensures)

pub returns : goal.returns
returns c p t =
    let at = c.loop-child in
    let a = c.args.self.now in
    let all : take at.child-index c.args.children.now ≡ c.args.children.now = take_all at.child-index c.args.children.now (omega arith) in
    let walked = subst (λ (w : List ℕ). Run a.ends a.elements.now a.predecessors.now Start w at.state) all at.invariant in
    subst (λ (b : Bool). T b ↔ Fits p c.args.children.now) (sym c.may_end.ensures) (run-decides p a.ends a.elements.now a.predecessors.now t walked)
