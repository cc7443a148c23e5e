-- `depth_under` meets its contract: the innermost open element with the number, or none.
use Prim.Native.Nat.{◌-◌}
use mathlib.Core.Path.{sym, ◌∙◌}
use native.Mathlib.Omega.{arith}
use Rattle.extract_reader.specs.levels.LevelLaws.{level-found-in, level-none-in}
use Rattle.extract_reader.proofs.reading.Reader.depth_under.Goals as goal

pub returns-then-from-number : goal.returns-then-from-number
returns-then-from-number c =
    level-found-in _ _ _ (c.loop-i.i - 1) (omega (arith, c.loop-i-test.true, c.loop-i.auto.i)) (sym c.from.ensures ∙ c.if-from-number.true) (λ j a b. c.loop-i.invariant j (omega arith) b)

pub returns : goal.returns
returns c = level-none-in _ _ _ (λ j b. c.loop-i.invariant j (omega (arith, c.loop-i-test.false)) b)
