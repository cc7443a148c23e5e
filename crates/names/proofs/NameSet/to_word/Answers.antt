-- `names::NameSet::to_word` meets its contract: the text names shifted up do not wrap.
use mathlib.Core.Path.{◌≡◌, ap, ◌∙◌}
use Prim.Native.Nat.{ℕ, ◌*◌, ◌%◌, ◌^◌}
use native.Mathlib.Omega.{arith}
use lib.Bits.{bit_or}
use Rattle.names.specs.Encoding.{joined-means-word_of_set}
use Rattle.names.proofs.NameSet.to_word.Goals as goal

shifted : (t : ℕ) → (t % 2 ^ 32 * 2 ^ 32) % 2 ^ 64 ≡ t % 2 ^ 32 * 2 ^ 32
shifted t = omega arith

pub returns : goal.returns
returns c =
    let s = c.args.self in
    ap (λ (w : ℕ). bit_or (s.elements % 2 ^ 32) w) (shifted s.texts) ∙ joined-means-word_of_set s
