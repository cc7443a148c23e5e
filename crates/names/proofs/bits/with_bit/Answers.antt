-- `names::bits::with_bit` meets its contract: below 64 one is shifted to the bit and does not wrap.
use mathlib.Core.Bool.{Bool, ◌&&◌, ◌||◌, or-false, and-true, and-false}
use mathlib.Core.Path.{◌≡◌, sym, ap, ◌∙◌}
use Prim.Native.Nat.{ℕ, ◌*◌, ◌%◌, ◌^◌, ◌<◌, ◌≤◌}
use native.Mathlib.Nat.{one-mul}
use native.Mathlib.Omega.{arith}
use borrow.Author.Tests.{lt-ltb, le-ltb}
use lib.Bits.{bit_or}
use lib.Dec.{eqb, ltb}
use lib.Pow.{shl_exact}
use Rattle.names.specs.bits.Bits.{bit-or, bit-one}
use Rattle.schema_spec.specs.Names.{has_bit}
use Rattle.names.proofs.bits.with_bit.Goals as goal

shifted : (i : ℕ) → i < 64 → (1 * 2 ^ i) % 2 ^ 64 ≡ 2 ^ i
shifted i h = shl_exact 1 i 64 (omega arith) (omega arith) ∙ one-mul (2 ^ i)

added : (a i j : ℕ) → i < 64 → has_bit (bit_or a (2 ^ i)) j ≡ (has_bit a j || (eqb j i && ltb i 64))
added a i j h =
    bit-or a (2 ^ i) j ∙ ap (λ (b : Bool). has_bit a j || b) (bit-one i j ∙ sym (and-true (eqb j i)) ∙ ap (λ (b : Bool). eqb j i && b) (sym (lt-ltb i 64 h)))

kept : (b : Bool) (j i : ℕ) → 64 ≤ i → b ≡ (b || (eqb j i && ltb i 64))
kept b j i h = sym (ap (λ (t : Bool). b || (eqb j i && t)) (le-ltb i 64 h) ∙ ap (λ (t : Bool). b || t) (and-false (eqb j i)) ∙ or-false b)

pub returns-then-i-lt64 : goal.returns-then-i-lt64
returns-then-i-lt64 c j =
    let i = c.args.i in
    rw (shifted i c.if-i-lt64.true) (added c.args.word i j c.if-i-lt64.true)

pub returns-else-i-lt64 : goal.returns-else-i-lt64
returns-else-i-lt64 c j = kept (has_bit c.args.word j) j c.args.i c.if-i-lt64.false
