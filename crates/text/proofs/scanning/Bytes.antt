-- Laws of one byte more, of those that pass a test and of a keyword.
use mathlib.Core.Bool.{Bool, true}
use mathlib.Core.List.{List}
use mathlib.Core.Path.{◌≡◌}
use Prim.Native.Nat.{ℕ, ◌+◌, ◌≤◌, ◌<◌}
use native.Mathlib.Omega.{arith}
use borrow.Author.Count.{below_more}
use lib.ListN.{length}
use Rattle.text_spec.specs.Scans.{byte_at, Each, Begins}

module _ (f : ℕ → Bool) (s : List ℕ) (i : ℕ) where
  pub each_none : Each f s i i
  each_none k l h = absurd (omega arith)

  pub each_more : (j : ℕ) → Each f s i j → f (byte_at s j) ≡ true → Each f s i (j + 1)
  each_more j all e k l h = below_more (λ (k : ℕ). i ≤ k → f (byte_at s k) ≡ true) j (λ k h l. all k l h) (λ l. e) k h l

pub begins-more : {w s : List ℕ} {at n : ℕ} → Begins w s at n → at + n < length s → byte_at s (at + n) ≡ byte_at w n → Begins w s at (n + 1)
begins-more {w} {s} {at} {n} B l e =
    record { fits = omega arith; same = below_more (λ (k : ℕ). byte_at s (at + k) ≡ byte_at w k) n B.same e }
