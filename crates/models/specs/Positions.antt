-- The positions of a content model: its names, numbered from left to right, and which may come first, last, and after which
-- (Glushkov's sets).
use Rattle.std.specs.Prelude.{Bool, false, ◌&&◌, ◌||◌, ℕ, ◌+◌, eqb}
use Rattle.schema_spec.specs.Models.{Particle, named, sequence, choice, repeated}

-- how many positions a particle has
abbrev pub size : Particle ℕ → ℕ
size (named a) = 1
size (sequence p q) = size p + size q
size (choice p q) = size p + size q
size (repeated m n p) = size p

-- nothing at all fits
abbrev pub may_be_absent : Particle ℕ → Bool
may_be_absent (named a) = false
may_be_absent (sequence p q) = may_be_absent p && may_be_absent q
may_be_absent (choice p q) = may_be_absent p || may_be_absent q
may_be_absent (repeated m n p) = n || may_be_absent p

-- position i may be the first child's, in a particle whose positions are numbered from k
abbrev pub is_first : ℕ → Particle ℕ → ℕ → Bool
is_first k (named a) i = eqb i k
is_first k (sequence p q) i = is_first k p i || (may_be_absent p && is_first (k + size p) q i)
is_first k (choice p q) i = is_first k p i || is_first (k + size p) q i
is_first k (repeated m n p) i = is_first k p i

-- position i may be the last child's
abbrev pub is_last : ℕ → Particle ℕ → ℕ → Bool
is_last k (named a) i = eqb i k
is_last k (sequence p q) i = (is_last k p i && may_be_absent q) || is_last (k + size p) q i
is_last k (choice p q) i = is_last k p i || is_last (k + size p) q i
is_last k (repeated m n p) i = is_last k p i

-- position j may come right after position i
abbrev pub is_next : ℕ → Particle ℕ → ℕ → ℕ → Bool
is_next k (named a) i j = false
is_next k (sequence p q) i j = is_next k p i j || (is_next (k + size p) q i j || (is_last k p i && is_first (k + size p) q j))
is_next k (choice p q) i j = is_next k p i j || is_next (k + size p) q i j
is_next k (repeated m n p) i j = is_next k p i j || (m && (is_last k p i && is_first k p j))
