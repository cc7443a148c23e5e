-- Steps in columns of numbers: what every number stands for, as an axis, as a cell of an axis, as a test.
use Rattle.std.specs.Prelude.{List, cond, ◌≡◌, eqb, ltb, get_or}
use Rattle.std.proofs.Common.{lt-ltb, le-ltb, ne_eqb}
use Prim.Native.Nat.{ℕ, ◌-◌, ◌≤◌, ◌<◌}
use Rattle.path_spec.specs.Paths.{Axis, self, child, descendant, descendant_or_self, parent, ancestor, ancestor_or_self, WrittenAxis, along, following, following_sibling, preceding, preceding_sibling, NodeTest, named, any_node, any_text}

-- an axis by its number
unfoldable pub axis_of : ℕ → Axis
axis_of c =
    cond (eqb c 1) child (cond (eqb c 2) descendant (cond (eqb c 3) descendant_or_self
    (cond (eqb c 4) parent (cond (eqb c 5) ancestor (cond (eqb c 6) ancestor_or_self self)))))

-- a written axis by its number: the four of document 02, R-1, come after the seven
unfoldable pub written_of : ℕ → WrittenAxis
written_of c =
    cond (eqb c 7) following (cond (eqb c 8) following_sibling (cond (eqb c 9) preceding (cond (eqb c 10) preceding_sibling (along (axis_of c)))))

-- the cell of an axis has its number, and 16 more at the last step of an alternative
abbrev pub last_mark : ℕ
last_mark = 16

unfoldable pub axis_number : ℕ → ℕ
axis_number c = cond (ltb c last_mark) c (c - last_mark)

pub number-going-on : (c : ℕ) → c < last_mark → axis_number c ≡ c
unfolding axis_number
number-going-on c h = rw (lt-ltb c last_mark h)

pub number-of-last : (c : ℕ) → last_mark ≤ c → axis_number c ≡ c - last_mark
unfolding axis_number
number-of-last c h = rw (le-ltb c last_mark h)

-- a test by its number: any node, any text, or one element
unfoldable pub test_of : ℕ → NodeTest ℕ
test_of t = cond (eqb t 254) any_node (cond (eqb t 255) any_text (named t))

-- the axis of the step k
abbrev pub axis_at : List ℕ → ℕ → WrittenAxis
axis_at axes k = written_of (axis_number (get_or axes k 0))

-- ---- every other number
pub axis-self : (c : ℕ) → (c ≡ 1 → ⊥) → (c ≡ 2 → ⊥) → (c ≡ 3 → ⊥) → (c ≡ 4 → ⊥) → (c ≡ 5 → ⊥) → (c ≡ 6 → ⊥) → axis_of c ≡ self
unfolding axis_of
axis-self c h1 h2 h3 h4 h5 h6 = rw (ne_eqb c 1 h1, ne_eqb c 2 h2, ne_eqb c 3 h3, ne_eqb c 4 h4, ne_eqb c 5 h5, ne_eqb c 6 h6)

pub written-along : (c : ℕ) → (c ≡ 7 → ⊥) → (c ≡ 8 → ⊥) → (c ≡ 9 → ⊥) → (c ≡ 10 → ⊥) → written_of c ≡ along (axis_of c)
unfolding written_of
written-along c h7 h8 h9 h10 = rw (ne_eqb c 7 h7, ne_eqb c 8 h8, ne_eqb c 9 h9, ne_eqb c 10 h10)

pub test-named : (t : ℕ) → (t ≡ 254 → ⊥) → (t ≡ 255 → ⊥) → test_of t ≡ named t
unfolding test_of
test-named t d e = rw (ne_eqb t 254 d, ne_eqb t 255 e)
