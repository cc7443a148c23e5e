-- The rows above a row, by the column of parents, and the axes between rows. Row 0 is the root.
use Rattle.std.specs.Prelude.{Bool, ◌&&◌, ◌≡◌, ℕ, ◌<◌, T, length}
use mathlib.Core.List.{List, [], ◌∷◌, Memᴰ as In}
use Rattle.std.proofs.Common.{ap}
use Rattle.cells.specs.row_sets.Ancestors.{parent_of, ancestors_of, is_in, is-in, in_is}
use Rattle.cells.specs.row_sets.Columns.{RowSet, marks, is_marked}
use Rattle.path_spec.specs.Paths.{Axis, self, child, descendant, descendant_or_self, parent, ancestor, ancestor_or_self}
use Rattle.text_laws.specs.Lists.{any-in, in-any}
use Rattle.text_laws.specs.Searches.{below-any, any_below_lem, any-cong}
use Rattle.text_laws.specs.Tests.{and_intro, and_cases, same_test}
use Rattle.text_spec.specs.Lists.{any_of, any_below}

-- ---- definitions
-- row r lies on the axis from row q
unfoldable pub row_on_axis : Axis → List ℕ → ℕ → ℕ → Bool
row_on_axis self ps q r = is_in q (r ∷ [])
row_on_axis child ps q r = is_in q (parent_of ps r)
row_on_axis descendant ps q r = is_in q (ancestors_of ps r)
row_on_axis descendant_or_self ps q r = is_in q (r ∷ ancestors_of ps r)
row_on_axis parent ps q r = is_in r (parent_of ps q)
row_on_axis ancestor ps q r = is_in r (ancestors_of ps q)
row_on_axis ancestor_or_self ps q r = is_in r (q ∷ ancestors_of ps q)

-- of n rows those that a relation leads to from some row of a set
abbrev pub reached_by : (ℕ → ℕ → Bool) → ℕ → RowSet → RowSet
reached_by leads n f r = any_below n (λ q. f q && leads q r)

-- the rows on the axis from some row of a set
unfoldable pub image : Axis → List ℕ → RowSet → RowSet
image a ps f r = reached_by (row_on_axis a ps) (length ps) f r

unfoldable pub image_marks : Axis → List ℕ → List ℕ → List ℕ
image_marks a ps m = marks (length ps) (image a ps (is_marked m))

-- ---- laws
-- some row of a set is in a list of rows: the list has a row of the set
pub any-member : (n : ℕ) (f : RowSet) (line : List ℕ) → ((q : ℕ) → In q line → q < n) → any_below n (λ q. f q && is_in q line) ≡ any_of f line
any-member n f line b = same_test (any_below n (λ q. f q && is_in q line)) (any_of f line) to from
  where
    to : T (any_below n (λ q. f q && is_in q line)) → T (any_of f line)
    to t =
        let r = below-any n (λ q. f q && is_in q line) t in
        let c = and_cases (f r.0) (is_in r.0 line) r.2 in
        any-in f (in_is r.0 line c.1) c.0

    from : T (any_of f line) → T (any_below n (λ q. f q && is_in q line))
    from t =
        let r = in-any f line t in
        any_below_lem n (λ q. f q && is_in q line) r.0 (b r.0 r.1) (and_intro (f r.0) (is_in r.0 line) r.2 (is-in r.0 r.1))

pub image-cong : (a : Axis) (ps : List ℕ) (f g : RowSet) → ((q : ℕ) → q < length ps → f q ≡ g q) → (r : ℕ) → image a ps f r ≡ image a ps g r
unfolding image
image-cong a ps f g h r =
    any-cong (length ps) (λ q. f q && row_on_axis a ps q r) (λ q. g q && row_on_axis a ps q r) (λ q l. ap (λ (b : Bool). b && row_on_axis a ps q r) (h q l))
