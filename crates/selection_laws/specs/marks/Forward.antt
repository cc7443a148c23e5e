-- Passes from the first row to the last, for the axes that lead down: what they leave behind them, and what they find at a row.
use Rattle.std.specs.Prelude.{Bool, false, ◌||◌, ◌≡◌, ℕ, ◌<◌, length, get_or}
use Rattle.std.proofs.Math.Bool.{or-false}
use mathlib.Core.List.Memᴰ.{cases_cons}
use mathlib.Core.List.{List, [], ◌∷◌, Memᴰ as In}
use Rattle.std.proofs.Math.Logic.{⊎_elim}
use Rattle.std.proofs.Common.{sym, ap, subst, ◌∙◌, arith}
use Rattle.cells.specs.row_sets.Ancestors.{parent_of, ancestors_of, root-parent, later-parent, root-ancestors, later-ancestors, by-parents}
use Rattle.cells.specs.row_sets.Columns.{RowSet}
use Rattle.path_spec.specs.Paths.{self, child, descendant, descendant_or_self}
use Rattle.selection_laws.specs.marks.Parents.{row_on_axis, image, any-member}
use Rattle.table_laws.specs.Parents.{ParentsBefore}
use Rattle.text_spec.specs.Lists.{any_of}

-- ---- the axes down, row by row
module _ (ps : List ℕ) (before : ParentsBefore ps) where
  parent-inside : (r : ℕ) → r < length ps → (q : ℕ) → In q (parent_of ps r) → q < length ps
  parent-inside = by-parents ps before (λ r. (q : ℕ) → In q (parent_of ps r) → q < length ps) root later
    where
      root : (q : ℕ) → In q (parent_of ps 0) → q < length ps
      root q i = elim (subst (In q) (root-parent ps) i) [ ]

      later : (r : ℕ) → 0 < r → r < length ps → ((q : ℕ) → In q (parent_of ps (get_or ps r 0)) → q < length ps) → (q : ℕ) → In q (parent_of ps r) → q < length ps
      later r p l h q i =
          let b : get_or ps r 0 < r = before r p l in
          ⊎_elim (λ e. omega (arith, e)) (λ j. elim j [ ]) (cases_cons (subst (In q) (later-parent ps r p) i))

  pub ancestors-inside : (r : ℕ) → r < length ps → (q : ℕ) → In q (ancestors_of ps r) → q < length ps
  ancestors-inside = by-parents ps before (λ r. (q : ℕ) → In q (ancestors_of ps r) → q < length ps) root later
    where
      root : (q : ℕ) → In q (ancestors_of ps 0) → q < length ps
      root q i = elim (subst (In q) (root-ancestors ps) i) [ ]

      later : (r : ℕ) → 0 < r → r < length ps → ((q : ℕ) → In q (ancestors_of ps (get_or ps r 0)) → q < length ps) → (q : ℕ) → In q (ancestors_of ps r) → q < length ps
      later r p l h q i =
          let b : get_or ps r 0 < r = before r p l in
          ⊎_elim (λ e. omega (arith, e)) (h q) (cases_cons (subst (In q) (later-ancestors ps before r p l) i))

  module _ (f : RowSet) where
    image-child : (r : ℕ) → r < length ps → image child ps f r ≡ any_of f (parent_of ps r)
    unfolding image row_on_axis
    image-child r l = any-member (length ps) f (parent_of ps r) (parent-inside r l)

    image-descendant : (r : ℕ) → r < length ps → image descendant ps f r ≡ any_of f (ancestors_of ps r)
    unfolding image row_on_axis
    image-descendant r l = any-member (length ps) f (ancestors_of ps r) (ancestors-inside r l)

    image-descendant-or-self : (r : ℕ) → r < length ps → image descendant_or_self ps f r ≡ (f r || any_of f (ancestors_of ps r))
    unfolding image row_on_axis
    image-descendant-or-self r l =
        any-member (length ps) f (r ∷ ancestors_of ps r) (λ q i. ⊎_elim (λ e. omega (arith, e)) (ancestors-inside r l q) (cases_cons i))

    pub image-self : (r : ℕ) → r < length ps → image self ps f r ≡ f r
    unfolding image row_on_axis
    image-self r l = any-member (length ps) f (r ∷ []) (λ q i. ⊎_elim (λ e. omega (arith, e)) (λ j. elim j [ ]) (cases_cons i)) ∙ or-false (f r)

    pub child-root : 0 < length ps → image child ps f 0 ≡ false
    child-root l = image-child 0 l ∙ ap (any_of f) (root-parent ps)

    pub child-later : (r : ℕ) → 0 < r → r < length ps → image child ps f r ≡ f (get_or ps r 0)
    child-later r p l = image-child r l ∙ ap (any_of f) (later-parent ps r p) ∙ or-false (f (get_or ps r 0))

    pub descendant-root : 0 < length ps → image descendant ps f 0 ≡ false
    descendant-root l = image-descendant 0 l ∙ ap (any_of f) (root-ancestors ps)

    pub descendant-later : (r : ℕ) → 0 < r → r < length ps → image descendant ps f r ≡ (f (get_or ps r 0) || image descendant ps f (get_or ps r 0))
    descendant-later r p l =
        let b : get_or ps r 0 < r = before r p l in
        image-descendant r l ∙ ap (any_of f) (later-ancestors ps before r p l) ∙ ap (λ (t : Bool). f (get_or ps r 0) || t) (sym (image-descendant (get_or ps r 0) (omega arith)))

    pub descendant-or-self-root : 0 < length ps → image descendant_or_self ps f 0 ≡ f 0
    descendant-or-self-root l = image-descendant-or-self 0 l ∙ ap (λ (k : List ℕ). f 0 || any_of f k) (root-ancestors ps) ∙ or-false (f 0)

    pub descendant-or-self-later : (r : ℕ) → 0 < r → r < length ps
        → image descendant_or_self ps f r ≡ (f r || image descendant_or_self ps f (get_or ps r 0))
    descendant-or-self-later r p l =
        let b : get_or ps r 0 < r = before r p l in
        image-descendant-or-self r l ∙ ap (λ (k : List ℕ). f r || any_of f k) (later-ancestors ps before r p l)
        ∙ ap (λ (t : Bool). f r || t) (sym (image-descendant-or-self (get_or ps r 0) (omega arith)))
