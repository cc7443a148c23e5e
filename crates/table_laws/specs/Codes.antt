-- Names that have a code, and rows whose names have one: those that lent cells can hold.
use Rattle.std.specs.Prelude.{Bool, true, false, cond, ◌≡◌, refl, ℕ, ◌+◌, ◌-◌, ◌<◌, ◌≤◌, ltb}
use mathlib.Core.List.Memᴰ.{cases_cons}
use mathlib.Core.List.{List, [], ◌∷◌, Memᴰ as In}
use Rattle.std.proofs.Common.{⊎_elim, sym, subst, arith, ltb-true, ltb-false}
use Rattle.std.proofs.Math.Option.{Option, none, some}
use Rattle.schema_spec.specs.Names.{Name, element, text, name_of_code}
use Rattle.table_laws.specs.Places.{none-some}
use Rattle.table_spec.specs.Rows.{Row, row, Cells, row_with, row_of, cons_of, rows_of}
use Rattle.text_spec.specs.Limits.{max_declarations}

-- ---- definitions
abbrev pub HasCode : Name → Type 0
HasCode (element e) = e < max_declarations
HasCode (text e) = e < max_declarations

-- each row's name is one that a code can stand for
abbrev pub NamesCoded : List Row → Type 0
NamesCoded rows = (r : Row) → In r rows → HasCode r.name

-- ---- names that come from codes
code-name : (c : ℕ) (n : Name) → name_of_code c ≡ some n → HasCode n
code-name c n e = as-element (ltb c max_declarations) refl e
  where
    as-text : (b : Bool) → ltb c (max_declarations + max_declarations) ≡ b → max_declarations ≤ c → cond b (some (text (c - max_declarations))) none ≡ some n → HasCode n
    as-text true q l d =
        let z : text (c - max_declarations) ≡ n = cc in
        let h : c < max_declarations + max_declarations = ltb-true c (max_declarations + max_declarations) q in
        subst HasCode z (omega arith)
    as-text false q l d = none-some d

    as-element : (b : Bool) → ltb c max_declarations ≡ b
        → cond b (some (element c)) (cond (ltb c (max_declarations + max_declarations)) (some (text (c - max_declarations))) none) ≡ some n → HasCode n
    as-element true q d =
        let z : element c ≡ n = cc in
        subst HasCode z (ltb-true c max_declarations q)
    as-element false q d = as-text (ltb c (max_declarations + max_declarations)) refl (ltb-false c max_declarations q) d

cell-name : (c : Cells) (r : Row) → row_of c ≡ some r → HasCode r.name
cell-name c r e = by (name_of_code c.name) refl e
  where
    by : (o : Option Name) → name_of_code c.name ≡ o → row_with c o ≡ some r → HasCode r.name
    by none q d = none-some d
    by (some n) q d =
        let z : row c.number n c.parent c.start c.size c.decoded ≡ r = cc in
        subst (λ (x : Row). HasCode x.name) z (code-name c.name n q)

-- the rows of lent cells have names that codes can stand for
pub cells-coded : (cs : List Cells) (rows : List Row) → rows_of cs ≡ some rows → NamesCoded rows
cells-coded [] rows e = let z : [] ≡ rows = cc in subst NamesCoded z (λ r i. elim i [ ])
cells-coded (c ∷ cs) rows e = by (row_of c) (rows_of cs) refl (λ rs q. cells-coded cs rs q) refl e
  where
    by : (o : Option Row) (os : Option (List Row)) → row_of c ≡ o → ((rs : List Row) → rows_of cs ≡ some rs → NamesCoded rs) → rows_of cs ≡ os → cons_of o os ≡ some rows
        → NamesCoded rows
    by none os p h q d = none-some d
    by (some r) none p h q d = none-some d
    by (some r) (some rs) p h q d =
        let z : r ∷ rs ≡ rows = cc in
        subst NamesCoded z
        (λ x i. ⊎_elim (λ y. subst (λ (w : Row). HasCode w.name) (sym y) (cell-name c r p)) (λ j. h rs q x j) (cases_cons i))
