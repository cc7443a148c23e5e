-- The extract of a table, and that of a cut table, by the columns of the whole table: a field has its parent's number, which cutting keeps.
use Rattle.std.specs.Prelude.{Bool, true, ◌&&◌, ◌≡◌, refl, T, length}
use mathlib.Core.List.{List, [], ◌∷◌, ◌++◌, map}
use Rattle.std.proofs.Common.{⊎_elim, sym, ap, ◌∙◌, eq-or-lt_of_le, arith}
use Rattle.std.proofs.Math.Option.{Option, some}
use Rattle.std.proofs.Math.Path.{ap₂}
use Prim.Native.Nat.{ℕ, ◌<◌}
use Rattle.std.proofs.Math.ListN.{get_or, get_elem?}
use Rattle.std.proofs.lemmas.List.{length-map}
use Rattle.cells.specs.row_sets.Columns.{is_marked, marks, picked, marks-length, marks-marked}
use Rattle.extract_spec.specs.Cut.{cut}
use Rattle.extract_spec.specs.Fields.{count_tag, two_bytes, field, row_field, number_at, field_of, write_extract}
use Rattle.extract_writer.specs.rows.Rows.{field_at}
use Rattle.extract_writer.specs.writing.Extract.{extract_in}
use Rattle.kept_rows.specs.Joined.{joined, rank}
use Rattle.kept_rows.specs.Kept.{is_kept, kept_marks, kept-later}
use Rattle.kept_rows.specs.laws.Codes.{CodesNamed}
use Rattle.kept_rows.specs.laws.Cut.{columns_in, PassesFor, renumbered_by, get_d_map, at-mapped, parents-first, cut-picked, marks-size}
use Rattle.kept_rows.specs.laws.Picked.{joined-picked, picked-length, picked-at}
use Rattle.names.specs.codes.Codes.{name_of_code}
use Rattle.schema_spec.specs.Names.{Name, Names, code_of}
use Rattle.schema_spec.specs.Types.{Types}
use Rattle.table_laws.specs.Parents.{nodes-placed}
use Rattle.table_laws.specs.Places.{at_bound, at_some, at_in}
use Rattle.table_spec.specs.Rows.{Row, characters_by, characters_of}
use Rattle.table_spec.specs.Tables.{well_formed}
use Rattle.text_laws.specs.Tests.{passed, true_of, and_cases}
use Rattle.text_spec.specs.Lists.{gather, part}

gather-mapped : {A B C : Type 0} (g : B → List C) (h : A → B) (xs : List A) → gather (λ x. g (h x)) xs ≡ gather g (map h xs)
gather-mapped g h [] = refl
gather-mapped {A} {B} {C} g h (x ∷ xs) = ap (λ (l : List C). g (h x) ++ l) (gather-mapped g h xs)

picked_all : {A : Type 0} (xs : List A) → picked (marks (length xs) (λ r. true)) xs ≡ xs
unfolding picked marks
picked_all [] = refl
picked_all {A} (x ∷ xs) = ap (λ (l : List A). x ∷ l) (picked_all xs)

same-characters : (lent : List ℕ) (s t u v w z : ℕ) → s ≡ t → u ≡ v → w ≡ z → characters_by u w (part s u lent) ≡ characters_by v z (part t v lent)
same-characters lent s t u v w z e f g =
    ap₂ (λ (x y : ℕ). characters_by y w (part x y lent)) e f ∙ ap (λ (x : ℕ). characters_by v x (part t v lent)) g

same-field : (n k : Name) (a b c d : ℕ) (u v : List ℕ) → n ≡ k → a ≡ b → c ≡ d → u ≡ v → row_field n a c u ≡ row_field k b d v
same-field n k a b c d u v e f g h =
    ap (λ (x : Name). row_field x a c u) e ∙ ap (λ (x : ℕ). row_field k x c u) f ∙ ap (λ (x : ℕ). row_field k b x u) g ∙ ap (row_field k b d) h

module _ (s : Types) (lent : List ℕ) (rows : List Row) (ok : T (well_formed s rows)) (coded : CodesNamed rows) where
  -- the row of a row's parent
  parent_row : (q : ℕ) (r : Row) → get_elem? rows q ≡ some r → (p : Row) × (get_elem? rows r.parent ≡ some p)
  parent_row q r a =
      let l = at_bound rows q r a in
      let u = parents-first s rows ok q l in
      let e = get_d_map (λ x. x.parent) rows q r a in
      at_some rows r.parent (omega arith)

  field_row : (q : ℕ) (r p : Row) → get_elem? rows q ≡ some r → get_elem? rows r.parent ≡ some p
      → field_at lent (columns_in rows) q ≡ row_field r.name r.number p.number (characters_of lent r)
  unfolding field_at
  field_row q r p a b =
      same-field _ r.name _ r.number _ p.number _ (characters_of lent r) (ap name_of_code (get_d_map (λ x. code_of x.name) rows q r a) ∙ coded r (at_in rows q r a))
      (get_d_map (λ x. x.number) rows q r a)
      (ap (λ (k : ℕ). get_or (map (λ x. x.number) rows) k 0) (get_d_map (λ x. x.parent) rows q r a) ∙ get_d_map (λ x. x.number) rows r.parent p b)
      (same-characters lent _ r.start _ r.size _ r.decoded (get_d_map (λ x. x.start) rows q r a) (get_d_map (λ x. x.size) rows q r a) (get_d_map (λ x. x.decoded) rows q r a))

  -- the extract of the whole table
  pub table-extract : extract_in lent (columns_in rows) (marks (length rows) (λ r. true)) ≡ write_extract lent rows
  unfolding extract_in write_extract
  table-extract = ap₂ (λ (x : List ℕ) (n : ℕ). x ++ field count_tag (two_bytes n)) fields count
    where
      m : List ℕ
      m = marks (length rows) (λ r. true)

      long : length m ≡ length rows
      long = marks-length (length rows) (λ r. true)

      row : (q : ℕ) (r : Row) → get_elem? rows q ≡ some r → is_marked m q ≡ true → field_at lent (columns_in rows) q ≡ field_of lent rows r
      row q r a k =
          let p = parent_row q r a in
          field_row q r p.0 a p.1 ∙ sym (ap (λ (o : Option Row). row_field r.name r.number (number_at o) (characters_of lent r)) p.1)

      fields : joined (field_at lent (columns_in rows)) m (length m) ≡ gather (field_of lent rows) rows
      fields =
          ap (joined (field_at lent (columns_in rows)) m) long ∙ joined-picked (field_at lent (columns_in rows)) (field_of lent rows) m rows long row
          ∙ ap (gather (field_of lent rows)) (picked_all rows)

      count : rank m (length m) ≡ length rows
      count = ap (rank m) long ∙ picked-length m rows long ∙ ap length (picked_all rows)

  -- the extract of the cut table, from the whole one
  module _ (f : ℕ → Bool) (set : Names) (agree : PassesFor f set rows) where
    pub cut-extract : extract_in lent (columns_in rows) (kept_marks f (columns_in rows).names (columns_in rows).parents) ≡ write_extract lent (cut set rows)
    unfolding extract_in write_extract kept_marks renumbered_by
    cut-extract = ap₂ (λ (x : List ℕ) (n : ℕ). x ++ field count_tag (two_bytes n)) fields count
      where
        codes : List ℕ
        codes = map (λ q. code_of q.name) rows

        ps : List ℕ
        ps = map (λ q. q.parent) rows

        m : List ℕ
        m = kept_marks f codes ps

        long : length m ≡ length rows
        long = marks-size s rows ok f set agree

        chosen : cut set rows ≡ map (renumbered_by m) (picked m rows)
        chosen = cut-picked s rows ok f set agree

        kept-is : (r : ℕ) → r < length rows → is_marked m r ≡ is_kept f codes ps r
        kept-is r l = marks-marked (length ps) (is_kept f codes ps) r (omega (arith, length-map rows (λ q. q.parent)))

        -- the parent of a kept row is kept
        above : (q : ℕ) (r : Row) → get_elem? rows q ≡ some r → is_marked m q ≡ true → is_marked m r.parent ≡ true
        above q r a k = ⊎_elim root later (eq-or-lt_of_le {n = 0} {m = q} (omega arith))
          where
            l : q < length rows
            l = at_bound rows q r a

            up : get_or ps q 0 ≡ r.parent
            up = get_d_map (λ x. x.parent) rows q r a

            root : 0 ≡ q → is_marked m r.parent ≡ true
            root z =
                let b = parents-first s rows ok q l in
                let y : r.parent ≡ q = omega (arith, up, b) in
                ap (is_marked m) y ∙ k

            later : 0 < q → is_marked m r.parent ≡ true
            later z =
                let before = (nodes-placed s [] rows ok).before in
                let i : q < length ps = omega (arith, l, length-map rows (λ x. x.parent)) in
                let b = before q z i in
                let t : T (f (get_or codes q 0) && is_kept f codes ps (get_or ps q 0)) = passed (sym (kept-later f codes ps before q z i) ∙ sym (kept-is q l) ∙ k) in
                ap (is_marked m) (sym up) ∙ kept-is (get_or ps q 0) (omega (arith, l)) ∙ true_of (is_kept f codes ps (get_or ps q 0)) (and_cases (f (get_or codes q 0)) (is_kept f codes ps (get_or ps q 0)) t).1

        row : (q : ℕ) (r : Row) → get_elem? rows q ≡ some r → is_marked m q ≡ true → field_at lent (columns_in rows) q ≡ field_of lent (cut set rows) (renumbered_by m r)
        row q r a k =
            let p = parent_row q r a in
            field_row q r p.0 a p.1
            ∙ sym (ap (λ (o : Option Row). row_field r.name r.number (number_at o) (characters_of lent r))
            (ap (λ (c : List Row). get_elem? c (rank m r.parent)) chosen
            ∙ at-mapped (renumbered_by m) (picked m rows) (rank m r.parent) p.0 (picked-at m rows r.parent p.0 p.1 (above q r a k))))

        fields : joined (field_at lent (columns_in rows)) m (length m) ≡ gather (field_of lent (cut set rows)) (cut set rows)
        fields =
            ap (joined (field_at lent (columns_in rows)) m) long
            ∙ joined-picked (field_at lent (columns_in rows)) (λ r. field_of lent (cut set rows) (renumbered_by m r)) m rows long row
            ∙ gather-mapped (field_of lent (cut set rows)) (renumbered_by m) (picked m rows) ∙ ap (gather (field_of lent (cut set rows))) (sym chosen)

        count : rank m (length m) ≡ length (cut set rows)
        count = ap (rank m) long ∙ picked-length m rows long ∙ sym (length-map (picked m rows) (renumbered_by m)) ∙ ap length (sym chosen)
