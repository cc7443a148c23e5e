-- The rows of a well-formed table, written as fields and read again.
use Rattle.std.specs.Prelude.{List, [], ◌∷◌, ◌++◌, ◌≡◌, refl, ℕ, zero, suc, ◌+◌, ◌<◌, ◌≤◌, T, eqb, length}
use Rattle.std.proofs.Common.{append_assoc, sym, ap, subst₂, ◌∙◌, arith, length-append}
use Rattle.std.proofs.Math.Option.{Option, none, some}
use Rattle.std.proofs.Math.Dec.{eqb_refl}
use Rattle.std.proofs.Math.ListN.{get_elem?}
use Rattle.extract_spec.specs.Fields.{count_tag, two_bytes, field, row_field, field_of, write_extract, rows_at, extract_rows}
use Rattle.extract_spec.specs.Reading.{items_from, items_of, Placed, open_from, rows_of_later_items, rows_of_items}
use Rattle.projection_laws.specs.Fields.{count-read}
use Rattle.projection_laws.specs.Items.{opens_after, field-item, item-row, root-item, parent_number, rest_written}
use Rattle.projection_laws.specs.Moved.{HasText, has-text, restart}
use Rattle.projection_laws.specs.Opens.{placed, Opens, open-element, open-text, opens-grow, FoundOpen, opens-found, opens-first, ReachedRows, row-of-node, same_count, reached-first, reached-next}
use Rattle.projection_laws.specs.TextNames.{TextNames}
use Rattle.schema_spec.specs.Names.{element, text, Name, is_text}
use Rattle.schema_spec.specs.Types.{Types}
use Rattle.table_laws.specs.Fits.{attached-number, RowFits, row_fits_lem, Rooted, rooted, Fitting, fitting}
use Rattle.table_laws.specs.Places.{at_before, at-end}
use Rattle.table_spec.specs.Nodes.{Node, top, under, node_number, name_of, node_at}
use Rattle.table_spec.specs.Rows.{Row, characters_of}
use Rattle.table_spec.specs.Tables.{well_formed, row_fits, later_rows, text_inside}
use Rattle.text_laws.specs.Tests.{and_cases, cond-true}
use Rattle.text_spec.specs.Limits.{max_nodes}
use Rattle.text_spec.specs.Lists.{all_of, gather}

opens-after : (n : Name) (before : List Node) (number next : ℕ) (w : List ℕ) (p : Node) (os : List Placed) → Opens before p os → node_number p < number
    → get_elem? before next ≡ some (under number n w p) → Opens before (under number n w p) (opens_after n next number os)
opens-after (element e) before number next w p os o h g = open-element g h o
opens-after (text e) before number next w p os o h g = open-text h o

-- The later rows of a well-formed table, written and read.
module _ (s : Types) (law : TextNames s) (lent : List ℕ) (all : List Row) where
  -- one row, given that the rows after it are read wherever it leaves the reader
  read-row : (done rs rs' : List Row) (before : List Node) (previous : Node) (os : List Placed) (r : Row) (next fuel k : ℕ) → ReachedRows done before previous os
      → all ≡ done ++ r ∷ rs → next ≡ length done → node_number previous < max_nodes → RowFits s before previous r (node_at [] before r) → Fitting s before previous r
      → T (text_inside lent r)
      → ((os' : List Placed) → ReachedRows (done ++ (r ∷ [])) (before ++ (node_at [] before r ∷ [])) (node_at [] before r) os'
      → rows_of_later_items (suc next) os' (items_from fuel (k + length (field_of lent all r)) (rest_written lent all rs)) ≡ some rs')
      → rows_of_later_items next os (items_from (suc fuel) k (rest_written lent all (r ∷ rs))) ≡ some (restart k r ∷ rs')
  read-row done rs rs' before previous os r next fuel k c e n b fits g inside later =
      let f = field_of lent all r in
      let after = rest_written lent all rs in
      let w = characters_of lent r in
      let up = parent_number all r in
      ap (λ (l : List ℕ). rows_of_later_items next os (items_from (suc fuel) k l)) (append_assoc f (gather (field_of lent all) rs) (field count_tag (two_bytes (length all))))
      ∙ ap (rows_of_later_items next os) (field-item r.name fuel k r.number up w after (omega arith) (omega (arith, parent-number, low))
      (omega (arith, held.size, held.short)))
      ∙ item-row r.name k r.number up (length w) next os first rest (items_from fuel (k + length f) after) rs' found named (later _ reached)
      ∙ ap {B = Option (List Row)} (λ (q : Row). some (q ∷ rs')) (rw (place, held.size, held.of_name))
    where
      p : Node
      p = g.parent

      y : Node
      y = node_at [] before r

      no_text : (n : Name) → T (s.holds n r.name) → T (is_text n) → ⊥
      no_text (element a) t u = u
      no_text (text a) t u = law.holds_nothing a r.name t

      above : FoundOpen before p os
      above = opens-found c.opened p g.is_open (no_text (name_of p) g.held)

      parent_opened : (i a : ℕ) × (higher : List Placed) × (above.0 ≡ placed i (node_number p) a ∷ higher) × (get_elem? before i ≡ some p) × (name_of p ≡ element a)
      parent_opened = opens-first above.2 (no_text (name_of p) g.held)

      first : Placed
      first = placed parent_opened.0 (node_number p) parent_opened.1

      rest : List Placed
      rest = parent_opened.2

      place : parent_opened.0 ≡ r.parent
      place = c.distinct parent_opened.0 r.parent p p parent_opened.4 g.parent_at refl

      parent-number : parent_number all r ≡ node_number p
      parent-number =
          let q = row-of-node done before c.numbers r.parent p g.parent_at in
          rw (e, at_before done (r ∷ rs) r.parent q.0 q.1) q.2

      low : node_number p ≤ node_number previous
      low = c.bounded r.parent p g.parent_at

      held : HasText r.name lent r
      held = has-text r.name lent r refl fits.cells inside

      found : open_from (parent_number all r) os ≡ first ∷ rest
      found = ap (λ (m : ℕ). open_from m os) parent-number ∙ above.1 ∙ parent_opened.3

      named : (a : ℕ) → r.name ≡ text a → first.element ≡ a
      named a q =
          let own : name_of p ≡ element a = law.held_by_own (name_of p) a (rw q at g.held) in
          let known : name_of p ≡ element first.element = parent_opened.5 in
          cc

      node : y ≡ under r.number r.name (characters_of [] r) p
      node = rw g.parent_at

      grown : List Node
      grown = before ++ (y ∷ [])

      last : get_elem? grown next ≡ some (under r.number r.name (characters_of [] r) p)
      last = ap (get_elem? grown) (n ∙ sym (same_count done before c.numbers)) ∙ at-end before y [] ∙ ap {B = Option Node} some node

      opened : Opens grown y (opens_after r.name next r.number (first ∷ rest))
      opened =
          subst₂ (λ (z : Node) (l : List Placed). Opens grown z (opens_after r.name next r.number l)) (sym node) parent_opened.3
          (opens-after r.name grown r.number next (characters_of [] r) p above.0 (opens-grow y above.2) (omega (arith, low, fits.rises)) last)

      reached : ReachedRows (done ++ (r ∷ [])) grown y (opens_after r.name next r.number (first ∷ rest))
      reached = reached-next c r y (opens_after r.name next r.number (first ∷ rest)) (ap node_number node) fits.rises opened

  read-later : (done rs : List Row) (before : List Node) (previous : Node) (os : List Placed) (next fuel k : ℕ) → ReachedRows done before previous os
      → all ≡ done ++ rs → next ≡ length done → length all < 65536 → length rs < fuel → node_number previous < max_nodes → T (later_rows s before previous rs)
      → T (all_of (text_inside lent) rs)
      → rows_of_later_items next os (items_from fuel k (rest_written lent all rs)) ≡ some (rows_at (field_of lent all) k rs)
  read-later done [] before previous os next zero k c e n h f b t i = absurd (omega arith)
  read-later done [] before previous os next (suc fuel) k c e n h f b t i =
      let whole : length all ≡ next = omega (arith, ap length e, length-append done []) in
      ap (rows_of_later_items next os) (count-read fuel k (length all) h) ∙ cond-true (eqb (length all) next) (some []) none (rw whole (eqb_refl next))
  read-later done (r ∷ rs) before previous os next zero k c e n h f b t i = absurd (omega arith)
  read-later done (r ∷ rs) before previous os next (suc fuel) k c e n h f b t i =
      let y = node_at [] before r in
      let u = and_cases (row_fits s before previous r y) (later_rows s (before ++ (y ∷ [])) y rs) t in
      let v = and_cases (text_inside lent r) (all_of (text_inside lent) rs) i in
      let fits = row_fits_lem s before previous r y u.0 in
      let place = k + length (field_of lent all r) in
      let small : node_number y < max_nodes = rw (attached-number r.number r.name (characters_of [] r) (get_elem? before r.parent)) fits.small in
      read-row done rs (rows_at (field_of lent all) place rs) before previous os r next fuel k c e n b fits (fitting s before previous r fits) v.0
      (λ os' c'.
      read-later (done ++ (r ∷ [])) rs (before ++ (y ∷ [])) y os' (suc next) fuel place c' (e ∙ sym (append_assoc done (r ∷ []) rs))
      (omega (arith, length-append done (r ∷ []))) h (omega arith) small u.1 v.1)

-- numbers rise, so there are no more rows than numbers
count-bound : (s : Types) (before : List Node) (previous : Node) (rs : List Row) (m : ℕ) → T (later_rows s before previous rs) → m ≤ suc (node_number previous)
    → node_number previous < max_nodes → m + length rs ≤ max_nodes
count-bound s before previous [] m t h b = omega arith
count-bound s before previous (r ∷ rs) m t h b =
    let y = node_at [] before r in
    let u = and_cases (row_fits s before previous r y) (later_rows s (before ++ (y ∷ [])) y rs) t in
    let g = row_fits_lem s before previous r y u.0 in
    let k : node_number y ≡ r.number = attached-number r.number r.name (characters_of [] r) (get_elem? before r.parent) in
    let l = g.rises in
    let d = g.small in
    let i = count-bound s (before ++ (y ∷ [])) y rs (suc m) u.1 (omega arith) (omega arith) in
    omega arith

-- a field has a byte, so fields are as many as bytes at most
field-long : (n : Name) (number parent : ℕ) (w : List ℕ) → 1 ≤ length (row_field n number parent w)
field-long (element e) number parent w = omega arith
field-long (text e) number parent w = omega arith

fields-long : (lent : List ℕ) (all rs : List Row) → length rs ≤ length (gather (field_of lent all) rs)
fields-long lent all [] = omega arith
fields-long lent all (r ∷ rs) =
    let one = field-long r.name r.number (parent_number all r) (characters_of lent r) in
    omega (arith, fields-long lent all rs, length-append (field_of lent all r) (gather (field_of lent all) rs))

-- a whole well-formed table, written and read
read_table : (s : Types) → TextNames s → (lent : List ℕ) (r : Row) (rs : List Row) → Rooted s r rs → T (all_of (text_inside lent) (r ∷ rs)) → (fuel : ℕ)
    → length rs < fuel
    → rows_of_items (items_from (suc fuel) 0 (rest_written lent (r ∷ rs) (r ∷ rs))) ≡ some (rows_at (field_of lent (r ∷ rs)) 0 (r ∷ rs))
read_table s law lent r rs c i fuel h =
    let w = characters_of lent r in
    let up = parent_number all r in
    ap (λ (l : List ℕ). rows_of_items (items_from (suc fuel) 0 l)) (append_assoc f (gather (field_of lent all) rs) (field count_tag (two_bytes (length all))))
    ∙ ap rows_of_items (field-item r.name fuel 0 r.number up w after (omega (arith, c.number)) (omega (arith, parent-number))
    (omega (arith, held.size, held.short)))
    ∙ root-item r.name root 0 r.number up (length w) (items_from fuel (0 + length f) after) rs' named parent-number later
    ∙ ap {B = Option (List Row)} (λ (q : Row). some (q ∷ rs')) (rw (held.size, held.of_name, c.parent))
  where
    all : List Row
    all = r ∷ rs

    f : List ℕ
    f = field_of lent all r

    after : List ℕ
    after = rest_written lent all rs

    rs' : List Row
    rs' = rows_at (field_of lent all) (0 + length f) rs

    y : Node
    y = top r.number r.name

    root : ℕ
    root = law.root_element.0

    named : r.name ≡ element root
    named = c.name ∙ law.root_element.1

    parent-number : parent_number all r ≡ 0
    parent-number = rw c.parent c.number

    parts : T (text_inside lent r) × T (all_of (text_inside lent) rs)
    parts = and_cases (text_inside lent r) (all_of (text_inside lent) rs) i

    held : HasText r.name lent r
    held = has-text r.name lent r refl c.cells parts.0

    few : length all < 65536
    few = omega (arith, count-bound s (y ∷ []) y rs 1 c.later (omega arith) (omega (arith, c.number)))

    later : rows_of_later_items 1 (placed 0 r.number root ∷ []) (items_from fuel (0 + length f) after) ≡ some rs'
    later =
        read-later s law lent all (r ∷ []) rs (y ∷ []) y (placed 0 r.number root ∷ []) 1 fuel (0 + length f) (reached-first r root named) refl refl few h
        (omega (arith, c.number)) c.later parts.1

pub written-long : (lent : List ℕ) (rows : List Row) → length rows + 5 ≤ length (rest_written lent rows rows)
written-long lent rows =
    omega (arith, fields-long lent rows rows, length-append (gather (field_of lent rows) rows) (field count_tag (two_bytes (length rows))))

pub table-items : (s : Types) → TextNames s → (lent : List ℕ) (rows : List Row) → T (well_formed s rows) → T (all_of (text_inside lent) rows)
    → rows_of_items (items_of (write_extract lent rows)) ≡ some (extract_rows lent rows)
unfolding write_extract items_of extract_rows
table-items s law lent [] t i = refl
table-items s law lent (r ∷ rs) t i = by_length (length (rest_written lent (r ∷ rs) (r ∷ rs))) (written-long lent (r ∷ rs))
  where
    by_length : (m : ℕ) → length (r ∷ rs) + 5 ≤ m
        → rows_of_items (items_from m 0 (rest_written lent (r ∷ rs) (r ∷ rs))) ≡ some (rows_at (field_of lent (r ∷ rs)) 0 (r ∷ rs))
    by_length zero h = absurd (omega arith)
    by_length (suc fuel) h = read_table s law lent r rs (rooted s r rs t) i fuel (omega arith)
