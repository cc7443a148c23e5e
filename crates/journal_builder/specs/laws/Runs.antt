-- Laws of runs of character data.
use Rattle.std.specs.Prelude.{Bool, true, false, not, ◌||◌, List, [], ◌∷◌, ◌≡◌, refl, ℕ, suc, ◌+◌, ◌-◌, ◌%◌, ◌≤◌, ◌<◌, leb, ltb, length, Option as CodeOption, Some, None}
use Rattle.std.proofs.Common.{true≢false, sym, ap, ap₂, subst, ◌∙◌, mod-eq_of_lt, arith, le-leb, leb-false, ltb-false, ne_eqb}
use Rattle.std.proofs.Math.Option.{Option}
use Rattle.cells.specs.columns.Columns.{cells}
use Rattle.cells.specs.declared.columns.RowCells.{RowCells}
use Rattle.journal_builder.specs.build_state.State.{judged_from, RowsBelow, Built, begun-row, Leaves, SafeStep, broken_by, PlacedIn, outside_by, texted, step}
use Rattle.journal_builder.specs.declared.build_state.Build.{Build}
use Rattle.journal_builder.specs.declared.fillings.Filling.{Filling}
use Rattle.journal_builder.specs.declared.fillings.Filling.TheVariants.{Unjudged, Misfit, Unfilled, ByText, ByChildren}
use Rattle.journal_builder.specs.declared.open_levels.Level.{Level}
use Rattle.journal_builder.specs.fillings.Fillings.{FillingOf}
use Rattle.journal_builder.specs.laws.StateLaws.{Innermost, innermost, refilled, length_refill, below_more, below-refill, faults-now, placed-now, judged-now, breaks-built, leaves_kept}
use Rattle.journal_builder.specs.open_levels.Levels.{level_at, with_filling, Stored, LevelOf, Opened}
use Rattle.journal_builder.specs.rows.Rows.{text_cells}
use Rattle.journal_lexer.specs.state.Places.{place_in}
use Rattle.journal_spec.specs.Builder.{Filling as Contained, filled_by_text, Open, Building, building, refill, with_run, outside, text_node, inside, on_run}
use Rattle.schema_spec.specs.Schemas.{Schema}
use Rattle.table_spec.specs.Rows.{Cells, cells_of, text_row}
use Rattle.text.specs.fault_keys.KeyLaws.{least-given, placed-given, noted-none, noted-from}
use Rattle.text.specs.fault_keys.Keys.{no_key, place_limit, noted_key}
use Rattle.text_spec.specs.Limits.{max_declarations, max_depth, max_nodes, max_text_bytes}
use Rattle.text_spec.specs.Lists.{is_none}
use Rattle.text_spec.specs.Refusals.{bad_nesting, over_node_limit}
use Rattle.token_spec.specs.Lexer.{Run, run}

or-false : (x y : Bool) → (x || y) ≡ false → (x ≡ false) × (y ≡ false)
or-false true y e = absurd (true≢false e)
or-false false y e = (refl, e)

-- ---- outside the root
module _ (s : Schema) (b : Building) (levels : List Level) (m : Build) (whole : is_none b.broken ≡ true) (w : Built s levels m b) where
  pub outside-leaves : (start size saved : ℕ) (solid : CodeOption ℕ) → PlacedIn solid → m.depth ≡ 0
      → Leaves s levels m b (step (outside_by solid m) None) (on_run (run start (place_in solid) saved) size b)
  outside-leaves start size saved solid p z = from b.opens w.depth refl
    where
      pick : (y : CodeOption ℕ) → PlacedIn y → Leaves s levels m b (step (outside_by y m) None) (outside (place_in y) b)
      pick None p = leaves_kept {x = step m None} refl refl w
      pick (Some k) p = leaves_kept {x = step (broken_by 12 k m) None} refl refl (breaks-built s b levels m whole w bad_nesting k (omega arith) p)

      from : (os : List Open) → m.depth ≡ length os → b.opens ≡ os → Leaves s levels m b (step (outside_by solid m) None) (on_run (run start (place_in solid) saved) size b)
      from [] d e =
          subst (λ (os : List Open). Leaves s levels m b (step (outside_by solid m) None) (inside os (run start (place_in solid) saved) size b)) (sym e) (pick solid p)
      from (o ∷ os) d e = absurd (omega arith)

pub outside-safe : (m : Build) (solid : CodeOption ℕ) → m.depth ≤ max_depth → SafeStep m (step (outside_by solid m) None)
outside-safe m None w = record { shallow = w; counted = omega arith }
outside-safe m (Some k) w = record { shallow = w; counted = omega arith }

-- ---- inside it, by the innermost element
-- content that has no text node
no_text : (s : Schema) (f : Filling) (x : Contained) (r : Run) (size parent : ℕ) (b : Building) → ((e : ℕ) → f ≡ ByText e → ⊥) → FillingOf s f x → text_node x r size parent b ≡ b
no_text s Unjudged x r size parent b n h = rw h refl
no_text s Misfit x r size parent b n h = rw h refl
no_text s Unfilled x r size parent b n h = rw h refl
no_text s (ByText e) x r size parent b n h = absurd (n e refl)
no_text s (ByChildren e state) x r size parent b n h = rw h.progress refl

-- one text node more
module _ (s : Schema) (b : Building) (levels : List Level) (m : Build) (whole : is_none b.broken ≡ true) (w : Built s levels m b) (e start size parent : ℕ) (l : e < max_declarations)
    (p : start < place_limit) (q : parent < b.count) where
  abbrev over : Bool
  over = ltb max_text_bytes size || leb max_nodes m.count

  none_after : (texted m start size).fault ≡ no_key → (over ≡ false) × (m.fault ≡ no_key)
  none_after z = noted-none over 16 start m.fault (omega arith) p z

  text-built : (solid : Option ℕ) (saved : ℕ) → Built s levels (texted m start size) (text_node (filled_by_text e) (run start solid saved) size parent b)
  text-built solid saved =
      record {
        depth = w.depth;
        opened = w.opened;
        below = below_more b.count (suc b.count) b.opens (omega arith) w.below;
        count = omega (arith, w.count);
        listed = ap suc w.listed;
        rooted =
            let x : (b.count ≡ 0 → ⊥) = λ z. omega arith in
            let y : (suc b.count ≡ 0 → ⊥) = λ z. omega arith in
            w.rooted ∙ ap not (ne_eqb b.count 0 x ∙ sym (ne_eqb (suc b.count) 0 y));
        fault =
            ap₂ (λ (x y : ℕ). noted_key (ltb max_text_bytes size || leb max_nodes x) 16 start y) w.count (faults-now s b levels m whole w)
            ∙ sym (least-given (ltb max_text_bytes size || leb max_nodes b.count) over_node_limit start b.faults);
        placed = placed-given (ltb max_text_bytes size || leb max_nodes b.count) over_node_limit start b.faults p (placed-now s b levels m whole w);
        judged = sym (le-leb judged_from (texted m start size).fault (noted-from 14 over 16 start m.fault (omega arith) (judged-now s b levels m whole w)));
        few = λ z.
            let x = or-false (ltb max_text_bytes size) (leb max_nodes m.count) (none_after z).0 in
            omega (arith, leb-false max_nodes m.count x.1, w.count);
      }

  -- the cells of its row
  row-cells : (saved : ℕ) → (texted m start size).fault ≡ no_key → cells m.count (text_cells e parent start size saved) ≡ cells_of (text_row b.count e parent start size (size - saved))
  row-cells saved z =
      let n = none_after z in
      let x = or-false (ltb max_text_bytes size) (leb max_nodes m.count) n.0 in
      let c = leb-false max_nodes m.count x.1 in
      let d = ltb-false max_text_bytes size x.0 in
      let i : m.count < 65536 = omega arith in
      let j : parent < 65536 = omega (arith, w.count) in
      let k : size < 65536 = omega arith in
      let v : size - saved < 65536 = omega arith in
      let f : e % 32 + 32 ≡ 32 + e = omega arith in
      same (m.count % 65536) b.count (e % 32 + 32) (32 + e) (parent % 65536) parent (size % 65536) size ((size - saved) % 65536) (size - saved) (mod-eq_of_lt i ∙ w.count) f (mod-eq_of_lt j) (mod-eq_of_lt k)
      (mod-eq_of_lt v)
    where
      same : (a a' c c' d d' g g' h h' : ℕ) → a ≡ a' → c ≡ c' → d ≡ d' → g ≡ g' → h ≡ h'
          → ◌≡◌ {A = Cells} (record { number = a; name = c; parent = d; start = start; size = g; decoded = h }) (record { number = a'; name = c'; parent = d'; start = start; size = g'; decoded = h' })
      same a a' c c' d d' g g' h h' p q r t u = rw (p, q, r, t, u)

  text-leaves : (solid : Option ℕ) (saved : ℕ) → Leaves s levels m b (step (texted m start size) (Some (text_cells e parent start size saved))) (text_node (filled_by_text e) (run start solid saved) size parent b)
  text-leaves solid saved = record { built = text-built solid saved; rows = λ z. begun-row refl (row-cells saved z) }

-- a run inside the root
module _ (s : Schema) (b : Building) (levels u : List Level) (m : Build) (whole : is_none b.broken ≡ true) (w : Built s levels m b) (start size saved : ℕ) (solid : CodeOption ℕ) (v : Level) (f : Filling)
    (deep : m.depth ≡ 0 → ⊥) (loaded : v ≡ level_at levels m.depth) (st : Stored levels m.depth (with_filling (level_at levels m.depth) f) u)
    (fits : (x : Contained) → FillingOf s v.filling x → FillingOf s f (with_run (is_none (place_in solid)) x)) where
  top : Innermost s levels m.depth b.opens
  top = innermost s levels m.depth b.opens w.depth deep w.opened

  level : LevelOf s v top.own
  level = subst (λ (y : Level). LevelOf s y top.own) (sym loaded) top.level

  -- its content has one run more
  abbrev between : Building
  between = building (refill (with_run (is_none (place_in solid))) b.opens) b.rooted b.faults b.rows b.count

  between-opened : Opened s u (refill (with_run (is_none (place_in solid))) b.opens)
  between-opened =
      refilled s (with_run (is_none (place_in solid))) b.opens levels u m.depth v f w.depth loaded st fits w.opened

  between-built : Built s u m (building (refill (with_run (is_none (place_in solid))) b.opens) b.rooted b.faults b.rows b.count)
  between-built =
      record {
        depth = w.depth ∙ sym (length_refill (with_run (is_none (place_in solid))) b.opens);
        opened = between-opened;
        below = below-refill b.count (with_run (is_none (place_in solid))) b.opens w.below;
        count = w.count;
        listed = w.listed;
        rooted = w.rooted;
        fault = faults-now s b levels m whole w;
        placed = placed-now s b levels m whole w;
        judged = sym (le-leb judged_from m.fault (judged-now s b levels m whole w));
        few = w.few;
      }

  run_inside : on_run (run start (place_in solid) saved) size b ≡ text_node top.own.filling (run start (place_in solid) saved) size top.own.row between
  run_inside =
      ap (λ (os : List Open). inside os (run start (place_in solid) saved) size b) top.same
      ∙ ap
      (λ (os : List Open). text_node top.own.filling (run start (place_in solid) saved) size top.own.row (building (refill (with_run (is_none (place_in solid))) os) b.rooted b.faults b.rows b.count))
      (sym top.same)

  -- that makes no node
  pub run-plain : ((e : ℕ) → v.filling ≡ ByText e → ⊥) → Leaves s u m b (step m None) (on_run (run start (place_in solid) saved) size b)
  run-plain n =
      subst (Leaves s u m b (step m None))
      (sym
      (run_inside
      ∙ no_text s v.filling top.own.filling (run start (place_in solid) saved) size top.own.row between n level.filling))
      (leaves_kept {x = step m None} refl refl between-built)

  -- that makes one
  pub run-text : (e : ℕ) → length s ≤ max_declarations → start < place_limit → v.filling ≡ ByText e
      → Leaves s u m b (step (texted m start size) (Some (text_cells e v.row start size saved))) (on_run (run start (place_in solid) saved) size b)
  run-text e few p q =
      let x : (e < length s) × (top.own.filling ≡ filled_by_text e) = subst (λ (y : Filling). FillingOf s y top.own.filling) q level.filling in
      let l = text-leaves s between u m refl between-built e start size top.own.row (omega (arith, x.0)) p (subst (RowsBelow b.count) top.same w.below).0 (place_in solid) saved in
      subst (λ (y : ℕ). Leaves s u m b (step (texted m start size) (Some (text_cells e y start size saved))) (on_run (run start (place_in solid) saved) size b)) (sym level.row)
      (subst (Leaves s u m b (step (texted m start size) (Some (text_cells e top.own.row start size saved))))
      (sym (run_inside ∙ ap (λ (y : Contained). text_node y (run start (place_in solid) saved) size top.own.row between) x.1))
      (record { built = l.built; rows = l.rows }))

pub text-safe : (m : Build) (start size : ℕ) (row : RowCells) → m.depth ≤ max_depth → SafeStep m (step (texted m start size) (Some row))
text-safe m start size row w = record { shallow = w; counted = omega arith }
