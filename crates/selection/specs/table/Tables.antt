-- What the paths asked for select on a well-formed table, from its columns.
use Rattle.std.specs.Prelude.{List, ◌≡◌, refl, ℕ, zero, suc, ◌-◌, ◌≤◌, T, length, take, replicate, Result}
use Rattle.std.proofs.Common.{sym, ap, ◌∙◌, arith, length-take-le}
use Rattle.std.proofs.lemmas.List.{length-map, length-replicate}
use Rattle.axis_passes.specs.declared.rows.Rows.{Rows}
use Rattle.axis_passes.specs.declared.scratch.Scratch.{Scratch}
use Rattle.axis_passes.specs.rows.Rows.{parents_in, codes_in, TextColumns, HeldTexts}
use Rattle.axis_passes.specs.scratch.Scratch.{Room}
use Rattle.cells.specs.lent.Ends.{Slice}
use Rattle.compiled_paths.specs.Steps.{bundle_in}
use Rattle.compiled_paths.specs.Paths.{Shaped, paths_in}
use Rattle.compiled_paths.specs.declared.CompiledPaths.{CompiledPaths}
use Rattle.library_spec.specs.Selections.{asked_paths, Selections, selections}
use Rattle.path_spec.specs.Paths.{LocationPath}
use Rattle.path_spec.specs.Selection.{select_rows}
use Rattle.schema_spec.specs.Types.{Types}
use Rattle.selection.specs.answers.Answers.{in_cells, AnsweredSelections, Written, AnsweredCells}
use Rattle.selection.specs.asked.Ranges.{past_asked, asked-order}
use Rattle.selection.specs.declared.answers.Selected.{Selected}
use Rattle.text.specs.declared.refusals.Refusal.{Refusal}
use Rattle.selection.specs.joined_paths.Joined.{AllPass, items_of, counts_of, JoinedAs}
use Rattle.selection.specs.laws.Asked.{asked-range, all_asked, items-selected, counts-of-selected}
use Rattle.selection.specs.one_path.Paths.{paths_from}
use Rattle.table_laws.specs.Codes.{NamesCoded}
use Rattle.table_laws.specs.Columns.{parents_of, numbers_of, codes_of, TestedColumns}
use Rattle.table_spec.specs.Columns.{Columns}
use Rattle.table_spec.specs.Rows.{Row}
use Rattle.table_spec.specs.Tables.{well_formed}
use Rattle.text_laws.specs.Cells.{padded-length}
use Rattle.text_spec.specs.Cells.{padded}
use Rattle.text_spec.specs.Refusals.{Outcome}

-- ---- definitions
-- rows that are well formed under types, in these columns
pub record RowsIn (s : Types) (rows : List Row) (numbers codes parents : List ℕ) : Type 0 where
  pub well-formed : T (well_formed s rows)
  pub coded : NamesCoded rows
  pub numbered : numbers ≡ numbers_of rows
  pub named : codes ≡ codes_of rows
  pub parented : parents ≡ parents_of rows

-- the outcome on rows: what the paths asked for select, 18 where the cells are too few
abbrev pub rows_selected : List ℕ → List Row → ℕ → List (LocationPath ℕ) → ℕ → ℕ → Outcome Selections
rows_selected text rows place ps items counts = in_cells items counts (selections text rows (asked_paths place ps))

-- the paths selected on every well-formed table in these columns
abbrev pub SelectsOn : Rows → List (LocationPath ℕ) → ℕ → Result Selected Refusal → Slice → Slice → Type 0
SelectsOn t paths place r items counts =
    (s : Types) (text : List ℕ) (rows : List Row) → RowsIn s rows t.columns.numbers.now (codes_in t) (parents_in t)
    → AnsweredCells (rows_selected text rows place paths) r items counts

-- the columns of a table that passes refusal 1
abbrev pub TestedRows : Rows → Type 0
TestedRows t = TestedColumns t.columns.numbers.now (codes_in t) (parents_in t)

pub record AskedPass (t : Rows) (c : CompiledPaths) (place : ℕ) (m : List ℕ) (s : Scratch) : Type 0 where
  pub shaped : Shaped c
  pub inside : place ≤ c.count
  pub columns : TestedRows t
  pub texts : HeldTexts t
  pub room-marks : length m ≡ length (parents_in t)
  pub room : Room (parents_in t) s

-- ---- laws
paths-long : (c : CompiledPaths) (n i : ℕ) → length (paths_from c n i) ≡ n
unfolding bundle_in
paths-long c zero i = refl
paths-long c (suc n) i = ap suc (paths-long c n (suc i))

pub paths-count : (c : CompiledPaths) → length (paths_in c) ≡ c.count
unfolding paths_in
paths-count c = paths-long c c.count 0

-- scratch of a table's rows
pub scratch-long : (n k x : ℕ) → n ≤ k → n ≡ length (take n (replicate k x))
scratch-long n k x l = sym (length-take-le n (replicate k x) (omega (arith, length-replicate k x)))

-- the texts of the first rows of columns that have them
pub taken-texts : (n : ℕ) (c : Columns) (lent : List ℕ) → n ≤ length c.parents → n ≤ length c.starts → n ≤ length c.lengths → n ≤ length c.decoded
    → TextColumns (take n c.parents) (take n c.starts) (take n c.lengths) (take n c.decoded) lent
taken-texts n c lent p a b d =
    let size = sym (length-take-le n c.parents p) in
    record {
      starts-size = length-take-le n c.starts a ∙ size;
      lengths-size = length-take-le n c.lengths b ∙ size;
      decoded-size = length-take-le n c.decoded d ∙ size;
    }

-- the range of the paths asked for
asked-paths : (c : CompiledPaths) (place : ℕ) → place ≤ c.count → paths_from c (past_asked place c.count - (place - 1)) (place - 1) ≡ asked_paths place (paths_in c)
asked-paths c zero l =
    let none : 0 - 1 ≡ 0 = omega arith in
    let all : c.count - (0 - 1) ≡ c.count = omega arith in
    ap (λ (k : ℕ). paths_from c k (0 - 1)) all ∙ ap (paths_from c c.count) none ∙ all_asked c
asked-paths c (suc i) l =
    let one : suc i - (suc i - 1) ≡ 1 = omega arith in
    ap (λ (k : ℕ). paths_from c k (suc i - 1)) one ∙ asked-range c (suc i) (λ e. omega arith) (omega arith)

-- cells by their own length
padded-again : (n : ℕ) (cells xs : List ℕ) → cells ≡ padded n xs → cells ≡ padded (length cells) xs
padded-again n cells xs e = e ∙ ap (λ (k : ℕ). padded k xs) (sym (ap length e ∙ padded-length n xs))

module _ (t : Rows) (c : CompiledPaths) (place : ℕ) (first end : ℕ) (b : (first ≡ place - 1) × (end ≡ past_asked place c.count)) where
  pub asked-pass : (m : List ℕ) (s : Scratch) → AskedPass t c place m s → AllPass t c first end m s
  asked-pass m s h =
      let o = asked-order place c.count first end h.inside b.0 b.1 in
      record { shaped = h.shaped; order = o.0; inside = o.1; columns = h.columns; texts = h.texts; room-marks = h.room-marks; room = h.room }

  -- what is written is what the definition selects
  module _ (l : place ≤ c.count) (s : Types) (text : List ℕ) (rows : List Row) (w : RowsIn s rows t.columns.numbers.now (codes_in t) (parents_in t)) where
    abbrev numbers : List ℕ
    numbers = t.columns.numbers.now

    abbrev codes : List ℕ
    codes = codes_in t

    abbrev ps : List ℕ
    ps = parents_in t

    abbrev asked : List (LocationPath ℕ)
    asked = asked_paths place (paths_in c)

    range : paths_from c (end - first) first ≡ asked
    range = rw (b.0, b.1) (asked-paths c place l)

    same-items : items_of c numbers codes ps (end - first) first ≡ (selections text rows asked).items
    same-items =
        let at = items-selected s text rows w.well-formed w.coded c (end - first) first asked range in
        rw (w.numbered, w.named, w.parented) at

    same-counts : counts_of c numbers codes ps (end - first) first ≡ (selections text rows asked).counts
    same-counts =
        let at = counts-of-selected s text rows w.well-formed w.coded c (end - first) first asked range in
        rw (w.numbered, w.named, w.parented) at

    module _ (items₀ counts₀ : List ℕ) (n : ℕ) (items counts : List ℕ) (j : JoinedAs c first end numbers codes ps items₀ counts₀ n items counts) where
      asked-written : Written (selections text rows asked) n (end - first) items counts
      asked-written =
          record {
            items-long = j.total ∙ ap length same-items;
            counts-long = sym (paths-long c (end - first) first) ∙ ap length range ∙ sym (length-map asked (λ p. length (select_rows text rows p)));
            items-are = padded-again (length items₀) items _ (j.items-are ∙ ap (padded (length items₀)) same-items);
            counts-are = padded-again (length counts₀) counts _ (j.counts-are ∙ ap (padded (length counts₀)) same-counts);
          }

      pub asked-answered : (r : Result Selected Refusal) (x y : List ℕ)
          → ((a : Selections) → Written a n (end - first) items counts → AnsweredSelections (in_cells (length items) (length counts) a) (length items) (length counts) r x y)
          → AnsweredSelections (rows_selected text rows place (paths_in c) (length items₀) (length counts₀)) (length items₀) (length counts₀) r x y
      asked-answered r x y h =
          let items-long : length items ≡ length items₀ = ap length j.items-are ∙ padded-length (length items₀) _ in
          let counts-long : length counts ≡ length counts₀ = ap length j.counts-are ∙ padded-length (length counts₀) _ in
          rw (← items-long, ← counts-long) (h (selections text rows asked) asked-written)
