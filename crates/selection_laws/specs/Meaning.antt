-- The marks of rows as sets of nodes, as source document 000 defines them: no test is mentioned.
use Rattle.std.specs.Prelude.{◌&&◌, List, map, ◌↔◌, ◌≡◌, ℕ, T, length}
use Rattle.std.proofs.Common.{sym, ap, subst, ◌∙◌, arith}
use Rattle.cells.specs.row_sets.Columns.{RowSet, is_marked, marks-marked}
use Rattle.path_laws.specs.Selection.{test-on-written, on-written-test, test-holds, holds_test}
use Rattle.path_spec.specs.Paths.{WrittenAxis, Condition}
use Rattle.path_spec.specs.Selection.{OnWritten, Holds}
use Rattle.selection_laws.specs.Axes.{written-axis-rows}
use Rattle.selection_laws.specs.Conditions.{condition-marked}
use Rattle.selection_laws.specs.marks.Order.{row_on_written, written-rows}
use Rattle.selection_laws.specs.marks.Parents.{reached_by}
use Rattle.selection_laws.specs.marks.Selection.{written_marks, condition_marks}
use Rattle.table_laws.specs.Parents.{NodeAt, Placed}
use Rattle.table_laws.specs.Places.{at_bound, at_some}
use Rattle.table_spec.specs.Nodes.{Node, name_of}
use Rattle.text_laws.specs.Searches.{below-any, any_below_lem}
use Rattle.text_laws.specs.Tests.{and_intro, and_cases}

-- a marked row whose node has y on the axis
pub record ReachedBy (doc : List Node) (a : WrittenAxis) (m : List ℕ) (y : Node) : Type 0 where
  pub row : ℕ
  pub node : Node
  pub stands : NodeAt doc row node
  pub marked : T (is_marked m row)
  pub axis : OnWritten a node y

module _ (ps : List ℕ) (doc : List Node) (tree : Placed ps doc) where
  -- a row is marked after the passes of an axis exactly if some marked row relates to it by the axis
  pub written-means : (a : WrittenAxis) (m : List ℕ) (r : ℕ) (y : Node) → NodeAt doc r y → T (is_marked (written_marks a ps m) r) ↔ ReachedBy doc a m y
  written-means a m r y e = (to, from)
    where
      rows : RowSet
      rows = reached_by (row_on_written a ps) (length ps) (is_marked m)

      marked-rows : is_marked (written_marks a ps m) r ≡ rows r
      marked-rows = ap (λ (k : List ℕ). is_marked k r) (written-rows ps tree.before m tree.opens a) ∙ marks-marked (length ps) rows r (omega (arith, at_bound doc r y e, tree.size))

      to : T (is_marked (written_marks a ps m) r) → ReachedBy doc a m y
      to t =
          let q = below-any (length ps) (λ q. is_marked m q && row_on_written a ps q r) (subst T marked-rows t) in
          let c = and_cases (is_marked m q.0) (row_on_written a ps q.0 r) q.2 in
          let x = at_some doc q.0 (omega (arith, q.1, tree.size)) in
          record {
            row = q.0;
            node = x.0;
            stands = x.1;
            marked = c.0;
            axis = test-on-written a x.0 y (subst T (sym (written-axis-rows ps doc tree a q.0 r x.0 y x.1 e)) c.1);
          }

      from : ReachedBy doc a m y → T (is_marked (written_marks a ps m) r)
      from h =
          subst T (sym marked-rows)
          (any_below_lem (length ps) (λ q. is_marked m q && row_on_written a ps q r) h.row (omega (arith, at_bound doc h.row h.node h.stands, tree.size))
          (and_intro (is_marked m h.row) (row_on_written a ps h.row r) h.marked
          (subst T (written-axis-rows ps doc tree a h.row r h.node y h.stands e) (on-written-test h.axis))))

  -- a condition's column marks the rows at whose nodes it holds
  pub condition-means : (c : Condition ℕ) (r : ℕ) (y : Node) → NodeAt doc r y → T (is_marked (condition_marks ps (map name_of doc) c) r) ↔ Holds doc c y
  condition-means c r y e =
      let h = (condition-marked ps doc tree c).at r y e in
      (λ t. test-holds doc c y (subst T h t), λ t. subst T (sym h) (holds_test t))
