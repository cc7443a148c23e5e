-- `cut_lent` meets its contract: the table and the lent columns, the rows kept.
use Rattle.std.proofs.Common.{sym, ◌∙◌}
use Rattle.cut_table.specs.laws.Answers.{refused-1, no_table, no-sizes, cut-asked, cut-found}
use Rattle.cut_table.proofs.handed.cut_lent.Goals.{then-not-held-via-then-not-held, then-not-held-via-else-not-held+then-not-are_equal}
use Rattle.cut_table.proofs.handed.cut_lent.Goals as goal

pub returns-then-not-held : goal.returns-then-not-held
returns-then-not-held c = λ s h.
    record {
      same = c.refuse.ensures.left.same;
      table =
          refused-1 (
          elim c.then-not-held.branch [
            | then-not-held-via-then-not-held w ↦ no_table s _ c.args.word _ (sym (c.is_table-held.ensures.held s h.words) ∙ w.if-not-held.true)
            | then-not-held-via-else-not-held+then-not-are_equal w ↦
                no-sizes s _ c.args.word _ (sym (c.is_table-held.ensures.held s h.words) ∙ w.if-not-held.false) (sym w.are_equal.ensures ∙ w.if-not-are_equal.true)
          ]
          ) c.refuse.ensures.answer c.refuse.ensures.left.cells;
    }

pub cut_first-requires : goal.cut_first-requires
cut_first-requires c =
    let some = c.requires in
    cut-asked some.schema _ _ (sym (c.is_table-held.ensures.held some.schema some.sets.words) ∙ c.if-not-held.false) (sym c.are_equal.ensures ∙ c.if-not-are_equal.false)

pub returns : goal.returns
returns c = λ s h.
    record {
      same = c.cut_first.ensures.same;
      table =
          cut-found s _ _ (sym (c.is_table-held.ensures.held s h.words) ∙ c.if-not-held.false) (sym c.are_equal.ensures ∙ c.if-not-are_equal.false) c.args.word _
          (c.handed_in.ensures s h.few h.names) _ _ c.cut_first.ensures.first;
    }
