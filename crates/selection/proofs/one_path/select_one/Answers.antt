use Rattle.std.proofs.Common.{sym, ◌∙◌, eqb-true}
use Rattle.std.proofs.lemmas.Bool.{eqb-false}
use Rattle.selection.specs.one_path.Paths.{one-path, one-append, one_selected, none-selected}
use Rattle.selection.proofs.one_path.select_one.Goals as goal

pub returns-then-is_empty-clause-items : goal.returns-then-is_empty-clause-items
returns-then-is_empty-clause-items c = none-selected _ c.args.paths.now c.args.i _ _ _ c.requires _ (eqb-true _ 0 (sym c.is_empty.ensures ∙ c.if-is_empty.true))

pub select_path-requires : goal.select_path-requires
select_path-requires c = one-path _ _ _ _ _ _ c.requires (eqb-false _ 0 (sym c.is_empty.ensures ∙ c.if-is_empty.false))

pub append-requires : goal.append-requires
append-requires c = one-append c.args.rows.now c.args.paths.now c.args.i _ _ _ c.requires _ c.select_path.ensures.marks

pub returns-clause-items : goal.returns-clause-items
returns-clause-items c = one_selected c.args.rows.now c.args.paths.now c.args.i _ _ _ c.requires _ _ _ _ c.select_path.ensures.marks c.append.ensures
