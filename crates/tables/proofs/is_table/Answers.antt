-- `is_table` meets its contract: the columns' lengths, and the pass over their rows.
use Rattle.std.proofs.Common.{T, true, false, sym, subst, ◌∙◌, refl}
use Rattle.tables.specs.Handed.{fit-lent, held-tests}
use Rattle.tables.specs.rows.Lent.{lent-texts}
use Rattle.tables.proofs.is_table.Goals as goal

pub returns-then-sizes_fit : goal.returns-then-sizes_fit
returns-then-sizes_fit c =
    record {
      held = λ s h. held-tests c.args.words.now _ s h true _ (sym c.if-sizes_fit.true ∙ c.sizes_fit.ensures) c.rows_fit.ensures;
      sized = λ _. lent-texts _ _ (fit-lent _ (sym c.sizes_fit.ensures ∙ c.if-sizes_fit.true));
    }

pub returns-else-sizes_fit : goal.returns-else-sizes_fit
returns-else-sizes_fit c =
    record {
      held = λ s h. c.if-sizes_fit.false ∙ held-tests c.args.words.now _ s h false _ (sym c.if-sizes_fit.false ∙ c.sizes_fit.ensures) refl;
      sized = λ t. absurd (subst T c.if-sizes_fit.false t);
    }
