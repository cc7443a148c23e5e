-- `all_paths` meets its contract: path by path.
use Rattle.std.specs.Option.{option_or}
use Rattle.std.proofs.Common.{ap, ◌∙◌}
use Rattle.std.proofs.lemmas.Result.{err_from_is_err_and}
use Rattle.bundle_text.proofs.paths.Bundles.{few-none, reads-anew, upto-start, upto-whole, upto-fails, upto_next}
use Rattle.bundle_text.proofs.paths.all_paths.Goals as goal

pub loop-i-init : goal.loop-i-init
loop-i-init c = upto-start (few-none c.args.notes.now c.forget_counts.ensures)

pub returns-in_err-line : goal.returns-in_err-line
returns-in_err-line c =
    let p = err_from_is_err_and c.from_residual.result c.from_residual.ensures.1 in
    rw (p.1, p.2) (reads-anew c.args.notes.now c.forget_counts.ensures (upto-fails c.loop-i.invariant c.path.ensures c.in_err-line.was))

pub returns : goal.returns
returns c = reads-anew c.args.notes.now c.forget_counts.ensures (upto-whole c.loop-i.invariant c.loop-i-test.false c.requires.0)

pub loop-i-preserved : goal.loop-i-preserved
loop-i-preserved c =
    upto_next c.loop-i.invariant c.path.ensures c.in_ok-line.was (few-none c.args.notes.now c.forget_counts.ensures) c.passes_limit-passes.ensures
    (c.or-over.ensures ∙ ap (option_or c.loop-i.over) c.then_some.ensures) c.note_path.ensures
