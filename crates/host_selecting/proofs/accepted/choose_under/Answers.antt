-- `choose_under` meets its contract: the extract's refusal, or its rows and what is selected on them.
use Rattle.std.specs.Prelude.{refl}
use Rattle.std.proofs.Common.{sym, ◌∙◌}
use Rattle.compiled_paths.specs.Paths.{paths_in}
use Rattle.host_selecting.specs.accepted.Choosing.{words-read, refused-chosen, rows-asked, chosen-settled}
use Rattle.hosts.specs.columns.Rows.{rows-read}
use Rattle.text_laws.specs.Cells.{padded-zeros}
use Rattle.host_selecting.proofs.accepted.choose_under.Goals as goal

pub select_under-requires : goal.select_under-requires
select_under-requires c =
    let pre = c.requires in
    let was = c.in-Ok.ensures.read in
    let held = words-read _ _ pre.made _ c.held_words-words.ensures in
    let rows = rows-read _ _ _ _ (was.answer _ held) (was.cells _ held) c.in-Ok.rows refl in
    (pre.shaped, pre.inside, rows-asked _ _ pre.read _ _ pre.equal _ _ rows)

pub returns-in-Ok-clause-chosen : goal.returns-in-Ok-clause-chosen
returns-in-Ok-clause-chosen c = λ schema read made.
    let was = c.in-Ok.ensures.read in
    let held = words-read schema _ made _ c.held_words-words.ensures in
    let rows = rows-read _ _ _ _ (was.answer _ held) (was.cells _ held) c.in-Ok.rows refl in
    chosen-settled _ _ read _ _ c.requires.equal _ _ rows _ _ _ _ _ _ _ _ c.select_under.ensures.selected

pub returns-in-Err-clause-chosen : goal.returns-in-Err-clause-chosen
returns-in-Err-clause-chosen c = λ schema read made.
    let was = c.in-Err.ensures.read in
    let held = words-read schema _ made _ c.held_words-words.ensures in
    refused-chosen _ _ _ _ _ (was.answer _ held) (was.cells _ held) (paths_in c.args.texts.now.paths) c.args.place c.in-Err.refusal refl _ _ _ _
    (c.fill.ensures.after (λ y e. e) ∙ sym (padded-zeros _)) (c.fill-in-Err.ensures.after (λ y e. e) ∙ sym (padded-zeros _))
