-- `make_extract` meets its contract: a call that is refused before the journal is read, or what is made under the two texts.
use Rattle.std.proofs.Common.{sym, ◌∙◌}
use Rattle.cells.specs.lent.Columns.{same-columns}
use Rattle.host_making.specs.Calls.{under-texts, refused-call, accepted-call}
use Rattle.hosts.specs.results.Settled.{settled-kept}
use Rattle.text_laws.specs.Cells.{padded-zeros}
use Rattle.host_making.proofs.make_extract.Goals as goal

pub make_under-requires : goal.make_under-requires
make_under-requires c = under-texts _ _ _ c.in-Ok.texts c.in-Ok.ensures.says

pub returns-in-Ok : goal.returns-in-Ok
returns-in-Ok c =
    rw c.from.ensures
    (accepted-call _ _ _ _ _ c.in-Ok.texts c.in-Ok.ensures.says
    (settled-kept c.make_under.ensures.made
    (same-columns
    (c.numbers-1.given.1.1 (sym c.make_under.ensures.same.numbers))
    (c.names-1.given.1.1 (sym c.make_under.ensures.same.names))
    (c.parents-1.given.1.1 (sym c.make_under.ensures.same.parents))
    (c.starts-1.given.1.1 (sym c.make_under.ensures.same.starts))
    (c.lengths-1.given.1.1 (sym c.make_under.ensures.same.lengths))
    (c.decoded-1.given.1.1 (sym c.make_under.ensures.same.decoded)))))

pub returns-in-Err : goal.returns-in-Err
returns-in-Err c =
    rw c.from-in-Err.ensures
    (refused-call _ _ _ _ _ c.in-Err.refusal c.in-Err.ensures.says
    (same-columns
    (c.numbers-in-Err-1.given.1.1 (sym c.clear.ensures.same.numbers))
    (c.names-in-Err-1.given.1.1 (sym c.clear.ensures.same.names))
    (c.parents-in-Err-1.given.1.1 (sym c.clear.ensures.same.parents))
    (c.starts-in-Err-1.given.1.1 (sym c.clear.ensures.same.starts))
    (c.lengths-in-Err-1.given.1.1 (sym c.clear.ensures.same.lengths))
    (c.decoded-in-Err-1.given.1.1 (sym c.clear.ensures.same.decoded))
    ∙ c.clear.ensures.cells)
    (c.fill.ensures.after (λ y e. e) ∙ sym (padded-zeros _)))
