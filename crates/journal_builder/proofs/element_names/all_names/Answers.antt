use Rattle.std.proofs.Common.{◌<◌, ◌≢◌, ◌∙◌, length, arith, length-set, get_or-set_other, get_or-set_same, below_more}
use Rattle.text.specs.name_words.Words.{words}
use Rattle.journal_builder.proofs.element_names.all_names.Goals as goal

pub loop-e-preserved : goal.loop-e-preserved
loop-e-preserved c =
    let l = c.loop-e-test.true in
    let w = c.loop-e.invariant in
    let t = c.loop-e.names in
    let e = c.loop-e.e in
    let x = c.words_at.result in
    let lt : e < length t = omega (arith, w.0, c.requires.1) in (
      length-set t e x ∙ w.0,
      below_more _ _ (λ k h. let ne : k ≢ e = omega arith in get_or-set_other t e k x (words 0 0 0 0) ne ∙ w.1 k h)
          (get_or-set_same t e x (words 0 0 0 0) lt ∙ c.words_at.ensures),
    )

pub returns : goal.returns
returns c a l = c.loop-e.invariant.1 a (omega arith)
