-- `use_name` meets its contract: the name, then its indicator.
use Rattle.std.proofs.Common.{refl}
use Rattle.std.proofs.lemmas.Result.{err_from_is_err_and}
use Rattle.schema.specs.particles.ParticleLaws.{noted-size, name-fails, name-reads}
use Rattle.text.specs.scanning.OutcomeLaws.{named_end}
use Rattle.schema.proofs.parsing.Parser.use_name.Goals as goal

pub returns-in_err-name_end : goal.returns-in_err-name_end
returns-in_err-name_end c =
    let p = err_from_is_err_and c.from_residual.result c.from_residual.ensures.1 in
    rw (p.1, p.2) (record { kept = record { text = refl; uses = refl; predecessors = refl; uses-size = noted-size _ _ _ c.note.ensures; predecessors-size = refl }; start = refl; says = name-fails c.in_err-name_end.ensures c.requires.0 c.requires.1 refl })

pub indicated-requires : goal.indicated-requires
indicated-requires c = (named_end c.in_ok-name_end.ensures refl).1

pub returns : goal.returns
returns c =
    name-reads c.args.self.now _ (record { kept = record { text = refl; uses = refl; predecessors = refl; uses-size = noted-size _ _ _ c.note.ensures; predecessors-size = refl }; start = refl; place = c.note.ensures; count = refl; links = refl })
    c.in_ok-name_end.ensures c.requires.0 c.requires.1 refl c.requires.2 c.named.ensures c.indicated.ensures
