-- `indicated` meets its contract.
use Rattle.std.proofs.Common.{sym, subst, arith, List, ℕ}
use Rattle.schema.proofs.indicators.Indicators.{once-there, indicator-there, indicator-none}
use Rattle.schema.specs.particles.Automata.{Repeated}
use Rattle.schema.specs.particles.AutomataLaws.{repeated-none}
use Rattle.schema.specs.particles.Readings.{indicator_at}
use Rattle.schema.proofs.parsing.Parser.indicated.Goals as goal

pub returns-in-Some : goal.returns-in-Some
returns-in-Some c =
    let r = c.in-Some.ensures.says in
    record { only = c.in-Some.ensures.only; by = record { low = omega arith; high = omega arith; same = λ q p x E. indicator-there E r.0 r.1 }; repeated = r.2 }

pub returns-in-None : goal.returns-in-None
returns-in-None c =
    let r = c.in-None.ensures.says in
    let s = c.args.self.now.text.now in
    let p = c.args.p in
    record {
      only = c.in-None.ensures.only;
      by = record { low = omega arith; high = c.requires; same = λ q t x E. indicator-none E r.1 };
      repeated = subst (λ (l : List ℕ). Repeated (indicator_at s p.at) p.ends c.args.self.now.predecessors.now l p.ends) (sym r.0) (rw (once-there s p.at r.1) (repeated-none _ _));
    }
