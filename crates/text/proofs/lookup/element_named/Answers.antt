-- `element_named` meets its contract: a slice that is not a name from its start to its end is no name of the text.
use Rattle.std.proofs.Common.{sym, ap, ◌∙◌}
use Rattle.text.specs.name_bytes.Naming.{name-whole, never-found}
use Rattle.std.proofs.Common.{length}
use Rattle.text.proofs.lookup.element_named.Goals as goal

pub returns-then-name_at-name : goal.returns-then-name_at-name
returns-then-name_at-name c =
    sym (never-found c.args.name.now (λ e. c.if-name_at-name.true (ap length c.name_at.ensures.value ∙ e)) c.args.text.now 0 c.args.names.now)

pub index_of-requires : goal.index_of-requires
index_of-requires c = name-whole c.args.name.now (sym (ap length c.name_at.ensures.value) ∙ c.if-name_at-name.false)
