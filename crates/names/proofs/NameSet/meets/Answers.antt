-- `names::NameSet::meets` meets its contract: the elements are looked at first, then the text names.
use mathlib.Core.Bool.{Bool, ◌&&◌, ◌||◌}
use mathlib.Core.Path.{sym, ap, ◌∙◌}
use Rattle.names.specs.Sets.{member, overlap}
use Rattle.names.specs.declared.NameSet.{NameSet}
use Rattle.schema_spec.specs.Names.{text}
use Rattle.text_spec.specs.Lists.{any_below}
use Rattle.names.proofs.NameSet.meets.Goals as goal

texts : NameSet → NameSet → Bool
texts s t = any_below 64 (λ e. member s (text e) && member t (text e))

pub returns-then-meets : goal.returns-then-meets
unfolding overlap texts
returns-then-meets c =
    let start = c.args in
    c.if-meets.true ∙ sym (ap (λ (b : Bool). b || texts start.self start.other) (sym c.meets.ensures ∙ c.if-meets.true))

pub returns-else-meets : goal.returns-else-meets
unfolding overlap texts
returns-else-meets c =
    let start = c.args in
    c.meets-else-meets.ensures ∙ sym (ap (λ (b : Bool). b || texts start.self start.other) (sym c.meets.ensures ∙ c.if-meets.false))
