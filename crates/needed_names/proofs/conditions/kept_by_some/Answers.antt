-- `kept_by_some` meets its contract: name by name.
use Rattle.std.proofs.Common.{arith, Bool, ◌≡◌, ◌&&◌, ◌||◌, sym, ap, ◌∙◌}
use Rattle.std.proofs.Math.Bool.{and-true, and-false, or-false}
use Rattle.names.specs.Sets.{member}
use Rattle.names.specs.codes.Codes.{name_of_code}
use Rattle.names.specs.declared.NameSet.{NameSet}
use Rattle.needed_names.specs.asked.Asked.{asked_alternatives}
use Rattle.needed_names.specs.conditions.Conditions.{keeps_in}
use Rattle.needed_names.specs.conditions.Laws.{kept-none, kept-one-more, kept-all}
use Rattle.schema_spec.specs.Names.{Name, same_name}
use Rattle.needed_names.proofs.conditions.kept_by_some.Goals as goal
use Rattle.needed_names.proofs.conditions.kept_by_some.Goals.{then-keeps, else-keeps, Joined-keeps}

-- the name of the code c is added if it is kept
added : (c : Joined-keeps) (n : Name) → member c.if-keeps.kept n ≡ (member c.loop-c.kept n || (same_name n (name_of_code c.loop-c.c) && c.keeps.result))
added c n = elim c.if-keeps.branch [
  | then-keeps w ↦
      ap (λ (x : NameSet). member x n) w.kept-is ∙ w.bitor_assign.ensures.after n
      ∙ ap (λ (b : Bool). member c.loop-c.kept n || b) (w.single.ensures n ∙ sym (and-true (same_name n (name_of_code c.loop-c.c))) ∙ ap (λ (b : Bool). same_name n (name_of_code c.loop-c.c) && b) (sym w.if-keeps.true))
  | else-keeps w ↦
      ap (λ (x : NameSet). member x n) w.kept-is ∙ sym (or-false (member c.loop-c.kept n))
      ∙ ap (λ (b : Bool). member c.loop-c.kept n || b) (sym (and-false (same_name n (name_of_code c.loop-c.c))) ∙ ap (λ (b : Bool). same_name n (name_of_code c.loop-c.c) && b) (sym w.if-keeps.false))
]

pub loop-c-init : goal.loop-c-init
loop-c-init c = λ s k m i.
    kept-none s k.relations.small (λ a. member c.args.e.types a && keeps_in s c.args.e.context (asked_alternatives c.args.asked.now c.args.n c.args.i) a) c.empty-kept.result c.empty-kept.ensures m i

pub loop-c-preserved : goal.loop-c-preserved
loop-c-preserved c = λ s k m i.
    let at = c.loop-c in
    kept-one-more s k.relations.small (λ a. member c.args.e.types a && keeps_in s c.args.e.context (asked_alternatives c.args.asked.now c.args.n c.args.i) a) c.keeps.result at.kept c.if-keeps.kept at.c
    (c.keeps.ensures s k) (at.invariant s k) (added c) m i

pub returns : goal.returns
returns c = λ s k m i.
    let at = c.loop-c in
    kept-all s k.relations.small (λ a. member c.args.e.types a && keeps_in s c.args.e.context (asked_alternatives c.args.asked.now c.args.n c.args.i) a) at.kept at.c (omega arith) (at.invariant s k) m i
