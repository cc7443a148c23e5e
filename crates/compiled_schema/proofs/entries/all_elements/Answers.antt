-- `all_elements` meets its contract: the entries of the declarations that were read are filled.
use Rattle.std.proofs.Common.{◌<◌, arith, rules}
use Rattle.compiled_schema.proofs.entries.Filling.{filled-first, filled_next, filled-all}
use Rattle.compiled_schema.specs.element_entry.ReadingLaws.{at_first, elements-few, used-within}
use Rattle.schema_spec.specs.Records.{schema_in}
use Rattle.compiled_schema.proofs.entries.all_elements.Goals as goal

pub loop-d-init : goal.loop-d-init
loop-d-init c = (
  at_first c.requires.0 c.skip-at.ensures,
  filled-first (schema_in c.args.s.now) c.empty-entries.result c.empty-entries.ensures c.empty-holds.result c.empty-holds.ensures,
)

pub overflow_add-n : goal.overflow_add-n
overflow_add-n c =
    let within = used-within c.declared_element-declared.ensures.next in
    search rules

pub bounds-holds-d : goal.bounds-holds-d
bounds-holds-d c = let few = elements-few c.requires.0 in let many = c.requires.1 in let l = c.loop-d-test.true in omega arith

pub bounds-entries-d : goal.bounds-entries-d
bounds-entries-d c = let few = elements-few c.requires.0 in let many = c.requires.1 in let l = c.loop-d-test.true in omega arith

pub offset_bounds-holds-d : goal.offset_bounds-holds-d
offset_bounds-holds-d c =
    let few = elements-few c.requires.0 in
    let many = c.requires.1 in
    let l : c.loop-d.d < 32 = omega (arith, c.loop-d-test.true) in
    search rules

pub offset_bounds-entries-d : goal.offset_bounds-entries-d
offset_bounds-entries-d c =
    let few = elements-few c.requires.0 in
    let many = c.requires.1 in
    let l : c.loop-d.d < 32 = omega (arith, c.loop-d-test.true) in
    search rules

pub loop-d-preserved : goal.loop-d-preserved
loop-d-preserved c =
    let at = c.loop-d in
    let made = c.declared_element-declared in
    let few = elements-few c.requires.0 in
    let many = c.requires.1 in
    let l = c.loop-d-test.true in (
      made.ensures.next,
      filled_next c.args.s.now c.args.uses.now at.d at.n at.entries at.«holds» made.result (omega arith) at.invariant.1 made.ensures,
    )

pub returns : goal.returns
returns c =
    let many = c.requires.1 in
    let l = c.loop-d-test.false in
    filled-all (schema_in c.args.s.now) c.loop-d.d c.loop-d.entries c.loop-d.«holds» (omega arith) c.loop-d.invariant.1
