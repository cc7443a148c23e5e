-- `declared_element` meets its contract: what was read is the declaration of element d.
use Rattle.std.proofs.Common.{◌≡◌, length, refl, ap, arith, rules}
use Rattle.compiled_schema.proofs.element_entry.Entries.{entry-fails, entry-few, entry-high, entry-within, entry-small, entry_length, entry-made}
use Rattle.compiled_schema.proofs.element_entry.Reading.{goes_on_lem}
use Rattle.compiled_schema.specs.declared.entry_parts.ElementEntry.{ElementEntry}
use Rattle.text_spec.specs.Limits.{max_model_names}
use Rattle.compiled_schema.proofs.element_entry.declared_element.Goals as goal

pub declaration-requires : goal.declaration-requires
declaration-requires c =
    (goes_on_lem c.requires.0 c.requires.1, omega arith, c.requires.0.no-blank)

pub overflow_add-model : goal.overflow_add-model
overflow_add-model c =
    let within = entry-within c.requires.0 c.in-Ok.ensures refl c.requires.1 in
    search rules

pub offset_bounds-uses-n : goal.offset_bounds-uses-n
offset_bounds-uses-n c =
    let within = entry-within c.requires.0 c.in-Ok.ensures refl c.requires.1 in
    search rules

pub slice_bounds-model-end : goal.slice_bounds-model-end
slice_bounds-model-end c =
    let within = entry-within c.requires.0 c.in-Ok.ensures refl c.requires.1 in
    search rules

pub copy_elements-requires : goal.copy_elements-requires
copy_elements-requires c =
    let few = entry-few c.requires.0 c.in-Ok.ensures refl in
    let size = entry_length c.requires.0 c.in-Ok.ensures refl c.requires.1 _ refl in
    let long : length c.empty-entry.result.elements ≡ max_model_names = search rules in
    (entry-small c.requires.0 c.in-Ok.ensures refl c.requires.1 _ refl, omega arith)

pub skip-requires : goal.skip-requires
skip-requires c = entry-high c.requires.0 c.in-Ok.ensures refl

pub returns-in-Ok : goal.returns-in-Ok
returns-in-Ok c =
    let clear = ap (λ (e : ElementEntry). e.predecessors) c.empty-entry.ensures in
    let zeros = ap (λ (e : ElementEntry). e.elements) c.empty-entry.ensures in
    entry-made c.requires.0 c.in-Ok.ensures refl c.requires.1 _ refl clear zeros c.copy_elements.ensures c.held.ensures c.skip.ensures

pub returns-in-Err : goal.returns-in-Err
returns-in-Err c = absurd (entry-fails c.requires.0 c.in-Err.ensures refl)
