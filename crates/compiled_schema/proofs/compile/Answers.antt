-- `compile` meets its contract.
use Rattle.std.proofs.Common.{subst, sym}
use Rattle.compiled_schema.proofs.Whole.{refused-schema}
use Rattle.compiled_schema.specs.Compiled.{CompiledOf}
use Rattle.schema_spec.specs.Schemas.{Schema}
use Rattle.compiled_schema.proofs.compile.Goals as goal

pub returns-in-Ok : goal.returns-in-Ok
returns-in-Ok c = c.in-Ok.ensures.says.1

pub returns-in-Err : goal.returns-in-Err
returns-in-Err c =
    let text = c.args.text.now in
    subst (λ (s : Schema). CompiledOf text s c.empty.result) (sym (refused-schema text c.in-Err.field-0 c.in-Err.ensures.says)) (c.empty.ensures text)
