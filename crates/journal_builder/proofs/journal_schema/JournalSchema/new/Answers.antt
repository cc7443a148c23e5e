use Rattle.std.proofs.Common.{refl}
use Rattle.journal_builder.specs.journal_schema.Schemas.{compiled-short, compiled-few, compiled-read}
use Rattle.journal_builder.proofs.journal_schema.JournalSchema.new.Goals as goal

pub read-names-requires : goal.read-names-requires
read-names-requires c =
    let text = c.args.text.now in
    let t = c.args.compiled.now in
    (compiled-short text t c.requires, compiled-few text t c.requires)

pub returns : goal.returns
returns c = compiled-read c.args.text.now c.args.compiled.now c.requires _ refl c.read-names.ensures
