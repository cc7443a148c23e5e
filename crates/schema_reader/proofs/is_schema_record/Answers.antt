-- `is_schema_record` meets its contract: the length, then the re-reading.
use Rattle.std.proofs.Common.{sym, ◌∙◌, ne_eqb}
use Rattle.schema_reader.proofs.Rereading.{record-long, record-refused, record-size, record-cells}
use Rattle.text.specs.name_bytes.Naming.{slices-same}
use Rattle.schema_reader.proofs.is_schema_record.Goals as goal

pub returns-then-schema-gt-MAX_BYTES : goal.returns-then-schema-gt-MAX_BYTES
returns-then-schema-gt-MAX_BYTES c = sym (record-long c.args.schema.bytes c.args.schema.len c.if-schema-gt-MAX_BYTES.true)

pub returns-then-read-schema : goal.returns-then-read-schema
returns-then-read-schema c =
    record-cells c.args.schema.bytes c.args.schema.len c.read_schema-read.ensures c.in-Ok.is c.if-schema-gt-MAX_BYTES.false c.if-read-schema.true (c.eq.ensures ∙ slices-same c.read_schema-read.result.schema.bytes c.args.schema.bytes)

pub returns-else-read-schema : goal.returns-else-read-schema
returns-else-read-schema c = ne_eqb _ _ c.if-read-schema.false ∙ sym (record-size c.args.schema.bytes c.args.schema.len c.read_schema-read.ensures c.in-Ok.is c.if-read-schema.false)

pub returns-in-Err : goal.returns-in-Err
returns-in-Err c = sym (record-refused c.args.schema.bytes c.args.schema.len c.read_schema-read.ensures c.in-Err.is)
