-- `judge_and_compile` meets its contract: judged, then entry by entry, and what lies below by what each holds.
use Rattle.std.proofs.lemmas.Result.{err_from_is_err_and}
use Rattle.compiled_schema.proofs.Whole.{refused-read, schema-read, schema-count, schema-with, schema-compiled}
use Rattle.compiled_schema.proofs.judge_and_compile.Goals as goal

pub returns-in_err-count : goal.returns-in_err-count
returns-in_err-count c =
    let p = err_from_is_err_and c.from_residual.result c.from_residual.ensures.1 in
    rw (p.1, p.2) (record { says = refused-read c.args.text.now c.in_err-count.ensures })

pub all_elements-requires : goal.all_elements-requires
all_elements-requires c =
    (schema-with c.args.text.now c.in_ok-count.ensures, schema-count c.args.text.now c.in_ok-count.ensures)

pub returns : goal.returns
returns c =
    let text = c.args.text.now in
    let r = c.of.ensures in
    record {
      says = (
        schema-read text c.in_ok-count.ensures,
        schema-compiled text c.in_ok-count.ensures c.all_elements.result c.of.result c.all_elements.ensures r.counted r.held r.beneath,
      );
    }
