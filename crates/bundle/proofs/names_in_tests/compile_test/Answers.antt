-- `compile_test` meets its contract: an element's index fits a byte.
use mathlib.Core.List.{map}
use Rattle.std.proofs.Common.{◌≡◌, ◌+◌, ◌<◌, length, sym, arith}
use Rattle.std.proofs.lemmas.List.{length-map}
use Rattle.bundle.specs.laws.Names.{index_below}
use Rattle.text_spec.specs.Scans.{name_at}
use Rattle.bundle.proofs.names_in_tests.compile_test.Goals as goal

pub overflow_cast-result : goal.overflow_cast-result
overflow_cast-result c =
    let names = map (name_at c.args.schema.now) c.args.names.now in
    let z : c.in-Some.e < 0 + length names = index_below 0 (name_at c.args.text.now c.from-place.result) names c.in-Some.e (sym c.in-Some.ensures) in
    let n : length names ≡ length c.args.names.now = length-map c.args.names.now (name_at c.args.schema.now) in
    let h = c.requires in
    omega arith
