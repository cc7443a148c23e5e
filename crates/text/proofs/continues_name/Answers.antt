-- `continues_name` meets its contract: the class of the byte tells, but for `-`, `.` and `_`.
use mathlib.Core.Bool.{true}
use mathlib.Core.Path.{ap, ◌∙◌}
use native.Mathlib.Omega.{arith}
use Rattle.text_spec.specs.Bytes.{class_of, continues_name}
use Rattle.text.specs.classes.Classes.{meant, joins_name, in_name}
use Rattle.text.specs.classes.Runs.{by-class}
use Rattle.text.proofs.continues_name.Goals as goal

pub returns : goal.returns
unfolding class_of
returns c = c.in_name.ensures ∙ ap (in_name (meant c.class_of.result) true) c.joins_name.ensures ∙ by-class (λ k x. in_name k true (joins_name x)) continues_name c.args.b tt (omega arith) c.class_of.ensures
