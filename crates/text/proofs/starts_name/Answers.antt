-- `starts_name` meets its contract: the class of the byte tells, but for `_`.
use mathlib.Core.Bool.{false}
use mathlib.Core.Path.{◌∙◌}
use native.Mathlib.Omega.{arith}
use lib.Dec.{eqb}
use Rattle.text_spec.specs.Bytes.{class_of, starts_name}
use Rattle.text.specs.classes.Classes.{in_name}
use Rattle.text.specs.classes.Runs.{by-class}
use Rattle.text.proofs.starts_name.Goals as goal

pub returns : goal.returns
unfolding class_of
returns c = c.in_name.ensures ∙ by-class (λ k x. in_name k false (eqb x 95)) starts_name c.args.b tt (omega arith) c.class_of.ensures
