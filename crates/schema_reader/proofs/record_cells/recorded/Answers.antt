-- `recorded` meets its contract.
use native.Mathlib.Omega.{arith}
use Rattle.schema_reader.proofs.record_cells.Cells.{normal-cells}
use Rattle.text_spec.specs.Limits.{max_schema_bytes}
use Rattle.schema_reader.proofs.record_cells.recorded.Goals as goal

pub returns-then-s-gt-MAX_BYTES : goal.returns-then-s-gt-MAX_BYTES
returns-then-s-gt-MAX_BYTES c = record { bytes = λ h. absurd (omega arith); size = λ h. absurd (omega arith) }

pub returns : goal.returns
returns c = record { bytes = λ h. normal-cells max_schema_bytes h c.write_normal-len.ensures; size = λ h. c.write_normal-len.ensures.size }
