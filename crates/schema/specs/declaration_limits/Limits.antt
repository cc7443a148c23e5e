-- The first place of a schema text that passes a limit.
use Rattle.std.specs.Prelude.{cond, List, ℕ, ◌+◌, ◌-◌, leb, ltb, get_or, Option, Some, None}
use Rattle.text_spec.specs.Limits.{max_declarations, max_model_names}

-- The first place that passes a limit in a declaration that starts at i, is the one with index d and takes the count of names from n to m.
-- A place that the cells lack counts as 0.
abbrev pub over_limit : ℕ → ℕ → ℕ → ℕ → List ℕ → Option ℕ
over_limit d i n m uses =
    cond (leb max_declarations d) (Some i)
    (cond (ltb max_model_names (m - n)) (Some (get_or uses (n + max_model_names) 0)) None)
