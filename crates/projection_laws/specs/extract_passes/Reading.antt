-- Reading an extract in one pass is reading it as defined: refusal 2 for no bytes, 17 where the pass gives no rows, else the rows.
use Rattle.std.specs.Prelude.{Bool, true, false, cond, not, List, [], ◌∷◌, ◌++◌, ◌≡◌, refl, ℕ, T, eqb}
use Rattle.std.proofs.Math.Option.{Option, none, some}
use Rattle.std.proofs.Common.{sym, ap, ◌∙◌}
use Rattle.extract_spec.specs.Reading.{items_of, rows_of_items, is_table, rows_or, read_extract}
use Rattle.library_spec.specs.Records.{kept_if}
use Rattle.projection_laws.specs.extract_passes.Places.{rows_in_lem, all-within}
use Rattle.projection_laws.specs.extract_passes.Rows.{Apart}
use Rattle.projection_laws.specs.extract_passes.Steps.{rows_in}
use Rattle.projection_laws.specs.extract_passes.Tables.{table-agrees}
use Rattle.schema_spec.specs.Models.{Content, empty, pcdata, children, uses_in}
use Rattle.schema_spec.specs.Names.{element, text}
use Rattle.schema_spec.specs.Schemas.{Schema, content_at, is_pcdata}
use Rattle.schema_spec.specs.Types.{Types, types_of, holds}
use Rattle.table_spec.specs.Rows.{Row}
use Rattle.table_spec.specs.Tables.{well_formed_with}
use Rattle.text_laws.specs.Tests.{and_cases}
use Rattle.text_spec.specs.Lists.{any_of, is_empty}
use Rattle.text_spec.specs.Refusals.{Outcome, accepted, refused, at, given, judged, first_of, bad_length, bad_extract}

-- what a pass answers
abbrev pub rows_outcome : Option (List Row) → Outcome (List Row)
rows_outcome none = refused (at bad_extract 0)
rows_outcome (some rows) = accepted rows

abbrev pub pass_outcome : Types → List ℕ → Outcome (List Row)
pass_outcome s bs = cond (is_empty bs) (refused (at bad_length 0)) (rows_outcome (rows_in s bs))

judged-rows : (s : Types) (bs : List ℕ) (o : Option (List Row)) → judged (given false (at bad_length 0) ++ given (not (is_table s bs o)) (at bad_extract 0)) (rows_or o)
    ≡ rows_outcome (kept_if (well_formed_with s bs) o)
unfolding first_of
judged-rows s bs none = refl
judged-rows s bs (some rows) = by (well_formed_with s bs rows)
  where
    by : (b : Bool) → judged (given false (at bad_length 0) ++ given (not b) (at bad_extract 0)) rows ≡ rows_outcome (cond b (some rows) none)
    by true = refl
    by false = refl

read-by-pass : (s : Types) → Apart s → (bs : List ℕ) → read_extract s bs ≡ pass_outcome s bs
unfolding read_extract first_of items_of
read-by-pass s apart [] = refl
read-by-pass s apart (b ∷ bs) =
    judged-rows s (b ∷ bs) (rows_of_items (items_of (b ∷ bs)))
    ∙ ap rows_outcome (sym (rows_in_lem s (b ∷ bs) ∙ table-agrees s apart (b ∷ bs) (all-within (b ∷ bs))))

-- an element of a schema holds a text or elements
apart-names : (schema : Schema) → Apart (types_of schema)
unfolding types_of holds
apart-names schema a b x t u = by (content_at schema a) t (and_cases (eqb a x) (is_pcdata (content_at schema a)) u).1
  where
    by : (c : Content ℕ) → T (any_of (eqb b) (uses_in c)) → T (is_pcdata c) → ⊥
    by empty v w = w
    by pcdata v w = v
    by (children p) v w = w

pub read-in-one-pass : (schema : Schema) (bs : List ℕ) → read_extract (types_of schema) bs ≡ pass_outcome (types_of schema) bs
read-in-one-pass schema bs = read-by-pass (types_of schema) (apart-names schema) bs
