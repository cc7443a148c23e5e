-- The rows of an accepted extract are well formed beside its bytes.
use Rattle.std.specs.Prelude.{Bool, not, List, [], ◌++◌, ◌≡◌, ℕ, T}
use Rattle.std.proofs.Common.{⊎_elim, subst}
use Rattle.std.proofs.Math.Option.{Option, none, some}
use Rattle.extract_spec.specs.Reading.{items_of, rows_of_items, read_extract, is_table, rows_or}
use Rattle.schema_spec.specs.Types.{Types}
use Rattle.table_spec.specs.Rows.{Row}
use Rattle.table_spec.specs.Tables.{well_formed_with}
use Rattle.text_laws.specs.Lists.{append-empty}
use Rattle.text_laws.specs.Refusals.{judged-accepted, given-free}
use Rattle.text_laws.specs.Tests.{not-intro, decided}
use Rattle.text_spec.specs.Lists.{is_empty}
use Rattle.text_spec.specs.Refusals.{accepted, at, given, judged, bad_length, bad_extract}

pub read-well-formed : (s : Types) (bs : List ℕ) (rows : List Row) → read_extract s bs ≡ accepted rows → T (well_formed_with s bs rows)
unfolding read_extract
read-well-formed s bs rows e = pick (rows_of_items (items_of bs)) e
  where
    -- 17 does not apply
    kept : (b : Bool) (xs : List Row) → judged (given (is_empty bs) (at bad_length 0) ++ given (not b) (at bad_extract 0)) xs ≡ accepted rows → T b × (xs ≡ rows)
    kept b xs u =
        let c = judged-accepted (given (is_empty bs) (at bad_length 0) ++ given (not b) (at bad_extract 0)) xs rows u in
        let free = given-free (not b) (at bad_extract 0) (append-empty (given (is_empty bs) (at bad_length 0)) (given (not b) (at bad_extract 0)) c.0).1 in
        (⊎_elim (λ y. y) (λ n. absurd (free (not-intro b n))) (decided b), c.1)

    pick : (o : Option (List Row)) → judged (given (is_empty bs) (at bad_length 0) ++ given (not (is_table s bs o)) (at bad_extract 0)) (rows_or o) ≡ accepted rows → T (well_formed_with s bs rows)
    pick none u = absurd (kept (is_table s bs none) [] u).0
    pick (some rs) u =
        let c = kept (well_formed_with s bs rs) rs u in
        subst (λ (xs : List Row). T (well_formed_with s bs xs)) c.1 c.0
