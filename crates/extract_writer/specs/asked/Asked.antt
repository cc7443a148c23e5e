-- The columns of a table that is well formed beside its text are what writing its extract asks for.
use mathlib.Core.List.{List, Memᴰ as In}
use Rattle.std.specs.Prelude.{◌≡◌, refl, ℕ, ◌+◌, ◌<◌, ◌≤◌, T, length, get_or}
use Rattle.std.proofs.Common.{subst, arith}
use Rattle.std.proofs.lemmas.List.{length-map}
use Rattle.extract_writer.specs.rows.Rows.{ExtractColumns, part_length}
use Rattle.kept_rows.specs.laws.Cut.{columns_in, get_d_map, parents-first}
use Rattle.schema_spec.specs.Names.{Name, element, text, is_text, code_of}
use Rattle.schema_spec.specs.Types.{Types}
use Rattle.table_laws.specs.Characters.{characters-size}
use Rattle.table_laws.specs.Codes.{HasCode, NamesCoded}
use Rattle.table_laws.specs.Fits.{cells_fit, all-cells}
use Rattle.table_laws.specs.Limits.{rows_few as few-rows}
use Rattle.table_laws.specs.Places.{at_some, at_in}
use Rattle.table_laws.specs.WellFormed.{cells-mean, well-formed-beside, well-formed-alone}
use Rattle.table_spec.specs.Conditions.{TextCells, of-element, of-text, WellFormedBeside}
use Rattle.table_spec.specs.Rows.{Row, characters_by}
use Rattle.table_spec.specs.Tables.{well_formed, well_formed_with}
use Rattle.text_laws.specs.Lists.{all_in}
use Rattle.text_spec.specs.Limits.{max_declarations, max_nodes, max_text_bytes}
use Rattle.text_spec.specs.Lists.{part}

-- ---- names that codes stand for
-- the code of a text's name
text-coded : (n : Name) → HasCode n → max_declarations ≤ code_of n → T (is_text n)
text-coded (element e) h l = absurd (omega arith)
text-coded (text e) h l = tt

text-short : (r : Row) → TextCells r → T (is_text r.name) → r.decoded ≤ max_text_bytes
text-short r (of-element {e = e} q a b d) t = absurd (subst (λ (n : Name). T (is_text n)) q t)
text-short r (of-text q a b d f) t = omega arith

module _ (s : Types) (lent : List ℕ) (rows : List Row) (ok : T (well_formed_with s lent rows)) (coded : NamesCoded rows) where
  alone : T (well_formed s rows)
  alone = well-formed-alone s lent rows ok

  beside : WellFormedBeside s lent rows
  beside = (well-formed-beside s lent rows).0 ok

  pub rows_few : length rows ≤ max_nodes
  rows_few = few-rows s rows alone

  -- what holds of each text row holds of its cells
  at-texts : (P : ℕ → ℕ → ℕ → Type 0) → ((r : Row) → In r rows → T (is_text r.name) → P r.start r.size r.decoded) → (k : ℕ) → k < length rows → max_declarations ≤ get_or (columns_in rows).names k 0
      → P (get_or (columns_in rows).starts k 0) (get_or (columns_in rows).lengths k 0) (get_or (columns_in rows).decoded k 0)
  at-texts P h k l t =
      let q = at_some rows k l in
      let r = q.0 in
      let i = at_in rows k r q.1 in
      rw (get_d_map (λ x. x.start) rows k r q.1, get_d_map (λ x. x.size) rows k r q.1, get_d_map (λ x. x.decoded) rows k r q.1)
      (h r i (text-coded r.name (coded r i) (subst (λ (x : ℕ). max_declarations ≤ x) (get_d_map (λ x. code_of x.name) rows k r q.1) t)))

  pub text-columns : ExtractColumns lent (columns_in rows) (length rows)
  text-columns =
      record {
        sizes =
            record {
              numbers = length-map rows (λ r. r.number);
              names = length-map rows (λ r. code_of r.name);
              parents = length-map rows (λ r. r.parent);
              starts = length-map rows (λ r. r.start);
              lengths = length-map rows (λ r. r.size);
              decoded = length-map rows (λ r. r.decoded);
            };
        few = rows_few;
        above = λ k l. let b = parents-first s rows alone k l in omega arith;
        inside = at-texts (λ a n m. a + n ≤ length lent) beside.inside;
        spelt = at-texts (λ a n m. length (characters_by n m (part a n lent)) ≡ m)
            (λ r i t. characters-size lent r (part_length lent r.start r.size (beside.inside r i t)) (beside.spelt r i t));
        short = at-texts (λ a n m. m ≤ max_text_bytes) (λ r i t. text-short r (cells-mean r.name r refl (all_in cells_fit (all-cells s rows alone) i)) t);
      }
