-- What is asked of the columns of a journal's table that `listing` reads.
use Rattle.std.specs.Prelude.{List, ◌≡◌, ℕ, ◌≤◌, length, take, replicate}
use Rattle.std.proofs.Common.{arith, length-take-le}
use Rattle.std.proofs.lemmas.List.{length-replicate}
use Rattle.axis_passes.specs.declared.rows.Rows.{Rows}
use Rattle.axis_passes.specs.rows.Rows.{parents_in, codes_in, HeldTexts}
use Rattle.axis_passes.specs.declared.scratch.Scratch.{Scratch}
use Rattle.axis_passes.specs.scratch.Scratch.{Room}
use Rattle.compiled_paths.specs.Paths.{paths_in, Shaped}
use Rattle.compiled_paths.specs.declared.CompiledPaths.{CompiledPaths}
use Rattle.kept_rows.specs.Kept.{KeptColumns, KeptPass}
use Rattle.selection.specs.first_paths.Firsts.{FirstsPass, FirstPaths}
use Rattle.table_laws.specs.Columns.{TestedColumns}
use Rattle.text_spec.specs.Limits.{listing_rows}

pub record KeptAsked (codes ps : List ℕ) : Type 0 where
  pub columns : KeptColumns codes ps
  pub listed : length ps ≤ listing_rows

pub record PathsAsked (c : CompiledPaths) (t : Rows) (firsts : List ℕ) : Type 0 where
  pub shaped : Shaped c
  pub columns : TestedColumns (parents_in t) (codes_in t) (parents_in t)
  pub cells : length firsts ≡ length (parents_in t)
  pub listed : length (parents_in t) ≤ listing_rows

-- as many cells of scratch as there are rows
pub scratch-size : (k : ℕ) → k ≤ listing_rows → length {A = ℕ} (take k (replicate listing_rows 0)) ≡ k
scratch-size k l = length-take-le k (replicate listing_rows 0) (omega (arith, length-replicate {A = ℕ} listing_rows 0))

pub kept-asked : (codes ps : List ℕ) → KeptAsked codes ps → KeptPass codes ps (take (length ps) (replicate listing_rows 0))
kept-asked codes ps h = record { columns = h.columns; room = scratch-size (length ps) h.listed }

module _ (c : CompiledPaths) (t : Rows) (firsts : List ℕ) (h : PathsAsked c t firsts) where
  pub no_rows : length (parents_in t) ≡ 0 → FirstPaths (parents_in t) (codes_in t) (paths_in c) firsts
  no_rows e = record { long = h.cells; each = λ r l. absurd (omega arith) }

  pub paths-asked : HeldTexts t → (length (parents_in t) ≡ 0 → ⊥) → (m : List ℕ) (s : Scratch) → length m ≡ length (parents_in t) → Room (parents_in t) s
      → FirstsPass t c firsts m s
  paths-asked texts some m s e room =
      record {
        shaped = h.shaped;
        table = record { before = h.columns.before; filled = omega (arith, some); size = h.columns.names-size; coded = h.columns.coded };
        texts = texts;
        cells = h.cells;
        room-marks = e;
        room = room;
      }
