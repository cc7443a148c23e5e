-- A reader of an extract past the root's field, and one that a call leaves on the same extract.
use Rattle.std.specs.Prelude.{List, ◌≡◌, ℕ, ◌<◌, ◌≤◌, false, length, replicate}
use Rattle.std.proofs.Common.{⊎_elim, ap, ◌∙◌, arith}
use Rattle.std.proofs.lemmas.List.{get_or-replicate, get_or_past, length-replicate}
use Rattle.extract_reader.specs.declared.levels.Level.{Level}
use Rattle.extract_reader.specs.declared.reading.Carried.{Carried}
use Rattle.extract_reader.specs.declared.reading.Reader.{Reader}
use Rattle.extract_reader.specs.levels.Levels.{level, level_at, InBytes}
use Rattle.text_laws.specs.Searches.{below-or-past}
use Rattle.text_spec.specs.Limits.{max_depth}

-- the same extract and the same words
pub record SameSource (old new : Reader) : Type 0 where
  pub extract : new.extract.now ≡ old.extract.now
  pub words : new.words.now ≡ old.words.now

-- the number carried has at most 16 bits, the element of each level 8
pub record BitWidths (r : Reader) : Type 0 where
  pub number : r.carried.number < 65536
  pub elements : InBytes r.levels

abbrev pub root_carried : Carried
root_carried = record { at = 8; rows = 1; number = 0; text = false; depth = 1 }

pub record AfterRoot (bs words : List ℕ) (r : Reader) : Type 0 where
  pub extract : r.extract.now ≡ bs
  pub words-are : r.words.now ≡ words
  pub levels : r.levels ≡ replicate max_depth (level 0 0 0)
  pub carried : r.carried ≡ root_carried

pub filled-widths : (r : Reader) (v : Level) → r.levels ≡ replicate max_depth v → r.carried.number < 65536 → v.element < 256 → BitWidths r
filled-widths r v e n small = record { number = n; elements = λ i. ⊎_elim (inside i) (past i) (below-or-past i max_depth) }
  where
    inside : (i : ℕ) → i < max_depth → (level_at r.levels i).element < 256
    inside i l = omega (arith, small, ap (λ (x : Level). x.element) (ap (λ (xs : List Level). level_at xs i) e ∙ get_or-replicate max_depth i v (level 0 0 0) l))

    past : (i : ℕ) → max_depth ≤ i → (level_at r.levels i).element < 256
    past i l = omega (arith, ap (λ (x : Level). x.element) (get_or_past r.levels i (level 0 0 0) (omega (arith, l, ap length e, length-replicate max_depth v))))
