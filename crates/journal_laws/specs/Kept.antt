-- What an event keeps of a building: a property that each way to go on keeps.
use Rattle.std.specs.Prelude.{Bool, not, ◌||◌, List, [], ◌∷◌, ◌++◌, ℕ, suc, ◌-◌, leb, ltb, length}
use Rattle.std.proofs.Math.Option.{Option, none, some}
use Rattle.journal_spec.specs.Builder.{Filling, unjudged, misfit, unfilled, filled_by_text, filled_by_children, with_run, fits_at_end, Open, Building, building, breaks, refill, begin, on_start, end_of, outside, text_node, inside, on_unbroken, on_event}
use Rattle.schema_spec.specs.Schemas.{Schema}
use Rattle.table_spec.specs.Rows.{Row, text_row}
use Rattle.text_spec.specs.Limits.{max_depth, max_nodes, max_text_bytes}
use Rattle.text_spec.specs.Lists.{is_empty, is_none, same_bytes}
use Rattle.text_spec.specs.Refusals.{at, given, bad_nesting, over_depth, bad_content, over_node_limit}
use Rattle.token_laws.specs.Events.{cond_both}
use Rattle.token_spec.specs.Lexer.{Run, Event, quiet, starts, empties, ends, runs}

-- the ways to go on from any building: broken by 12, or with an element ended
pub record KeptByEnds (P : Building → Type 0) : Type 0 where
  pub broken-12 : (c : Building) (k : ℕ) → P c → P (breaks (at bad_nesting k) c)
  pub ended : (c : Building) (o : Open) (os : List Open) → P c
      → P (building os c.rooted (given (not (fits_at_end o.filling)) (at bad_content o.place) ++ c.faults) c.rows c.count)

-- the ways to go on from this building with character data: with no row more, or with a text row
pub record KeptByRuns (P : Building → Type 0) (b : Building) : Type 0 where
  pub run_on : (os : List Open) → P (building os b.rooted b.faults b.rows b.count)
  pub text-on : (os : List Open) (t : Bool) (k : ℕ) (r : Row) → P (building os b.rooted (given t (at over_node_limit k) ++ b.faults) (r ∷ b.rows) (suc b.count))

-- the ways to go on from this building with a tag that begins an element: broken by 13, or begun
pub record KeptByStarts (P : Building → Type 0) (s : Schema) (b : Building) : Type 0 where
  pub broken-13 : (k : ℕ) → P (breaks (at over_depth k) b)
  pub begun : (n : List ℕ) (k : ℕ) → P (begin s n k b)

module _ (P : Building → Type 0) (by-ends : KeptByEnds P) where
  pub keep-end : (os : List Open) (n : List ℕ) (k : ℕ) (c : Building) → P c → P (end_of os n k c)
  keep-end [] n k c h = by-ends.broken-12 c k h
  keep-end (o ∷ os) n k c h = cond_both P (same_bytes n o.name) _ _ (by-ends.ended c o os h) (by-ends.broken-12 c k h)

  module _ (b : Building) (now : P b) (by_runs : KeptByRuns P b) where
    keep-text : (f : Filling) (r : Run) (l p : ℕ) (os : List Open) → P (text_node f r l p (building os b.rooted b.faults b.rows b.count))
    keep-text unjudged r l p os = by_runs.run_on os
    keep-text misfit r l p os = by_runs.run_on os
    keep-text unfilled r l p os = by_runs.run_on os
    keep-text (filled_by_text e) r l p os =
        by_runs.text-on os (ltb max_text_bytes l || leb max_nodes b.count) r.start (text_row b.count e p r.start l (l - r.saved))
    keep-text (filled_by_children q) r l p os = by_runs.run_on os

    pub keep_run : (os : List Open) (r : Run) (l : ℕ) → P (inside os r l b)
    keep_run [] r l = by r.solid
      where
        by : (o : Option ℕ) → P (outside o b)
        by none = now
        by (some k) = by-ends.broken-12 b k now
    keep_run (o ∷ os) r l = keep-text o.filling r l o.row (refill (with_run (is_none r.solid)) (o ∷ os))

    module _ (s : Schema) (by-starts : KeptByStarts P s b) where
      keep-start : (n : List ℕ) (k : ℕ) → P (on_start s n k b)
      keep-start n k =
          cond_both P (is_empty b.opens) _ _ (cond_both P b.rooted _ _ (by-ends.broken-12 b k now) (by-starts.begun n k))
          (cond_both P (leb max_depth (length b.opens)) _ _ (by-starts.broken-13 k) (by-starts.begun n k))

      pub keep-unbroken : (e : Event) → P (on_unbroken s e b)
      keep-unbroken quiet = now
      keep-unbroken (starts n k) = keep-start n k
      keep-unbroken (empties n k) = cond_both P (is_none (on_start s n k b).broken) _ _ (keep-end (on_start s n k b).opens n k (on_start s n k b) (keep-start n k)) (keep-start n k)
      keep-unbroken (ends n k) = keep-end b.opens n k b now
      keep-unbroken (runs r l) = keep_run b.opens r l

      pub keep-event : (e : Event) → P (on_event s e b)
      unfolding on_event
      keep-event e = cond_both P (is_none b.broken) _ _ (keep-unbroken e) now
