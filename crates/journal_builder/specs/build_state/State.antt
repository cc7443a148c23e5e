-- What the code's state says of the definition's `Building`.
use Rattle.std.specs.Prelude.{Bool, true, false, not, ◌&&◌, ◌||◌, List, [], ◌∷◌, ◌++◌, ◌≡◌, ℕ, ◌+◌, ◌≤◌, ◌<◌, eqb, leb, ltb, length, Option, Some, None}
use Rattle.cells.specs.columns.Columns.{cells}
use Rattle.cells.specs.declared.columns.RowCells.{RowCells}
use Rattle.journal_builder.specs.declared.build_state.Build.{Build}
use Rattle.journal_builder.specs.declared.build_state.BuildStep.{BuildStep}
use Rattle.journal_builder.specs.declared.open_levels.Level.{Level}
use Rattle.journal_builder.specs.open_levels.Levels.{Opened}
use Rattle.journal_spec.specs.Builder.{Open, Building}
use Rattle.schema_spec.specs.Schemas.{Schema}
use Rattle.table_spec.specs.Rows.{Row, cells_of}
use Rattle.text.specs.fault_keys.Keys.{no_key, place_limit, key_at, least_key, noted_key, Placed}
use Rattle.text.specs.lookup.Lookup.{found}
use Rattle.text_spec.specs.Limits.{max_declarations, max_depth, max_nodes, max_text_bytes}
use Rattle.text_spec.specs.Lists.{is_none, list_of}

-- keys below it are those of 12 and 13
abbrev pub judged_from : ℕ
judged_from = key_at 14 0

abbrev pub build : ℕ → ℕ → ℕ → Build
build depth count fault = record { depth = depth; count = count; fault = fault }

-- the rows of the open elements are among those so far
abbrev pub RowsBelow : ℕ → List Open → Type 0
RowsBelow n [] = Unit {0}
RowsBelow n (o ∷ os) = (o.row < n) × RowsBelow n os

-- The state and the levels are those of what is built.
pub record Built (s : Schema) (levels : List Level) (m : Build) (b : Building) : Type 0 where
  pub depth : m.depth ≡ length b.opens
  pub opened : Opened s levels b.opens
  pub below : RowsBelow b.count b.opens
  pub count : m.count ≡ b.count
  pub listed : b.count ≡ length b.rows
  pub rooted : b.rooted ≡ not (eqb b.count 0)
  pub fault : m.fault ≡ least_key (list_of b.broken ++ b.faults)
  pub placed : Placed (list_of b.broken ++ b.faults)
  pub judged : is_none b.broken ≡ leb judged_from m.fault
  pub few : m.fault ≡ no_key → b.count ≤ max_nodes

-- The rows before and after an event: one more, which the step has in its cells, or the same.
pub data Rows (count : ℕ) (x : BuildStep) : List Row → List Row → Type 0 where
  kept : {rows : List Row} → x.row ≡ None → Rows count x rows rows
  begun-row : {rows : List Row} {row : Row} {y : RowCells} → x.row ≡ Some y → cells count y ≡ cells_of row → Rows count x rows (row ∷ rows)

-- A step leaves what is built then; its row is exact unless some refusal applies.
pub record Leaves (s : Schema) (levels : List Level) (m : Build) (b : Building) (x : BuildStep) (c : Building) : Type 0 where
  pub built : Built s levels x.build c
  pub rows : x.build.fault ≡ no_key → Rows m.count x b.rows c.rows

-- what the next event needs to be safe
pub record SafeStep (m : Build) (x : BuildStep) : Type 0 where
  pub shallow : x.build.depth ≤ max_depth
  pub counted : x.build.count ≤ m.count + 1

-- a step from some levels to others, that leaves what the definition builds of what is built then
abbrev pub LeavesBy : (Schema → Building → Building) → List Level → Build → List Level → BuildStep → Type 0
LeavesBy given levels m after r =
    (s : Schema) (b : Building) → length s ≤ max_declarations → Built s levels m b → Leaves s after m b r (given s b)

-- the same while nesting is unbroken
abbrev pub LeavesUnbroken : (Schema → Building → Building) → List Level → Build → List Level → BuildStep → Type 0
LeavesUnbroken given levels m after r =
    (s : Schema) (b : Building) → length s ≤ max_declarations → is_none b.broken ≡ true → Built s levels m b → Leaves s after m b r (given s b)

-- ---- what the transitions give
abbrev pub is_second_root : Build → Bool
is_second_root m = eqb m.depth 0 && not (eqb m.count 0)

-- the root is declared, and is not the schema's
abbrev pub is_other : Option ℕ → Bool
is_other None = false
is_other (Some e) = not (eqb e 0)

abbrev pub is_wrong_root : ℕ → Option ℕ → Bool
is_wrong_root depth e = eqb depth 0 && is_other e

abbrev pub begun : Build → Option ℕ → ℕ → Build
begun m e k =
    build (m.depth + 1) (m.count + 1)
    (noted_key (is_none (found e)) 14 k (noted_key (is_wrong_root m.depth e) 15 k (noted_key (leb max_nodes m.count) 16 k m.fault)))

abbrev pub broken_by : ℕ → ℕ → Build → Build
broken_by number k m = build m.depth m.count (noted_key true number k m.fault)

abbrev pub ended_with : Bool → ℕ → ℕ → Build → Build
ended_with fits depth k m = build depth m.count (noted_key (not fits) 15 k m.fault)

abbrev pub texted : Build → ℕ → ℕ → Build
texted m k size = build m.depth (m.count + 1) (noted_key (ltb max_text_bytes size || leb max_nodes m.count) 16 k m.fault)

-- the journal ends with an element open, or without a root, and nesting is not broken
abbrev pub ends_short : Build → Bool
ends_short m = leb judged_from m.fault && (not (eqb m.depth 0) || eqb m.count 0)

abbrev pub step : Build → Option RowCells → BuildStep
step m row = record { build = m; row = row }

-- a place, if there is one, is one of a text
abbrev pub PlacedIn : Option ℕ → Type 0
PlacedIn None = Unit {0}
PlacedIn (Some k) = k < place_limit

-- a run of character data outside the root
abbrev pub outside_by : Option ℕ → Build → Build
outside_by None m = m
outside_by (Some k) m = broken_by 12 k m
