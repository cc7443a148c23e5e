-- Laws of the relation between the code's state and what is built, for every event.
use Rattle.std.specs.Prelude.{true, List, [], ◌∷◌, ◌++◌, ◌≡◌, refl, ℕ, suc, min, ◌≤◌, ◌<◌, length, Option as CodeOption, None}
use Rattle.std.proofs.Common.{true≢false, sym, ap, subst, ◌∙◌, arith, leb-true}
use Rattle.std.proofs.Math.Option.{Option, none, some}
use Rattle.std.proofs.lemmas.Bool.{lt-leb}
use Rattle.cells.specs.declared.columns.RowCells.{RowCells}
use Rattle.journal_builder.specs.build_state.State.{judged_from, RowsBelow, Built, Rows, kept, begun-row, Leaves, SafeStep, broken_by, step}
use Rattle.journal_builder.specs.declared.build_state.Build.{Build}
use Rattle.journal_builder.specs.declared.build_state.BuildStep.{BuildStep}
use Rattle.journal_builder.specs.declared.fillings.Filling.{Filling}
use Rattle.journal_builder.specs.declared.open_levels.Level.{Level}
use Rattle.journal_builder.specs.fillings.Fillings.{FillingOf}
use Rattle.journal_builder.specs.open_levels.LevelLaws.{opened-refilled}
use Rattle.journal_builder.specs.open_levels.Levels.{level_at, with_filling, Stored, LevelOf, Opened}
use Rattle.journal_spec.specs.Builder.{Filling as Contained, Open, Building, breaks, refill}
use Rattle.schema_spec.specs.Schemas.{Schema}
use Rattle.table_spec.specs.Rows.{Row}
use Rattle.text.specs.fault_keys.KeyLaws.{first_key}
use Rattle.text.specs.fault_keys.Keys.{no_key, place_limit, key_at, key_or, least_key, Placed}
use Rattle.text_spec.specs.Limits.{max_depth}
use Rattle.text_spec.specs.Lists.{is_none, list_of}
use Rattle.text_spec.specs.Refusals.{Refusal, Reason, number_of, at, first_of}

-- ---- open elements
pub length_refill : (g : Contained → Contained) (os : List Open) → length (refill g os) ≡ length os
length_refill g [] = refl
length_refill g (o ∷ os) = refl

pub below_more : (n m : ℕ) (os : List Open) → n ≤ m → RowsBelow n os → RowsBelow m os
below_more n m [] h w = tt
below_more n m (o ∷ os) h w = (omega (arith, w.0), below_more n m os h w.1)

pub below-refill : (n : ℕ) (g : Contained → Contained) (os : List Open) → RowsBelow n os → RowsBelow n (refill g os)
below-refill n g [] w = tt
below-refill n g (o ∷ os) w = w

-- the innermost open element
pub record Innermost (s : Schema) (levels : List Level) (d : ℕ) (os : List Open) : Type 0 where
  pub own : Open
  pub rest : List Open
  pub same : os ≡ own ∷ rest
  pub level : LevelOf s (level_at levels d) own

pub innermost : (s : Schema) (levels : List Level) (d : ℕ) (os : List Open) → d ≡ length os → (d ≡ 0 → ⊥) → Opened s levels os → Innermost s levels d os
innermost s levels d [] e z h = absurd (z e)
innermost s levels d (o ∷ os) e z h = record { own = o; rest = os; same = refl; level = subst (λ (k : ℕ). LevelOf s (level_at levels k) o) (sym e) h.0 }

-- it is refilled
pub refilled : (s : Schema) (g : Contained → Contained) (os : List Open) (t u : List Level) (d : ℕ) (v : Level) (f : Filling) → d ≡ length os → v ≡ level_at t d
    → Stored t d (with_filling (level_at t d) f) u → ((x : Contained) → FillingOf s v.filling x → FillingOf s f (g x)) → Opened s t os → Opened s u (refill g os)
refilled s g os t u d v f e l st h w = opened-refilled s t u d f g os e st each w
  where
    own : (o : Open) (rest : List Open) → os ≡ o ∷ rest → Opened s t (o ∷ rest) → FillingOf s f (g o.filling)
    own o rest q y =
        let k : d ≡ suc (length rest) = e ∙ ap (λ (z : List Open). length z) q in
        h o.filling (subst (λ (z : Level). FillingOf s z.filling o.filling) (sym (l ∙ ap (level_at t) k)) y.0.filling)

    each : (o : Open) (rest : List Open) → os ≡ o ∷ rest → FillingOf s f (g o.filling)
    each o rest q = own o rest q (subst (Opened s t) q w)

-- ---- what is known where nesting is not broken
pub unbroken : (b : Building) → is_none b.broken ≡ true → b.broken ≡ none
unbroken b e = pick b.broken e
  where
    pick : (o : Option Refusal) → is_none o ≡ true → o ≡ none
    pick none e = refl
    pick (some f) e = absurd (true≢false (sym e))

module _ (s : Schema) (b : Building) (levels : List Level) (m : Build) (whole : is_none b.broken ≡ true) (w : Built s levels m b) where
  pub faults-now : m.fault ≡ least_key b.faults
  faults-now = w.fault ∙ ap (λ (o : Option Refusal). least_key (list_of o ++ b.faults)) (unbroken b whole)

  pub placed-now : Placed b.faults
  placed-now = subst (λ (x : Option Refusal). Placed (list_of x ++ b.faults)) (unbroken b whole) w.placed

  pub judged-now : judged_from ≤ m.fault
  judged-now = leb-true judged_from m.fault (sym w.judged ∙ whole)

  -- 12 or 13 breaks it
  pub breaks-built : (r : Reason) (k : ℕ) → number_of r ≤ 13 → k < place_limit → Built s levels (broken_by (number_of r) k m) (breaks (at r k) b)
  breaks-built r k l p =
      record {
        depth = w.depth;
        opened = w.opened;
        below = w.below;
        count = w.count;
        listed = w.listed;
        rooted = w.rooted;
        fault = ap (min (key_at (number_of r) k)) faults-now;
        placed = (p, placed-now);
        judged = sym (lt-leb judged_from (min (key_at (number_of r) k) m.fault) (omega arith));
        few = λ z. absurd (omega arith);
      }

  pub breaks-leaves : (r : Reason) (k : ℕ) (c : Building) (x : BuildStep) → number_of r ≤ 13 → k < place_limit → x.build ≡ broken_by (number_of r) k m → c ≡ breaks (at r k) b
      → Leaves s levels m b x c
  breaks-leaves r k c x l p e q =
      record {
        built = subst (λ (y : Build). Built s levels y c) (sym e) (subst (λ (y : Building). Built s levels (broken_by (number_of r) k m) y) (sym q) (breaks-built r k l p));
        rows = λ z. absurd (no_key_lem (sym (ap (λ (y : Build). y.fault) e) ∙ z));
      }
    where
      no_key_lem : (broken_by (number_of r) k m).fault ≡ no_key → ⊥
      no_key_lem z = omega arith

-- ---- other forms of what is known
pub built-as : {s : Schema} {u : List Level} {m n : Build} {b c : Building} → m ≡ n → b ≡ c → Built s u n c → Built s u m b
built-as {s} {u} {m} {n} {b} {c} e f w = subst (λ (z : Build). Built s u z b) (sym e) (subst (λ (z : Building). Built s u n z) (sym f) w)

-- a step that begins no row
pub leaves_kept : {s : Schema} {u : List Level} {m : Build} {b c : Building} {x : BuildStep} → x.row ≡ None → c.rows ≡ b.rows → Built s u x.build c → Leaves s u m b x c
leaves_kept {m = m} {b = b} {x = x} e f w = record { built = w; rows = λ z. subst (λ (rows : List Row). Rows m.count x b.rows rows) (sym f) (kept e) }

-- the kept key is that of the first refusal that applies
pub fault-is-first : {s : Schema} {u : List Level} {m : Build} {b : Building} → Built s u m b → key_or (first_of (list_of b.broken ++ b.faults)) ≡ m.fault
fault-is-first {b = b} w = first_key (list_of b.broken ++ b.faults) w.placed ∙ sym w.fault

pub leaves-as : {s : Schema} {u : List Level} {m : Build} {b c d : Building} {x y : BuildStep} → x ≡ y → c ≡ d → Leaves s u m b y d → Leaves s u m b x c
leaves-as {s} {u} {m} {b} {c} {d} {x} {y} e f w = subst (λ (z : BuildStep). Leaves s u m b z c) (sym e) (subst (λ (z : Building). Leaves s u m b y z) (sym f) w)

pub safe-as : {m : Build} {x y : BuildStep} → x ≡ y → SafeStep m y → SafeStep m x
safe-as {m} {x} {y} e w = subst (λ (z : BuildStep). SafeStep m z) (sym e) w

pub broken-safe : (m : Build) (number k : ℕ) (row : CodeOption RowCells) → m.depth ≤ max_depth → SafeStep m (step (broken_by number k m) row)
broken-safe m number k row w = record { shallow = w; counted = omega arith }

-- a step with the same row begins the same
pub rows_as : {count : ℕ} {x y : BuildStep} {a b : List Row} → y.row ≡ x.row → Rows count x a b → Rows count y a b
rows_as f (kept p) = kept (f ∙ p)
rows_as f (begun-row p q) = begun-row (f ∙ p) q
