-- The lent places, and how they change.
use Rattle.std.specs.Prelude.{Bool, true, false, cond, ◌≡◌, refl, ℕ, ◌+◌, ◌-◌, ◌≤◌, ◌<◌, eqb, leb}
use Rattle.std.specs.Prelude.{Option, Some, None}
use Rattle.std.proofs.Math.Option.{Option as SpecOption, none, some}
use Rattle.std.proofs.Common.{arith, le-leb, leb-false}
use Rattle.journal_lexer.specs.declared.kinds.ByteKind.{ByteKind}
use Rattle.journal_lexer.specs.declared.kinds.ByteKind.TheVariants.{Foreign}
use Rattle.journal_lexer.specs.declared.state.Places.{Places}
use Rattle.token_spec.specs.Lexer.{Run, run, solid_by, saved_by}

-- the number past all places: each place of a text fits in 32 bits
abbrev pub no_place : ℕ
no_place = 4294967295

abbrev pub place_in : Option ℕ → SpecOption ℕ
place_in None = none
place_in (Some k) = some k

-- a place by its number, of which that one is none
abbrev pub place_or : ℕ → SpecOption ℕ
place_or x = cond (eqb x no_place) none (some x)

-- before the first byte
abbrev pub no_places : Places
no_places = record { at = 0; start = 0; solid_at = None; foreign_at = None; saved = 0 }

-- the run of character data
abbrev pub run_of : Places → Run
run_of p = run p.start (place_in p.solid_at) p.saved

-- the run has a byte that is not a blank
abbrev pub HasSolid : Places → Type 0
HasSolid p = (k : ℕ) × (p.solid_at ≡ Some k)

-- what is lent: no more is saved than was read
pub record Lent (place : ℕ) (p : Places) : Type 0 where
  pub few : p.saved ≤ place

-- the places after a `<` or an `&`
abbrev pub with_tag : Places → ℕ → Places
with_tag p k = record p { at = k }

-- the first place that is noted stays
abbrev pub first_noted : Option ℕ → ℕ → Option ℕ
first_noted None k = Some k
first_noted (Some j) k = Some j

-- the first foreign byte, after a byte of the kind c at the place k
abbrev pub noted_by : ByteKind → Option ℕ → ℕ → Option ℕ
noted_by Foreign x k = first_noted x k
noted_by c x k = x

abbrev pub with_foreign : ByteKind → Places → ℕ → Places
with_foreign c p k = record p { foreign_at = noted_by c p.foreign_at k }

-- what is saved after the last byte, at the place k, of an entity
abbrev pub saved_after : Places → ℕ → ℕ
saved_after p k = cond (leb p.saved p.at) (cond (leb p.at k) (p.saved + (k - p.at)) p.saved) p.saved

abbrev pub with_saved : Places → ℕ → Places
with_saved p k = record p { saved = saved_after p k }

-- a kind that is not foreign changes no place
pub not-foreign : (c : ByteKind) (p : Places) (k : ℕ) → (c ≡ Foreign → ⊥) → with_foreign c p k ≡ p
not-foreign Foreign p k n = absurd (n refl)
not-foreign c p k n = refl

pub foreign-run : (c : ByteKind) (p : Places) (k : ℕ) → run_of (with_foreign c p k) ≡ run_of p
foreign-run c p k = refl

-- a new tag
pub tag-run : (p : Places) (x : ℕ) → run_of (with_tag p x) ≡ run_of p
tag-run p x = refl

-- a run that begins
pub begun-run : (p : Places) (s : ℕ) (x : Option ℕ) → run_of (record p { start = s; solid_at = x }) ≡ run s (place_in x) p.saved
begun-run p s x = refl

-- a run that has a byte that is not a blank keeps it
pub solid-stays : (p : Places) (k : ℕ) → HasSolid p → solid_by (run_of p) k ≡ run_of p
solid-stays p k h = rw h.1

pub blank-run : (p : Places) → p.solid_at ≡ None → run_of p ≡ run p.start none p.saved
blank-run p e = rw e

-- an entity saves its bytes but one
module _ (p : Places) (k : ℕ) (past : p.saved ≤ p.at) where
  saved-sum : saved_after p k ≡ p.saved + (k - p.at)
  saved-sum = rw (le-leb p.saved p.at past) (pick (leb p.at k) refl)
    where
      pick : (t : Bool) → leb p.at k ≡ t → cond t (p.saved + (k - p.at)) p.saved ≡ p.saved + (k - p.at)
      pick true e = refl
      pick false e =
          let l : k < p.at = leb-false p.at k e in
          omega arith

  pub saved-run : run_of (with_saved p k) ≡ saved_by (run_of p) (k - p.at)
  saved-run = rw saved-sum

-- ---- what is lent, after a byte
pub lent-next : {k : ℕ} {p : Places} → Lent k p → Lent (k + 1) p
lent-next h = record { few = omega (arith, h.few) }

pub lent-same : {k : ℕ} {p : Places} (q : Places) → q.saved ≡ p.saved → Lent k p → Lent k q
lent-same q e h = record { few = rw e h.few }

pub lent-foreign : {k : ℕ} {p : Places} (c : ByteKind) (i : ℕ) → Lent k p → Lent k (with_foreign c p i)
lent-foreign c i h = lent-same _ refl h

pub lent-tag : {k : ℕ} {p : Places} (x : ℕ) → Lent k p → Lent k (with_tag p x)
lent-tag x h = lent-same _ refl h

pub lent-begun : {k : ℕ} {p : Places} (s : ℕ) (x : Option ℕ) → Lent k p → Lent k (record p { start = s; solid_at = x })
lent-begun s x h = lent-same _ refl h

pub lent-cleared : (k : ℕ) (p : Places) → Lent k (record p { saved = 0 })
lent-cleared k p = record { few = omega arith }

pub lent-saved : {k : ℕ} {p : Places} → p.saved ≤ p.at → Lent k p → Lent k (with_saved p k)
lent-saved {k} {p} past h = record { few = rw (saved-sum p k past) (omega (arith, h.few, past)) }
