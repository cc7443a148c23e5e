-- Laws of reading names and separators.
use Rattle.std.specs.Prelude.{Bool, true, false, List, [], ◌∷◌, ◌≡◌, refl, ℕ, ◌+◌, ◌-◌, ◌≤◌, ◌<◌, eqb, length, set, Option, Some, Result, Ok, Err}
use Rattle.std.proofs.Math.Bool.{cond}
use Rattle.std.proofs.Common.{sym, ◌∙◌, subst, arith, ne_eqb, length-set}
use Rattle.std.proofs.Math.Path.{ap}
use Rattle.models.specs.Building.{EndsOf}
use Rattle.models.specs.declared.Ends.{Ends}
use Rattle.schema_spec.specs.Declarations.{Use}
use Rattle.schema_spec.specs.Machine.{Frame, join, State, dead, in_use, closed, step, schema_machine, from}
use Rattle.schema_spec.specs.Models.{Particle, named, uses}
use Rattle.schema.specs.declared.parsing.Parser.{Parser}
use Rattle.schema.specs.declared.particles.Follow.TheVariants.{Close, More}
use Rattle.schema.specs.declared.particles.Part.{Part}
use Rattle.schema.specs.declared.particles.Separator.{Separator}
use Rattle.schema.specs.declared.particles.Separator.TheVariants.{Bar, Comma}
use Rattle.schema.specs.particles.Automata.{Built, PartedBy, parted-none, parted-bar, parted-comma}
use Rattle.schema.specs.particles.AutomataLaws.{built-name}
use Rattle.schema.specs.particles.Parting.{byte_of}
use Rattle.schema.specs.particles.ReadingLaws.{indicated-reading, kept-then}
use Rattle.schema.specs.particles.Readings.{use_at, Reading, Fails, Kept, Around, Inside, outside, particle_due, particle_past, ReadsName, at_name, PartIndicated, may_part, parted, FollowedAs}
use Rattle.text.specs.scanning.OutcomeLaws.{skipped-same, named_end, named_past, named-fail}
use Rattle.text.specs.scanning.Outcomes.{Skipped, Named}
use Rattle.text_laws.specs.Bytes.{starts-no-blank}
use Rattle.text_laws.specs.Scans.{step-at, dead-at, at-end, Naming}
use Rattle.text_laws.specs.Tests.{never, cond_yes, cond_no}
use Rattle.text_spec.specs.Bytes.{is_blank, starts_name, continues_name}
use Rattle.text_spec.specs.Scans.{byte_at, Stops, name_at}

-- ---- the byte where a particle is due
module _ (x : Inside) (k b : ℕ) where
  due-name : starts_name b ≡ true → step (particle_due x) k b ≡ in_use k (b ∷ []) x.frame x.around.frames x.around.head
  unfolding step
  due-name e = cond_no (particle_due x) _ (starts-no-blank b e) ∙ cond_yes (in_use k (b ∷ []) x.frame x.around.frames x.around.head) _ e

-- ---- a name
abbrev in_name : ℕ → List ℕ → Inside → State
in_name j n x = in_use j n x.frame x.around.frames x.around.head

use-naming : (j : ℕ) (x : Inside) → Naming schema_machine dead (λ n. in_name j n x)
unfolding step
use-naming j x = record { dies = refl; lives = λ n. refl; goes = λ n k b e. cond_yes _ _ e }

module _ {s : List ℕ} {i : ℕ} {r : Result ℕ ℕ} (N : Named s i r) (l : i < length s) (e : starts_name (byte_at s i) ≡ true) where
  begun : (x : Inside) → from (particle_due x) s i ≡ from (in_name i (byte_at s i ∷ []) x) s (i + 1)
  begun x = step-at schema_machine s i (particle_due x) (in_name i (byte_at s i ∷ []) x) l (due-name x i (byte_at s i) e) refl

  pub name-fails : {j : ℕ} → r ≡ Err j → Fails particle_due s i j
  name-fails u x = begun x ∙ named-fail N (use-naming i x) u

-- the place i is noted, and nothing else is written
pub record PlaceNoted (i : ℕ) (old new : Parser) : Type 0 where
  pub kept : Kept old new
  pub start : new.start ≡ old.start
  pub place : new.uses.now ≡ set old.uses.now old.count i
  pub count : new.count ≡ old.count + 1
  pub links : new.predecessors.now ≡ old.predecessors.now

-- cells in which a place was noted are as many as before
pub noted-size : (cells : List ℕ) (n i : ℕ) {cells' : List ℕ} → cells' ≡ set cells n i → length cells' ≡ length cells
noted-size cells n i e = ap length e ∙ length-set cells n i

module _ (old mid : Parser) {i : ℕ} {r : Result ℕ ℕ} (W : PlaceNoted i old mid) (N : Named old.text.now i r) (l : i < length old.text.now) (e : starts_name (byte_at old.text.now i) ≡ true) where
  pub name-reads : {j : ℕ} {ends : Ends} {y : Part} {new : Parser} → r ≡ Ok j → old.count ≤ i
      → (old.count - old.start < 64 → (a : ℕ) → EndsOf (old.count - old.start) (named a) ends)
      → PartIndicated (record { at = j; ends = ends }) mid new y → ReadsName i old new (Ok y)
  name-reads {j} {ends} {y} {new} u m E Q =
      record {
        kept = kept-then W.kept Q.only.kept;
        start = Q.only.start ∙ W.start;
        says = indicated-reading mid read outside W.kept.text Q (λ x. at_name f.2);
      }
    where
      f : (i < j) × (j ≤ length old.text.now) × Stops continues_name old.text.now j
      f = named_end N u

      made : Built (old.count - old.start) old.predecessors.now mid.predecessors.now (named (use_at old.text.now i)) ends
      made =
          subst (λ (t : List ℕ). Built (old.count - old.start) old.predecessors.now t (named (use_at old.text.now i)) ends) (sym W.links)
          (built-name (old.count - old.start) (use_at old.text.now i) old.predecessors.now ends E)

      read : Reading particle_due (λ a x. in_name i (name_at old.text.now i) x) uses (λ a. Built (old.count - old.start) old.predecessors.now mid.predecessors.now a ends) old.text.now i old.count old.uses.now mid.uses.now j mid.count
      read =
          let a = f.0 in
          let c = W.count in
          record {
            high = f.1;
            few = omega arith;
            tree = named (use_at old.text.now i);
            noted = record { places = i ∷ []; names = refl; rise = (omega arith, omega arith); counted = W.count; wrote = W.place };
            made = made;
            same = λ x. begun N l e x ∙ named_past N (use-naming i x) u;
          }

-- ---- separators
-- what a separator makes of a frame does not depend on what is around it
record Moves (x : Inside) (p : Particle Use) (k : ℕ) (b : Separator) : Type 0 where
  goes : step (particle_past p x) k (byte_of b) ≡ particle_due (parted b p x)
  holds : PartedBy (parted b p x).frame (Some b)

module _ (p : Particle Use) (y : Around) (k : ℕ) where
  abbrev inside : Frame → Inside
  inside f = record { frame = f; around = y }

  past-blank : (f : Frame) (b : ℕ) → is_blank b ≡ true → step (particle_past p (inside f)) k b ≡ particle_past p (inside f)
  unfolding step
  past-blank f b e = cond_yes (particle_past p (inside f)) _ e

  past-close : (f : Frame) {b : ℕ} → b ≡ 0x29 → step (particle_past p (inside f)) k b ≡ closed (join f p) y.frames y.head
  unfolding step
  past-close f e = ap (λ (c : ℕ). step (particle_past p (inside f)) k c) e

  moves : {f : Frame} {sep : Option Separator} (b : Separator) → PartedBy f sep → may_part sep b ≡ true → Moves (inside f) p k b
  unfolding step
  moves Bar parted-none e = record { goes = refl; holds = parted-bar }
  moves Comma parted-none e = record { goes = refl; holds = parted-comma }
  moves Bar parted-bar e = record { goes = refl; holds = parted-bar }
  moves Comma parted-bar e = never (cc)
  moves Bar parted-comma e = never (cc)
  moves Comma parted-comma e = record { goes = refl; holds = parted-comma }

  -- the wrong separator
  stuck : {f : Frame} {sep : Option Separator} (b : Separator) → PartedBy f sep → may_part sep b ≡ false → step (particle_past p (inside f)) k (byte_of b) ≡ dead
  unfolding step
  stuck Bar parted-none e = never (cc)
  stuck Comma parted-none e = never (cc)
  stuck Bar parted-bar e = never (cc)
  stuck Comma parted-bar e = refl
  stuck Bar parted-comma e = refl
  stuck Comma parted-comma e = never (cc)

  same-both : {A : Type 0} (t : Bool) (z : A) → cond t z z ≡ z
  same-both true z = refl
  same-both false z = refl

  -- any other byte
  other : {f : Frame} {sep : Option Separator} (b : ℕ) → PartedBy f sep → is_blank b ≡ false → (b ≡ 0x29 → ⊥) → (b ≡ 0x7C → ⊥) → (b ≡ 0x2C → ⊥) → step (particle_past p (inside f)) k b ≡ dead
  unfolding step
  other b parted-none d c bar comma =
      cond_no _ _ d ∙ cond_no _ _ (ne_eqb b 0x29 c) ∙ cond_no _ _ (ne_eqb b 0x7C bar) ∙ cond_no _ dead (ne_eqb b 0x2C comma)
  other b parted-bar d c bar comma =
      cond_no _ _ d ∙ cond_no _ _ (ne_eqb b 0x29 c) ∙ cond_no _ _ (ne_eqb b 0x7C bar) ∙ same-both (eqb b 0x2C) dead
  other b parted-comma d c bar comma =
      cond_no _ _ d ∙ cond_no _ _ (ne_eqb b 0x29 c) ∙ ap (λ (t : State). cond (eqb b 0x7C) dead t) (cond_no _ dead (ne_eqb b 0x2C comma)) ∙ same-both (eqb b 0x7C) dead

module _ {s : List ℕ} {at i : ℕ} (sep : Option Separator) (K : Skipped s at i) where
  past_to : (p : Particle Use) (x : Inside) → from (particle_past p x) s at ≡ from (particle_past p x) s i
  past_to p x = skipped-same schema_machine K (particle_past p x) refl (λ k b e. past-blank p x.around k x.frame b e)

  pub follow-end : length s ≤ i → FollowedAs s at sep (Err i)
  follow-end l p x H = past_to p x ∙ at-end schema_machine s i (particle_past p x) l

  module _ (l : i < length s) where
    pub follow-close : byte_at s i ≡ 0x29 → FollowedAs s at sep (Ok (Close (i + 1)))
    follow-close e =
        let a = K.low in
        (omega arith, omega arith, λ p x. past_to p x ∙ step-at schema_machine s i (particle_past p x) (closed (join x.frame p) x.around.frames x.around.head) l (past-close p x.around i x.frame e) refl)

    pub follow-more : (b : Separator) → byte_at s i ≡ byte_of b → may_part sep b ≡ true → FollowedAs s at sep (Ok (More b (i + 1)))
    follow-more b g e =
        let a = K.low in (
          omega arith,
          omega arith,
          (λ p x H. (moves p x.around i b H e).holds),
          λ p x H. past_to p x ∙ step-at schema_machine s i (particle_past p x) (particle_due (parted b p x)) l
              (ap (λ (c : ℕ). step (particle_past p x) i c) g ∙ (moves p x.around i b H e).goes) refl,
        )

    pub follow-wrong : (b : Separator) → byte_at s i ≡ byte_of b → may_part sep b ≡ false → FollowedAs s at sep (Err i)
    follow-wrong b g e p x H =
        past_to p x ∙ dead-at schema_machine s i (particle_past p x) dead l (ap (λ (c : ℕ). step (particle_past p x) i c) g ∙ stuck p x.around i b H e) refl

    pub follow-not : (byte_at s i ≡ 0x29 → ⊥) → (byte_at s i ≡ 0x7C → ⊥) → (byte_at s i ≡ 0x2C → ⊥) → FollowedAs s at sep (Err i)
    follow-not c bar comma p x H = past_to p x ∙ dead-at schema_machine s i (particle_past p x) dead l (other p x.around i (byte_at s i) H (K.stop l) c bar comma) refl
