-- Laws of reading particles and groups.
use mathlib.Core.Bool.{Bool, true, false, cond, ◌&&◌}
use mathlib.Core.List.{List, [], ◌∷◌, ◌++◌}
use mathlib.Core.Path.{◌≡◌, refl, sym, ap, subst, ◌∙◌}
use Rattle.std.specs.Prelude.{Option, Some, None, Result, Ok, Err}
use Prim.Native.Nat.{ℕ, suc, ◌+◌, ◌-◌, ◌≤◌, ◌<◌}
use native.Mathlib.Omega.{arith}
use borrow.Author.Tests.{lt-ltb, le-ltb, eq-eqb, ne_eqb}
use lib.Dec.{eqb, ltb}
use lib.ListN.{length}
use Rattle.models.specs.declared.Ends.{Ends}
use Rattle.schema_spec.specs.Declarations.{Use}
use Rattle.schema_spec.specs.Machine.{Frame, fresh, holding, join, dead, expecting, in_use, step, schema_machine, from}
use Rattle.schema_spec.specs.Models.{Particle, uses}
use Rattle.schema.specs.declared.parsing.Parser.{Parser}
use Rattle.schema.specs.declared.particles.Follow.{Follow}
use Rattle.schema.specs.declared.particles.Follow.TheVariants.{Close, More}
use Rattle.schema.specs.declared.particles.Part.{Part}
use Rattle.schema.specs.declared.particles.Separator.{Separator}
use Rattle.schema.specs.particles.Automata.{Built, PartedBy, parted-none, parted-bar, parted-comma, frame_uses, FrameBuilt, built-fresh, built-holding, Joined}
use Rattle.schema.specs.particles.ReadingLaws.{noted-none, noted_more, noted-wider, noted-as, noted-length, noted-low, reading-from, kept-same, kept-then, part-read, indicated-reading}
use Rattle.schema.specs.particles.Readings.{Noted, Reading, Fails, Kept, PartAs, Inside, outside, Around, AroundAt, InsideAt, particle_due, particle_past, group_due, ReadsParticle, ReadsName, ReadsGroup, at-closed, PartIndicated, separator_of, Followed, FollowedAs}
use Rattle.text.specs.scanning.OutcomeLaws.{skipped-same}
use Rattle.text.specs.scanning.Outcomes.{Skipped}
use Rattle.text_laws.specs.Scans.{step-at, dead-at, at-end}
use Rattle.text_laws.specs.Tests.{cond_yes, cond_no}
use Rattle.text_spec.specs.Bytes.{is_blank, starts_name}
use Rattle.text_spec.specs.Limits.{max_groups}
use Rattle.text_spec.specs.Scans.{byte_at}

-- ---- the byte where a particle is due
module _ (x : Inside) (k b : ℕ) where
  due-blank : is_blank b ≡ true → step (particle_due x) k b ≡ particle_due x
  unfolding step
  due-blank e = cond_yes (particle_due x) _ e

  due-open : is_blank b ≡ false → starts_name b ≡ false → (t : Bool) → (eqb b 0x28 && ltb (suc (length x.around.frames)) max_groups) ≡ t
      → step (particle_due x) k b ≡ cond t (group_due (outside x)) dead
  unfolding step
  due-open d e t g =
      cond_no (particle_due x) _ d ∙ cond_no (in_use k (b ∷ []) x.frame x.around.frames x.around.head) _ e ∙ ap (λ (y : Bool). cond y (group_due (outside x)) dead) g

-- ---- a particle
module _ (old : Parser) {at i : ℕ} (K : Skipped old.text.now at i) where
  abbrev s : List ℕ
  s = old.text.now

  due-to : (x : Inside) → from (particle_due x) s at ≡ from (particle_due x) s i
  due-to x = skipped-same schema_machine K (particle_due x) refl (λ k b e. due-blank x k b e)

  pub particle-end : length s ≤ i → Fails particle_due s at i
  particle-end l x = due-to x ∙ at-end schema_machine s i (particle_due x) l

  pub particle-name : {depth : ℕ} {new : Parser} {r : Result Part ℕ} → ReadsName i old new r → ReadsParticle at depth old new r
  particle-name {depth} {new} {r} N = record { kept = N.kept; start = N.start; says = go r N.says }
    where
      go : (r : Result Part ℕ) → PartAs particle_due particle_past i old new r
          → PartAs {X = InsideAt depth} (λ x. particle_due x.0) (λ a x. particle_past a x.0) at old new r
      go (Ok p) R = reading-from R at (λ x. particle_due x.0) (λ x. x.0) K.low (λ x. due-to x.0)
      go (Err j) F = λ x. due-to x.0 ∙ F x.0

  module _ (l : i < length s) (e : starts_name (byte_at s i) ≡ false) where
    pub particle-not : (byte_at s i ≡ 0x28 → ⊥) → Fails particle_due s at i
    particle-not g x =
        due-to x ∙ dead-at schema_machine s i (particle_due x) dead l
        (due-open x i (byte_at s i) (K.stop l) e false (ap (λ (t : Bool). t && ltb (suc (length x.around.frames)) max_groups) (ne_eqb (byte_at s i) 0x28 g))) refl

    module _ (g : byte_at s i ≡ 0x28) where
      opens : (x : Inside) (t : Bool) → ltb (suc (length x.around.frames)) max_groups ≡ t → step (particle_due x) i (byte_at s i) ≡ cond t (group_due (outside x)) dead
      opens x t q =
          due-open x i (byte_at s i) (K.stop l) e t (ap (λ (y : Bool). y && ltb (suc (length x.around.frames)) max_groups) (eq-eqb (byte_at s i) 0x28 g) ∙ q)

      pub particle-deep : (depth : ℕ) → max_groups ≤ depth + 1 → Fails {X = InsideAt depth} (λ x. particle_due x.0) s at i
      particle-deep depth d x =
          let f = x.1 in
          due-to x.0 ∙ dead-at schema_machine s i (particle_due x.0) dead l (opens x.0 false (le-ltb (suc (length x.0.around.frames)) max_groups (omega arith))) refl

      module _ (depth : ℕ) (d : depth + 1 < max_groups) where
        abbrev inner : InsideAt depth → AroundAt (depth + 1)
        inner x = let f = x.1 in (outside x.0, omega arith)

        into : (x : InsideAt depth) → from (particle_due x.0) s at ≡ from (group_due (outside x.0)) s (i + 1)
        into x =
            let f = x.1 in
            due-to x.0 ∙ step-at schema_machine s i (particle_due x.0) (group_due (outside x.0)) l (opens x.0 true (lt-ltb (suc (length x.0.around.frames)) max_groups (omega arith))) refl

        module _ {mid : Parser} {r : Result Part ℕ} (G : ReadsGroup (i + 1) (depth + 1) old mid r) where
          pub open-fails : {j : ℕ} → r ≡ Err j → Fails {X = InsideAt depth} (λ x. particle_due x.0) s at j
          open-fails u x = into x ∙ part-read G u (inner x)

          pub open-high : (p : Part) → r ≡ Ok p → p.at ≤ length mid.text.now
          open-high p u = subst (λ (l : List ℕ). p.at ≤ length l) (sym G.kept.text) (part-read G u).high

          pub open-reads : {p y : Part} {new : Parser} → r ≡ Ok p → PartIndicated p mid new y → ReadsParticle at depth old new (Ok y)
          open-reads u Q =
              let a = K.low in
              record {
                kept = kept-then G.kept Q.only.kept;
                start = Q.only.start ∙ G.start;
                says =
                    indicated-reading mid (reading-from (part-read G u) at (λ x. particle_due x.0) inner (omega arith) into) (λ x. outside x.0) G.kept.text Q (λ x. at-closed);
              }

-- ---- a group
some_around : Around
some_around = record { frames = []; head = record { opening = record { place = 0; done = [] }; name = record { place = 0; name = [] } } }

join-uses : {f : Frame} {sep : Option Separator} (p : Particle Use) → PartedBy f sep → uses (join f p) ≡ frame_uses f ++ uses p
join-uses p parted-none = refl
join-uses p parted-bar = refl
join-uses p parted-comma = refl

-- what was read of a group up to i, where its next particle is due
pub record GroupUpTo (at depth : ℕ) (old now : Parser) (i : ℕ) (sep : Option Separator) (ends : Ends) : Type 0 where
  pub kept : Kept old now
  pub start : now.start ≡ old.start
  pub read : Reading {X = AroundAt depth} (λ x. group_due x.0) (λ f x. expecting f x.0.frames x.0.head) frame_uses
      (λ f. PartedBy f sep × FrameBuilt (old.count - old.start) old.predecessors.now now.predecessors.now ends f) old.text.now at old.count old.uses.now now.uses.now i now.count

pub group-start : {at depth : ℕ} {old : Parser} (ends : Ends) → at ≤ length old.text.now → old.count ≤ at → GroupUpTo at depth old old at None ends
group-start ends h l =
    record {
      kept = kept-same;
      start = refl;
      read = record { high = h; few = l; tree = fresh; noted = noted-none (omega arith); made = (parted-none, built-fresh refl); same = λ x. refl };
    }

module _ {at depth i : ℕ} {sep : Option Separator} {old now : Parser} {ends : Ends} (U : GroupUpTo at depth old now i sep ends) where
  abbrev group : Frame
  group = U.read.tree

  pub group-high : i ≤ length now.text.now
  group-high = subst (λ (l : List ℕ). i ≤ length l) (sym U.kept.text) U.read.high

  pub group-many : old.start ≤ old.count → now.start ≤ now.count
  group-many l = let c = U.read.noted.counted in let e = U.start in omega arith

  -- the particle that comes next, in the open group
  abbrev next : AroundAt depth → InsideAt depth
  next x = (record { frame = group; around = x.0 }, x.1)

  module _ {mid : Parser} {r : Result Part ℕ} (low : old.start ≤ old.count) (P : ReadsParticle i depth now mid r) where
    pub group-kept : Kept old mid
    group-kept = kept-then U.kept P.kept

    pub group-same : mid.start ≡ old.start
    group-same = P.start ∙ U.start

    pub group-fails : {j : ℕ} → r ≡ Err j → Fails {X = AroundAt depth} (λ x. group_due x.0) old.text.now at j
    group-fails {j} u x = U.read.same x ∙ subst (λ (l : List ℕ). Fails {X = InsideAt depth} (λ x. particle_due x.0) l i j) U.kept.text (part-read P u) (next x)

    module _ {p : Part} (u : r ≡ Ok p) where
      particle : Reading {X = InsideAt depth} (λ x. particle_due x.0) (λ a x. particle_past a x.0) uses
          (λ a. Built (now.count - old.start) now.predecessors.now mid.predecessors.now a p.ends) old.text.now i now.count now.uses.now mid.uses.now p.at mid.count
      particle =
          subst
          (λ (k : ℕ). Reading {X = InsideAt depth} (λ x. particle_due x.0) (λ a x. particle_past a x.0) uses
          (λ a. Built (now.count - k) now.predecessors.now mid.predecessors.now a p.ends) old.text.now i now.count now.uses.now mid.uses.now p.at mid.count) U.start
          (subst
          (λ (l : List ℕ). Reading {X = InsideAt depth} (λ x. particle_due x.0) (λ a x. particle_past a x.0) uses
          (λ a. Built (now.count - now.start) now.predecessors.now mid.predecessors.now a p.ends) l i now.count now.uses.now mid.uses.now p.at mid.count) U.kept.text (part-read P u))

      pub particle-high : p.at ≤ length mid.text.now
      particle-high = subst (λ (l : List ℕ). p.at ≤ length l) (sym group-kept.text) particle.high

      up_to : (x : AroundAt depth) → from (group_due x.0) old.text.now at ≡ from (particle_past particle.tree (next x).0) old.text.now p.at
      up_to x = U.read.same x ∙ particle.same (next x)

      noted-to : (j : ℕ) → p.at ≤ j → Noted old.text.now at old.count old.uses.now mid.uses.now j mid.count (uses (join group particle.tree))
      noted-to j l =
          noted-wider (noted-as (noted_more U.read.noted particle.noted) refl (sym (join-uses particle.tree U.read.made.0))) at j (omega arith) l

      -- the particle's positions come after those of the group so far
      module _ {links : List ℕ} {e : Ends} (J : Joined sep ends p.ends mid.predecessors.now links e) where
        built-to : Built (old.count - old.start) old.predecessors.now links (join group particle.tree) e
        built-to =
            let l = noted-length U.read.noted in
            let k : now.count - old.start ≡ old.count - old.start + length (frame_uses group) = omega arith in
            J.built (old.count - old.start) old.predecessors.now now.predecessors.now group particle.tree U.read.made.0 U.read.made.1
            (subst (λ (m : ℕ). Built m now.predecessors.now mid.predecessors.now particle.tree p.ends) k particle.made)

        module _ {w : Result Follow ℕ} (F : Followed mid.text.now p.at sep w) where
          followed : {a : Result Follow ℕ} → w ≡ a → FollowedAs old.text.now p.at sep a
          followed {a} v = (subst (λ (l : List ℕ). Followed l p.at sep a) group-kept.text (subst (Followed mid.text.now p.at sep) v F)).says

          pub group-stops : {j : ℕ} → w ≡ Err j → Fails {X = AroundAt depth} (λ x. group_due x.0) old.text.now at j
          group-stops v x = up_to x ∙ followed v particle.tree (next x).0 U.read.made.0

          -- the parser after the links of the joined particle were written
          abbrev joined : Parser
          joined = record mid { predecessors = record mid.predecessors { now = links } }

          joined-kept : Kept old joined
          joined-kept =
              record {
                text = group-kept.text;
                uses = group-kept.uses;
                predecessors = group-kept.predecessors;
                uses-size = group-kept.uses-size;
                predecessors-size = J.long ∙ group-kept.predecessors-size;
              }

          pub group-closes : {j : ℕ} → w ≡ Ok (Close j) → ReadsGroup at depth old joined (Ok (record { at = j; ends = e }))
          group-closes {j} v =
              let C = followed v in
              let a = C.0 in
              let b = particle.few in
              record {
                kept = joined-kept;
                start = group-same;
                says =
                    record {
                      high = C.1;
                      few = omega arith;
                      tree = join group particle.tree;
                      noted = noted-to j (omega arith);
                      made = built-to;
                      same = λ x. up_to x ∙ C.2 particle.tree (next x).0;
                    };
              }

          pub group-next : {b : Separator} {j : ℕ} → w ≡ Ok (More b j) → (i < j) × GroupUpTo at depth old joined j (Some b) e
          group-next {b} {j} v =
              let M = followed v in
              let a = M.0 in
              let c = particle.few in
              let d = noted-low particle.noted in (
                omega arith,
                record {
                  kept = joined-kept;
                  start = group-same;
                  read =
                      record {
                        high = M.1;
                        few = omega arith;
                        tree = holding (separator_of b) (join group particle.tree);
                        noted = noted-to j (omega arith);
                        made = (M.2 particle.tree (record { frame = group; around = some_around }) U.read.made.0, built-holding built-to);
                        same = λ x. up_to x ∙ M.3 particle.tree (next x).0 U.read.made.0;
                      };
                },
              )
