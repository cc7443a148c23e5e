-- Laws of the automaton that is made as a model is read: a name, an indicator, one more particle of a group.
use Rattle.std.specs.Prelude.{Bool, true, false, List, ◌++◌, ◌≡◌, refl, ℕ, ◌+◌, ◌≤◌, ◌<◌, length, Option, Some, None}
use Rattle.std.proofs.Common.{sym, ap₂, subst, ◌∙◌, add-zero, arith, length-append}
use Rattle.models.specs.Building.{EndsOf, LinksAdded}
use Rattle.models.specs.Placing.{Clear, Placed, placed-name, placed-choice, placed-sequence, placed-once, placed-repeated}
use Rattle.models.specs.Positions.{size}
use Rattle.models.specs.declared.Ends.{Ends}
use Rattle.schema_spec.specs.Declarations.{Use, once, optional, any, one_or_more}
use Rattle.schema_spec.specs.Machine.{Frame, join}
use Rattle.schema_spec.specs.Models.{Particle, named, sequence, choice, repeated, uses, rename_in}
use Rattle.schema.specs.declared.particles.Separator.{Separator}
use Rattle.schema.specs.declared.particles.Separator.TheVariants.{Bar, Comma}
use Rattle.schema.specs.particles.Automata.{Built, Repeated, PartedBy, parted-none, parted-bar, parted-comma, frame_uses, FrameBuilt, built-fresh, built-holding, Joined}

size-renamed : (f : Use → ℕ) (p : Particle Use) → size (rename_in f p) ≡ length (uses p)
size-renamed f (named u) = refl
size-renamed f (sequence p q) = ap₂ ◌+◌ (size-renamed f p) (size-renamed f q) ∙ sym (length-append (uses p) (uses q))
size-renamed f (choice p q) = ap₂ ◌+◌ (size-renamed f p) (size-renamed f q) ∙ sym (length-append (uses p) (uses q))
size-renamed f (repeated m o p) = size-renamed f p

pub built-name : (k : ℕ) (u : Use) (links : List ℕ) (e : Ends) → (k < 64 → (a : ℕ) → EndsOf k (named a) e) → Built k links links (named u) e
built-name k u links e h = record { long = refl; right = λ few room clear f. placed-name k (f u) links e (h (omega arith) (f u)) clear }

module _ {k : ℕ} {first middle last : List ℕ} {p q : Particle Use} {a b : Ends} (x : Built k first middle p a) (y : Built (k + length (uses p)) middle last q b) where
  both : length last ≡ length first
  both = y.long ∙ x.long

  -- both particles are placed, where there is room for them
  module _ (few : length first ≤ 64) (room : k + length (uses p ++ uses q) ≤ length first) (clear : Clear k first) (f : Use → ℕ) where
    room-both : k + (length (uses p) + length (uses q)) ≤ length first
    room-both = let l = length-append (uses p) (uses q) in omega arith

    one : Placed k (rename_in f p) first middle a
    one = let r = room-both in x.right few (omega arith) clear f

    two : Placed (k + size (rename_in f p)) (rename_in f q) middle last b
    two =
        let s = size-renamed f p in
        let l = x.long in
        let r = room-both in
        subst (λ (m : ℕ). Placed (k + m) (rename_in f q) middle last b) (sym s) (y.right (omega arith) (omega arith) (λ i j h. one.clear i j (omega arith)) f)

  pub built-choice : (r : Ends) → ((k : ℕ) (p q : Particle ℕ) → EndsOf k p a → EndsOf (k + size p) q b → EndsOf k (choice p q) r) → Built k first last (choice p q) r
  built-choice r h =
      record {
        long = both;
        right = λ few room clear f.
            let u = one few room clear f in
            let v = two few room clear f in
            placed-choice k (rename_in f p) (rename_in f q) first middle a b u last v r (h k (rename_in f p) (rename_in f q) u.ends v.ends);
      }

  pub built-sequence : (r : Ends) (after : List ℕ) → ((k : ℕ) (p q : Particle ℕ) → EndsOf k p a → EndsOf (k + size p) q b → EndsOf k (sequence p q) r)
      → LinksAdded last a.last b.first after → Built k first after (sequence p q) r
  built-sequence r after h t =
      record {
        long = t.long ∙ both;
        right = λ few room clear f.
            let u = one few room clear f in
            let v = two few room clear f in
            let l = both in
            let s = size-renamed f p in
            let z = size-renamed f q in
            let w = room-both few room clear f in
            placed-sequence k (rename_in f p) (rename_in f q) first middle a b u last v r after (omega arith) (omega arith) (h k (rename_in f p) (rename_in f q) u.ends v.ends) t;
      }

-- ---- indicators
-- what `models::in_repetition` says of its answer
abbrev Widened : Bool → Ends → Ends → Type 0
Widened o e r = (k : ℕ) (m : Bool) (p : Particle ℕ) → EndsOf k p e → EndsOf k (repeated m o p) r

module _ (e : Ends) (links : List ℕ) where
  pub repeated-none : Repeated once e links links e
  repeated-none = record { long = refl; built = λ k first p x. x }

  pub repeated-optional : (r : Ends) → Widened true e r → Repeated optional e links links r
  repeated-optional r h =
      record {
        long = refl;
        built = λ k first p x.
            record {
              long = x.long;
              right = λ few room clear f.
                  let u = x.right few room clear f in
                  placed-once k true (rename_in f p) first links e u r (h k false (rename_in f p) u.ends);
            };
      }

  -- it repeats, and may be absent or not
  again : (o : Bool) (after : List ℕ) (r : Ends) → Widened o e r → LinksAdded links e.last e.first after → (k : ℕ) (first : List ℕ) (p : Particle Use) → Built k first links p e
      → Built k first after (repeated true o p) r
  again o after r h t k first p x =
      record {
        long = t.long ∙ x.long;
        right = λ few room clear f.
            let u = x.right few room clear f in
            let l = x.long in
            let s = size-renamed f p in
            placed-repeated k o (rename_in f p) first links e u r after (omega arith) (omega arith) (h k true (rename_in f p) u.ends) t;
      }

  module _ (after : List ℕ) (r : Ends) (t : LinksAdded links e.last e.first after) where
    pub repeated-any : Widened true e r → Repeated any e links after r
    repeated-any h = record { long = t.long; built = again true after r h t }

    pub repeated-more : Widened false e r → Repeated one_or_more e links after r
    repeated-more h = record { long = t.long; built = again false after r h t }

-- ---- one more particle of a group
module _ (a b : Ends) (links : List ℕ) where
  pub joined-first : {sep : Option Separator} → sep ≡ None → Joined sep a b links links b
  joined-first {sep} z = record { long = refl; built = λ k first middle f p H F B. go k first middle f p (subst (PartedBy f) z H) F B }
    where
      alone : (k : ℕ) (first middle : List ℕ) (p : Particle Use) → middle ≡ first → Built (k + 0) middle links p b → Built k first links p b
      alone k first middle p e B = subst (λ (m : ℕ). Built m first links p b) (add-zero k) (subst (λ (l : List ℕ). Built (k + 0) l links p b) e B)

      go : (k : ℕ) (first middle : List ℕ) (f : Frame) (p : Particle Use) → PartedBy f None → FrameBuilt k first middle a f → Built (k + length (frame_uses f)) middle links p b
          → Built k first links (join f p) b
      go k first middle f p parted-none (built-fresh e) B = alone k first middle p e B

  pub joined-comma : {sep : Option Separator} → sep ≡ Some Comma → (after : List ℕ) (r : Ends) → LinksAdded links a.last b.first after
      → ((k : ℕ) (p q : Particle ℕ) → EndsOf k p a → EndsOf (k + size p) q b → EndsOf k (sequence p q) r) → Joined sep a b links after r
  joined-comma {sep} z after r t h = record { long = t.long; built = λ k first middle f p H F B. go k first middle f p (subst (PartedBy f) z H) F B }
    where
      go : (k : ℕ) (first middle : List ℕ) (f : Frame) (p : Particle Use) → PartedBy f (Some Comma) → FrameBuilt k first middle a f → Built (k + length (frame_uses f)) middle links p b
          → Built k first after (join f p) r
      go k first middle f p parted-comma (built-holding x) B = built-sequence x B r after h t

  pub joined-bar : {sep : Option Separator} → sep ≡ Some Bar → (r : Ends)
      → ((k : ℕ) (p q : Particle ℕ) → EndsOf k p a → EndsOf (k + size p) q b → EndsOf k (choice p q) r) → Joined sep a b links links r
  joined-bar {sep} z r h = record { long = refl; built = λ k first middle f p H F B. go k first middle f p (subst (PartedBy f) z H) F B }
    where
      go : (k : ℕ) (first middle : List ℕ) (f : Frame) (p : Particle Use) → PartedBy f (Some Bar) → FrameBuilt k first middle a f
          → Built (k + length (frame_uses f)) middle links p b → Built k first links (join f p) r
      go k first middle f p parted-bar (built-holding x) B = built-choice x B r h
