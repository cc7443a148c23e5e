-- Laws of the byte after a name or a group: an indicator, another byte, or the text's end.
use mathlib.Core.Bool.{Bool, true, false, cond, ◌||◌}
use mathlib.Core.List.{List}
use mathlib.Core.Path.{◌≡◌, refl, sym, ap, ap₂, ◌∙◌}
use Prim.Native.Nat.{ℕ, ◌+◌, ◌≤◌, ◌<◌}
use borrow.Author.Tests.{ltb-true, ltb-false, ne_eqb}
use lib.Dec.{eqb, ltb}
use lib.ListN.{length, get_or-eq_default}
use Rattle.schema_spec.specs.Declarations.{Use, Indicator, once, optional, any, one_or_more, indicated}
use Rattle.schema_spec.specs.Machine.{State, past, following, indicating, step, schema_machine, at_end, from}
use Rattle.schema_spec.specs.Models.{Particle}
use Rattle.schema.specs.particles.Readings.{Around, Ended, at_name, at-closed, is_indicator, indicator_of, indicator_at}
use Rattle.text_laws.specs.Scans.{step-at, same_at, at-end}
use Rattle.text_laws.specs.Tests.{never, or-false, cond_no}
use Rattle.text_spec.specs.Scans.{byte_at}

pub not-indicator : (b : ℕ) → (b ≡ 0x3F → ⊥) → (b ≡ 0x2A → ⊥) → (b ≡ 0x2B → ⊥) → is_indicator b ≡ false
not-indicator b x y z = ap₂ ◌||◌ (ne_eqb b 0x3F x) (ap₂ ◌||◌ (ne_eqb b 0x2A y) (ne_eqb b 0x2B z))

pub none-past : (s : List ℕ) (i : ℕ) → length s ≤ i → is_indicator (byte_at s i) ≡ false
none-past s i l = ap is_indicator (get_or-eq_default s 0 l)

-- no indicator stands at i
module _ (s : List ℕ) (i : ℕ) where
  none-there : is_indicator (byte_at s i) ≡ false → (eqb (byte_at s i) 0x3F ≡ false) × (eqb (byte_at s i) 0x2A ≡ false) × (eqb (byte_at s i) 0x2B ≡ false)
  none-there e =
      let a = or-false (eqb (byte_at s i) 0x3F) (eqb (byte_at s i) 0x2A || eqb (byte_at s i) 0x2B) e in
      let b = or-false (eqb (byte_at s i) 0x2A) (eqb (byte_at s i) 0x2B) a.1 in
      (a.0, b.0, b.1)

  pub once-there : is_indicator (byte_at s i) ≡ false → indicator_at s i ≡ once
  once-there e =
      let a = none-there e in
      cond_no optional (cond (eqb (byte_at s i) 0x2A) any (cond (eqb (byte_at s i) 0x2B) one_or_more once)) a.0
      ∙ cond_no any (cond (eqb (byte_at s i) 0x2B) one_or_more once) a.1 ∙ cond_no one_or_more once a.2

  once-past : length s ≤ i → indicator_at s i ≡ once
  once-past l = ap indicator_of (get_or-eq_default s 0 l)

-- the state after a particle p and its indicator
abbrev beyond : Indicator → Particle Use → Around → State
beyond o p x = past (indicated o p) x.frames x.head

as-once : (s : List ℕ) (i : ℕ) (p : Particle Use) (x : Around) → indicator_at s i ≡ once → from (beyond once p x) s i ≡ from (beyond (indicator_at s i) p x) s i
as-once s i p x e = ap (λ (o : Indicator). from (beyond o p x) s i) (sym e)

module _ {s : List ℕ} {i : ℕ} where
  ended-step : {q : State} {p : Particle Use} {x : Around} → Ended s i q p x → i < length s → step q i (byte_at s i) ≡ indicating p x.frames x.head (byte_at s i)
  unfolding step
  ended-step (at_name e) l = cond_no _ _ (e l)
  ended-step at-closed l = refl

  ended-end : {q : State} {p : Particle Use} {x : Around} → Ended s i q p x → at_end q i ≡ at_end (beyond once p x) i
  ended-end (at_name w) = refl
  ended-end at-closed = refl

  module _ {q : State} {p : Particle Use} {x : Around} (E : Ended s i q p x) where
    pub indicator-there : i < length s → is_indicator (byte_at s i) ≡ true → from q s i ≡ from (beyond (indicator_at s i) p x) s (i + 1)
    indicator-there l e =
        step-at schema_machine s i q (beyond (indicator_at s i) p x) l
        (ended-step E l ∙ go (eqb (byte_at s i) 0x3F) (eqb (byte_at s i) 0x2A) (eqb (byte_at s i) 0x2B) e (following p x.frames x.head (byte_at s i))) refl
      where
        go : (a b c : Bool) → (a || (b || c)) ≡ true → (r : State)
            → cond a (beyond optional p x) (cond b (beyond any p x) (cond c (beyond one_or_more p x) r)) ≡ beyond (cond a optional (cond b any (cond c one_or_more once))) p x
        go true b c e r = refl
        go false true c e r = refl
        go false false true e r = refl
        go false false false e r = never (cc)

    other_step : is_indicator (byte_at s i) ≡ false → indicating p x.frames x.head (byte_at s i) ≡ step (beyond once p x) i (byte_at s i)
    unfolding step
    other_step e =
        let a = none-there s i e in
        cond_no (beyond optional p x) _ a.0 ∙ cond_no (beyond any p x) _ a.1 ∙ cond_no (beyond one_or_more p x) _ a.2

    indicator-absent : i < length s → is_indicator (byte_at s i) ≡ false → from q s i ≡ from (beyond (indicator_at s i) p x) s i
    indicator-absent l e = same_at schema_machine s i q (beyond once p x) l (ended-step E l ∙ other_step e) ∙ as-once s i p x (once-there s i e)

    indicator-end : length s ≤ i → from q s i ≡ from (beyond (indicator_at s i) p x) s i
    indicator-end l = at-end schema_machine s i q l ∙ ended-end E ∙ sym (at-end schema_machine s i (beyond once p x) l) ∙ as-once s i p x (once-past s i l)

    pub indicator-none : is_indicator (byte_at s i) ≡ false → from q s i ≡ from (beyond (indicator_at s i) p x) s i
    indicator-none e = pick (ltb i (length s)) refl
      where
        pick : (t : Bool) → ltb i (length s) ≡ t → from q s i ≡ from (beyond (indicator_at s i) p x) s i
        pick true g = indicator-absent (ltb-true i (length s) g) e
        pick false g = indicator-end (ltb-false i (length s) g)
