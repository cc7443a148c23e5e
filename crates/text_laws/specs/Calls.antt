-- Laws of calls: the computing form of each stage is the one outcome that its relation allows.
use Rattle.std.specs.Prelude.{Bool, true, false, ◌≡◌, refl, T}
use Rattle.std.proofs.Math.Option.{Option, none, some}
use Rattle.std.proofs.Common.{ap, subst}
use Rattle.text_laws.specs.Tests.{never}
use Rattle.text_spec.specs.Calls.{tested, Tested, refused-by-1, passes-1, in_room, InRoom, refused-by-18, answered, Answers, answers, handed, Handed, not-handed, holds, InTurn, refused-here, goes_on_lem}
use Rattle.text_spec.specs.Refusals.{Outcome, accepted, refused, and_then}

-- a value satisfies a relation, and no other one does
abbrev pub IsUnique : {A : Type 0} → (A → Type 0) → A → Type 0
IsUnique {A} P a = P a × ((b : A) → P b → b ≡ a)

abbrev pub IsOutcome : {A : Type 0} → (Outcome A → Type 0) → Outcome A → Type 0
IsOutcome {A} P o = IsUnique {A = Outcome A} P o

module _ {A : Type 0} where
  pub answers-is : {a : A} → IsOutcome (Answers a) (accepted a)
  answers-is {a} = (answers, only)
    where
      only : (p : Outcome A) → Answers a p → p ≡ accepted a
      only p answers = refl

  pub room-is : {Short : Type 0} (b : Bool) (a : A) → (T b → Short) → (Short → T b) → IsOutcome (InRoom Short a) (in_room b a)
  room-is {Short} true a f g = (refused-by-18 (f tt), only)
    where
      only : (p : Outcome A) → InRoom Short a p → p ≡ in_room true a
      only p (refused-by-18 x) = refl
      only p (answered n) = absurd (n (f tt))
  room-is {Short} false a f g = (answered g, only)
    where
      only : (p : Outcome A) → InRoom Short a p → p ≡ in_room false a
      only p (refused-by-18 x) = absurd (g x)
      only p (answered n) = refl

  pub tested-is : {Passes : Type 0} {Rest : Outcome A → Type 0} (b : Bool) (o : Outcome A) → (T b → Passes) → (Passes → T b) → (T b → IsOutcome Rest o)
      → IsOutcome (Tested Passes Rest) (tested b o)
  tested-is {Passes} {Rest} true o f g h = (passes-1 (f tt) (h tt).0, only)
    where
      only : (p : Outcome A) → Tested Passes Rest p → p ≡ o
      only p (refused-by-1 n) = absurd (n (f tt))
      only p (passes-1 y r) = (h tt).1 p r
  tested-is {Passes} {Rest} false o f g h = (refused-by-1 g, only)
    where
      only : (p : Outcome A) → Tested Passes Rest p → p ≡ tested false o
      only p (refused-by-1 n) = refl
      only p (passes-1 y r) = absurd (g y)

module _ {A B : Type 0} where
  pub handed-is : {Holds : A → Type 0} {Rest : A → Outcome B → Type 0} (h : Option A) (f : A → Outcome B) → ((a : A) → h ≡ some a → Holds a)
      → ((a : A) → Holds a → h ≡ some a) → ((a : A) → IsOutcome (Rest a) (f a)) → IsOutcome (Handed Holds Rest) (handed h f)
  handed-is {Holds} {Rest} none f to from rest = (not-handed (λ a x. let e = from a x in never (cc)), only)
    where
      only : (p : Outcome B) → Handed Holds Rest p → p ≡ handed none f
      only p (not-handed n) = refl
      only p (holds {a = a} x r) = let e = from a x in never (cc)
  handed-is {Holds} {Rest} (some a) f to from rest = (holds (to a refl) (rest a).0, only)
    where
      only : (p : Outcome B) → Handed Holds Rest p → p ≡ f a
      only p (not-handed n) = absurd (n a (to a refl))
      only p (holds {a = b} x r) =
          let e : some a ≡ some b = from b x in
          let same : b ≡ a = cc in
          (rest a).1 p (subst (λ (c : A). Rest c p) same r)

  pub turn_is : {First : Outcome A → Type 0} {Next : A → Outcome B → Type 0} (o : Outcome A) (f : A → Outcome B) → IsOutcome First o
      → ((a : A) → First (accepted a) → IsOutcome (Next a) (f a)) → IsOutcome (InTurn First Next) (and_then o f)
  turn_is {First} {Next} (accepted a) f x next = (goes_on_lem x.0 (next a x.0).0, only)
    where
      only : (p : Outcome B) → InTurn First Next p → p ≡ f a
      only p (refused-here {f = g} y) = let e = x.1 (refused g) y in never (cc)
      only p (goes_on_lem {a = b} y r) =
          let e = x.1 (accepted b) y in
          let same : b ≡ a = cc in
          (next a x.0).1 p (subst (λ (c : A). Next c p) same r)
  turn_is {First} {Next} (refused g) f x next = (refused-here x.0, only)
    where
      only : (p : Outcome B) → InTurn First Next p → p ≡ refused g
      only p (refused-here {f = h} y) =
          let e = x.1 (refused h) y in
          let same : h ≡ g = cc in
          ap refused same
      only p (goes_on_lem {a = b} y r) = let e = x.1 (accepted b) y in never (cc)
