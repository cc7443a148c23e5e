-- Laws of a set's two words: an operation that works on each bit works on each name, and equal words are equal names.
use mathlib.Core.Bool.{Bool, ◌&&◌}
use mathlib.Core.Logic.{◌↔◌}
use mathlib.Core.Path.{◌≡◌, ap}
use Prim.Native.Nat.{ℕ, ◌<◌, ◌^◌}
use borrow.Author.Tests.{eq-eqb}
use lib.Dec.{T, eqb, eqb→eq}
use Rattle.names.specs.Sets.{member}
use Rattle.names.specs.bits.Bits.{same_bits}
use Rattle.names.specs.declared.NameSet.{NameSet}
use Rattle.schema_spec.specs.Names.{Name, element, text, has_bit}
use Rattle.text_laws.specs.Tests.{and_cases, and_intro, passed}

pub on-names : (op : ℕ → ℕ → ℕ) (f : Bool → Bool → Bool) → ((a b i : ℕ) → has_bit (op a b) i ≡ f (has_bit a i) (has_bit b i))
    → (s t : NameSet) (n : Name) → member (record { elements = op s.elements t.elements; texts = op s.texts t.texts }) n ≡ f (member s n) (member t n)
on-names op f law s t (element e) = law s.elements t.elements e
on-names op f law s t (text e) = law s.texts t.texts e

-- two words are equal exactly if they have the same bits
same-word : (a b : ℕ) → a < 2 ^ 64 → b < 2 ^ 64 → ((i : ℕ) → has_bit a i ≡ has_bit b i) → T (eqb a b)
same-word a b ha hb h = passed (eq-eqb a b (same_bits 64 a b ha hb (λ i l. h i)))

-- two sets have the same words exactly if they have the same names
pub same-sets : (s t : NameSet) → s.elements < 2 ^ 64 → s.texts < 2 ^ 64 → t.elements < 2 ^ 64 → t.texts < 2 ^ 64
    → T (eqb s.elements t.elements && eqb s.texts t.texts) ↔ ((n : Name) → member s n ≡ member t n)
same-sets s t he ht ke kt = (
  λ e.
      let both = and_cases (eqb s.elements t.elements) (eqb s.texts t.texts) e in
      names both.0 both.1,
  λ h. and_intro (eqb s.elements t.elements) (eqb s.texts t.texts) (same-word s.elements t.elements he ke (λ i. h (element i))) (same-word s.texts t.texts ht kt (λ i. h (text i))),
)
  where
    names : T (eqb s.elements t.elements) → T (eqb s.texts t.texts) → (n : Name) → member s n ≡ member t n
    names e f (element i) = ap (λ (w : ℕ). has_bit w i) (eqb→eq s.elements t.elements e)
    names e f (text i) = ap (λ (w : ℕ). has_bit w i) (eqb→eq s.texts t.texts f)
