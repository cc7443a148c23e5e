-- Laws of writing the normal form a byte at a time.
use mathlib.Core.Bool.{Bool, true, false}
use mathlib.Core.List.{List, [], ◌∷◌, ◌++◌, append-nil, append_assoc}
use mathlib.Core.Path.{◌≡◌, refl, sym, ap, ◌∙◌}
use Rattle.std.specs.List.{cons_option}
use Rattle.std.specs.Prelude.{Option, Some, None}
use Prim.Native.Nat.{ℕ, zero, suc, ◌+◌, ◌-◌, ◌≤◌, ◌<◌}
use native.Mathlib.Numerals.{add-one}
use native.Mathlib.Omega.{arith}
use borrow.Author.Tests.{eq-eqb, ne_eqb}
use lib.ListN.{length, drop, get_or, set, length-append, length-set, drop_of_length-le}
use lib.Seq.{drop-cons, set_at}
use Rattle.schema_reader.specs.declared.normal_form.NormalStep.{NormalStep}
use Rattle.schema_reader.specs.normal_form.Normal.{Steps, StoredAs, Stored, Normalized}
use Rattle.schema_spec.specs.Records.{normal_from, normal}
use Rattle.text_laws.specs.Tests.{never, cond_yes, cond_no}
use Rattle.text_spec.specs.Bytes.{is_blank}

-- ---- a byte
module _ (b : ℕ) (bs : List ℕ) where
  module _ (e : is_blank b ≡ true) where
    pub blank-free : (due : ℕ) (run : Bool) → due ≡ 0 → normal_from due run (b ∷ bs) ≡ normal_from due true bs
    blank-free zero run z = cond_yes (normal_from zero true bs) _ e
    blank-free (suc due) run z = absurd (omega arith)

    pub blank-run : (due : ℕ) (run : Bool) → (due ≡ 0 → ⊥) → run ≡ true → normal_from due run (b ∷ bs) ≡ normal_from due true bs
    blank-run zero run z r = absurd (z refl)
    blank-run (suc due) true z r = cond_yes (normal_from (suc due) true bs) _ e
    blank-run (suc due) false z r = never (cc)

    pub blank-due : (due : ℕ) (run : Bool) → (due ≡ 0 → ⊥) → run ≡ false → normal_from due run (b ∷ bs) ≡ 0x20 ∷ normal_from (due - 1) true bs
    blank-due zero run z r = absurd (z refl)
    blank-due (suc due) true z r = never (cc)
    blank-due (suc due) false z r = cond_yes (0x20 ∷ normal_from due true bs) _ e ∙ let y : due ≡ suc due - 1 = omega arith in ap (λ (k : ℕ). 0x20 ∷ normal_from k true bs) y

  module _ (e : is_blank b ≡ false) where
    pub byte-due : (due : ℕ) (run : Bool) → (due ≡ 0 → ⊥) → normal_from due run (b ∷ bs) ≡ b ∷ normal_from due false bs
    byte-due zero run z = absurd (z refl)
    byte-due (suc due) true z = cond_no (normal_from (suc due) true bs) _ e
    byte-due (suc due) false z = cond_no (0x20 ∷ normal_from due true bs) _ e

    pub byte-opens : (due : ℕ) (run : Bool) → due ≡ 0 → b ≡ 0x3C → normal_from due run (b ∷ bs) ≡ b ∷ normal_from 2 false bs
    byte-opens zero run z o = cond_no (normal_from zero true bs) _ e ∙ cond_yes (b ∷ normal_from 2 false bs) _ (eq-eqb b 0x3C o)
    byte-opens (suc due) run z o = absurd (omega arith)

    pub byte-free : (due : ℕ) (run : Bool) → due ≡ 0 → (b ≡ 0x3C → ⊥) → normal_from due run (b ∷ bs) ≡ b ∷ normal_from due false bs
    byte-free zero run z o = cond_no (normal_from zero true bs) _ e ∙ cond_no (b ∷ normal_from 2 false bs) _ (ne_eqb b 0x3C o)
    byte-free (suc due) run z o = absurd (omega arith)

normal-end : (due : ℕ) (run : Bool) → normal_from due run [] ≡ []
normal-end zero run = refl
normal-end (suc due) true = refl
normal-end (suc due) false = refl

-- ---- what was written of the text up to i
pub record WrittenTo (s o o' : List ℕ) (i n due : ℕ) (run : Bool) : Type 0 where
  pub done : List ℕ
  pub rest : done ++ normal_from due run (drop i s) ≡ normal s
  pub wrote : o' ≡ done ++ drop n o
  pub many : length done ≡ n
  pub few : n ≤ i
  pub high : i ≤ length s
  pub same : length o' ≡ length o

pub written_start : (s o : List ℕ) → WrittenTo s o o 0 0 0 false
unfolding normal
written_start s o = record { done = []; rest = refl; wrote = refl; many = refl; few = omega arith; high = omega arith; same = refl }

module _ {s o o' : List ℕ} {i n due : ℕ} {run : Bool} (W : WrittenTo s o o' i n due run) where
  pub written-end : length s ≤ i → Normalized s o o' n
  written-end h =
      let e : W.done ≡ normal s = sym (append-nil W.done) ∙ ap (λ (l : List ℕ). W.done ++ l) (sym (ap (normal_from due run) (drop_of_length-le s h) ∙ normal-end due run)) ∙ W.rest in
      record { size = sym W.many ∙ ap length e; short = let a = W.few in let b = W.high in omega arith; wrote = W.wrote ∙ ap (λ (l : List ℕ). l ++ drop n o) e }

  module _ (l : i < length s) (room : length s ≤ length o) {r : NormalStep} (N : Steps due run (get_or s i 0) r) where
    byte_more : normal_from due run (drop i s) ≡ cons_option r.byte (normal_from r.due r.run (drop (i + 1) s))
    byte_more = ap (normal_from due run) (drop-cons s i 0 l) ∙ N.says (drop (suc i) s) ∙ rw (add-one i)

    pub written_next : {o'' : List ℕ} {m : ℕ} → Stored o' o'' n r.byte m → WrittenTo s o o'' (i + 1) m r.due r.run
    written_next {o''} {m} S = go r.byte S.says byte_more
      where
        go : (byte : Option ℕ) → StoredAs o' o'' n byte m → normal_from due run (drop i s) ≡ cons_option byte (normal_from r.due r.run (drop (i + 1) s)) → WrittenTo s o o'' (i + 1) m r.due r.run
        go (Some b) (c, x) more =
            let a = W.few in
            let q = W.many in
            let v = length-append W.done (b ∷ []) in
            let f : n < length o = omega arith in
            record {
              done = W.done ++ (b ∷ []);
              rest = append_assoc W.done (b ∷ []) (normal_from r.due r.run (drop (i + 1) s)) ∙ ap (λ (z : List ℕ). W.done ++ z) (sym more) ∙ W.rest;
              wrote =
                  x ∙ ap (λ (z : List ℕ). set z n b) (W.wrote ∙ ap (λ (z : List ℕ). W.done ++ z) (drop-cons o n 0 f))
                  ∙ set_at W.done (get_or o n 0) (drop (suc n) o) b n q ∙ sym (append_assoc W.done (b ∷ []) (drop (suc n) o))
                  ∙ ap (λ (j : ℕ). (W.done ++ (b ∷ [])) ++ drop j o) (sym (c ∙ add-one n));
              many = omega arith;
              few = omega arith;
              high = omega arith;
              same = ap length x ∙ length-set o' n b ∙ W.same;
            }
        go None (c, x) more =
            let a = W.few in
            record {
              done = W.done;
              rest = ap (λ (z : List ℕ). W.done ++ z) (sym more) ∙ W.rest;
              wrote = x ∙ W.wrote ∙ ap (λ (j : ℕ). W.done ++ drop j o) (sym c);
              many = W.many ∙ sym c;
              few = omega arith;
              high = omega arith;
              same = ap length x ∙ W.same;
            }
