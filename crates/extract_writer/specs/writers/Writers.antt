-- Bytes written behind those that stand in lent cells already.
use Rattle.std.specs.Prelude.{List, [], ◌∷◌, ◌++◌, ◌≡◌, refl, ℕ, ◌+◌, ◌≤◌, length, set}
use Rattle.std.proofs.Common.{sym, ap, subst, ◌∙◌, arith, length-append, length-set}
use Rattle.std.proofs.lemmas.List.Edits.{sets}
use Rattle.std.proofs.Math.Seq.{length-sets}
use Rattle.cells.specs.lent.Cells.{Cleared}
use Rattle.cells.specs.written_text.Written.{WrittenAt}
use Rattle.extract_writer.specs.declared.writers.Writer.{Writer}
use Rattle.text_laws.specs.Cells.{sets-append}

-- ---- definitions
-- bytes stored one after the other from a place on
unfoldable pub stored : List ℕ → ℕ → List ℕ → List ℕ
stored o k xs = sets o k xs

-- the bytes xs are written, and the next are written behind them
pub record Puts (old : Writer) (xs : List ℕ) (new : Writer) : Type 0 where
  pub same : new.out.ghost_name ≡ old.out.ghost_name
  pub bytes : new.out.now ≡ stored old.out.now old.at xs
  pub after : new.at ≡ old.at + length xs

-- the cells from the first that is not written on are cleared
pub record RestCleared (old new : Writer) : Type 0 where
  pub same : new.out.ghost_name ≡ old.out.ghost_name
  pub cleared : Cleared old.out.now old.at new.out.now
  pub stays : new.at ≡ old.at

-- ---- laws
-- bytes after bytes, by the place where they start
pub stored-after : (o : List ℕ) (k : ℕ) (xs ys : List ℕ) (n : ℕ) → n ≡ k + length xs → stored (stored o k xs) n ys ≡ stored o k (xs ++ ys)
unfolding stored
stored-after o k xs ys n e = ap (λ (i : ℕ). sets (sets o k xs) i ys) e ∙ sym (sets-append o k xs ys)

pub stored-length : (o : List ℕ) (k : ℕ) (xs x : List ℕ) → x ≡ stored o k xs → length x ≡ length o
unfolding stored
stored-length o k xs x e = ap length e ∙ length-sets o k xs

pub set-length : (o : List ℕ) (k : ℕ) (xs x : List ℕ) (i b : ℕ) → x ≡ stored o k xs → length (set x i b) ≡ length o
set-length o k xs x i b e = length-set x i b ∙ stored-length o k xs x e

pub stored-nothing : (o : List ℕ) (k : ℕ) → stored o k [] ≡ o
unfolding stored
stored-nothing o k = refl

pub puts-nothing : (w : Writer) → Puts w [] w
unfolding stored
puts-nothing w = record { same = refl; bytes = refl; after = omega arith }

pub puts-empty : {w : Writer} (xs : List ℕ) → length xs ≡ 0 → Puts w xs w
puts-empty {w} [] e = puts-nothing w
puts-empty (x ∷ xs) e = absurd (omega arith)

pub puts-then : {a b c : Writer} {xs ys : List ℕ} → Puts a xs b → Puts b ys c → Puts a (xs ++ ys) c
puts-then {a} {b} {c} {xs} {ys} p q =
    record {
      same = q.same ∙ p.same;
      bytes = q.bytes ∙ ap (λ (u : List ℕ). stored u b.at ys) p.bytes ∙ stored-after a.out.now a.at xs ys b.at p.after;
      after = omega (arith, q.after, p.after, length-append xs ys);
    }

pub puts-as : {a b : Writer} {xs ys : List ℕ} → xs ≡ ys → Puts a xs b → Puts a ys b
puts-as {a} {b} e p = subst (λ (u : List ℕ). Puts a u b) e p

pub puts-length : {a b : Writer} {xs : List ℕ} → Puts a xs b → length b.out.now ≡ length a.out.now
puts-length {a} {b} {xs} p = stored-length a.out.now a.at xs b.out.now p.bytes

-- what is left of the room
pub puts-room : {a b : Writer} {xs : List ℕ} (n m : ℕ) → Puts a xs b → a.at + m ≤ length a.out.now → length xs + n ≤ m → b.at + n ≤ length b.out.now
puts-room n m p r l = omega (arith, p.after, puts-length p)

-- one byte, and a text
pub one-stored : (o : List ℕ) (k b : ℕ) → set o k b ≡ stored o k (b ∷ [])
unfolding stored
one-stored o k b = refl

pub text-written : {o w out : List ℕ} {k n : ℕ} → WrittenAt o k w n out → out ≡ stored o k w
unfolding stored
text-written h = h.cells
