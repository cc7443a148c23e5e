-- Laws of bytes and names.
use Rattle.std.specs.Prelude.{Bool, true, false, ◌&&◌, ◌||◌, List, [], ◌∷◌, ◌++◌, ◌≡◌, refl, ℕ, ◌<◌, T, eqb, leb, length}
use Rattle.std.proofs.Common.{⊎_elim, sym, subst, arith, eqb→eq, le→leb, length-append}
use Rattle.text_laws.specs.Lists.{all_snoc}
use Rattle.text_laws.specs.Tests.{passed, true_of, false_of, or_cases, and_intro, and_cases}
use Rattle.text_spec.specs.Bytes.{is_blank, is_letter, is_digit, starts_name, continues_name, is_name}
use Rattle.text_spec.specs.Limits.{max_name_bytes}
use Rattle.text_spec.specs.Lists.{all_of}

-- what holds of the three blanks holds of each
pub each-blank : (P : ℕ → Type 0) → P 32 → P 9 → P 10 → (b : ℕ) → T (is_blank b) → P b
each-blank P x y z b t =
    ⊎_elim (λ e. at 32 e x) (λ u. ⊎_elim (λ e. at 9 e y) (λ e. at 10 e z) (or_cases (eqb b 9) (eqb b 10) u)) (or_cases (eqb b 32) (eqb b 9 || eqb b 10) t)
  where
    at : (c : ℕ) → T (eqb b c) → P c → P b
    at c e p = subst P (sym (eqb→eq b c e)) p

-- a byte that starts a name also continues one
pub starts-continues : (b : ℕ) → starts_name b ≡ true → continues_name b ≡ true
starts-continues b e = go (is_letter b) (is_digit b) (eqb b 0x2D) (eqb b 0x2E) (eqb b 0x5F) e
  where
    go : (l d x y z : Bool) → (l || z) ≡ true → (l || (d || (x || (y || z)))) ≡ true
    go true d x y z e = refl
    go false true x y z e = refl
    go false false true y z e = refl
    go false false false true z e = refl
    go false false false false z e = e

-- .. and is no blank
pub starts-no-blank : (b : ℕ) → starts_name b ≡ true → is_blank b ≡ false
starts-no-blank b e = false_of (is_blank b) (λ t. each-blank (λ c. T (starts_name c) → ⊥) (λ z. z) (λ z. z) (λ z. z) b t (passed e))

-- the bytes of a name all continue one
pub name-bytes : (n : List ℕ) → T (is_name n) → T (all_of continues_name n)
name-bytes [] t = absurd t
name-bytes (b ∷ n) t =
    let c = and_cases (starts_name b) (all_of continues_name n && leb (length (b ∷ n)) max_name_bytes) t in
    let d = and_cases (all_of continues_name n) (leb (length (b ∷ n)) max_name_bytes) c.1 in
    and_intro (continues_name b) (all_of continues_name n) (passed (starts-continues b (true_of (starts_name b) c.0))) d.0

pub one-byte-name : (b : ℕ) → T (starts_name b) → T (is_name (b ∷ []))
one-byte-name b t = and_intro (starts_name b) true t tt

-- a name of at most 30 bytes with one byte more
pub name-snoc : (n : List ℕ) (b : ℕ) → T (is_name n) → T (continues_name b) → length n < max_name_bytes → T (is_name (n ++ (b ∷ [])))
name-snoc [] b t u l = absurd t
name-snoc (x ∷ n) b t u l =
    let c = and_cases (starts_name x) (all_of continues_name n && leb (length (x ∷ n)) max_name_bytes) t in
    let d = and_cases (all_of continues_name n) (leb (length (x ∷ n)) max_name_bytes) c.1 in
    and_intro (starts_name x) (all_of continues_name (n ++ (b ∷ [])) && leb (length (x ∷ (n ++ (b ∷ [])))) max_name_bytes) c.0
    (and_intro (all_of continues_name (n ++ (b ∷ []))) (leb (length (x ∷ (n ++ (b ∷ [])))) max_name_bytes) (all_snoc continues_name n b d.0 u)
    (le→leb (length (x ∷ (n ++ (b ∷ [])))) max_name_bytes (simp length-append (omega arith))))
