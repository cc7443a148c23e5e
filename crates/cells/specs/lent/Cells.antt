-- Lent cells cleared from one on, over any width of theirs.
use Rattle.std.specs.Prelude.{List, [], ◌∷◌, ◌≡◌, refl, ℕ, zero, suc, ◌+◌, ◌<◌, ◌≤◌, length, get_or, set}
use Rattle.std.proofs.Common.{sym, ◌∙◌, arith, below_more, length-set, ext_get_or, get_or-set_same, get_or-set_other}
use Rattle.text_laws.specs.Cells.{padded-length}
use Rattle.text_spec.specs.Cells.{padded}

-- the cells from n on hold a value
pub record FilledFrom {A : Type 0} (value : A) (was : List A) (n : ℕ) (out : List A) : Type 0 where
  pub long : length out ≡ length was
  pub kept : (k : ℕ) → k < n → get_or out k value ≡ get_or was k value
  pub clear : (k : ℕ) → n ≤ k → k < length was → get_or out k value ≡ value

-- cells from n on are cleared
abbrev pub Cleared : List ℕ → ℕ → List ℕ → Type 0
Cleared was n out = FilledFrom 0 was n out

-- with the cells from n to i filled
module _ {A : Type 0} where
  pub record Filling (value : A) (was : List A) (n i : ℕ) (out : List A) : Type 0 where
    pub low : n ≤ i
    pub long : length out ≡ length was
    pub kept : (k : ℕ) → k < n → get_or out k value ≡ get_or was k value
    pub clear : (k : ℕ) → k < i → n ≤ k → k < length was → get_or out k value ≡ value

  pub filling-none : (value : A) (was : List A) (n : ℕ) → Filling value was n n was
  filling-none value was n = record { low = omega arith; long = refl; kept = λ k l. refl; clear = λ k a b c. absurd (omega arith) }

  pub filling-more : (value : A) (was : List A) (n i : ℕ) (out : List A) → Filling value was n i out → i < length out → Filling value was n (i + 1) (set out i value)
  filling-more value was n i out w l =
      record {
        low = omega (arith, w.low);
        long = length-set out i value ∙ w.long;
        kept = λ k a. get_or-set_other out i k value value (λ e. omega (arith, w.low)) ∙ w.kept k a;
        clear = below_more (λ k. n ≤ k → k < length was → get_or (set out i value) k value ≡ value) i (λ k a b c. get_or-set_other out i k value value (λ e. omega arith) ∙ w.clear k a b c)
            (λ b c. get_or-set_same out i value value l);
      }

  pub filling-all : (value : A) (was : List A) (n i : ℕ) (out : List A) → Filling value was n i out → length out ≤ i → FilledFrom value was n out
  filling-all value was n i out w l = record { long = w.long; kept = w.kept; clear = λ k a b. w.clear k (omega (arith, w.long)) a b }

-- with the cells from n to i cleared
abbrev pub Clearing : List ℕ → ℕ → ℕ → List ℕ → Type 0
Clearing was n i out = Filling 0 was n i out

pub clearing-none : (was : List ℕ) (n : ℕ) → Clearing was n n was
clearing-none was n = filling-none 0 was n

pub clearing-more : (was : List ℕ) (n i : ℕ) (out : List ℕ) → Clearing was n i out → i < length out → Clearing was n (i + 1) (set out i 0)
clearing-more was n i out w l = filling-more 0 was n i out w l

pub clearing-all : (was : List ℕ) (n i : ℕ) (out : List ℕ) → Clearing was n i out → length out ≤ i → Cleared was n out
clearing-all was n i out w l = filling-all 0 was n i out w l

pub padded-at : (n : ℕ) (xs : List ℕ) (k : ℕ) → k < n → get_or (padded n xs) k 0 ≡ get_or xs k 0
padded-at zero xs k l = absurd (omega arith)
padded-at (suc n) [] zero l = refl
padded-at (suc n) [] (suc k) l = padded-at n [] k (omega arith)
padded-at (suc n) (x ∷ xs) zero l = refl
padded-at (suc n) (x ∷ xs) (suc k) l = padded-at n xs k (omega arith)

nothing-at : (k : ℕ) → get_or {A = ℕ} [] k 0 ≡ 0
nothing-at zero = refl
nothing-at (suc k) = refl

-- all cells cleared
pub all-cleared : (was out : List ℕ) → Cleared was 0 out → out ≡ padded (length was) []
all-cleared was out w =
    ext_get_or 0 out (padded (length was) []) (w.long ∙ sym (padded-length (length was) []))
    (λ k l.
    w.clear k (omega arith) (omega (arith, w.long)) ∙ sym (padded-at (length was) [] k (omega (arith, w.long)) ∙ nothing-at k))
