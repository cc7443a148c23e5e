-- The bytes of a field's value: which values say nothing, and the numbers that the others say, by their places in the extract.
use Rattle.std.specs.Prelude.{List, [], ◌∷◌, ◌≡◌, refl, ℕ, suc, ◌+◌, ◌<◌, ◌≤◌, length, get_or, drop}
use Rattle.std.proofs.Common.{ap, ap₂, ◌∙◌, arith, length-take, length-drop, get_or-take, get_or-drop}
use Rattle.extract_spec.specs.Reading.{element_item, text_item, no_item, in_two, element_value, text_value}
use Rattle.text_spec.specs.Lists.{part}

-- ---- lists of some lengths
pub no-element : (v : List ℕ) → (length v ≡ 5 → ⊥) → element_value v ≡ no_item
no-element [] n = refl
no-element (a ∷ []) n = refl
no-element (a ∷ b ∷ []) n = refl
no-element (a ∷ b ∷ c ∷ []) n = refl
no-element (a ∷ b ∷ c ∷ d ∷ []) n = refl
no-element (a ∷ b ∷ c ∷ d ∷ e ∷ []) n = absurd (n refl)
no-element (a ∷ b ∷ c ∷ d ∷ e ∷ f ∷ w) n = refl

pub five : (v : List ℕ) → length v ≡ 5 → element_value v ≡ element_item (in_two (get_or v 0 0) (get_or v 1 0)) (in_two (get_or v 2 0) (get_or v 3 0)) (get_or v 4 0)
five [] l = absurd (omega arith)
five (a ∷ []) l = absurd (omega arith)
five (a ∷ b ∷ []) l = absurd (omega arith)
five (a ∷ b ∷ c ∷ []) l = absurd (omega arith)
five (a ∷ b ∷ c ∷ d ∷ []) l = absurd (omega arith)
five (a ∷ b ∷ c ∷ d ∷ e ∷ []) l = refl
five (a ∷ b ∷ c ∷ d ∷ e ∷ f ∷ w) l = absurd (omega arith)

pub no_text : (place : ℕ) (v : List ℕ) → length v < 4 → text_value place v ≡ no_item
no_text place [] n = refl
no_text place (a ∷ []) n = refl
no_text place (a ∷ b ∷ []) n = refl
no_text place (a ∷ b ∷ c ∷ []) n = refl
no_text place (a ∷ b ∷ c ∷ d ∷ w) n = absurd (omega arith)

pub four : (place n : ℕ) (v : List ℕ) → length v ≡ n + 4
    → text_value place v ≡ text_item (in_two (get_or v 0 0) (get_or v 1 0)) (in_two (get_or v 2 0) (get_or v 3 0)) (place + 4) n
four place n [] l = absurd (omega arith)
four place n (a ∷ []) l = absurd (omega arith)
four place n (a ∷ b ∷ []) l = absurd (omega arith)
four place n (a ∷ b ∷ c ∷ []) l = absurd (omega arith)
four place n (a ∷ b ∷ c ∷ d ∷ w) l = let z : length w ≡ n = omega arith in ap (text_item (in_two a b) (in_two c d) (place + 4)) z

-- ---- the bytes of a value
module _ (bs : List ℕ) (k size : ℕ) (inside : k + size ≤ length bs) where
  pub value-long : length (part k size bs) ≡ size
  value-long = omega (arith, length-take size (drop k bs), length-drop k bs)

  pub value-at : (i j : ℕ) → i < size → k + i ≡ j → get_or (part k size bs) i 0 ≡ get_or bs j 0
  value-at i j l e = get_or-take size (drop k bs) i 0 l ∙ get_or-drop k bs i 0 ∙ ap (λ (n : ℕ). get_or bs n 0) e

  pub in_two_lem : (i j j' : ℕ) → suc i < size → k + i ≡ j → k + suc i ≡ j' → in_two (get_or (part k size bs) i 0) (get_or (part k size bs) (suc i) 0) ≡ in_two (get_or bs j 0) (get_or bs j' 0)
  in_two_lem i j j' l e f = ap₂ in_two (value-at i j (omega arith) e) (value-at (suc i) j' l f)

-- the two numbers of a row's value that starts at k
abbrev pub number_in : List ℕ → ℕ → ℕ
number_in bs k = in_two (get_or bs k 0) (get_or bs (k + 1) 0)

abbrev pub parent_in : List ℕ → ℕ → ℕ
parent_in bs k = in_two (get_or bs (k + 2) 0) (get_or bs (k + 2 + 1) 0)
