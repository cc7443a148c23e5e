-- Tables of cases: a question with its answer in each row, and one theorem that all rows of a table hold. What a reader says of a text is answered in
-- document 01's numbers.
use Rattle.std.specs.Prelude.{List, [], ◌++◌, map, ◌≡◌, refl, ℕ, zero, suc}
use Rattle.text_spec.specs.Refusals.{Outcome, accepted, refused, number_of}

pub record Case (Q A : Type 0) : Type 0 where
  pub question : Q
  pub answer : A

module _ {Q A : Type 0} where
  abbrev pub case : Q → A → Case Q A
  case q a = record { question = q; answer = a }

  -- every case of a table holds
  abbrev pub AllHold : (Q → A) → List (Case Q A) → Type 0
  AllHold answer_to cases = map (λ c. answer_to c.question) cases ≡ map (λ c. c.answer) cases

  -- shown by the answers: with `refl` alone each is computed twice
  pub answered : (cases : List (Case Q A)) → map (λ c. c.answer) cases ≡ map (λ c. c.answer) cases
  answered cases = refl

pub data Judgement : Type 0 where
  taken : Judgement
  -- the refusal's number and place
  turned_back : ℕ → ℕ → Judgement

abbrev pub judgement_of : {A : Type 0} → Outcome A → Judgement
judgement_of (accepted a) = taken
judgement_of (refused f) = turned_back (number_of f.reason) f.place

-- so many copies of a text
abbrev pub copies : ℕ → List ℕ → List ℕ
copies zero w = []
copies (suc n) w = w ++ copies n w

-- so many of a text, parted by another
abbrev pub joined : ℕ → List ℕ → List ℕ → List ℕ
joined zero between w = []
joined (suc n) between w = w ++ copies n (between ++ w)
