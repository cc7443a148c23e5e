-- What a call of a public function answers. "Number 1 is tested before any text. Texts are then judged whole in turn: schema, bundle,
-- journal or extract; 18 is last." Each as a definition that computes and as a relation.
use Rattle.std.specs.Prelude.{Bool, cond, List, [], ℕ}
use Rattle.std.proofs.Math.Option.{Option, none, some}
use Rattle.text_spec.specs.Cells.{padded}
use Rattle.text_spec.specs.Refusals.{Refusal, Outcome, accepted, refused, at, bad_record, too_few_cells}

module _ {A : Type 0} where
  -- 1 is tested first
  abbrev pub tested : Bool → Outcome A → Outcome A
  tested passes o = cond passes o (refused (at bad_record 0))

  pub data Tested (Passes : Type 0) (Rest : Outcome A → Type 0) : Outcome A → Type 0 where
    refused-by-1 : (Passes → ⊥) → Tested Passes Rest (refused (at bad_record 0))
    passes-1 : {o : Outcome A} → Passes → Rest o → Tested Passes Rest o

  -- 18 is tested last, when the answer is known
  abbrev pub in_room : Bool → A → Outcome A
  in_room short a = cond short (refused (at too_few_cells 0)) (accepted a)

  pub data InRoom (Short : Type 0) (a : A) : Outcome A → Type 0 where
    refused-by-18 : Short → InRoom Short a (refused (at too_few_cells 0))
    answered : (Short → ⊥) → InRoom Short a (accepted a)

  -- nothing else is judged
  pub data Answers (a : A) : Outcome A → Type 0 where
    answers : Answers a (accepted a)

module _ {A B : Type 0} where
  -- a record or a table is handed in: 1 unless it is one, and then the rest with what it holds
  abbrev pub handed : Option A → (A → Outcome B) → Outcome B
  handed none f = refused (at bad_record 0)
  handed (some a) f = f a

  pub data Handed (Holds : A → Type 0) (Rest : A → Outcome B → Type 0) : Outcome B → Type 0 where
    not-handed : ((a : A) → Holds a → ⊥) → Handed Holds Rest (refused (at bad_record 0))
    holds : {a : A} {o : Outcome B} → Holds a → Rest a o → Handed Holds Rest o

  -- a text is judged, and what comes next only where it is accepted (`and_then` of Refusals)
  pub data InTurn (First : Outcome A → Type 0) (Next : A → Outcome B → Type 0) : Outcome B → Type 0 where
    refused-here : {f : Refusal} → First (refused f) → InTurn First Next (refused f)
    goes_on_lem : {a : A} {o : Outcome B} → First (accepted a) → Next a o → InTurn First Next o

-- What a lent output holds at exit: the answer and then zeros; on refusal all zeros.
module _ {A : Type 0} where
  abbrev pub list_after : (A → List ℕ) → Outcome A → List ℕ
  list_after answer (accepted a) = answer a
  list_after answer (refused f) = []

  abbrev pub cells_after : ℕ → (A → List ℕ) → Outcome A → List ℕ
  cells_after size answer o = padded size (list_after answer o)
