-- Why a text is turned back: the eighteen refusals, their order, and the outcome of a reader.
use Rattle.std.specs.Prelude.{Bool, true, false, cond, ◌&&◌, ◌||◌, List, [], ◌∷◌, map, ℕ, ◌≤◌, eqb, ltb}
use Rattle.std.proofs.Math.Option.{Option, none, some}

-- "Why a text is turned back", in the paper's order
pub data Reason : Type 0 where
  -- 1. a record that its reader cannot produce, a table that is not well formed, a text row outside its text or over a bad byte
  bad_record : Reason
  -- 2. a text is empty or over its length limit
  bad_length : Reason
  -- 3. a byte is none of 09, 0A, 20 to 7E hex
  bad_byte : Reason
  -- 4. the schema departs from its grammar
  bad_schema : Reason
  -- 5. too many declarations, or names in a model
  over_schema_limit : Reason
  -- 6. an element is declared twice
  declared_twice : Reason
  -- 7. a model names an undeclared element
  undeclared_in_model : Reason
  -- 8. a path departs from its grammar
  bad_path : Reason
  -- 9. a limit of paths, steps, alternatives or bytes of a path is passed
  over_path_limit : Reason
  -- 10. a path names an undeclared element
  undeclared_in_path : Reason
  -- 11. tags, character data or entities are misspelt
  misspelt : Reason
  -- 12. tags do not nest, or there is not exactly one root with only blanks outside it
  bad_nesting : Reason
  -- 13. depth 65 is reached
  over_depth : Reason
  -- 14. an element is undeclared
  undeclared_element : Reason
  -- 15. the root is not the schema's, or content does not fit its model
  bad_content : Reason
  -- 16. a text that makes a node is too long, or a 65,536th node begins
  over_node_limit : Reason
  -- 17. bytes are no extract of a well-formed table whose texts pass 3
  bad_extract : Reason
  -- 18. a lent output has fewer cells than the answer takes
  too_few_cells : Reason

abbrev pub number_of : Reason → ℕ
number_of bad_record = 1
number_of bad_length = 2
number_of bad_byte = 3
number_of bad_schema = 4
number_of over_schema_limit = 5
number_of declared_twice = 6
number_of undeclared_in_model = 7
number_of bad_path = 8
number_of over_path_limit = 9
number_of undeclared_in_path = 10
number_of misspelt = 11
number_of bad_nesting = 12
number_of over_depth = 13
number_of undeclared_element = 14
number_of bad_content = 15
number_of over_node_limit = 16
number_of bad_extract = 17
number_of too_few_cells = 18

-- a refusal: "Place is a byte offset, or 0 where none is named"
pub record Refusal : Type 0 where
  pub reason : Reason
  pub place : ℕ

abbrev pub at : Reason → ℕ → Refusal
at r k = record { reason = r; place = k }

abbrev pub all_at : Reason → List ℕ → List Refusal
all_at r ks = map (at r) ks

abbrev pub given : Bool → Refusal → List Refusal
given b f = cond b (f ∷ []) []

-- "the first that applies, by number; within one number the earliest place"
abbrev pub before : Refusal → Refusal → Bool
before f g = ltb (number_of f.reason) (number_of g.reason) || (eqb (number_of f.reason) (number_of g.reason) && ltb f.place g.place)

abbrev pub first_from : Refusal → List Refusal → Refusal
first_from f [] = f
first_from f (g ∷ gs) = first_from (cond (before g f) g f) gs

unfoldable pub first_of : List Refusal → Option Refusal
first_of [] = none
first_of (f ∷ fs) = some (first_from f fs)

-- what a reader answers: the parts that the text gives, or the refusal
pub data Outcome (A : Type 0) : Type 0 where
  accepted : A → Outcome A
  refused : Refusal → Outcome A

module _ {A : Type 0} where
  abbrev pub by_first : Option Refusal → A → Outcome A
  by_first none a = accepted a
  by_first (some f) a = refused f

  -- a text with what applies to it, in any order, and with what it gives if nothing does
  abbrev pub judged : List Refusal → A → Outcome A
  judged fs a = by_first (first_of fs) a

  abbrev pub is_accepted : Outcome A → Bool
  is_accepted (accepted a) = true
  is_accepted (refused f) = false

  abbrev pub result_or : A → Outcome A → A
  result_or d (accepted a) = a
  result_or d (refused f) = d

module _ {A B : Type 0} where
  -- texts are judged in turn: the next one only where this one is accepted
  abbrev pub and_then : Outcome A → (A → Outcome B) → Outcome B
  and_then (accepted a) f = f a
  and_then (refused r) f = refused r

-- The meaning of the order, for conditions that say at which places each refusal applies.
pub record IsFirst (Applies : Reason → ℕ → Type 0) (r : Reason) (k : ℕ) : Type 0 where
  pub applies : Applies r k
  pub lowest : (q : Reason) (j : ℕ) → Applies q j → number_of r ≤ number_of q
  pub earliest : (j : ℕ) → Applies r j → k ≤ j

-- What a reader's outcome means: turned back by the first refusal that applies, or accepted where none does.
pub data Judged {A : Type 0} (Applies : Reason → ℕ → Type 0) (Gives : A → Type 0) : Outcome A → Type 0 where
  turned-back : {f : Refusal} → IsFirst Applies f.reason f.place → Judged Applies Gives (refused f)
  taken : {a : A} → ((r : Reason) (k : ℕ) → Applies r k → ⊥) → Gives a → Judged Applies Gives (accepted a)
