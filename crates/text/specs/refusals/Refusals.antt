-- Refusals of the program as the definitions' refusals, and an answer as the definitions' outcome.
use Rattle.std.specs.Prelude.{◌≡◌, refl, ℕ, Result, Ok, Err}
use Rattle.std.proofs.Common.{ap}
use Rattle.text.specs.declared.refusals.Reason.{Reason}
use Rattle.text.specs.declared.refusals.Reason.TheVariants.{BadRecord, BadLength, BadByte, BadSchema, OverSchemaLimit, DeclaredTwice, UndeclaredInModel, BadPath, OverPathLimit, UndeclaredInPath, Misspelt, BadNesting, OverDepth, UndeclaredElement, BadContent, OverNodeLimit, BadExtract, TooFewCells}
use Rattle.text.specs.declared.refusals.Refusal.{Refusal}
use Rattle.text_spec.specs.Refusals as paper

-- ---- definitions
-- the paper's reason of the same number
abbrev pub reason_in : Reason → paper.Reason
reason_in BadRecord = paper.bad_record
reason_in BadLength = paper.bad_length
reason_in BadByte = paper.bad_byte
reason_in BadSchema = paper.bad_schema
reason_in OverSchemaLimit = paper.over_schema_limit
reason_in DeclaredTwice = paper.declared_twice
reason_in UndeclaredInModel = paper.undeclared_in_model
reason_in BadPath = paper.bad_path
reason_in OverPathLimit = paper.over_path_limit
reason_in UndeclaredInPath = paper.undeclared_in_path
reason_in Misspelt = paper.misspelt
reason_in BadNesting = paper.bad_nesting
reason_in OverDepth = paper.over_depth
reason_in UndeclaredElement = paper.undeclared_element
reason_in BadContent = paper.bad_content
reason_in OverNodeLimit = paper.over_node_limit
reason_in BadExtract = paper.bad_extract
reason_in TooFewCells = paper.too_few_cells

-- and back
abbrev pub reason_as : paper.Reason → Reason
reason_as paper.bad_record = BadRecord
reason_as paper.bad_length = BadLength
reason_as paper.bad_byte = BadByte
reason_as paper.bad_schema = BadSchema
reason_as paper.over_schema_limit = OverSchemaLimit
reason_as paper.declared_twice = DeclaredTwice
reason_as paper.undeclared_in_model = UndeclaredInModel
reason_as paper.bad_path = BadPath
reason_as paper.over_path_limit = OverPathLimit
reason_as paper.undeclared_in_path = UndeclaredInPath
reason_as paper.misspelt = Misspelt
reason_as paper.bad_nesting = BadNesting
reason_as paper.over_depth = OverDepth
reason_as paper.undeclared_element = UndeclaredElement
reason_as paper.bad_content = BadContent
reason_as paper.over_node_limit = OverNodeLimit
reason_as paper.bad_extract = BadExtract
reason_as paper.too_few_cells = TooFewCells

abbrev pub refusal : Reason → ℕ → Refusal
refusal r k = record { reason = r; place = k }

abbrev pub refusal_in : Refusal → paper.Refusal
refusal_in f = record { reason = reason_in f.reason; place = f.place }

abbrev pub refusal_as : paper.Refusal → Refusal
refusal_as f = record { reason = reason_as f.reason; place = f.place }

-- what an answer says, as the paper's outcome
abbrev pub outcome_of : {A : Type 0} → Result A Refusal → paper.Outcome A
outcome_of (Ok a) = paper.accepted a
outcome_of (Err f) = paper.refused (refusal_in f)

-- the answer to an outcome, by what it gives of an accepted text
abbrev pub answer_by : {A B : Type 0} → (A → B) → paper.Outcome A → Result B Refusal
answer_by g (paper.accepted a) = Ok (g a)
answer_by g (paper.refused f) = Err (refusal_as f)

-- ---- laws: the two are each other's inverse
pub reason_in-as : (r : paper.Reason) → reason_in (reason_as r) ≡ r
reason_in-as paper.bad_record = refl
reason_in-as paper.bad_length = refl
reason_in-as paper.bad_byte = refl
reason_in-as paper.bad_schema = refl
reason_in-as paper.over_schema_limit = refl
reason_in-as paper.declared_twice = refl
reason_in-as paper.undeclared_in_model = refl
reason_in-as paper.bad_path = refl
reason_in-as paper.over_path_limit = refl
reason_in-as paper.undeclared_in_path = refl
reason_in-as paper.misspelt = refl
reason_in-as paper.bad_nesting = refl
reason_in-as paper.over_depth = refl
reason_in-as paper.undeclared_element = refl
reason_in-as paper.bad_content = refl
reason_in-as paper.over_node_limit = refl
reason_in-as paper.bad_extract = refl
reason_in-as paper.too_few_cells = refl

pub reason_as-in : (r : Reason) → reason_as (reason_in r) ≡ r
reason_as-in BadRecord = refl
reason_as-in BadLength = refl
reason_as-in BadByte = refl
reason_as-in BadSchema = refl
reason_as-in OverSchemaLimit = refl
reason_as-in DeclaredTwice = refl
reason_as-in UndeclaredInModel = refl
reason_as-in BadPath = refl
reason_as-in OverPathLimit = refl
reason_as-in UndeclaredInPath = refl
reason_as-in Misspelt = refl
reason_as-in BadNesting = refl
reason_as-in OverDepth = refl
reason_as-in UndeclaredElement = refl
reason_as-in BadContent = refl
reason_as-in OverNodeLimit = refl
reason_as-in BadExtract = refl
reason_as-in TooFewCells = refl

pub refusal_in-as : (f : paper.Refusal) → refusal_in (refusal_as f) ≡ f
refusal_in-as f = ap (λ (r : paper.Reason). paper.at r f.place) (reason_in-as f.reason)

pub refusal_as-in : (f : Refusal) → refusal_as (refusal_in f) ≡ f
refusal_as-in f = ap (λ (r : Reason). record { reason = r; place = f.place }) (reason_as-in f.reason)

pub answer-outcome : {A : Type 0} (r : Result A Refusal) → answer_by (λ a. a) (outcome_of r) ≡ r
answer-outcome (Ok a) = refl
answer-outcome (Err f) = ap Err (refusal_as-in f)

pub outcome-answer : {A : Type 0} (o : paper.Outcome A) → outcome_of (answer_by (λ a. a) o) ≡ o
outcome-answer (paper.accepted a) = refl
outcome-answer (paper.refused f) = ap paper.refused (refusal_in-as f)
