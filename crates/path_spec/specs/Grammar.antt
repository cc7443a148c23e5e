-- The grammar of bundle texts, as a relation between a text, the place where it starts and the paths that it spells.
use Rattle.std.specs.Prelude.{List, [], ◌∷◌, ◌++◌, ℕ, suc, ◌+◌, T, length}
use Rattle.path_spec.specs.Paths.{WrittenAxis, spell_axis, NodeTest, named, any_node, any_text, WrittenStep, PlainStep, Condition, unconditional, alternatives, LocationPath, from_root_element}
use Rattle.schema_spec.specs.Declarations.{Use}
use Rattle.text_spec.specs.Bytes.{is_name}
use Rattle.text_spec.specs.Lists.{bytes}

-- a path where it is written: its first byte, its bytes without the line feed, the path
pub record PathRead : Type 0 where
  pub place : ℕ
  pub size : ℕ
  pub path : LocationPath Use

abbrev pub path_read : ℕ → ℕ → List (WrittenStep Use (Condition Use)) → PathRead
path_read k n ps = record { place = k; size = n; path = from_root_element ps }

abbrev pub node_call : List ℕ
node_call = bytes "node()"

abbrev pub text_call : List ℕ
text_call = bytes "text()"

-- "parted by ` or ` with one blank each side"
abbrev pub or_word : List ℕ
or_word = bytes " or "

pub data TestText : ℕ → List ℕ → NodeTest Use → Type 0 where
  a-name : {k : ℕ} (n : List ℕ) → T (is_name n) → TestText k n (named (record { place = k; name = n }))
  any-node : {k : ℕ} → TestText k node_call any_node
  any-text : {k : ℕ} → TestText k text_call any_text

-- axis`::`test
pub data PlainText : ℕ → List ℕ → PlainStep Use → Type 0 where
  plain : {k : ℕ} {w : List ℕ} {t : NodeTest Use} (a : WrittenAxis) → TestText (k + length (spell_axis a)) w t
      → PlainText k (spell_axis a ++ w) (record { axis = a; test = t; condition = tt })

-- steps without brackets, joined by `/`
pub data AlternativeText : ℕ → List ℕ → List (PlainStep Use) → Type 0 where
  one-step : {k : ℕ} {w : List ℕ} {p : PlainStep Use} → PlainText k w p → AlternativeText k w (p ∷ [])
  more-steps : {k : ℕ} {w r : List ℕ} {p : PlainStep Use} {ps : List (PlainStep Use)} → PlainText k w p → AlternativeText (suc (k + length w)) r ps
      → AlternativeText k (w ++ (0x2F ∷ r)) (p ∷ ps)

-- alternatives parted by ` or `
pub data ConditionText : ℕ → List ℕ → List (List (PlainStep Use)) → Type 0 where
  one-alternative : {k : ℕ} {w : List ℕ} {q : List (PlainStep Use)} → AlternativeText k w q → ConditionText k w (q ∷ [])
  more-alternatives : {k : ℕ} {w r : List ℕ} {q : List (PlainStep Use)} {qs : List (List (PlainStep Use))} → AlternativeText k w q
      → ConditionText (k + length w + length or_word) r qs → ConditionText k (w ++ (or_word ++ r)) (q ∷ qs)

-- "a step is axis`::`test, then at most one `[..]`"
pub data StepText : ℕ → List ℕ → WrittenStep Use (Condition Use) → Type 0 where
  bare : {k : ℕ} {w : List ℕ} {p : PlainStep Use} → PlainText k w p → StepText k w (record { axis = p.axis; test = p.test; condition = unconditional })
  conditional : {k : ℕ} {w r : List ℕ} {p : PlainStep Use} {qs : List (List (PlainStep Use))} → PlainText k w p → ConditionText (suc (k + length w)) r qs
      → StepText k (w ++ (0x5B ∷ (r ++ (0x5D ∷ [])))) (record { axis = p.axis; test = p.test; condition = alternatives qs })

-- "Steps joined by `/`"
pub data PathText : ℕ → List ℕ → List (WrittenStep Use (Condition Use)) → Type 0 where
  last_step : {k : ℕ} {w : List ℕ} {p : WrittenStep Use (Condition Use)} → StepText k w p → PathText k w (p ∷ [])
  next-step : {k : ℕ} {w r : List ℕ} {p : WrittenStep Use (Condition Use)} {ps : List (WrittenStep Use (Condition Use))} → StepText k w p → PathText (suc (k + length w)) r ps
      → PathText k (w ++ (0x2F ∷ r)) (p ∷ ps)

-- paths, "each ended by a line feed"; 8 judges them with no counts
pub data BundleText : ℕ → List ℕ → List PathRead → Type 0 where
  last-path : {k : ℕ} {w : List ℕ} {s : List (WrittenStep Use (Condition Use))} → PathText k w s → BundleText k (w ++ (0x0A ∷ [])) (path_read k (length w) s ∷ [])
  next-path : {k : ℕ} {w r : List ℕ} {s : List (WrittenStep Use (Condition Use))} {ps : List PathRead} → PathText k w s → BundleText (suc (k + length w)) r ps
      → BundleText k (w ++ (0x0A ∷ r)) (path_read k (length w) s ∷ ps)
