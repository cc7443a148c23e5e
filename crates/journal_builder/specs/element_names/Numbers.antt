-- Elements by numbers, of which those past all elements are none.
use Rattle.std.specs.Prelude.{false, cond, ◌≡◌, refl, ℕ, ◌≤◌, ◌<◌, leb, ltb, length, Option as CodeOption, Some, None}
use Rattle.std.proofs.Common.{true≢false, sym, ◌∙◌, arith}
use Rattle.std.proofs.Math.Option.{Option, none, some}
use borrow.Author.Tests.{le-leb, lt-leb, lt-ltb, le-ltb}
use Rattle.journal_builder.specs.fillings.Fillings.{Declared}
use Rattle.schema_spec.specs.Names.{element, code_of}
use Rattle.schema_spec.specs.Schemas.{Schema}
use Rattle.text.specs.lookup.Lookup.{found}
use Rattle.text_laws.specs.Tests.{never}
use Rattle.text_spec.specs.Limits.{max_declarations}
use Rattle.text_spec.specs.Lists.{is_none, value_or}

-- the number e of an element, or one past all elements where there is none
pub data Found (s : Schema) : Option ℕ → ℕ → Type 0 where
  declared : {e : ℕ} → e < length s → Found s (some e) e
  undeclared : {e : ℕ} → max_declarations ≤ e → Found s none e

-- the element of a number
abbrev pub element_in : ℕ → CodeOption ℕ
element_in e = cond (ltb e max_declarations) (Some e) None

-- what a number is, its element is
pub found-number : (s : Schema) (o : Option ℕ) (e : ℕ) → length s ≤ max_declarations → Found s o e → found (element_in e) ≡ o
found-number s (some a) e few (declared l) = rw (lt-ltb e max_declarations (omega arith)) refl
found-number s none e few (undeclared l) = rw (le-ltb e max_declarations l) refl

pub declared-number : (s : Schema) (o : Option ℕ) (e : ℕ) → length s ≤ max_declarations → Found s o e → Declared s (element_in e)
declared-number s o e few h a q = of o h (sym (found-number s o e few h) ∙ q)
  where
    of : (o : Option ℕ) → Found s o e → o ≡ some a → a < length s
    of (some x) (declared l) z =
        let d : e ≡ a = cc in
        omega arith
    of none (undeclared l) z = never (cc)

pub undeclared-test : (s : Schema) (o : Option ℕ) (e : ℕ) → length s ≤ max_declarations → Found s o e → is_none o ≡ leb max_declarations e
undeclared-test s (some a) e few (declared l) = sym (lt-leb max_declarations e (omega arith))
undeclared-test s none e few (undeclared l) = sym (le-leb max_declarations e l)

pub declared-code : (s : Schema) (o : Option ℕ) (e : ℕ) → leb max_declarations e ≡ false → Found s o e → e ≡ code_of (element (value_or 0 o))
declared-code s (some a) e h (declared l) = refl
declared-code s none e h (undeclared l) = absurd (true≢false (sym (le-leb max_declarations e l) ∙ h))
