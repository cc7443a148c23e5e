-- The steps that were read of a bundle text, under the names of a schema's elements: the steps of compiled paths, and the names that no
-- element has.
use Rattle.std.specs.Prelude.{cond, List, [], ◌∷◌, map, ◌≡◌, ℕ, ltb, Option, Some, None, Result, Ok, Err}
use Rattle.std.proofs.Math.Option as Math
use Rattle.std.proofs.lemmas.List.Edits.{sets}
use Rattle.bundle_text.specs.declared.steps.StepRead.{StepRead}
use Rattle.bundle_text.specs.declared.steps.TestRead.{TestRead}
use Rattle.bundle_text.specs.declared.steps.TestRead.TheVariants as read
use Rattle.compiled_paths.specs.declared.NodeTest.{NodeTest}
use Rattle.compiled_paths.specs.declared.NodeTest.TheVariants.{Node, Text, Element}
use Rattle.compiled_paths.specs.declared.Step.{Step}
use Rattle.schema_spec.specs.Schemas.{index_from}
use Rattle.text_spec.specs.Scans.{name_at}

-- the element that has the name at the place p, or that place
abbrev pub element_or : ℕ → Math.Option ℕ → Result NodeTest ℕ
element_or p (Math.some e) = Ok (Element e)
element_or p Math.none = Err p

-- a test of the text as in compiled paths, or the place of a name that no element has
abbrev pub compiled_test : List (List ℕ) → List ℕ → TestRead → Result NodeTest ℕ
compiled_test names text read.Node = Ok Node
compiled_test names text read.Text = Ok Text
compiled_test names text (read.Name p) = element_or p (index_from 0 (name_at text p) names)

-- the test, any one where there is none, and the place that has none
abbrev pub test_or : Result NodeTest ℕ → NodeTest
test_or (Ok t) = t
test_or (Err p) = Element 0

abbrev pub lost_of : Result NodeTest ℕ → Option ℕ
lost_of (Ok t) = None
lost_of (Err p) = Some p

-- the lesser of two places
abbrev pub earliest : Option ℕ → Option ℕ → Option ℕ
earliest None b = b
earliest (Some a) None = Some a
earliest (Some a) (Some b) = Some (cond (ltb b a) b a)

abbrev pub earliest_of : Option ℕ → List (Option ℕ) → Option ℕ
earliest_of a [] = a
earliest_of a (x ∷ xs) = earliest_of (earliest a x) xs

module _ (names : List (List ℕ)) (text : List ℕ) where
  abbrev pub step_cell : StepRead → Step
  step_cell c = record { axis = c.axis; test = test_or (compiled_test names text c.test); ends_alternative = c.ends_alternative }

  abbrev pub lost_cell : StepRead → Option ℕ
  lost_cell c = lost_of (compiled_test names text c.test)

  pub record Compiled (cells : List StepRead) (at : ℕ) (steps steps' : List Step) (lost r : Option ℕ) : Type 0 where
    pub wrote : steps' ≡ sets steps at (map step_cell cells)
    pub least : r ≡ earliest_of lost (map lost_cell cells)
