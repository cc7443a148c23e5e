-- What each element holds, as words of bits, and whether a row may stand under an open element.
use Rattle.std.specs.Prelude.{Bool, false, not, ◌&&◌, List, [], ℕ, suc, ◌+◌, ◌≤◌, eqb, leb, ltb, get_or}
use Rattle.extract_reader.specs.declared.levels.Level.{Level}
use Rattle.extract_reader.specs.levels.Levels.{last_element, Known}
use Rattle.schema_spec.specs.Names.{Name, element, text, has_bit}
use Rattle.schema_spec.specs.Types.{Types}
use Rattle.text_spec.specs.Limits.{max_declarations, max_depth}

-- ---- bit e of an element's word is set if it holds the element e, bit 32 + e if it holds the text name of e
abbrev pub held_by : List ℕ → Name → Name → Bool
held_by words (element a) (element b) = ltb b max_declarations && has_bit (get_or words a 0) b
held_by words (element a) (text b) = has_bit (get_or words a 0) (b + max_declarations)
held_by words (text a) n = false

abbrev pub word_types : List ℕ → Types
word_types words = record { names = []; root = element 0; holds = held_by words; below = [] }

-- ---- under the last of the first d open elements
pub record LevelPass (levels : List Level) (d : ℕ) : Type 0 where
  pub shallow : d ≤ max_depth
  pub known : Known levels d

unfoldable pub element_under : List ℕ → List Level → ℕ → ℕ → Bool
element_under words levels d e = not (eqb d 0) && (held_by words (element (last_element levels d)) (element e) && leb (suc d) max_depth)

unfoldable pub text_under : List ℕ → List Level → ℕ → Bool → Bool
text_under words levels d after = not (eqb d 0) && (held_by words (element (last_element levels d)) (text (last_element levels d)) && not after)
