-- What a pass asks of a schema is in the words of what each element holds.
use Rattle.std.specs.Prelude.{Bool, ◌&&◌, ◌≡◌, T, eqb, ltb, length, get_or}
use Rattle.std.proofs.Math.Bool.{true, false, cond, not}
use mathlib.Core.List.{List, [], ◌∷◌, Memᴰ as In}
use Rattle.std.proofs.Math.Logic.{⊎_elim}
use Rattle.std.proofs.Math.Option.{Option, none, some}
use Rattle.std.proofs.Math.Path.{refl, sym, ap}
use Rattle.std.proofs.Common.{ap₂, ◌∙◌, lt-ltb, le-ltb}
use Prim.Native.Nat.{ℕ, zero, suc, ◌+◌, ◌-◌, ◌<◌, ◌≤◌}
use native.Mathlib.Omega.{arith}
use Rattle.std.proofs.Math.Dec.{leb}
use Rattle.extract_reader.specs.field_tests.Tests.{held_by, word_types}
use Rattle.extract_spec.specs.Reading.{Item, element_item, text_item, count_item, no_item, open_from, top_row, top_element, cons_row}
use Rattle.projection_laws.specs.Opens.{placed}
use Rattle.projection_laws.specs.extract_passes.Steps.{State, state, Step, wrong, ended, onward, continued, number_fits, later_step, root_step, past_field, has_field, item_at, is_last, step_at, first_step, rows_from, rows_in}
use Rattle.schema_laws.specs.Accepted.{schema_in-length, schema_in-closed}
use Rattle.schema_laws.specs.Closure.{held_in}
use Rattle.schema_laws.specs.Names.{in-element, in-text}
use Rattle.schema_spec.specs.Names.{Name, element, text, has_bit, name_of_code, same_name, names_of}
use Rattle.schema_spec.specs.Records.{schema_in}
use Rattle.schema_spec.specs.Schemas.{Schema}
use Rattle.schema_spec.specs.Types.{Types, holds, types_of}
use Rattle.table_laws.specs.passes.Codes.{HeldWords, Coded}
use Rattle.table_spec.specs.Rows.{Row, element_row, text_row}
use Rattle.text_laws.specs.Searches.{below-or-past}
use Rattle.text_laws.specs.Tests.{never, false_of}
use Rattle.text_spec.specs.Bytes.{is_foreign}
use Rattle.text_spec.specs.Limits.{max_declarations, max_depth, max_text_bytes}
use Rattle.text_spec.specs.Lists.{all_of, is_empty, part}

-- the words are those of a schema whose names have codes
pub record ReadWords (s : Schema) (words : List ℕ) : Type 0 where
  pub held : HeldWords (types_of s) words
  pub coded : (a : ℕ) (n : Name) → T (holds s (element a) n) → Coded n

-- ---- every schema that is read has such names
element-coded : (e : ℕ) → e < max_declarations → Coded (element e)
element-coded e l = rw (lt-ltb e max_declarations l)

text-coded : (e : ℕ) → e < max_declarations → Coded (text e)
text-coded e l =
    let past : ltb (max_declarations + e) max_declarations ≡ false = le-ltb (max_declarations + e) max_declarations (omega arith) in
    let low : ltb (max_declarations + e) (max_declarations + max_declarations) ≡ true = lt-ltb (max_declarations + e) (max_declarations + max_declarations) (omega arith) in
    let same : max_declarations + e - max_declarations ≡ e = omega arith in
    rw (past, low, same)

-- and the others have none
abbrev named : ℕ → Bool → Bool → Option Name
named c low high = cond low (some (element c)) (cond high (some (text (c - max_declarations))) none)

uncoded-element : (e : ℕ) → max_declarations ≤ e → Coded (element e) → ⊥
uncoded-element e l q = by (ltb e (max_declarations + max_declarations)) (ap (λ (b : Bool). named e b (ltb e (max_declarations + max_declarations))) (sym (le-ltb e max_declarations l)) ∙ q)
  where
    by : (b : Bool) → named e false b ≡ some (element e) → ⊥
    by true h = never (cc)
    by false h = never (cc)

text-uncoded : (e : ℕ) → max_declarations ≤ e → name_of_code (max_declarations + e) ≡ none
text-uncoded e l =
    ap₂ (named (max_declarations + e)) (le-ltb (max_declarations + e) max_declarations (omega arith)) (le-ltb (max_declarations + e) (max_declarations + max_declarations) (omega arith))

uncoded-text : (e : ℕ) → max_declarations ≤ e → Coded (text e) → ⊥
uncoded-text e l q = let z = text-uncoded e l in never (cc)

pub read-words : (bytes words : List ℕ) → HeldWords (types_of (schema_in bytes)) words → ReadWords (schema_in bytes) words
read-words bytes words h = record { held = h; coded = λ a n t. coded n (held_in (schema_in bytes) (schema_in-closed bytes) (element a) n t) }
  where
    coded : (n : Name) → In n (names_of (schema_in bytes)) → Coded n
    coded (element e) i = element-coded e (omega (arith, in-element (schema_in bytes) e i, schema_in-length bytes))
    coded (text e) i = text-coded e (omega (arith, (in-text (schema_in bytes) e i).0, schema_in-length bytes))

-- ---- schemas that hold the same as far as the pass asks
module _ (s t : Types) (root : s.root ≡ t.root) (elements : (a b : ℕ) → s.holds (element a) (element b) ≡ t.holds (element a) (element b))
    (texts : (a : ℕ) → s.holds (element a) (text a) ≡ t.holds (element a) (text a)) (bs : List ℕ) where
  same-later : (st : State) (last : Bool) (i : Item) → later_step s bs st last i ≡ later_step t bs st last i
  unfolding later_step
  same-later st last no_item = refl
  same-later st last (count_item n) = refl
  same-later st last (element_item number parent e) =
      let os = open_from parent st.levels in
      ap (λ (b : Bool). cond (not (is_empty os) && (number_fits st number && (b && leb (suc (length os)) max_depth)))
      (onward (element_row number e (top_row os)) (state (suc st.rows) number false (placed st.rows number e ∷ os))) wrong) (elements (top_element os) e)
  same-later st last (text_item number parent start size) =
      let os = open_from parent st.levels in
      ap (λ (b : Bool). cond (not (is_empty os) && (number_fits st number && (b && (not st.after_text && (leb 1 size && (leb size max_text_bytes && all_of (λ x. not (is_foreign x)) (part start size bs)))))))
      (onward (text_row number (top_element os) (top_row os) start size size) (state (suc st.rows) number true os)) wrong) (texts (top_element os))

  same_step : (k : ℕ) (st : State) → step_at s bs k st ≡ step_at t bs k st
  unfolding step_at
  same_step k st = ap (λ (x : Step). cond (has_field bs k) x wrong) (same-later st (is_last bs k) (item_at bs k))

  same-on : (x : Step) (f g : State → Option (List Row)) → ((st : State) → f st ≡ g st) → continued x f ≡ continued x g
  same-on wrong f g h = refl
  same-on ended f g h = refl
  same-on (onward r st) f g h = ap (cons_row r) (h st)

  same_rows : (fuel k : ℕ) (st : State) → rows_from s bs fuel k st ≡ rows_from t bs fuel k st
  unfolding rows_from
  same_rows zero k st = refl
  same_rows (suc fuel) k st =
      ap (λ (x : Step). continued x (rows_from s bs fuel (past_field bs k))) (same_step k st)
      ∙ same-on (step_at t bs k st) (rows_from s bs fuel (past_field bs k)) (rows_from t bs fuel (past_field bs k)) (same_rows fuel (past_field bs k))

  same-root : (last : Bool) (i : Item) → root_step s last i ≡ root_step t last i
  unfolding root_step
  same-root last no_item = refl
  same-root last (text_item number parent start size) = refl
  same-root last (count_item n) = refl
  same-root last (element_item number parent e) =
      ap (λ (n : Name). cond (eqb parent 0 && (eqb number 0 && same_name (element e) n)) (onward (element_row number e 0) (state 1 number false (placed 0 number e ∷ []))) wrong) root

  same-rows-in : rows_in s bs ≡ rows_in t bs
  unfolding rows_in first_step
  same-rows-in =
      ap (λ (x : Step). continued (cond (has_field bs 0) x wrong) (rows_from s bs (length bs - 1) (past_field bs 0))) (same-root (is_last bs 0) (item_at bs 0))
      ∙ same-on (cond (has_field bs 0) (root_step t (is_last bs 0) (item_at bs 0)) wrong) (rows_from s bs (length bs - 1) (past_field bs 0)) (rows_from t bs (length bs - 1) (past_field bs 0))
      (same_rows (length bs - 1) (past_field bs 0))

-- ---- the words hold the same
module _ (s : Schema) (words : List ℕ) (w : ReadWords s words) where
  words-element : (a b : ℕ) → held_by words (element a) (element b) ≡ holds s (element a) (element b)
  unfolding types_of
  words-element a b = ⊎_elim low past (below-or-past b max_declarations)
    where
      low : b < max_declarations → held_by words (element a) (element b) ≡ holds s (element a) (element b)
      low l = ap (λ (x : Bool). x && has_bit (get_or words a 0) b) (lt-ltb b max_declarations l) ∙ w.held.held a b (element b) (element-coded b l)

      past : max_declarations ≤ b → held_by words (element a) (element b) ≡ holds s (element a) (element b)
      past l =
          ap (λ (x : Bool). x && has_bit (get_or words a 0) b) (le-ltb b max_declarations l)
          ∙ sym (false_of (holds s (element a) (element b)) (λ t. uncoded-element b l (w.coded a (element b) t)))

  words-text : (a : ℕ) → held_by words (element a) (text a) ≡ holds s (element a) (text a)
  unfolding types_of
  words-text a = ⊎_elim low past (below-or-past a max_declarations)
    where
      turned : a + max_declarations ≡ max_declarations + a
      turned = omega arith

      low : a < max_declarations → held_by words (element a) (text a) ≡ holds s (element a) (text a)
      low l = ap (has_bit (get_or words a 0)) turned ∙ w.held.held a (max_declarations + a) (text a) (text-coded a l)

      past : max_declarations ≤ a → held_by words (element a) (text a) ≡ holds s (element a) (text a)
      past l =
          ap (has_bit (get_or words a 0)) turned
          ∙ w.held.unnamed a (max_declarations + a) (text-uncoded a l)
          ∙ sym (false_of (holds s (element a) (text a)) (λ t. uncoded-text a l (w.coded a (text a) t)))

  pub words-rows : (bs : List ℕ) → rows_in (types_of s) bs ≡ rows_in (word_types words) bs
  unfolding types_of
  words-rows bs = sym (same-rows-in (word_types words) (types_of s) refl words-element words-text bs)
