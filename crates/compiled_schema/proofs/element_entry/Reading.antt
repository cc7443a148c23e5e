-- Laws of reading an accepted text declaration by declaration: the one that is read at d is that of element d.
use mathlib.Core.Bool.{Bool, true, false}
use mathlib.Core.List.Memᴰ.{head as here}
use mathlib.Core.List.Memᴰ.{tail as there}
use mathlib.Core.List.{List, [], ◌∷◌, ◌++◌, map, reverse, reverse-cons, append_assoc, Memᴰ as In}
use mathlib.Core.Option.{some}
use mathlib.Core.Path.{◌≡◌, refl, sym, ap, subst, ◌∙◌}
use Prim.Native.Nat.{ℕ, zero, suc, ◌+◌, ◌≤◌, ◌<◌}
use native.Mathlib.Numerals.{add-one}
use native.Mathlib.Omega.{arith}
use borrow.Author.Tests.{ltb-true, ltb-false}
use lib.Dec.{ltb}
use lib.ListN.{length, take, drop, get_or, get_elem?, length-append, length-map, length-reverse, take-append-drop}
use lib.Seq.{take_at, drop_at, take-append-le, drop-append-le}
use Rattle.compiled_schema.specs.element_entry.Reading.{AtDeclaration}
use Rattle.compiled_schema.specs.element_entry.ReadingLaws.{uses-enough}
use Rattle.schema.specs.Judging.{used_in}
use Rattle.schema.specs.declarations.DeclarationLaws.{between-skipped}
use Rattle.schema_laws.specs.Accepted.{Spelt, accepted-spelt, accepted-length, accepted-closed, accepted-models, index_in, uses_in-rename}
use Rattle.schema_laws.specs.Runs.{run-extends}
use Rattle.schema_spec.specs.Declarations.{Use, Declaration}
use Rattle.schema_spec.specs.Machine.{between, schema_machine, at_end, from, parse}
use Rattle.schema_spec.specs.Models.{uses_in, rename_content}
use Rattle.schema_spec.specs.Records.{schema_in}
use Rattle.schema_spec.specs.Schemas.{Schema, declared_names, resolved, schema_of, content_or, content_at, model_at}
use Rattle.text.specs.scanning.Outcomes.{Skipped}
use Rattle.text_laws.specs.Scans.{at-end}
use Rattle.text_laws.specs.Tests.{never}
use Rattle.text_spec.specs.Limits.{max_declarations, max_model_names}
use Rattle.text_spec.specs.Machines.{spells, departs}

at-middle : {A B : Type 0} (f : A → B) (xs ys : List A) (x : A) → get_elem? (map f (xs ++ (x ∷ ys))) (length xs) ≡ some (f x)
at-middle f [] ys x = refl
at-middle f (z ∷ xs) ys x = at-middle f xs ys x

get_d-in : (xs : List ℕ) (i : ℕ) → i < length xs → In (get_or xs i 0) xs
get_d-in [] i l = absurd (omega arith)
get_d-in (x ∷ xs) zero l = here refl
get_d-in (x ∷ xs) (suc i) l = there (get_d-in xs i (omega arith))

-- ---- the elements that the models use: those before element d, its own, those after it
used-at : (s : Schema) (d : ℕ) → d < length s → used_in s ≡ used_in (take d s) ++ (model_at s d ++ used_in (drop (suc d) s))
used-at [] d l = absurd (omega arith)
used-at (e ∷ s) zero l = refl
used-at (e ∷ s) (suc d) l =
    ap (λ (us : List ℕ). uses_in e.content ++ us) (used-at s d (omega arith))
    ∙ sym (append_assoc (uses_in e.content) (used_in (take d s)) (model_at s d ++ used_in (drop (suc d) s)))

used-next : (s : Schema) (d : ℕ) → d < length s → length (used_in (take (suc d) s)) ≡ length (used_in (take d s)) + length (model_at s d)
used-next [] d l = absurd (omega arith)
used-next (e ∷ s) zero l =
    let a = length-append (uses_in e.content) [] in
    omega arith
used-next (e ∷ s) (suc d) l =
    let a = length-append (uses_in e.content) (used_in (take (suc d) s)) in
    let b = length-append (uses_in e.content) (used_in (take d s)) in
    let r = used-next s d (omega arith) in
    omega arith

-- ---- the declarations of an accepted text
module _ {text uses : List ℕ} {d n i : ℕ} (A : AtDeclaration text uses d n i) where
  abbrev spelling : Spelt text (schema_in text)
  spelling = accepted-spelt text (schema_in text) A.given.read

  abbrev all : List Declaration
  all = spelling.declarations

  all-long : length all ≡ length (schema_in text)
  unfolding schema_of
  all-long = sym (length-map all (resolved (declared_names all))) ∙ ap length spelling.gives

  spelt-on : from (between A.done) text i ≡ spells all
  unfolding parse
  spelt-on = sym A.same ∙ spelling.spelt

  -- there is a declaration more, so the text goes on
  pub goes_on_lem : d < length (schema_in text) → i < length text
  goes_on_lem l = pick (ltb i (length text)) refl
    where
      ended : (ds : List Declaration) → length ds ≡ d → at_end (between ds) i ≡ spells all → ⊥
      ended [] e z = never (cc)
      ended (x ∷ ds) e z =
          let o : reverse (x ∷ ds) ≡ all = cc in
          let a = ap length o in
          let b = length-reverse (x ∷ ds) in
          let g = all-long in
          omega arith

      pick : (b : Bool) → ltb i (length text) ≡ b → i < length text
      pick true e = ltb-true i (length text) e
      pick false e = absurd (ended A.done A.count (sym (at-end schema_machine text i (between A.done) (ltb-false i (length text) e)) ∙ spelt-on))

  pub departs-not : {j : ℕ} → from (between A.done) text i ≡ departs j → ⊥
  departs-not {j} e =
      let z : departs j ≡ spells all = sym e ∙ spelt-on in
      never (cc)

  -- the cells of `uses` that belong to the model of element d
  module _ (l : d < length (schema_in text)) where
    abbrev model : List ℕ
    model = model_at (schema_in text) d

    abbrev total : ℕ
    total = length (used_in (schema_in text))

    inside : n + length model ≤ total
    inside =
        let a = ap length (used-at (schema_in text) d l) in
        let b = length-append (used_in (take d (schema_in text))) (model ++ used_in (drop (suc d) (schema_in text))) in
        let c = length-append model (used_in (drop (suc d) (schema_in text))) in
        let u = A.used in
        omega arith

    pub model-within : n + length model ≤ length uses
    model-within =
        let a = uses-enough A.given in
        let b = inside in
        omega arith

    pub model-cells : take (length model) (drop n uses) ≡ model
    model-cells =
        let a = inside in
        let e : length (take total uses) ≡ total = ap length A.given.elements in
        let k : drop n (take total uses) ≡ model ++ used_in (drop (suc d) (schema_in text)) = ap (drop n) (A.given.elements ∙ used-at (schema_in text) d l) ∙ drop_at (used_in (take d (schema_in text))) (model ++ used_in (drop (suc d) (schema_in text))) n (sym A.used) in
        let m : length model ≤ length (drop n (take total uses)) = (let f = ap length k in let g = length-append model (used_in (drop (suc d) (schema_in text))) in omega arith) in
        ap (λ (us : List ℕ). take (length model) (drop n us)) (sym (take-append-drop total uses))
        ∙ ap (take (length model)) (drop-append-le n (take total uses) (drop total uses) (omega arith))
        ∙ take-append-le (length model) (drop n (take total uses)) (drop total uses) m
        ∙ ap (take (length model)) k ∙ take_at model (used_in (drop (suc d) (schema_in text))) (length model) refl

  pub model-small : (b : ℕ) → In b (model_at (schema_in text) d) → b < max_declarations
  model-small b m =
      let c = accepted-closed text (schema_in text) A.given.read d b m in
      let l = accepted-length text (schema_in text) A.given.read in
      omega arith

  pub cell-small : (model : List ℕ) → model ≡ model_at (schema_in text) d → (j : ℕ) → j < length model → get_or model j 0 < max_declarations
  cell-small model e j l = model-small (get_or model j 0) (subst (λ (us : List ℕ). In (get_or model j 0) us) e (get_d-in model j l))

  pub element-small : d < length (schema_in text) → d < max_declarations
  element-small l =
      let a = accepted-length text (schema_in text) A.given.read in
      omega arith

  abbrev pub index : Use → ℕ
  index = index_in (declared_names all)

  module _ (x : Declaration) (j : ℕ) (goes : from (between A.done) text i ≡ from (between (x ∷ A.done)) text j) where
    extended : (more : List Declaration) × (all ≡ reverse A.done ++ (x ∷ more))
    extended =
        let e = run-extends (x ∷ A.done) all (drop j text) j (sym goes ∙ spelt-on) in
        (e.0, e.1 ∙ ap (λ (l : List Declaration). l ++ e.0) (reverse-cons x A.done) ∙ append_assoc (reverse A.done) (x ∷ []) e.0)

    -- the content of element d
    pub content-here : content_at (schema_in text) d ≡ rename_content index x.content
    unfolding schema_of
    content-here =
        let e = extended in
        ap (λ (s : Schema). content_at s d) (sym spelling.gives)
        ∙ ap (λ (ds : List Declaration). content_or (get_elem? (map (resolved (declared_names all)) ds) d)) e.1
        ∙ ap (λ (k : ℕ). content_or (get_elem? (map (resolved (declared_names all)) (reverse A.done ++ (x ∷ e.0))) k)) (sym (length-reverse A.done ∙ A.count))
        ∙ ap content_or (at-middle (resolved (declared_names all)) (reverse A.done) e.0 x)

    model-here : model_at (schema_in text) d ≡ map index (uses_in x.content)
    model-here = ap uses_in content-here ∙ uses_in-rename index x.content

    pub model-size : length (model_at (schema_in text) d) ≡ length (uses_in x.content)
    model-size = ap length model-here ∙ length-map (uses_in x.content) index

    pub uses-few : length (uses_in x.content) ≤ max_model_names
    uses-few =
        let a = accepted-models text (schema_in text) A.given.read d in
        let b = model-size in
        omega arith

    pub at_next : d < length (schema_in text) → (size : ℕ) → size ≡ length (uses_in x.content) → {k : ℕ} → Skipped text j k → AtDeclaration text uses (d + 1) (n + size) k
    at_next l size e K =
        record {
          given = A.given;
          done = x ∷ A.done;
          same = A.same ∙ goes ∙ between-skipped K (x ∷ A.done);
          count = ap suc A.count ∙ sym (add-one d);
          used = rw (add-one d) (let a = used-next (schema_in text) d l in let b = model-size in let u = A.used in omega arith);
          high = K.high;
          no-blank = K.stop;
        }
