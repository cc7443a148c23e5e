-- What is known of a schema that was accepted: its limits, its elements, its names.
use Rattle.std.specs.Prelude.{Bool, true, false, cond, not, ◌||◌, ◌⊎◌, ◌↔◌, ◌≡◌, ℕ, zero, suc, ◌+◌, ◌≤◌, ◌<◌, drop}
use mathlib.Core.List.Memᴰ.{cases_cons}
use mathlib.Core.List.Memᴰ.{head as here}
use mathlib.Core.List.Memᴰ.{tail as there}
use mathlib.Core.List.{List, [], ◌∷◌, ◌++◌, map, map-append, Memᴰ as In}
use Rattle.std.proofs.Common.{inl, inr, sym, ◌∙◌}
use Rattle.std.proofs.Math.Logic.{⊎_elim}
use Rattle.std.proofs.Math.Option.{some}
use Rattle.std.proofs.Math.Path.{refl, ap, subst}
use native.Mathlib.Omega.{arith}
use Rattle.std.proofs.Math.Dec.{T}
use Rattle.std.proofs.Math.ListN.{length, length-map}
use Rattle.schema_laws.specs.Closure.{Closed, holder_in, held_in, is_below-decides}
use Rattle.schema_laws.specs.Lists.{in-nothing, drop-empty, filter-empty, map-empty, gather-empty, Distinct, none-twice, next}
use Rattle.schema_laws.specs.Names.{in-element, in-text}
use Rattle.schema_laws.specs.Runs.{spelt-named}
use Rattle.schema_spec.specs.Declarations.{Use, Declaration}
use Rattle.schema_spec.specs.Machine.{parse}
use Rattle.schema_spec.specs.Models.{Particle, named, sequence, choice, repeated, Content, empty, pcdata, children, uses, uses_in, rename_in, rename_content}
use Rattle.schema_spec.specs.Names.{Name, element, text as text-name, names_of}
use Rattle.schema_spec.specs.Reading.{uses_of, limit_places, twice_places, undeclared_places, parsed_refusals, parsed_schema, schema_refusals, read_schema}
use Rattle.schema_spec.specs.Records.{schema_in}
use Rattle.schema_spec.specs.Schemas.{Schema, Element, schema_of, declared_names, resolved, index_from, model_at}
use Rattle.schema_spec.specs.Types.{holds, Below, types_of, is_below}
use Rattle.text_laws.specs.Lists.{append-empty, any-in, in-gather, map-in, bytes_same}
use Rattle.text_laws.specs.Refusals.{judged-accepted, judged-free}
use Rattle.text_laws.specs.Tests.{failed, not-not}
use Rattle.text_spec.specs.Bytes.{is_name}
use Rattle.text_spec.specs.Limits.{max_declarations, max_model_names, max_schema_bytes}
use Rattle.text_spec.specs.Lists.{any_of, same_bytes, gather, filter_by, value_or}
use Rattle.text_spec.specs.Machines.{Parsed, spells, departs}
use Rattle.text_spec.specs.Refusals.{Refusal, at, all_at, Outcome, accepted, refused, result_or, over_schema_limit, declared_twice, undeclared_in_model}
use Rattle.text_spec.specs.Texts.{length_refusals, byte_refusals}

-- the declarations that an accepted text spells, against which nothing was found
pub record Spelt (text : List ℕ) (s : Schema) : Type 0 where
  pub declarations : List Declaration
  pub spelt : parse text ≡ spells declarations
  pub gives : schema_of declarations ≡ s
  pub right-length : length_refusals max_schema_bytes text ≡ []
  pub right-bytes : byte_refusals text ≡ []
  pub within-limits : limit_places declarations ≡ []
  pub declared-once : twice_places [] declarations ≡ []
  pub all-declared : undeclared_places declarations ≡ []

pub accepted-spelt : (text : List ℕ) (s : Schema) → read_schema text ≡ accepted s → Spelt text s
unfolding read_schema schema_refusals
accepted-spelt text s e =
    let j = judged-accepted (schema_refusals text) (parsed_schema (parse text)) s e in
    let u = append-empty (length_refusals max_schema_bytes text) (byte_refusals text ++ parsed_refusals (parse text)) j.0 in
    let v = append-empty (byte_refusals text) (parsed_refusals (parse text)) u.1 in
    pick (parse text) refl u.0 v.0 v.1 j.1
  where
    pick : (p : Parsed (List Declaration)) → parse text ≡ p → length_refusals max_schema_bytes text ≡ [] → byte_refusals text ≡ [] → parsed_refusals p ≡ [] → parsed_schema p ≡ s → Spelt text s
    pick (departs k) q l b r g = absurd (in-nothing r (here refl))
    pick (spells ds) q l b r g =
        let x = append-empty (all_at over_schema_limit (limit_places ds)) (all_at declared_twice (twice_places [] ds) ++ all_at undeclared_in_model (undeclared_places ds)) r in
        let y = append-empty (all_at declared_twice (twice_places [] ds)) (all_at undeclared_in_model (undeclared_places ds)) x.1 in
        record {
          declarations = ds;
          spelt = q;
          gives = g;
          right-length = l;
          right-bytes = b;
          within-limits = map-empty (at over_schema_limit) (limit_places ds) x.0;
          declared-once = map-empty (at declared_twice) (twice_places [] ds) y.0;
          all-declared = map-empty (at undeclared_in_model) (undeclared_places ds) y.1;
        }

-- and a text that spells such declarations is accepted
pub spelt-accepted : (text : List ℕ) (s : Schema) → Spelt text s → read_schema text ≡ accepted s
unfolding read_schema schema_refusals
spelt-accepted text s p =
    judged-free (schema_refusals text) (parsed_schema (parse text)) nothing-found
    ∙ ap (λ (x : Schema). accepted x) (ap parsed_schema p.spelt ∙ p.gives)
  where
    join-empty : (u v : List Refusal) → u ≡ [] → v ≡ [] → u ++ v ≡ []
    join-empty u v e f = ap (λ (l : List Refusal). l ++ v) e ∙ f

    nothing-found : schema_refusals text ≡ []
    nothing-found =
        let ds = p.declarations in
        join-empty (length_refusals max_schema_bytes text) (byte_refusals text ++ parsed_refusals (parse text)) p.right-length
        (join-empty (byte_refusals text) (parsed_refusals (parse text)) p.right-bytes
        (ap parsed_refusals p.spelt
        ∙ join-empty (all_at over_schema_limit (limit_places ds)) (all_at declared_twice (twice_places [] ds) ++ all_at undeclared_in_model (undeclared_places ds))
        (ap (all_at over_schema_limit) p.within-limits)
        (join-empty (all_at declared_twice (twice_places [] ds)) (all_at undeclared_in_model (undeclared_places ds)) (ap (all_at declared_twice) p.declared-once)
        (ap (all_at undeclared_in_model) p.all-declared))))

-- the names in a model that is written with other names
uses-rename : {A B : Type 0} (f : A → B) (p : Particle A) → uses (rename_in f p) ≡ map f (uses p)
uses-rename f (named a) = refl
uses-rename f (sequence p q) = rw (uses-rename f p, uses-rename f q) (sym (map-append f (uses p) (uses q)))
uses-rename f (choice p q) = rw (uses-rename f p, uses-rename f q) (sym (map-append f (uses p) (uses q)))
uses-rename f (repeated m n p) = uses-rename f p

pub uses_in-rename : {A B : Type 0} (f : A → B) (c : Content A) → uses_in (rename_content f c) ≡ map f (uses_in c)
uses_in-rename f empty = refl
uses_in-rename f pcdata = refl
uses_in-rename f (children p) = uses-rename f p

-- the index that a name in a model gets
abbrev pub index_in : List (List ℕ) → Use → ℕ
index_in ns u = value_or 0 (index_from 0 u.name ns)

-- the model of a schema's element is that of a declaration
model_of : (ns : List (List ℕ)) (ds : List Declaration) (a : ℕ) → (model_at (map (resolved ns) ds) a ≡ []) ⊎ ((d : Declaration) × In d ds × (model_at (map (resolved ns) ds) a ≡ map (index_in ns) (uses_of d)))
model_of ns [] a = inl refl
model_of ns (d ∷ ds) zero = inr (d, here refl, uses_in-rename (index_in ns) d.content)
model_of ns (d ∷ ds) (suc a) = ⊎_elim (λ h. inl h) (λ h. inr (h.0, there h.1, h.2)) (model_of ns ds a)

index_below : (n : List ℕ) (ns : List (List ℕ)) (k : ℕ) → T (any_of (same_bytes n) ns) → value_or 0 (index_from k n ns) < k + length ns
index_below n [] k t = absurd t
index_below n (m ∷ ns) k t = pick (same_bytes n m) t (index_below n ns (suc k))
  where
    pick : (b : Bool) → T (b || any_of (same_bytes n) ns) → (T (any_of (same_bytes n) ns) → value_or 0 (index_from (suc k) n ns) < suc k + length ns)
        → value_or 0 (cond b (some k) (index_from (suc k) n ns)) < k + length (m ∷ ns)
    pick true u h = omega arith
    pick false u h =
        let r = h u in
        omega arith

module _ (ds : List Declaration) where
  -- refusals 5 and 7 against the declarations
  few-declarations : limit_places ds ≡ [] → length ds ≤ max_declarations
  few-declarations e =
      let x = append-empty (map (λ d. d.place) (drop max_declarations ds)) (gather (λ d. map (λ u. u.place) (drop max_model_names (uses_of d))) ds) e in
      drop-empty max_declarations ds (map-empty (λ d. d.place) (drop max_declarations ds) x.0)

  few-names : limit_places ds ≡ [] → (d : Declaration) → In d ds → length (uses_of d) ≤ max_model_names
  few-names e d i =
      let x = append-empty (map (λ d. d.place) (drop max_declarations ds)) (gather (λ d. map (λ u. u.place) (drop max_model_names (uses_of d))) ds) e in
      let y : map (λ u. u.place) (drop max_model_names (uses_of d)) ≡ [] = gather-empty (λ d. map (λ u. u.place) (drop max_model_names (uses_of d))) x.1 i in
      drop-empty max_model_names (uses_of d) (map-empty (λ u. u.place) (drop max_model_names (uses_of d)) y)

  pub declared-use : undeclared_places ds ≡ [] → (d : Declaration) (u : Use) → In d ds → In u (uses_of d) → T (any_of (same_bytes u.name) (declared_names ds))
  declared-use e d u i j =
      let undeclared : Use → Bool = λ v. not (any_of (same_bytes v.name) (declared_names ds)) in
      let none-undeclared = map-empty (λ (v : Use). v.place) (filter_by undeclared (gather uses_of ds)) e in
      not-not (any_of (same_bytes u.name) (declared_names ds)) (filter-empty undeclared none-undeclared (in-gather uses_of i j))

  gives-length : length (schema_of ds) ≡ length ds
  unfolding schema_of
  gives-length = length-map ds (resolved (declared_names ds))

  gives-closed : undeclared_places ds ≡ [] → Closed (schema_of ds)
  unfolding schema_of
  gives-closed e a b i = ⊎_elim (λ h. absurd (in-nothing h i)) known (model_of (declared_names ds) ds a)
    where
      known : (d : Declaration) × In d ds × (model_at (schema_of ds) a ≡ map (index_in (declared_names ds)) (uses_of d)) → b < length (schema_of ds)
      known h =
          let r = map-in (index_in (declared_names ds)) (uses_of h.0) (subst (λ (x : List ℕ). In b x) h.2 i) in
          let q = index_below r.0.name (declared_names ds) 0 (declared-use e h.0 r.0 h.1 r.1) in
          let z : b ≡ index_in (declared_names ds) r.0 = r.2 in
          let l : length (declared_names ds) ≡ length ds = length-map ds (λ d. d.name.name) in
          let m : length (schema_of ds) ≡ length ds = gives-length in
          omega arith

  gives-few : limit_places ds ≡ [] → (a : ℕ) → length (model_at (schema_of ds) a) ≤ max_model_names
  unfolding schema_of
  gives-few e a = ⊎_elim (λ h. let z : length (model_at (schema_of ds) a) ≡ 0 = ap length h in omega arith) known (model_of (declared_names ds) ds a)
    where
      known : (d : Declaration) × In d ds × (model_at (schema_of ds) a ≡ map (index_in (declared_names ds)) (uses_of d)) → length (model_at (schema_of ds) a) ≤ max_model_names
      known h =
          let r = few-names e h.0 h.1 in
          let l = length-map (uses_of h.0) (index_in (declared_names ds)) in
          let m : length (model_at (schema_of ds) a) ≡ length (map (index_in (declared_names ds)) (uses_of h.0)) = ap length h.2 in
          omega arith

-- no name is declared twice, nor is one of those before
once-declared : (ns : List (List ℕ)) (ds : List Declaration) → twice_places ns ds ≡ [] → ((n : List ℕ) → In n (declared_names ds) → In n ns → ⊥) × Distinct (declared_names ds)
once-declared ns [] e = (λ n i j. elim i [ ], none-twice)
once-declared ns (d ∷ ds) e = pick (any_of (same_bytes d.name.name) ns) refl e (once-declared (d.name.name ∷ ns) ds)
  where
    pick : (b : Bool) → any_of (same_bytes d.name.name) ns ≡ b → cond b (d.name.place ∷ twice_places (d.name.name ∷ ns) ds) (twice_places (d.name.name ∷ ns) ds) ≡ []
        → (twice_places (d.name.name ∷ ns) ds ≡ [] → ((n : List ℕ) → In n (declared_names ds) → In n (d.name.name ∷ ns) → ⊥) × Distinct (declared_names ds))
        → ((n : List ℕ) → In n (d.name.name ∷ declared_names ds) → In n ns → ⊥) × Distinct (d.name.name ∷ declared_names ds)
    pick true q e h = absurd (in-nothing e (here refl))
    pick false q e h =
        let r = h e in (
          λ n i j. elim (cases_cons i) [ inl z ↦ failed q (any-in (same_bytes d.name.name) (subst (λ (x : List ℕ). In x ns) z j) (bytes_same d.name.name)) | inr k ↦ r.0 n k (there j) ],
          next (λ i. r.0 d.name.name i (here refl)) r.1,
        )

abbrev pub element_names : Schema → List (List ℕ)
element_names s = map (λ e. e.name) s

-- the names of the elements are those declared, in their order
pub names-of-elements : (ns : List (List ℕ)) (ds : List Declaration) → element_names (map (resolved ns) ds) ≡ declared_names ds
names-of-elements ns [] = refl
names-of-elements ns (d ∷ ds) = ap {B = List (List ℕ)} (λ l. d.name.name ∷ l) (names-of-elements ns ds)

module _ (text : List ℕ) (s : Schema) (e : read_schema text ≡ accepted s) where
  -- "at most 32 declarations"
  pub accepted-length : length s ≤ max_declarations
  accepted-length =
      let p = accepted-spelt text s e in
      subst (λ (x : Schema). length x ≤ max_declarations) p.gives
      (rw (gives-length p.declarations) (few-declarations p.declarations p.within-limits))

  -- "There is at least one declaration"
  pub accepted-filled : 0 < length s
  accepted-filled =
      let p = accepted-spelt text s e in
      subst (λ (x : Schema). 0 < length x) p.gives (rw (gives-length p.declarations) (spelt-named text p.declarations p.spelt).0)

  -- each name in a model is an element of the schema
  pub accepted-closed : Closed s
  accepted-closed =
      let p = accepted-spelt text s e in
      subst Closed p.gives (gives-closed p.declarations p.all-declared)

  -- "At most 32 declarations, 64 names in a model": the second
  pub accepted-models : (a : ℕ) → length (model_at s a) ≤ max_model_names
  accepted-models a =
      let p = accepted-spelt text s e in
      subst (λ (x : Schema). length (model_at x a) ≤ max_model_names) p.gives (gives-few p.declarations p.within-limits a)

  -- no two elements have the same name
  pub accepted-distinct : Distinct (element_names s)
  unfolding schema_of
  accepted-distinct =
      let p = accepted-spelt text s e in
      let ds = p.declarations in
      subst (λ (x : Schema). Distinct (element_names x)) p.gives
      (subst Distinct (sym (names-of-elements (declared_names ds) ds)) (once-declared [] ds p.declared-once).1)

  -- each element's name is a name of 1 to 31 bytes
  pub accepted-name : (x : Element) → In x s → T (is_name x.name)
  unfolding schema_of
  accepted-name x i =
      let p = accepted-spelt text s e in
      let ds = p.declarations in
      let r = map-in (resolved (declared_names ds)) ds (subst (λ (y : Schema). In x y) (sym p.gives) i) in
      subst (λ (y : Element). T (is_name y.name)) (sym r.2) ((spelt-named text ds p.spelt).1 r.0 r.1)

  -- an element's index is below 32, and so is that of a text name
  pub accepted-element : (a : ℕ) → In (element a) (names_of s) → a < max_declarations
  accepted-element a i =
      let h = in-element s a i in
      let l = accepted-length in
      omega arith

  pub accepted-text : (a : ℕ) → In (text-name a) (names_of s) → a < max_declarations
  accepted-text a i =
      let h = (in-text s a i).0 in
      let l = accepted-length in
      omega arith

  -- what a name of the schema holds is one
  pub accepted-held : (a b : Name) → T (holds s a b) → In a (names_of s) × In b (names_of s)
  accepted-held a b t = (holder_in s a b t, held_in s accepted-closed a b t)

  -- 'below' computed is one or more holdings
  pub accepted-below : (a b : Name) → T (is_below (types_of s) a b) ↔ Below s a b
  accepted-below = is_below-decides s accepted-closed

-- the schema in any text: that of an accepted one, or the one with no element
module _ (text : List ℕ) where
  pub schema_in-by : (P : Schema → Type 0) → ((s : Schema) → read_schema text ≡ accepted s → P s) → P [] → P (schema_in text)
  unfolding schema_in
  schema_in-by P h none = pick (read_schema text) refl
    where
      pick : (o : Outcome Schema) → read_schema text ≡ o → P (result_or [] o)
      pick (accepted s) e = h s e
      pick (refused f) e = none

  pub schema_in-length : length (schema_in text) ≤ max_declarations
  schema_in-length = schema_in-by (λ s. length s ≤ max_declarations) (accepted-length text) (omega arith)

  pub schema_in-closed : Closed (schema_in text)
  schema_in-closed = schema_in-by Closed (accepted-closed text) (λ a b i. elim i [ ])
