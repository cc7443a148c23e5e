-- Over a compiled schema the names' places and sizes are as writing a chain asks, and each link is `/` and the tag of its name.
use Rattle.std.specs.Prelude.{Bool, true, false, cond, List, [], ◌∷◌, ◌++◌, map, ◌≡◌, refl, ℕ, zero, suc, ◌+◌, ◌≤◌, ◌<◌, T, length, get_or, take, drop}
use Rattle.std.proofs.Common.{inl, inr, ⊎_elim, sym, ap, ◌∙◌, arith, length-take, length-drop, get_or-take}
use Rattle.std.proofs.lemmas.List.{length-map}
use Rattle.chains.specs.tags.Chains.{link_at, NamesAt, link-element, link-text}
use Rattle.compiled_schema.specs.Compiled.{CompiledOf}
use Rattle.compiled_schema.specs.declared.CompiledSchema.{CompiledSchema}
use Rattle.library_spec.specs.Chains.{tag}
use Rattle.schema.specs.Judging.{declared_at}
use Rattle.schema_laws.specs.Accepted.{accepted-spelt, accepted-length, accepted-filled, accepted-name, accepted-held}
use Rattle.schema_laws.specs.Names.{in-element}
use Rattle.schema_spec.specs.Machine.{parse}
use Rattle.schema_spec.specs.Names.{Name, element, text as text-name, code_of}
use Rattle.schema_spec.specs.Reading.{read_schema}
use Rattle.schema_spec.specs.Schemas.{Schema}
use Rattle.schema_spec.specs.Schemas as schemas
use Rattle.schema_spec.specs.Types.{types_of}
use Rattle.table_laws.specs.Fits.{RootOrHeld}
use Rattle.table_laws.specs.Places.{at_some, at_in}
use Rattle.text_laws.specs.Cells.{padded-length}
use Rattle.text_laws.specs.Searches.{below-or-past}
use Rattle.text_laws.specs.Texts.{length-within}
use Rattle.text_spec.specs.Bytes.{is_name, continues_name}
use Rattle.text_spec.specs.Cells.{padded}
use Rattle.text_spec.specs.Limits.{max_declarations, max_schema_bytes}
use Rattle.text_spec.specs.Lists.{bytes, part}
use Rattle.text_spec.specs.Refusals.{accepted}
use Rattle.text_spec.specs.Scans.{name_in, name_at}

-- ---- cells of columns
padded-past : (n : ℕ) (xs : List ℕ) (e : ℕ) → length xs ≤ e → get_or (padded n xs) e 0 ≡ 0
padded-past zero xs e l = refl
padded-past (suc n) [] zero l = refl
padded-past (suc n) [] (suc e) l = padded-past n [] e (omega arith)
padded-past (suc n) (x ∷ xs) zero l = absurd (omega arith)
padded-past (suc n) (x ∷ xs) (suc e) l = padded-past n xs e (omega arith)

mapped_at : {A B : Type 0} (f : A → B) (xs : List A) (j : ℕ) (d : A) (b : B) → j < length xs → get_or (map f xs) j b ≡ f (get_or xs j d)
mapped_at f [] j d b h = absurd (omega arith)
mapped_at f (x ∷ xs) zero d b h = refl
mapped_at f (x ∷ xs) (suc j) d b h = mapped_at f xs j d b (omega arith)

element-name : (s : Schema) (e : ℕ) → e < length s → get_or (map (λ x. x.name) s) e [] ≡ schemas.name_at s e
element-name [] e l = absurd (omega arith)
element-name (x ∷ s) zero l = refl
element-name (x ∷ s) (suc e) l = element-name s e (omega arith)

-- ---- the name at a place is a part of the text
name-part : (l : List ℕ) → take (length (name_in l)) l ≡ name_in l
name-part [] = refl
name-part (b ∷ l) = by (continues_name b) (name-part l)
  where
    by : (c : Bool) → take (length (name_in l)) l ≡ name_in l → take (length (cond c (b ∷ name_in l) [])) (b ∷ l) ≡ cond c (b ∷ name_in l) []
    by true h = ap (λ (w : List ℕ). b ∷ w) h
    by false h = refl

name-within : (l : List ℕ) → length (name_in l) ≤ length l
name-within [] = omega arith
name-within (b ∷ l) = by (continues_name b) (name-within l)
  where
    by : (c : Bool) → length (name_in l) ≤ length l → length (cond c (b ∷ name_in l) []) ≤ suc (length l)
    by true h = omega arith
    by false h = omega arith

name-filled : (w : List ℕ) → T (is_name w) → 0 < length w
name-filled [] t = absurd t
name-filled (b ∷ w) t = omega arith

-- ---- the names of a compiled schema
module _ (text : List ℕ) (s : Schema) (read : read_schema text ≡ accepted s) (t : CompiledSchema) (made : CompiledOf text s t) (sizes : List ℕ)
    (sized : sizes ≡ map (λ p. length (name_at text p)) t.names) where
  cells : length t.names ≡ max_declarations
  cells = ap length made.places ∙ padded-length max_declarations (take (length s) (declared_at (parse text)))

  size-at : (e : ℕ) → e < max_declarations → get_or sizes e 0 ≡ length (name_at text (get_or t.names e 0))
  size-at e l = ap (λ (z : List ℕ). get_or z e 0) sized ∙ mapped_at (λ p. length (name_at text p)) t.names e 0 0 (omega (arith, cells))

  name-at : (e : ℕ) → e < length s → name_at text (get_or t.names e 0) ≡ schemas.name_at s e
  name-at e l =
      let few = accepted-length text s read in
      let own : e < length (take t.relations.count t.names) = omega (arith, made.counted, length-take t.relations.count t.names, cells) in
      ap (name_at text) (sym (get_or-take t.relations.count t.names e 0 (omega (arith, made.counted)))) ∙ sym (mapped_at (name_at text) (take t.relations.count t.names) e 0 [] own)
      ∙ ap (λ (z : List (List ℕ)). get_or z e []) made.named ∙ element-name s e l

  place-within : (e : ℕ) → get_or t.names e 0 ≤ length text
  place-within e = ⊎_elim declared past (below-or-past e (length s))
    where
      declared : e < length s → get_or t.names e 0 ≤ length text
      declared l =
          let x = at_some s e l in
          let filled : 0 < length (schemas.name_at s e) = rw x.1 (name-filled x.0.name (accepted-name text s read x.0 (at_in s e x.0 x.1))) in
          let n = name-within (drop (get_or t.names e 0) text) in
          omega (arith, ap length (name-at e l), length-drop (get_or t.names e 0) text)

      past : length s ≤ e → get_or t.names e 0 ≤ length text
      past l =
          omega (
            arith,
            ap (λ (z : List ℕ). get_or z e 0) made.places,
            padded-past max_declarations (take (length s) (declared_at (parse text))) e (omega (arith, length-take (length s) (declared_at (parse text)))),
          )

  name-inside : (e : ℕ) → e < max_declarations → get_or t.names e 0 + get_or sizes e 0 ≤ length text
  name-inside e l = omega (arith, size-at e l, name-within (drop (get_or t.names e 0) text), length-drop (get_or t.names e 0) text, place-within e)

  pub compiled-names : NamesAt text t.names sizes
  compiled-names =
      let long = length-within max_schema_bytes text (accepted-spelt text s read).right-length in
      record {
        fit = record {
          many = omega (arith, ap length sized, length-map t.names (λ p. length (name_at text p)), cells);
          small = λ e l. omega (arith, name-inside e l);
        };
        many = omega (arith, cells);
        inside = name-inside;
      }

  element-link : (e : ℕ) → e < length s → link_at text t.names sizes e ≡ bytes "/" ++ schemas.name_at s e
  element-link e l =
      let few = accepted-length text s read in
      link-element text t.names sizes e (omega arith)
      ∙ ap (λ (w : List ℕ). bytes "/" ++ w)
      (ap (λ (k : ℕ). part (get_or t.names e 0) k text) (size-at e (omega arith)) ∙ name-part (drop (get_or t.names e 0) text) ∙ name-at e l)

  -- the tag of a name that a row of a well-formed table has
  pub link_tag : (n : Name) → RootOrHeld (types_of s) n → link_at text t.names sizes (code_of n) ≡ bytes "/" ++ tag s n
  unfolding types_of
  link_tag (element e) (inl r) =
      let z : e ≡ 0 = cc in
      element-link e (omega (arith, accepted-filled text s read))
  link_tag (element e) (inr (a, h)) = element-link e (in-element s e (accepted-held text s read a (element e) h).1)
  link_tag (text-name e) h = link-text text t.names sizes (max_declarations + e) (omega arith)
