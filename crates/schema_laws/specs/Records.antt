-- The record of a schema: the normal form of an accepted text is accepted with the same schema, and the test of records passes exactly
-- those that an accepted text gives.
use Rattle.std.specs.Prelude.{Bool, true, false, cond, not, ◌||◌, List, [], ◌∷◌, ◌++◌, map, ◌↔◌, ◌≡◌, refl, ℕ, zero, suc, T, ltb, length, drop}
use Rattle.std.proofs.lemmas.List.{map-append}
use Rattle.std.proofs.Common.{⊎_elim, sym, ap, subst, ◌∙◌, arith, ltb→lt, lt→ltb}
use Rattle.schema_laws.specs.Accepted.{accepted-spelt, spelt-accepted, uses_in-rename, index_in}
use Rattle.schema_laws.specs.Lists.{map-empty, map-reverse, places-none, none-places}
use Rattle.schema_laws.specs.Normal.{normal-goes, normal-twice, normal-byte, normal-length}
use Rattle.schema_laws.specs.Places.{bare_use, bare_declaration, bare_all, spells-goes, goes-spells}
use Rattle.schema_spec.specs.Declarations.{Use, Declaration}
use Rattle.schema_spec.specs.Machine.{between, parse}
use Rattle.schema_spec.specs.Models.{Particle, named, sequence, choice, repeated, Content, empty, pcdata, children, rename_in, rename_content}
use Rattle.schema_spec.specs.Reading.{uses_of, limit_places, twice_places, undeclared_places, read_schema}
use Rattle.schema_spec.specs.Records.{normal, schema_in, record_by, schema_record, SchemaProducible, producible, is_schema_record}
use Rattle.schema_spec.specs.Schemas.{Schema, schema_of, declared_names, resolved}
use Rattle.text_laws.specs.Lists.{bytes-equal, bytes_same}
use Rattle.text_laws.specs.Refusals.{given-free}
use Rattle.text_laws.specs.Tests.{and_intro, and_cases, or_cases, or_right, never}
use Rattle.text_spec.specs.Bytes.{is_foreign}
use Rattle.text_spec.specs.Limits.{max_declarations, max_model_names, max_schema_bytes}
use Rattle.text_spec.specs.Lists.{any_of, filter_by, gather, same_bytes, is_empty, places_from}
use Rattle.text_spec.specs.Machines.{spells, run}
use Rattle.text_spec.specs.Refusals.{Refusal, Outcome, accepted, refused, is_accepted, result_or, at, all_at, given, bad_length, bad_byte}
use Rattle.text_spec.specs.Texts.{length_refusals, byte_refusals}

-- Declarations without their places give the same schema.
rename-twice : {A B C : Type 0} (f : A → B) (g : B → C) (p : Particle A) → rename_in g (rename_in f p) ≡ rename_in (λ x. g (f x)) p
rename-twice f g (named a) = refl
rename-twice {C = C} f g (sequence p q) =
    ap (λ (z : Particle C). sequence z (rename_in g (rename_in f q))) (rename-twice f g p) ∙ ap (λ (z : Particle C). sequence (rename_in (λ x. g (f x)) p) z) (rename-twice f g q)
rename-twice {C = C} f g (choice p q) =
    ap (λ (z : Particle C). choice z (rename_in g (rename_in f q))) (rename-twice f g p) ∙ ap (λ (z : Particle C). choice (rename_in (λ x. g (f x)) p) z) (rename-twice f g q)
rename-twice {C = C} f g (repeated m n p) = ap (λ (z : Particle C). repeated m n z) (rename-twice f g p)

content-twice : {A B C : Type 0} (f : A → B) (g : B → C) (c : Content A) → rename_content g (rename_content f c) ≡ rename_content (λ x. g (f x)) c
content-twice f g empty = refl
content-twice f g pcdata = refl
content-twice {C = C} f g (children p) = ap (λ (z : Particle C). children z) (rename-twice f g p)

bare-names : (ds : List Declaration) → declared_names (bare_all ds) ≡ declared_names ds
bare-names [] = refl
bare-names (d ∷ ds) = ap {B = List (List ℕ)} (λ l. d.name.name ∷ l) (bare-names ds)

bare-resolved : (ns : List (List ℕ)) (ds : List Declaration) → map (resolved ns) (bare_all ds) ≡ map (resolved ns) ds
bare-resolved ns [] = refl
bare-resolved ns (d ∷ ds) =
    ap (λ (c : Content ℕ). record { name = d.name.name; content = c } ∷ map (resolved ns) (bare_all ds)) (content-twice bare_use (index_in ns) d.content)
    ∙ ap {B = Schema} (λ l. resolved ns d ∷ l) (bare-resolved ns ds)

pub bare-schema : (ds : List Declaration) → schema_of (bare_all ds) ≡ schema_of ds
unfolding schema_of
bare-schema ds = ap (λ (ns : List (List ℕ)). map (resolved ns) (bare_all ds)) (bare-names ds) ∙ bare-resolved (declared_names ds) ds

-- What is found against them is the same, with 0 for each place.
abbrev zeros : List ℕ → List ℕ
zeros ks = map (λ k. 0) ks

module _ {A B : Type 0} (f : A → B) where
  zero-places : (p : A → ℕ) (q : B → ℕ) → ((x : A) → q (f x) ≡ 0) → (xs : List A) → map q (map f xs) ≡ zeros (map p xs)
  zero-places p q h [] = refl
  zero-places p q h (x ∷ xs) = ap (λ (k : ℕ). k ∷ map q (map f xs)) (h x) ∙ ap {B = List ℕ} (λ l. 0 ∷ l) (zero-places p q h xs)

  drop-map : (n : ℕ) (xs : List A) → drop n (map f xs) ≡ map f (drop n xs)
  drop-map zero xs = refl
  drop-map (suc n) [] = refl
  drop-map (suc n) (x ∷ xs) = drop-map n xs

  filter_map : (t : B → Bool) (xs : List A) → filter_by t (map f xs) ≡ map f (filter_by (λ x. t (f x)) xs)
  filter_map t [] = refl
  filter_map t (x ∷ xs) = pick (t (f x)) (filter_map t xs)
    where
      pick : (b : Bool) → filter_by t (map f xs) ≡ map f (filter_by (λ x. t (f x)) xs)
          → cond b (f x ∷ filter_by t (map f xs)) (filter_by t (map f xs)) ≡ map f (cond b (x ∷ filter_by (λ x. t (f x)) xs) (filter_by (λ x. t (f x)) xs))
      pick true h = ap {B = List B} (λ l. f x ∷ l) h
      pick false h = h

-- what is gathered from bare declarations, where each gives the same but for g
gather-bare : {B : Type 0} (g : B → B) (f : Declaration → List B) → ((d : Declaration) → f (bare_declaration d) ≡ map g (f d)) → (ds : List Declaration) → gather f (bare_all ds) ≡ map g (gather f ds)
gather-bare g f h [] = refl
gather-bare {B} g f h (d ∷ ds) =
    ap (λ (l : List B). l ++ gather f (bare_all ds)) (h d) ∙ (ap (λ (l : List B). map g (f d) ++ l) (gather-bare g f h ds) ∙ sym (map-append g (f d) (gather f ds)))

bare-uses : (d : Declaration) → uses_of (bare_declaration d) ≡ map bare_use (uses_of d)
bare-uses d = uses_in-rename bare_use d.content

bare-limits : (ds : List Declaration) → limit_places (bare_all ds) ≡ zeros (limit_places ds)
bare-limits ds =
    let many : List Declaration → List ℕ = λ es. map (λ (d : Declaration). d.place) (drop max_declarations es) in
    let long : Declaration → List ℕ = λ d. map (λ (u : Use). u.place) (drop max_model_names (uses_of d)) in
    let x : many (bare_all ds) ≡ zeros (many ds) =
    ap (λ (l : List Declaration). map (λ (d : Declaration). d.place) l) (drop-map bare_declaration max_declarations ds)
    ∙ zero-places bare_declaration (λ d. d.place) (λ d. d.place) (λ d. refl) (drop max_declarations ds) in
    let y : gather long (bare_all ds) ≡ zeros (gather long ds) = gather-bare (λ k. 0) long (λ d.
    ap (λ (l : List Use). map (λ (u : Use). u.place) (drop max_model_names l)) (bare-uses d)
    ∙ (ap (λ (l : List Use). map (λ (u : Use). u.place) l) (drop-map bare_use max_model_names (uses_of d))
    ∙ zero-places bare_use (λ u. u.place) (λ u. u.place) (λ u. refl) (drop max_model_names (uses_of d)))) ds in
    ap (λ (l : List ℕ). l ++ gather long (bare_all ds)) x ∙ (ap (λ (l : List ℕ). zeros (many ds) ++ l) y ∙ sym (map-append (λ k. 0) (many ds) (gather long ds)))

bare_twice : (ns : List (List ℕ)) (ds : List Declaration) → twice_places ns (bare_all ds) ≡ zeros (twice_places ns ds)
bare_twice ns [] = refl
bare_twice ns (d ∷ ds) = pick (any_of (same_bytes d.name.name) ns) (bare_twice (d.name.name ∷ ns) ds)
  where
    pick : (b : Bool) → twice_places (d.name.name ∷ ns) (bare_all ds) ≡ zeros (twice_places (d.name.name ∷ ns) ds)
        → cond b (0 ∷ twice_places (d.name.name ∷ ns) (bare_all ds)) (twice_places (d.name.name ∷ ns) (bare_all ds))
        ≡ zeros (cond b (d.name.place ∷ twice_places (d.name.name ∷ ns) ds) (twice_places (d.name.name ∷ ns) ds))
    pick true h = ap {B = List ℕ} (λ l. 0 ∷ l) h
    pick false h = h

bare-undeclared : (ds : List Declaration) → undeclared_places (bare_all ds) ≡ zeros (undeclared_places ds)
bare-undeclared ds =
    let undeclared : List (List ℕ) → Use → Bool = λ ns u. not (any_of (same_bytes u.name) ns) in
    let places : List Use → List ℕ = λ us. map (λ (u : Use). u.place) us in
    ap (λ (ns : List (List ℕ)). places (filter_by (undeclared ns) (gather uses_of (bare_all ds)))) (bare-names ds)
    ∙ (ap (λ (us : List Use). places (filter_by (undeclared (declared_names ds)) us)) (gather-bare bare_use uses_of bare-uses ds)
    ∙ (ap places (filter_map bare_use (undeclared (declared_names ds)) (gather uses_of ds))
    ∙ zero-places bare_use (λ u. u.place) (λ u. u.place) (λ u. refl) (filter_by (undeclared (declared_names ds)) (gather uses_of ds))))

-- so nothing is found against declarations that are the same but for places
module _ (found : List Declaration → List ℕ) (h : (ds : List Declaration) → found (bare_all ds) ≡ zeros (found ds)) where
  none_found : (ds es : List Declaration) → bare_all ds ≡ bare_all es → found ds ≡ [] → found es ≡ []
  none_found ds es e n = map-empty (λ k. 0) (found es) (sym (h es) ∙ (sym (ap found e) ∙ (h ds ∙ ap zeros n)))

-- the normal form spells what the text does, but for places
pub normal-spells : (text : List ℕ) (ds : List Declaration) → parse text ≡ spells ds → (es : List Declaration) × (parse (normal text) ≡ spells es) × (bare_all ds ≡ bare_all es)
unfolding parse
normal-spells text ds e =
    let g = spells-goes (between []) text 0 ds e in
    let r = goes-spells (between []) (normal text) 0 (bare_declaration g.0) (bare_all g.1) (normal-goes text g.3) in
    (r.0, r.1, ap bare_all g.2 ∙ (map-reverse bare_declaration (g.0 ∷ g.1) ∙ sym r.2))

-- a text that spells something is not empty
spells-filled : (text : List ℕ) {ds : List Declaration} → parse text ≡ spells ds → T (is_empty text) → ⊥
unfolding parse run
spells-filled [] e t =
    never (cc)
spells-filled (b ∷ text) e t = t

-- refusals 2 and 3 against the normal form
given-none : (b : Bool) (f : Refusal) → (T b → ⊥) → given b f ≡ []
given-none true f n = absurd (n tt)
given-none false f n = refl

normal-right-length : (text : List ℕ) (es : List Declaration) → parse (normal text) ≡ spells es → length_refusals max_schema_bytes text ≡ [] → length_refusals max_schema_bytes (normal text) ≡ []
normal-right-length text es e n =
    given-none (is_empty (normal text) || ltb max_schema_bytes (length (normal text))) (at bad_length 0)
    (λ t. ⊎_elim (spells-filled (normal text) e)
    (λ l.
    let a = ltb→lt max_schema_bytes (length (normal text)) l in
    let c = normal-length text in
    given-free (is_empty text || ltb max_schema_bytes (length text)) (at bad_length 0) n
    (or_right (is_empty text) (ltb max_schema_bytes (length text)) (lt→ltb max_schema_bytes (length text) (omega arith))))
    (or_cases (is_empty (normal text)) (ltb max_schema_bytes (length (normal text))) t))

normal-right-bytes : (text : List ℕ) → byte_refusals text ≡ [] → byte_refusals (normal text) ≡ []
normal-right-bytes text e =
    ap (all_at bad_byte)
    (none-places is_foreign 0 (normal text)
    (λ x i t. ⊎_elim (λ j. places-none is_foreign 0 (map-empty (at bad_byte) (places_from 0 is_foreign text) e) j t)
    (λ q. subst (λ (b : ℕ). T (is_foreign b)) q t) (normal-byte text i)))

-- the normal form of an accepted text is accepted, with the same schema
pub normal-accepted : (text : List ℕ) (s : Schema) → read_schema text ≡ accepted s → read_schema (normal text) ≡ accepted s
normal-accepted text s e =
    let p = accepted-spelt text s e in
    let ds = p.declarations in
    let r = normal-spells text ds p.spelt in
    let es = r.0 in
    spelt-accepted (normal text) s
    record {
      declarations = es;
      spelt = r.1;
      gives = sym (bare-schema es) ∙ (sym (ap schema_of r.2) ∙ (bare-schema ds ∙ p.gives));
      right-length = normal-right-length text es r.1 p.right-length;
      right-bytes = normal-right-bytes text p.right-bytes;
      within-limits = none_found limit_places bare-limits ds es r.2 p.within-limits;
      declared-once = none_found (twice_places []) (bare_twice []) ds es r.2 p.declared-once;
      all-declared = none_found undeclared_places bare-undeclared ds es r.2 p.all-declared;
    }

accepted-by : {A : Type 0} (o : Outcome A) → T (is_accepted o) → (a : A) × (o ≡ accepted a)
accepted-by (accepted a) t = (a, refl)
accepted-by (refused f) t = absurd t

-- the test of records passes exactly those that reading can produce
pub record-producible : (r : List ℕ) → T (is_schema_record r) → SchemaProducible r
unfolding is_schema_record
record-producible r t =
    let c = and_cases (is_accepted (read_schema r)) (same_bytes (normal r) r) t in
    subst SchemaProducible (bytes-equal (normal r) r c.1) (producible r (accepted-by (read_schema r) c.0).1)

pub producible-record : {r : List ℕ} → SchemaProducible r → T (is_schema_record r)
unfolding is_schema_record
producible-record (producible {s = s} text e) =
    and_intro (is_accepted (read_schema (normal text))) (same_bytes (normal (normal text)) (normal text))
    (subst (λ (o : Outcome Schema). T (is_accepted o)) (sym (normal-accepted text s e)) tt)
    (subst (λ (x : List ℕ). T (same_bytes x (normal text))) (sym (normal-twice text)) (bytes_same (normal text)))

pub record-decides : (r : List ℕ) → T (is_schema_record r) ↔ SchemaProducible r
record-decides r = (record-producible r, producible-record)

-- the record that reading hands back holds the schema, and passes the test
pub record-of-accepted : (text : List ℕ) (s : Schema) → read_schema text ≡ accepted s → schema_record text ≡ normal text
unfolding schema_record
record-of-accepted text s e = ap (λ (o : Outcome Schema). record_by o (normal text)) e

pub schema_in-record : (text : List ℕ) (s : Schema) → read_schema text ≡ accepted s → schema_in (schema_record text) ≡ s
unfolding schema_in
schema_in-record text s e =
    ap (λ (r : List ℕ). result_or [] (read_schema r)) (record-of-accepted text s e) ∙ ap (λ (o : Outcome Schema). result_or [] o) (normal-accepted text s e)

pub record-passes : (text : List ℕ) (s : Schema) → read_schema text ≡ accepted s → T (is_schema_record (schema_record text))
record-passes text s e = subst (λ (r : List ℕ). T (is_schema_record r)) (sym (record-of-accepted text s e)) (producible-record (producible text e))

-- a record that passes the test holds a schema that was accepted, and is its own normal form
pub record-accepted : (r : List ℕ) → T (is_schema_record r) → read_schema r ≡ accepted (schema_in r)
unfolding is_schema_record schema_in
record-accepted r t =
    let a = accepted-by (read_schema r) (and_cases (is_accepted (read_schema r)) (same_bytes (normal r) r) t).0 in
    a.1 ∙ ap (λ (x : Schema). accepted x) (sym (ap (λ (o : Outcome Schema). result_or [] o) a.1))
