-- Laws of the judgement: each refusal in its order, and acceptance.
use Rattle.std.specs.Prelude.{Bool, true, false, ◌||◌, ◌≡◌, refl, ℕ, ◌+◌, ◌-◌, ◌≤◌, ◌<◌, ltb, length, take, drop, replicate, Option as Maybe, Some, None, Result, Ok, Err}
use mathlib.Core.List.Memᴰ.{head as here}
use mathlib.Core.List.Memᴰ.{tail as there}
use mathlib.Core.List.{List, [], ◌∷◌, ◌++◌, map, map-map, append-nil, Memᴰ as In}
use Rattle.std.proofs.Math.Option.{Option, none, some}
use Rattle.std.proofs.Math.Path.{sym, ap, ap₂}
use Rattle.std.proofs.Common.{subst, ◌∙◌, arith, lt-ltb, le-ltb, take-append-drop, take_at, length-take-le}
use Rattle.std.proofs.lemmas.List.{length-map}
use Rattle.std.proofs.Math.Seq.{take-length}
use Rattle.schema.specs.Judging.{sized, JudgedAs, JudgedInto, declared_at, used_in}
use Rattle.schema.specs.declarations.DeclarationLaws.{declared-names}
use Rattle.schema.specs.declared.places.Counts.{Counts}
use Rattle.schema.specs.particles.Readings.{use_at, Between}
use Rattle.schema.specs.places.PlaceLaws.{places-back}
use Rattle.schema.specs.places.Whole.{WithinLimits, Limits, AllSpelt, AllRead}
use Rattle.schema_laws.specs.Accepted.{names-of-elements}
use Rattle.schema_reader.specs.declared_names.Names.{names_before, twice_at, missing_at, Resolved}
use Rattle.schema_reader.specs.declared_names.Naming.{twice-places, undeclared-places}
use Rattle.schema_reader.specs.declared_names.Resolving.{used-elements}
use Rattle.schema_reader.specs.judging_laws.Order.{Later, later-none, later-all, later-append, least_first, place_found, place_none, places-rise, filter-rise, twice-rise}
use Rattle.schema_reader.specs.judging_laws.Spellings.{JudgedNames, Readable, Spelling}
use Rattle.schema_spec.specs.Declarations.{Use, Declaration}
use Rattle.schema_spec.specs.Machine.{parse}
use Rattle.schema_spec.specs.Reading.{limit_places, twice_places, undeclared_places, uses_of, parsed_refusals, parsed_schema, schema_refusals, read_schema}
use Rattle.schema_spec.specs.Schemas.{Schema, schema_of, resolved, declared_names}
use Rattle.text.specs.declared.refusals.Reason.{Reason as Why}
use Rattle.text.specs.declared.refusals.Reason.TheVariants.{BadLength, BadByte, BadSchema, OverSchemaLimit, DeclaredTwice, UndeclaredInModel}
use Rattle.text.specs.declared.refusals.Refusal.{Refusal as Told}
use Rattle.text.specs.refusals.Refusals.{reason_in, refusal}
use Rattle.text_laws.specs.Cells.{drop-replicate, padded-content}
use Rattle.text_laws.specs.Tests.{never}
use Rattle.text_spec.specs.Bytes.{is_foreign}
use Rattle.text_spec.specs.Cells.{padded}
use Rattle.text_spec.specs.Limits.{max_declarations, max_schema_bytes}
use Rattle.text_spec.specs.Lists.{is_empty, first, places_from, gather}
use Rattle.text_spec.specs.Machines.{Parsed, spells, departs}
use Rattle.text_spec.specs.Refusals.{Reason, bad_length, bad_byte, bad_schema, over_schema_limit, declared_twice, undeclared_in_model, number_of, Refusal, at, all_at, given, first_of, accepted, refused, by_first, judged}
use Rattle.text_spec.specs.Scans.{name_at}
use Rattle.text_spec.specs.Texts.{length_refusals, byte_refusals}

-- ---- a refusal
-- the first refusal that applies
abbrev FirstIs : List ℕ → Refusal → Type 0
FirstIs text f = first_of (schema_refusals text) ≡ some f

first-outcome : (text : List ℕ) (f : Refusal) → FirstIs text f → read_schema text ≡ refused f
unfolding read_schema
first-outcome text f e = ap (λ (o : Option Refusal). by_first o (parsed_schema (parse text))) e

read-refused : (text : List ℕ) (k : Why) (p : ℕ) → FirstIs text (at (reason_in k) p) → JudgedAs text (Err (refusal k p))
read-refused text k p e = record { outcome = ap sized (sym (first-outcome text (at (reason_in k) p) e)) }

not-accepted : (text : List ℕ) {f : Told} → JudgedAs text (Err f) → (s : Schema) → read_schema text ≡ accepted s → ⊥
not-accepted text {f} J s e =
    let z : refused (at (reason_in f.reason) f.place) ≡ accepted (length s) = J.outcome ∙ ap sized e in
    never (cc)

module _ {text names uses : List ℕ} {f : Told} (J : JudgedAs text (Err f)) where
  pub refused-into : JudgedInto text names uses (Err f)
  refused-into = record { outcome = J.outcome; located = λ s e. absurd (not-accepted text J s e) }

  pub refused-names : {uses' : List ℕ} → length uses' ≡ length uses → JudgedNames text names uses uses' (Err f)
  refused-names l =
      record { outcome = J.outcome; long = l; named = λ s e. absurd (not-accepted text J s e); elements = λ s e. absurd (not-accepted text J s e) }

-- ---- acceptance
accepted-outcome : (text : List ℕ) {ds : List Declaration} → parse text ≡ spells ds → schema_refusals text ≡ [] → read_schema text ≡ accepted (schema_of ds)
unfolding read_schema first_of
accepted-outcome text e f = ap₂ (λ (fs : List Refusal) (q : Parsed (List Declaration)). judged fs (parsed_schema q)) f e

elements : (ds : List Declaration) → length (schema_of ds) ≡ length ds
unfolding schema_of
elements ds = length-map ds (resolved (declared_names ds))

-- ---- 2 and 3
parsed-later : (r : Reason) → number_of r < 4 → (q : Parsed (List Declaration)) → Later r (parsed_refusals q)
parsed-later r h (departs k) = later-all r bad_schema (k ∷ []) h
parsed-later r h (spells ds) =
    later-append r (all_at over_schema_limit (limit_places ds)) (all_at declared_twice (twice_places [] ds) ++ all_at undeclared_in_model (undeclared_places ds)) (later-all r over_schema_limit (limit_places ds) (omega arith))
    (later-append r (all_at declared_twice (twice_places [] ds)) (all_at undeclared_in_model (undeclared_places ds)) (later-all r declared_twice (twice_places [] ds) (omega arith)) (later-all r undeclared_in_model (undeclared_places ds) (omega arith)))

byte-first : (text : List ℕ) → length_refusals max_schema_bytes text ≡ [] → (k : ℕ) → In k (places_from 0 is_foreign text) → ((x : ℕ) → In x (places_from 0 is_foreign text) → k ≤ x) → FirstIs text (at bad_byte k)
unfolding schema_refusals
byte-first text e k i l =
    ap (λ (x : List Refusal). first_of (x ++ (byte_refusals text ++ parsed_refusals (parse text)))) e
    ∙ least_first bad_byte (parsed_refusals (parse text)) (parsed-later bad_byte (omega arith) (parse text)) (places_from 0 is_foreign text) k i l

module _ (text : List ℕ) where
  length-first : (is_empty text || ltb max_schema_bytes (length text)) ≡ true → FirstIs text (at bad_length 0)
  unfolding schema_refusals
  length-first e =
      ap (λ (t : Bool). first_of (given t (at bad_length 0) ++ (byte_refusals text ++ parsed_refusals (parse text)))) e
      ∙ least_first bad_length (byte_refusals text ++ parsed_refusals (parse text))
      (later-append bad_length (byte_refusals text) (parsed_refusals (parse text)) (later-all bad_length bad_byte (places_from 0 is_foreign text) (omega arith)) (parsed-later bad_length (omega arith) (parse text)))
      (0 ∷ []) 0 (here refl) (λ x i. omega arith)

  pub read-empty : length text ≡ 0 → JudgedAs text (Err (refusal BadLength 0))
  read-empty e = read-refused text BadLength 0 (length-first (go text e))
    where
      go : (t : List ℕ) → length t ≡ 0 → (is_empty t || ltb max_schema_bytes (length t)) ≡ true
      go [] e = refl
      go (b ∷ t) e = absurd (omega arith)

  pub read-long : max_schema_bytes < length text → JudgedAs text (Err (refusal BadLength 0))
  read-long h = read-refused text BadLength 0 (length-first (go (is_empty text)))
    where
      go : (t : Bool) → (t || ltb max_schema_bytes (length text)) ≡ true
      go true = refl
      go false = lt-ltb max_schema_bytes (length text) h

module _ (text : List ℕ) (n : length text ≡ 0 → ⊥) (h : length text ≤ max_schema_bytes) where
  length-passes : length_refusals max_schema_bytes text ≡ []
  length-passes = ap (λ (t : Bool). given t (at bad_length 0)) (go text n h)
    where
      go : (t : List ℕ) → (length t ≡ 0 → ⊥) → length t ≤ max_schema_bytes → (is_empty t || ltb max_schema_bytes (length t)) ≡ false
      go [] n h = absurd (n refl)
      go (b ∷ t) n h = le-ltb max_schema_bytes (length (b ∷ t)) h

  rising : Between 0 (length text) (places_from 0 is_foreign text)
  rising = subst (λ (k : ℕ). Between 0 k (places_from 0 is_foreign text)) (let e : 0 + length text ≡ length text = omega arith in e) (places-rise is_foreign 0 text)

  pub read-foreign : {k : ℕ} → some k ≡ first (places_from 0 is_foreign text) → JudgedAs text (Err (refusal BadByte k))
  read-foreign {k} e = let z = place_found 0 (length text) (places_from 0 is_foreign text) rising e in read-refused text BadByte k (byte-first text length-passes k z.0 z.1)

  pub readable : none ≡ first (places_from 0 is_foreign text) → Readable text
  readable e = record { right-length = length-passes; right-bytes = ap (all_at bad_byte) (place_none (places_from 0 is_foreign text) e); short = h }

-- ---- 4 to 7
module _ (text : List ℕ) (R : Readable text) where
  refusals-from : {q : Parsed (List Declaration)} → parse text ≡ q → schema_refusals text ≡ parsed_refusals q
  unfolding schema_refusals
  refusals-from e = ap₂ (λ (x y : List Refusal). x ++ (y ++ parsed_refusals (parse text))) R.right-length R.right-bytes ∙ ap parsed_refusals e

  pub read-departs : {j : ℕ} → parse text ≡ departs j → JudgedAs text (Err (refusal BadSchema j))
  read-departs {j} e = read-refused text BadSchema j (ap first_of (refusals-from e) ∙ least_first bad_schema [] (later-none bad_schema) (j ∷ []) j (here refl) (λ x i. only i))
    where
      only : {x : ℕ} → In x (j ∷ []) → j ≤ x
      only (here q) = omega arith
      only (there i) = elim i [ ]

  pub read-over : {ds : List Declaration} (k : ℕ) → parse text ≡ spells ds → In k (limit_places ds) → ((x : ℕ) → In x (limit_places ds) → k ≤ x) → JudgedAs text (Err (refusal OverSchemaLimit k))
  read-over {ds} k e i l =
      read-refused text OverSchemaLimit k
      (ap first_of (refusals-from e)
      ∙ least_first over_schema_limit (all_at declared_twice (twice_places [] ds) ++ all_at undeclared_in_model (undeclared_places ds))
      (later-append over_schema_limit (all_at declared_twice (twice_places [] ds)) (all_at undeclared_in_model (undeclared_places ds)) (later-all over_schema_limit declared_twice (twice_places [] ds) (omega arith))
      (later-all over_schema_limit undeclared_in_model (undeclared_places ds) (omega arith)))
      (limit_places ds) k i l)

module _ {text names uses : List ℕ} (S : Spelling text names uses) where
  declared-by : map (λ e. e.name) S.declarations ≡ map (use_at text) names
  declared-by = S.kept.declared-at ∙ ap (map (use_at text)) (take-length names)

  used-by : gather uses_of S.declarations ≡ map (use_at text) uses
  used-by = S.kept.used-at ∙ ap (map (use_at text)) (take-length uses)

  names-rise : Between 0 (length text) names
  names-rise = subst (λ (l : List ℕ). Between 0 (length text) l) (take-length names) S.kept.declared-rise

  uses-rise : Between 0 (length text) uses
  uses-rise = subst (λ (l : List ℕ). Between 0 (length text) l) (take-length uses) S.kept.used-rise

  all-refusals : schema_refusals text ≡ all_at declared_twice (twice_at text [] names) ++ all_at undeclared_in_model (missing_at text (names_before text names (length names)) uses)
  all-refusals =
      refusals-from text S.readable S.spelt
      ∙ ap (λ (l : List ℕ). all_at over_schema_limit l ++ (all_at declared_twice (twice_places [] S.declarations) ++ all_at undeclared_in_model (undeclared_places S.declarations))) S.kept.free
      ∙ ap₂ (λ (x y : List ℕ). all_at declared_twice x ++ all_at undeclared_in_model y) (twice-places text [] S.declarations names declared-by) (undeclared-places text S.declarations names uses declared-by used-by)

  pub read_twice : {again : ℕ} → some again ≡ first (twice_at text [] names) → JudgedAs text (Err (refusal DeclaredTwice again))
  read_twice {again} t =
      let z = place_found 0 (length text) (twice_at text [] names) (twice-rise text [] 0 (length text) names names-rise) t in
      read-refused text DeclaredTwice again
      (ap first_of all-refusals
      ∙ least_first declared_twice (all_at undeclared_in_model (missing_at text (names_before text names (length names)) uses))
      (later-all declared_twice undeclared_in_model (missing_at text (names_before text names (length names)) uses) (omega arith)) (twice_at text [] names) again z.0 z.1)

  module _ (t : none ≡ first (twice_at text [] names)) where
    lost-refusals : schema_refusals text ≡ all_at undeclared_in_model (missing_at text (names_before text names (length names)) uses)
    lost-refusals =
        all-refusals
        ∙ ap (λ (x : List ℕ). all_at declared_twice x ++ all_at undeclared_in_model (missing_at text (names_before text names (length names)) uses)) (place_none (twice_at text [] names) t)

    pub read-undeclared : {lost : ℕ} → some lost ≡ first (missing_at text (names_before text names (length names)) uses) → JudgedAs text (Err (refusal UndeclaredInModel lost))
    read-undeclared {lost} u =
        let z = place_found 0 (length text) (missing_at text (names_before text names (length names)) uses) (filter-rise _ 0 (length text) uses uses-rise) u in
        read-refused text UndeclaredInModel lost
        (ap first_of (lost-refusals ∙ sym (append-nil (all_at undeclared_in_model (missing_at text (names_before text names (length names)) uses))))
        ∙ least_first undeclared_in_model [] (later-none undeclared_in_model) (missing_at text (names_before text names (length names)) uses) lost z.0 z.1)

    names-here : map (name_at text) names ≡ declared_names S.declarations
    names-here = sym (declared-names text S.declarations names declared-by)

    named_here : map (name_at text) names ≡ map (λ e. e.name) (schema_of S.declarations)
    unfolding schema_of
    named_here = names-here ∙ sym (names-of-elements (declared_names S.declarations) S.declarations)

    pub read-accepted : {uses' : List ℕ} {u : Unit {0}} → Resolved text names uses uses' (Ok u) → JudgedNames text names uses uses' (Ok (length names))
    read-accepted {uses'} R =
        record {
          outcome =
              ap accepted (sym (elements S.declarations ∙ sym (length-map S.declarations (λ e. e.name)) ∙ ap length declared-by ∙ length-map names (use_at text)))
              ∙ ap sized (sym accepts);
          long = R.long;
          named = λ s e. subst (λ (x : Schema). map (name_at text) names ≡ map (λ e. e.name) x) (given-schema s e) named_here;
          elements = λ s e. subst (λ (x : Schema). uses' ≡ used_in x) (given-schema s e) used-here;
        }
      where
        accepts : read_schema text ≡ accepted (schema_of S.declarations)
        accepts = accepted-outcome text S.spelt (lost-refusals ∙ ap (all_at undeclared_in_model) R.says.0)

        given-schema : (s : Schema) → read_schema text ≡ accepted s → schema_of S.declarations ≡ s
        given-schema s e =
            let z : accepted (schema_of S.declarations) ≡ accepted s = sym accepts ∙ e in
            cc

        used-here : uses' ≡ used_in (schema_of S.declarations)
        used-here =
            R.says.1
            ∙ used-elements text names uses S.declarations names-here used-by
            (undeclared-places text S.declarations names uses declared-by used-by ∙ R.says.0)

-- ---- from the lent places
module _ {s start names uses : List ℕ} {r : Result Counts ℕ} (A : AllRead s start names uses r) where
  pub judge-departs : {j : ℕ} → Readable s → r ≡ Err j → JudgedAs s (Err (refusal BadSchema j))
  judge-departs R u = read-departs s R (subst (AllRead s start names uses) u A).says

  module _ {c : Counts} (u : r ≡ Ok c) where
    spelt : AllSpelt s c start names uses
    spelt = (subst (AllRead s start names uses) u A).says

    pub judge-over : {over : ℕ} → Readable s → c.over ≡ Some over → JudgedAs s (Err (refusal OverSchemaLimit over))
    judge-over {over} R e =
        let L = subst (λ (o : Maybe ℕ). Limits s spelt.declarations c.d c.n o (length s) names uses) e spelt.limits in
        read-over s R over spelt.spelt L.2 L.3

    module _ (e : c.over ≡ None) where
      kept-all : WithinLimits s spelt.declarations c.d c.n (length s) names uses
      kept-all = subst (λ (o : Maybe ℕ). Limits s spelt.declarations c.d c.n o (length s) names uses) e spelt.limits

      pub judge-room : (c.d ≤ length names) × (c.n ≤ length uses) × (c.d ≡ length (take c.d names)) × (c.n ≡ length (take c.n uses))
      judge-room =
          let a = kept-all.some in
          let b = kept-all.small in
          let x = spelt.room in
          let y = spelt.room-uses in
          (omega arith, omega arith, sym (length-take-le c.d names (omega arith)), sym (length-take-le c.n uses (omega arith)))

      pub judge-spelling : Readable s → Spelling s (take c.d names) (take c.n uses)
      judge-spelling R =
          let d = judge-room.2 in
          let n = judge-room.3 in
          record {
            readable = R;
            declarations = spelt.declarations;
            spelt = spelt.spelt;
            kept =
                record {
                  free = kept-all.free;
                  some = let z = kept-all.some in omega arith;
                  small = let z = kept-all.small in omega arith;
                  declared-at = kept-all.declared-at ∙ ap (map (use_at s)) (sym (take-length (take c.d names)));
                  used-at = kept-all.used-at ∙ ap (map (use_at s)) (sym (take-length (take c.n uses)));
                  declared-rise = subst (λ (l : List ℕ). Between 0 (length s) l) (sym (take-length (take c.d names))) kept-all.declared-rise;
                  used-rise = subst (λ (l : List ℕ). Between 0 (length s) l) (sym (take-length (take c.n uses))) kept-all.used-rise;
                };
          }

      -- the places that the declarations have
      places-here : take c.d names ≡ map (λ d. d.name.place) spelt.declarations
      places-here =
          sym (places-back s (take c.d names)) ∙ ap (map (λ u. u.place)) (sym kept-all.declared-at)
          ∙ map-map (λ (u : Use). u.place) (λ (d : Declaration). d.name) spelt.declarations

      pub judge-into : start ≡ replicate max_declarations 0 → {uses' : List ℕ} {j : Result ℕ Told} → JudgedNames s (take c.d names) (take c.n uses) uses' j
          → JudgedInto s names (uses' ++ drop c.n uses) j
      judge-into clear {uses'} J =
          record {
            outcome = J.outcome;
            located =
                λ x e.
                let count : length x ≡ c.d = sym (length-map x (λ e. e.name)) ∙ sym (ap length (J.named x e)) ∙ length-map (take c.d names) (name_at s) ∙ sym judge-room.2 in
                record {
                  places = places-padded;
                  named = ap (λ (n : ℕ). map (name_at s) (take n names)) count ∙ J.named x e;
                  elements = ap (λ (l : List ℕ). take (length (used_in x)) (l ++ drop c.n uses)) (J.elements x e) ∙ take_at (used_in x) (drop c.n uses) (length (used_in x)) refl;
                };
          }
        where
          places-padded : names ≡ padded max_declarations (declared_at (parse s))
          places-padded =
              let some = kept-all.some in
              let long : length (map (λ d. d.name.place) spelt.declarations) ≡ c.d = sym (ap length places-here) ∙ sym judge-room.2 in
              sym (take-append-drop c.d names) ∙ ap₂ (λ (x y : List ℕ). x ++ y) places-here (spelt.rest ∙ ap (drop c.d) clear ∙ drop-replicate c.d max_declarations 0 ∙ ap (λ (n : ℕ). replicate (max_declarations - n) 0) (sym long))
              ∙ sym (padded-content max_declarations (map (λ d. d.name.place) spelt.declarations) (omega arith)) ∙ ap (λ (q : Parsed (List Declaration)). padded max_declarations (declared_at q)) (sym spelt.spelt)
