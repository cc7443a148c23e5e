-- Reading a schema text means what the grammar and the conditions say: the first refusal that applies, or the schema that the
-- text's derivation gives.
use mathlib.Core.List.Memᴰ.{head as here}
use mathlib.Core.List.Memᴰ.{tail as there}
use mathlib.Core.List.{List, [], ◌∷◌, ◌++◌, Memᴰ as In}
use Rattle.std.specs.Prelude.{◌≡◌, ℕ}
use Rattle.std.proofs.Math.Path.{refl}
use Rattle.std.proofs.Common.{sym, ap, subst, arith}
use Rattle.schema_laws.specs.reading.Complete.{schema-complete, schema-unique}
use Rattle.schema_laws.specs.reading.Conditions.{limit-found, limit-listed, twice_found, twice-listed, undeclared-found, undeclared-listed}
use Rattle.schema_laws.specs.reading.Places.{schema-departs, departs-schema}
use Rattle.schema_laws.specs.reading.Sound.{schema-sound}
use Rattle.schema_spec.specs.Conditions.{SchemaApplies, length-2, byte-3, grammar-4, limit-5, twice-6, undeclared-7, SchemaGives, gives}
use Rattle.schema_spec.specs.Declarations.{Declaration}
use Rattle.schema_spec.specs.Grammar.{SchemaText}
use Rattle.schema_spec.specs.Machine.{parse}
use Rattle.schema_spec.specs.Reading.{limit_places, twice_places, undeclared_places, parsed_refusals, parsed_schema, schema_refusals, read_schema}
use Rattle.schema_spec.specs.Schemas.{Schema, schema_of}
use Rattle.text_laws.specs.Order.{Found, Listed, judged-first, judged-once, found-append, found_all, listed-left, listed-right, listed-all}
use Rattle.text_laws.specs.Texts.{length_found, length-listed, bytes-found, bytes-listed}
use Rattle.text_spec.specs.Limits.{max_schema_bytes}
use Rattle.text_spec.specs.Machines.{Parsed, spells, departs}
use Rattle.text_spec.specs.Refusals.{Reason, bad_schema, over_schema_limit, declared_twice, undeclared_in_model, Refusal, all_at, Outcome, Judged}
use Rattle.text_spec.specs.Texts.{length_refusals, byte_refusals}

-- 5, 6 and 7 as they are found
abbrev limits : List Declaration → List Refusal
limits ds = all_at over_schema_limit (limit_places ds)

abbrev repeated : List Declaration → List Refusal
repeated ds = all_at declared_twice (twice_places [] ds)

abbrev missing : List Declaration → List Refusal
missing ds = all_at undeclared_in_model (undeclared_places ds)

module _ (text : List ℕ) where
  -- what is found by reading applies
  parsed-found : (x : Parsed (List Declaration)) → parse text ≡ x → Found (SchemaApplies text) (parsed_refusals x)
  parsed-found (departs k) e = found_all (SchemaApplies text) bad_schema (k ∷ []) only
    where
      only : (j : ℕ) → In j (k ∷ []) → SchemaApplies text bad_schema j
      only j (here i) = subst (SchemaApplies text bad_schema) (sym i) (grammar-4 (schema-departs text k e))
      only j (there i) = elim i [ ]
  parsed-found (spells ds) e =
      let m : SchemaText text ds = schema-sound text ds e in
      found-append (SchemaApplies text) (limits ds) (repeated ds ++ missing ds)
      (found_all (SchemaApplies text) over_schema_limit (limit_places ds) (λ k i. limit-5 m (limit-found ds k i)))
      (found-append (SchemaApplies text) (repeated ds) (missing ds)
      (found_all (SchemaApplies text) declared_twice (twice_places [] ds) (λ k i. twice-6 m (twice_found ds k i)))
      (found_all (SchemaApplies text) undeclared_in_model (undeclared_places ds) (λ k i. undeclared-7 m (undeclared-found ds k i))))

  schema-found : Found (SchemaApplies text) (schema_refusals text)
  unfolding schema_refusals
  schema-found =
      found-append (SchemaApplies text) (length_refusals max_schema_bytes text) (byte_refusals text ++ parsed_refusals (parse text))
      (length_found (SchemaApplies text) max_schema_bytes text (λ k a. length-2 a))
      (found-append (SchemaApplies text) (byte_refusals text) (parsed_refusals (parse text)) (bytes-found (SchemaApplies text) text (λ k a. byte-3 a)) (parsed-found (parse text) refl))

  -- what applies is found
  parsed-listed : (x : Parsed (List Declaration)) {r : Reason} {k : ℕ} → parse text ≡ x → Listed (parsed_refusals x) r k → Listed (schema_refusals text) r k
  unfolding schema_refusals
  parsed-listed x {r} {k} e l =
      listed-right (length_refusals max_schema_bytes text) (byte_refusals text ++ parsed_refusals (parse text))
      (listed-right (byte_refusals text) (parsed_refusals (parse text)) (subst (λ (y : Parsed (List Declaration)). Listed (parsed_refusals y) r k) (sym e) l))

  schema-listed : (r : Reason) (k : ℕ) → SchemaApplies text r k → Listed (schema_refusals text) r k
  unfolding schema_refusals
  schema-listed r k (length-2 a) =
      listed-left (length_refusals max_schema_bytes text) (byte_refusals text ++ parsed_refusals (parse text)) (length-listed max_schema_bytes text k a)
  schema-listed r k (byte-3 a) =
      listed-right (length_refusals max_schema_bytes text) (byte_refusals text ++ parsed_refusals (parse text))
      (listed-left (byte_refusals text) (parsed_refusals (parse text)) (bytes-listed text k a))
  schema-listed r k (grammar-4 d) = parsed-listed (departs k) (departs-schema text k d) (k, here refl, omega arith)
  schema-listed r k (limit-5 {ds = ds} m a) =
      parsed-listed (spells ds) (schema-complete m)
      (listed-left (limits ds) (repeated ds ++ missing ds)
      (listed-all over_schema_limit (limit-listed ds a)))
  schema-listed r k (twice-6 {ds = ds} m a) =
      parsed-listed (spells ds) (schema-complete m)
      (listed-right (limits ds) (repeated ds ++ missing ds)
      (listed-left (repeated ds) (missing ds) (listed-all declared_twice (twice-listed ds a))))
  schema-listed r k (undeclared-7 {ds = ds} m a) =
      parsed-listed (spells ds) (schema-complete m)
      (listed-right (limits ds) (repeated ds ++ missing ds)
      (listed-right (repeated ds) (missing ds) (listed-all undeclared_in_model (undeclared-listed ds a))))

  -- a text against which nothing is found gives its derivation's schema
  schema-given : (x : Parsed (List Declaration)) → parse text ≡ x → ((r : Reason) (k : ℕ) → SchemaApplies text r k → ⊥) → SchemaGives text (parsed_schema x)
  schema-given (departs k) e n = absurd (n bad_schema k (grammar-4 (schema-departs text k e)))
  schema-given (spells ds) e n = gives (schema-sound text ds e)

-- Reading a schema text: it is turned back by the first refusal that applies, or it gives the schema of its derivation.
pub schema-read : (text : List ℕ) → Judged (SchemaApplies text) (SchemaGives text) (read_schema text)
unfolding read_schema
schema-read text =
    judged-first (SchemaApplies text) (SchemaGives text) (schema_refusals text) (parsed_schema (parse text)) (schema-found text) (schema-listed text) (schema-given text (parse text) refl)

-- a text gives at most one schema
gives-once : (text : List ℕ) (s t : Schema) → SchemaGives text s → SchemaGives text t → s ≡ t
gives-once text s t (gives m) (gives n) = ap schema_of (schema-unique m n)

-- and no other outcome of a text is so
pub schema-read-once : (text : List ℕ) {o : Outcome Schema} → Judged (SchemaApplies text) (SchemaGives text) o → o ≡ read_schema text
schema-read-once text j = judged-once (SchemaApplies text) (SchemaGives text) (gives-once text) j (schema-read text)
