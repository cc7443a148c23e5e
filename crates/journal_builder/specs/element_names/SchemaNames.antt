-- The words of the names of a compiled schema are those of its elements.
use Rattle.std.specs.Prelude.{◌&&◌, ◌||◌, ◌≡◌, refl, ℕ, zero, suc, ◌≤◌, ◌<◌, T, eqb, leb, length, take, get_or}
use mathlib.Core.List.Memᴰ.{head as here}
use mathlib.Core.List.Memᴰ.{tail as there}
use mathlib.Core.List.{List, [], ◌∷◌, map, Memᴰ as In}
use Rattle.std.proofs.Common.{⊎_elim, sym, ap, subst, ◌∙◌, arith, le-leb, leb-true, eqb→eq}
use Rattle.compiled_schema.specs.Compiled.{CompiledOf}
use Rattle.compiled_schema.specs.declared.CompiledSchema.{CompiledSchema}
use Rattle.journal_builder.specs.declared.element_names.ElementNames.{ElementNames}
use Rattle.journal_builder.specs.element_names.Names.{NameRead, NamesOf}
use Rattle.journal_builder.specs.element_names.Reading.{name_of}
use Rattle.schema_laws.specs.Accepted.{accepted-distinct, accepted-name}
use Rattle.schema_spec.specs.Reading.{read_schema}
use Rattle.schema_spec.specs.Schemas.{Schema, Element, name_at}
use Rattle.text.specs.name_words.Words.{words_of, Spells}
use Rattle.text_laws.specs.Bytes.{name-bytes}
use Rattle.text_laws.specs.Tests.{and_cases, and_intro, or_cases, true_of}
use Rattle.text_spec.specs.Bytes.{is_between, is_letter, is_digit, is_name, starts_name, continues_name}
use Rattle.text_spec.specs.Limits.{max_name_bytes}
use Rattle.text_spec.specs.Lists.{all_of}
use Rattle.text_spec.specs.Refusals.{accepted}
use Rattle.text_spec.specs.Scans.{name_at as name_in}

-- the names at some places, taken one by one
at_place : (f : ℕ → List ℕ) (n : ℕ) (ps : List ℕ) (s : Schema) (a : ℕ) → map f (take n ps) ≡ map (λ e. e.name) s → a < length s → f (get_or ps a 0) ≡ name_at s a
at_place f n ps [] a e l = absurd (omega arith)
at_place f zero ps (x ∷ s) a e l = absurd (let z : ◌≡◌ {A = ℕ} 0 (suc (length (map (λ (y : Element). y.name) s))) = ap length e in omega arith)
at_place f (suc n) [] (x ∷ s) a e l = absurd (let z : ◌≡◌ {A = ℕ} 0 (suc (length (map (λ (y : Element). y.name) s))) = ap length e in omega arith)
at_place f (suc n) (p ∷ ps) (x ∷ s) zero e l = cc
at_place f (suc n) (p ∷ ps) (x ∷ s) (suc a) e l = at_place f n ps s a (cc) (omega arith)

element-in : (s : Schema) (a : ℕ) → a < length s → (x : Element) × In x s × (x.name ≡ name_at s a)
element-in [] a l = absurd (omega arith)
element-in (x ∷ s) zero l = (x, here refl, refl)
element-in (x ∷ s) (suc a) l = let r = element-in s a (omega arith) in (r.0, there r.1, r.2)

-- no byte of a name is 0, and none is over 255
name-byte : (b : ℕ) → T (continues_name b) → T (is_between 1 255 b)
name-byte b t = and_intro (leb 1 b) (leb b 255) (subst T (sym (le-leb 1 b low)) tt) (subst T (sym (le-leb b 255 high)) tt)
  where
    between : (x y : ℕ) → T (is_between x y b) → (x ≤ b) × (b ≤ y)
    between x y h = let c = and_cases (leb x b) (leb b y) h in (leb-true x b (true_of (leb x b) c.0), leb-true b y (true_of (leb b y) c.1))

    both : (1 ≤ b) × (b ≤ 255)
    both =
        ⊎_elim
        (λ l. ⊎_elim (λ h. let c = between 65 90 h in (omega arith, omega arith)) (λ h. let c = between 97 122 h in (omega arith, omega arith)) (or_cases (is_between 65 90 b) (is_between 97 122 b) l))
        (λ r. ⊎_elim (λ h. let c = between 48 57 h in (omega arith, omega arith))
        (λ q. ⊎_elim (λ h. let c = eqb→eq b 0x2D h in (omega arith, omega arith))
        (λ p. ⊎_elim (λ h. let c = eqb→eq b 0x2E h in (omega arith, omega arith)) (λ h. let c = eqb→eq b 0x5F h in (omega arith, omega arith)) (or_cases (eqb b 0x2E) (eqb b 0x5F) p))
        (or_cases (eqb b 0x2D) (eqb b 0x2E || eqb b 0x5F) q))
        (or_cases (is_digit b) (eqb b 0x2D || (eqb b 0x2E || eqb b 0x5F)) r))
        (or_cases (is_letter b) (is_digit b || (eqb b 0x2D || (eqb b 0x2E || eqb b 0x5F))) t)

    low : 1 ≤ b
    low = both.0

    high : b ≤ 255
    high = both.1

all-bytes : (n : List ℕ) → T (all_of continues_name n) → T (all_of (is_between 1 255) n)
all-bytes [] t = tt
all-bytes (b ∷ n) t =
    let c = and_cases (continues_name b) (all_of continues_name n) t in
    and_intro (is_between 1 255 b) (all_of (is_between 1 255) n) (name-byte b c.0) (all-bytes n c.1)

name-short : (n : List ℕ) → T (is_name n) → length n ≤ 32
name-short [] t = omega arith
name-short (b ∷ n) t =
    let c = and_cases (starts_name b) (all_of continues_name n && leb (length (b ∷ n)) max_name_bytes) t in
    let d = and_cases (all_of continues_name n) (leb (length (b ∷ n)) max_name_bytes) c.1 in
    let l : length (b ∷ n) ≤ max_name_bytes = leb-true (length (b ∷ n)) max_name_bytes (true_of (leb (length (b ∷ n)) max_name_bytes) d.1) in
    omega arith

module _ (text : List ℕ) (s : Schema) (read : read_schema text ≡ accepted s) (t : CompiledSchema) (made : CompiledOf text s t) where
  pub names_of : (names : ElementNames) → NameRead text t.names t.relations.count names → NamesOf s names
  names_of names h =
      record { counted = h.counted ∙ made.counted; distinct = accepted-distinct text s read; spelt = spelt }
    where
      spelt : (a : ℕ) → a < length s → Spells (name_of names.names a) (name_at s a)
      spelt a l =
          let x = element-in s a l in
          let n = subst (λ (m : List ℕ). T (is_name m)) x.2 (accepted-name text s read x.0 x.1) in
          record {
            spelt = h.read a (omega (arith, made.counted)) ∙ ap words_of (at_place (name_in text) t.relations.count t.names s a made.named l);
            short = name-short (name_at s a) n;
            filled = all-bytes (name_at s a) (name-bytes (name_at s a) n);
          }
