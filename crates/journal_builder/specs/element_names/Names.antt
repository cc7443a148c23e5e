-- The elements' names as words, and the element of a name by them.
use Rattle.std.specs.Prelude.{true, false, List, ◌≡◌, refl, ℕ, ◌+◌, ◌≤◌, ◌<◌, T, length, get_or}
use Rattle.std.proofs.Math.Option.{Option, none, some}
use Rattle.std.proofs.Common.{sym, subst, arith, below_more}
use Rattle.journal_builder.specs.declared.element_names.ElementNames.{ElementNames}
use Rattle.journal_builder.specs.element_names.Reading.{name_of}
use Rattle.schema_laws.specs.Accepted.{element_names}
use Rattle.schema_laws.specs.Elements.{named-exactly}
use Rattle.schema_laws.specs.Lists.{Distinct}
use Rattle.schema_spec.specs.Schemas.{Schema, element_named, name_at}
use Rattle.text.specs.name_words.Words.{words_of, Spells}
use Rattle.text_laws.specs.Lists.{bytes-equal, bytes_same}
use Rattle.text_laws.specs.Tests.{passed, failed}
use Rattle.text_spec.specs.Lists.{same_bytes}
use Rattle.text_spec.specs.Scans.{name_at as name_in}

-- the names are those at some places of a text
pub record NameRead (text places : List ℕ) (count : ℕ) (t : ElementNames) : Type 0 where
  pub counted : t.count ≡ count
  pub read : (a : ℕ) → a < count → name_of t.names a ≡ words_of (name_in text (get_or places a 0))

-- they are those of a schema's elements
pub record NamesOf (s : Schema) (t : ElementNames) : Type 0 where
  pub counted : t.count ≡ length s
  pub distinct : Distinct (element_names s)
  pub spelt : (a : ℕ) → a < length s → Spells (name_of t.names a) (name_at s a)

-- none of the first elements has the name
abbrev pub NoneNamed : Schema → List ℕ → ℕ → Type 0
NoneNamed s n e = (a : ℕ) → a < e → name_at s a ≡ n → ⊥

module _ (s : Schema) (t : ElementNames) (n : List ℕ) (names : NamesOf s t) where
  -- an element with the name is found
  pub found_at : (e : ℕ) → e < length s → same_bytes n (name_at s e) ≡ true → some e ≡ element_named s n
  found_at e l q = sym ((named-exactly s n e names.distinct).1 (l, sym (bytes-equal n (name_at s e) (passed q))))

  -- one element more has another name
  pub none_more : (e : ℕ) → NoneNamed s n e → same_bytes n (name_at s e) ≡ false → NoneNamed s n (e + 1)
  none_more e h q = below_more (λ a. name_at s a ≡ n → ⊥) e h (λ z. failed q (subst (λ (m : List ℕ). T (same_bytes n m)) (sym z) (bytes_same n)))

  -- no element has it
  pub none_found : (e : ℕ) → length s ≤ e → NoneNamed s n e → none ≡ element_named s n
  none_found e l h = pick (element_named s n) refl
    where
      pick : (o : Option ℕ) → element_named s n ≡ o → none ≡ o
      pick none q = refl
      pick (some a) q = let z = (named-exactly s n a names.distinct).0 q in absurd (h a (omega (arith, z.0)) z.1)
