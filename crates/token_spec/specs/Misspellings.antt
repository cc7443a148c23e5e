-- Refusal 11: where a journal's bytes are not spelt by tokens; no machine is mentioned.
use Rattle.std.specs.Prelude.{List, [], ◌∷◌, ◌++◌, ◌≡◌, ℕ, T, length}
use Rattle.token_spec.specs.Tokens.{Token, spell_token, Spelt, TagNext, Entity, is_plain, section_end}

-- 11. Tags, bytes and entities that are spelt well, one after the other; `]]>` is looked for at each place.
pub data Stretch : List ℕ → Type 0 where
  nothing_yet : Stretch []
  a-tag : {t : Token} {w : List ℕ} → TagNext (t ∷ []) → Spelt t → Stretch w → Stretch (spell_token t ++ w)
  a_byte : {b : ℕ} {w : List ℕ} → T (is_plain b) → Stretch w → Stretch (b ∷ w)
  an-entity : {e w : List ℕ} → Entity e → Stretch w → Stretch (e ++ w)

-- what is misspelt at the front of a text: "the tag's `<`, the `&`, the first `]`, a bare `<`"
pub data MisspeltHere : List ℕ → Type 0 where
  bad-tag : {w : List ℕ} → ((t : Token) (r : List ℕ) → TagNext (t ∷ []) → Spelt t → 0x3C ∷ w ≡ spell_token t ++ r → ⊥) → MisspeltHere (0x3C ∷ w)
  bad-entity : {w : List ℕ} → ((e r : List ℕ) → Entity e → 0x26 ∷ w ≡ e ++ r → ⊥) → MisspeltHere (0x26 ∷ w)
  section-end : (w : List ℕ) → MisspeltHere (section_end ++ w)

pub record Misspelt (text : List ℕ) (k : ℕ) : Type 0 where
  pub before : List ℕ
  pub after : List ℕ
  pub joined : text ≡ before ++ after
  pub placed : length before ≡ k
  pub spelt : Stretch before
  pub fault : MisspeltHere after
