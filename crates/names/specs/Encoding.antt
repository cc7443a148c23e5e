-- Sets handed in and back as 64 bits: what two words must hold, and that this is right for the names of a schema.
use Rattle.std.specs.Prelude.{Bool, false, ◌&&◌, ◌||◌, ◌⊎◌, ◌≡◌, refl, ℕ, ◌+◌, ◌-◌, ◌*◌, ◌/◌, ◌%◌, ◌^◌, ◌≤◌, ◌<◌, T, length}
use Rattle.std.proofs.Math.Bool.{or-false}
use mathlib.Core.List.{Memᴰ as In}
use Rattle.std.proofs.Common.{inl, inr, ⊎_elim, sym, ap, ap₂, subst, ◌∙◌, arith}
use Rattle.std.specs.Int.Bits.{bit_or}
use Rattle.std.proofs.lemmas.Nat.{or_lt}
use Rattle.names.specs.SetLaws.{has-filter, in-set_of, set_of-in, element-every, every_element, text-every, every-text, every-coded, schema-every}
use Rattle.names.specs.Sets.{member, set_of, largest, every_name}
use Rattle.names.specs.bits.Bits.{bit-or, bit_past, bit-down, bit_up, bit-up-below, bit_cut, bit-cut-past, same_bits}
use Rattle.names.specs.declared.NameSet.{NameSet}
use Rattle.schema_laws.specs.Names.{has_in, in-has}
use Rattle.schema_laws.specs.Words.{Coded, schema-coded, word-has, has_word, word-clear, word_below}
use Rattle.schema_spec.specs.Names.{Name, Names, element, text, has, names_of, code_of, has_bit, set_of_word, word_of_set}
use Rattle.schema_spec.specs.Schemas.{Schema}
use Rattle.text_laws.specs.Lists.{filter-cong}
use Rattle.text_laws.specs.Searches.{below-or-past}
use Rattle.text_laws.specs.Tests.{decided, true_of, false_of, same_test}
use Rattle.text_spec.specs.Limits.{max_declarations}

-- the two words of a set that is handed in
abbrev pub split : ℕ → NameSet
split w = record { elements = w % 2 ^ 32; texts = w / 2 ^ 32 }

-- the one word of a set that is handed back
abbrev pub joined : NameSet → ℕ
joined s = bit_or (s.elements % 2 ^ 32) (s.texts % 2 ^ 32 * 2 ^ 32)

in-every : (w : ℕ) (n : Name) → In n every_name → has n (set_of_word every_name w) ≡ has_bit w (code_of n)
unfolding set_of_word
in-every w n i = has-filter (λ m. has_bit w (code_of m)) every_name n ∙ ap (λ (b : Bool). b && has_bit w (code_of n)) (true_of (has n every_name) (in-has i))

not-every : (w : ℕ) (n : Name) → (In n every_name → ⊥) → has n (set_of_word every_name w) ≡ false
unfolding set_of_word
not-every w n h =
    has-filter (λ m. has_bit w (code_of m)) every_name n ∙ ap (λ (b : Bool). b && has_bit w (code_of n)) (false_of (has n every_name) (λ t. h (has_in n every_name t)))

pub split-means-set_of_word : (w : ℕ) → w < 2 ^ 64 → (n : Name) → member (split w) n ≡ has n (set_of_word every_name w)
split-means-set_of_word w fits (element e) =
    ⊎_elim (λ h. bit_cut w 32 e h ∙ sym (in-every w (element e) (element-every e h)))
    (λ h. bit-cut-past w 32 e h ∙ sym (not-every w (element e) (λ i. let l = every_element e i in omega arith))) (below-or-past e 32)
split-means-set_of_word w fits (text e) =
    bit-down w 32 e
    ∙ ⊎_elim (λ h. sym (in-every w (text e) (text-every e h)))
    (λ h. bit_past 64 w (32 + e) fits (omega arith) ∙ sym (not-every w (text e) (λ i. let l = every-text e i in omega arith))) (below-or-past e 32)

-- the bit of a name, in the word of a set
module _ (names : Names) (c : Coded names) (s : NameSet) where
  pub word-member : (n : Name) → In n names → has_bit (word_of_set names (set_of names s)) (code_of n) ≡ member s n
  word-member n i =
      same_test (has_bit (word_of_set names (set_of names s)) (code_of n)) (member s n) (λ t. (set_of-in names s (has_word names (set_of names s) c i t)).1)
      (λ t. word-has names (set_of names s) c i (in-set_of s i t))

-- each of 64 bits is a name's
pub bit-name : (i : ℕ) → i < 64 → (n : Name) × In n every_name × (code_of n ≡ i)
bit-name i l =
    ⊎_elim (λ h. (element i, element-every i h, refl)) (λ h. (text (i - 32), text-every (i - 32) (omega arith), omega arith)) (below-or-past i 32)

joined-member : (s : NameSet) (n : Name) → In n every_name → has_bit (joined s) (code_of n) ≡ member s n
joined-member s (element e) i =
    let h = every_element e i in
    bit-or (s.elements % 2 ^ 32) (s.texts % 2 ^ 32 * 2 ^ 32) e ∙ ap₂ ◌||◌ (bit_cut s.elements 32 e h) (bit-up-below (s.texts % 2 ^ 32) 32 e h)
    ∙ or-false (has_bit s.elements e)
joined-member s (text e) i =
    let h = every-text e i in
    bit-or (s.elements % 2 ^ 32) (s.texts % 2 ^ 32 * 2 ^ 32) (32 + e)
    ∙ ap₂ ◌||◌ (bit-cut-past s.elements 32 (32 + e) (omega arith)) (bit_up (s.texts % 2 ^ 32) 32 e ∙ bit_cut s.texts 32 e h)

joined-below : (s : NameSet) → joined s < 2 ^ 64
joined-below s = or_lt 64 (s.elements % 2 ^ 32) (s.texts % 2 ^ 32 * 2 ^ 32) (omega arith) (omega arith)

every-below : (s : Names) → word_of_set every_name s < 2 ^ 64
unfolding every_name
every-below s = word_below (largest max_declarations) (omega arith) s

pub joined-means-word_of_set : (s : NameSet) → joined s ≡ word_of_set every_name (set_of every_name s)
joined-means-word_of_set s = same_bits 64 (joined s) (word_of_set every_name (set_of every_name s)) (joined-below s) (every-below (set_of every_name s)) same
  where
    same : (i : ℕ) → i < 64 → has_bit (joined s) i ≡ has_bit (word_of_set every_name (set_of every_name s)) i
    same i l =
        let r = bit-name i l in
        subst (λ (j : ℕ). has_bit (joined s) j ≡ has_bit (word_of_set every_name (set_of every_name s)) j) r.2
        (joined-member s r.0 r.1 ∙ sym (word-member every_name every-coded s r.0 r.1))

-- what is handed in is right for a schema's names: this set is the paper's
pub handed-in : (s : Schema) → length s ≤ max_declarations → (w : ℕ) (r : NameSet) → ((n : Name) → member r n ≡ has n (set_of_word every_name w))
    → set_of (names_of s) r ≡ set_of_word (names_of s) w
unfolding set_of set_of_word
handed-in s l w r h =
    filter-cong (member r) (λ n. has_bit w (code_of n)) (names_of s) (λ n i. h n ∙ in-every w n (schema-every s l n i))

-- and what is handed back, for a set of a schema's names
pub handed-back : (s : Schema) → length s ≤ max_declarations → (x : NameSet) → ((n : Name) → T (member x n) → In n (names_of s))
    → word_of_set every_name (set_of every_name x) ≡ word_of_set (names_of s) (set_of (names_of s) x)
handed-back s l x only =
    same_bits 64 (word_of_set every_name (set_of every_name x)) (word_of_set (names_of s) (set_of (names_of s) x)) (every-below (set_of every_name x))
    (word_below s l (set_of (names_of s) x)) same
  where
    coded : Coded (names_of s)
    coded = schema-coded s l

    by_name : (n : Name) → In n every_name → T (has n (names_of s)) ⊎ (T (has n (names_of s)) → ⊥)
        → has_bit (word_of_set every_name (set_of every_name x)) (code_of n) ≡ has_bit (word_of_set (names_of s) (set_of (names_of s) x)) (code_of n)
    by_name n i (inl t) = word-member every_name every-coded x n i ∙ sym (word-member (names_of s) coded x n (has_in n (names_of s) t))
    by_name n i (inr f) =
        word-member every_name every-coded x n i ∙ false_of (member x n) (λ t. f (in-has (only n t)))
        ∙ sym (word-clear (names_of s) (set_of (names_of s) x) coded (code_of n)
        (λ m j e. f (in-has (subst (λ (k : Name). In k (names_of s)) (every-coded.apart m n (schema-every s l m j) i e) j))))

    same : (i : ℕ) → i < 64 → has_bit (word_of_set every_name (set_of every_name x)) i ≡ has_bit (word_of_set (names_of s) (set_of (names_of s) x)) i
    same i b =
        let r = bit-name i b in
        subst (λ (j : ℕ). has_bit (word_of_set every_name (set_of every_name x)) j ≡ has_bit (word_of_set (names_of s) (set_of (names_of s) x)) j) r.2
        (by_name r.0 r.1 (decided (has r.0 (names_of s))))
