-- The words of the sets of names that each element holds, and that they are what a pass over a table is handed of a schema.
use Rattle.std.specs.Prelude.{Bool, true, false, cond, ◌≡◌, refl, ℕ, ◌+◌, ◌-◌, ◌<◌, ◌≤◌, T, ltb, length, get_or}
use mathlib.Core.List.{List, [], Memᴰ as In}
use Rattle.std.proofs.Common.{⊎_elim, sym, subst, ◌∙◌, arith, ltb-true, ltb-false}
use Rattle.std.proofs.Math.Option.{Option, none, some}
use Rattle.names.specs.Encoding.{word-member}
use Rattle.names.specs.SetLaws.{nothing-in, element-every, every_element, text-every, every-text, every-coded}
use Rattle.names.specs.Sets.{set_of, every_name, nothing}
use Rattle.names.specs.closures.Schemas.{RelationOf}
use Rattle.names.specs.declared.NameSet.{NameSet}
use Rattle.schema_laws.specs.Closure.{holds-model, holds_text, text-holds-none, holder_in}
use Rattle.schema_laws.specs.Names.{in-element}
use Rattle.schema_laws.specs.Words.{code_of-name_of_code, word-clear}
use Rattle.schema_spec.specs.Models.{Content, empty, pcdata, children, uses_in}
use Rattle.schema_spec.specs.Names.{Name, element, text, has_bit, code_of, name_of_code, word_of_set}
use Rattle.schema_spec.specs.Schemas.{Schema, content_at, is_pcdata}
use Rattle.schema_spec.specs.Types.{holds, types_of}
use Rattle.table_laws.specs.passes.Codes.{HeldWords}
use Rattle.text_laws.specs.Searches.{below-or-past}
use Rattle.text_laws.specs.Tests.{never, false_of}
use Rattle.text_spec.specs.Limits.{max_declarations}

-- the word of an element's set
abbrev pub WordAt : List NameSet → ℕ → ℕ → Type 0
WordAt sets a word = word ≡ word_of_set every_name (set_of every_name (get_or sets a nothing))

-- for each element the word of its set; nothing past them
pub record WordsOf (sets : List NameSet) (words : List ℕ) : Type 0 where
  pub each : (a : ℕ) → a < max_declarations → WordAt sets a (get_or words a 0)
  pub past : (a : ℕ) → max_declarations ≤ a → get_or words a 0 ≡ 0

-- ---- a code that a name has, and one that no name has
name-cases : (P : Option Name → Type 0) (code : ℕ) → (code < max_declarations → P (some (element code)))
    → (max_declarations ≤ code → code < max_declarations + max_declarations → P (some (text (code - max_declarations)))) → (max_declarations + max_declarations ≤ code → P none)
    → P (name_of_code code)
name-cases P code f g h = pick (ltb code max_declarations) (ltb code (max_declarations + max_declarations)) refl refl
  where
    pick : (u v : Bool) → ltb code max_declarations ≡ u → ltb code (max_declarations + max_declarations) ≡ v
        → P (cond u (some (element code)) (cond v (some (text (code - max_declarations))) none))
    pick true v p q = f (ltb-true code max_declarations p)
    pick false true p q = g (ltb-false code max_declarations p) (ltb-true code (max_declarations + max_declarations) q)
    pick false false p q = h (ltb-false code (max_declarations + max_declarations) q)

named-every : (code : ℕ) (n : Name) → name_of_code code ≡ some n → In n every_name
named-every code n =
    name-cases (λ o. o ≡ some n → In n every_name) code
    (λ l e. let q : element code ≡ n = cc in subst (λ (x : Name). In x every_name) q (element-every code l))
    (λ l m e. let q : text (code - max_declarations) ≡ n = cc in subst (λ (x : Name). In x every_name) q (text-every (code - max_declarations) (omega arith)))
    (λ l e. never (cc))

unnamed-past : (code : ℕ) → name_of_code code ≡ none → max_declarations + max_declarations ≤ code
unnamed-past code = name-cases (λ o. o ≡ none → max_declarations + max_declarations ≤ code) code (λ l e. never (cc)) (λ l m e. never (cc)) (λ l e. l)

code-low : (n : Name) → In n every_name → code_of n < max_declarations + max_declarations
code-low (element e) i = let l = every_element e i in omega arith
code-low (text e) i = let l = every-text e i in omega arith

-- ---- an element with a text name has an empty model
pcdata-bare : (c : Content ℕ) → T (is_pcdata c) → uses_in c ≡ []
pcdata-bare empty t = absurd t
pcdata-bare pcdata t = refl
pcdata-bare (children p) t = absurd t

holds-apart : (s : Schema) (a b e : ℕ) → T (holds s (element a) (element b)) → T (holds s (element a) (text e)) → ⊥
holds-apart s a b e u v =
    let m = holds-model s a b u in
    let p = pcdata-bare (content_at s a) (holds_text s a e v).1 in
    elim (subst (In b) p m) [ ]

-- The words of what each element holds are what a pass is handed of the schema.
pub words-held : (s : Schema) → length s ≤ max_declarations → (sets : List NameSet) → RelationOf (holds s) sets → (words : List ℕ) → WordsOf sets words → HeldWords (types_of s) words
unfolding types_of
words-held s small sets relation words w = record { root = refl; leaf = text-holds-none s; apart = holds-apart s; held = held; unnamed = unnamed }
  where
    bit : (a code : ℕ) (n : Name) → name_of_code code ≡ some n → a < max_declarations → has_bit (get_or words a 0) code ≡ holds s (element a) n
    bit a code n e l =
        let same : code_of n ≡ code = code_of-name_of_code code n e in
        rw (w.each a l, ← same) (word-member every_name every-coded (get_or sets a nothing) n (named-every code n e) ∙ relation a n)

    none-past : (a code : ℕ) → max_declarations ≤ a → has_bit (get_or words a 0) code ≡ false
    none-past a code l = rw (w.past a l) (nothing-in (element code))

    held : (a code : ℕ) (n : Name) → name_of_code code ≡ some n → has_bit (get_or words a 0) code ≡ holds s (element a) n
    held a code n e =
        ⊎_elim (λ l. bit a code n e l)
        (λ l. none-past a code l ∙ sym (false_of (holds s (element a) n) (λ t. let m = in-element s a (holder_in s (element a) n t) in omega arith))) (below-or-past a max_declarations)

    unnamed : (a code : ℕ) → name_of_code code ≡ none → has_bit (get_or words a 0) code ≡ false
    unnamed a code e =
        ⊎_elim (λ l. rw (w.each a l) (word-clear every_name (set_of every_name (get_or sets a nothing)) every-coded code
        (λ n i q. let m = code-low n i in let p = unnamed-past code e in omega arith)))
        (λ l. none-past a code l) (below-or-past a max_declarations)
