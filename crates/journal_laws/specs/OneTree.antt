-- A text is spelt by one list of tokens, tokens nest in one way, and so one text spells one tree, its places included.
use Rattle.std.specs.Prelude.{Bool, false, not, ◌||◌, ◌&&◌, List, [], ◌∷◌, ◌++◌, ◌≡◌, refl, ℕ, ◌+◌, T, eqb, leb, length}
use Rattle.std.proofs.Common.{append_assoc, sym, ap, subst, ◌∙◌, arith}
use Rattle.journal_spec.specs.Trees.{Forest, Spells, no-tokens, data-next, empty-tag, tag-pair, OneRoot, at_once, after-blanks, WellFormedText}
use Rattle.text_laws.specs.Bytes.{each-blank, name-bytes}
use Rattle.text_laws.specs.Lists.{span-once, append-cancel}
use Rattle.text_laws.specs.Tests.{never, and_intro, and_cases, not-intro, not-elim, or_left}
use Rattle.text_spec.specs.Bytes.{is_blank, is_name, starts_name, continues_name, all_blank}
use Rattle.text_spec.specs.Limits.{max_name_bytes}
use Rattle.text_spec.specs.Lists.{all_of}
use Rattle.token_laws.specs.Passes.{tag_rest, tag-spelling}
use Rattle.token_spec.specs.Tokens.{Token, start_tag, empty_tag, end_tag, characters, spell_token, spell, lt, gt, amp, apos, quot, Pieces, none as no-piece, plain, entity, Spelt, start-spelt, empty-spelt, end-spelt, characters-spelt, TagNext, no-token, start-next, empty-next, end-next, AllSpelt, none as all_none, tag, data-then, Tokens}

-- ---- one list of tokens
-- blanks and what follows begin with a byte that goes on with no name
after-name : (a : List ℕ) (x : ℕ) (r : List ℕ) → T (all_blank a) → continues_name x ≡ false → (z : ℕ) × (t : List ℕ) × (a ++ (x ∷ r) ≡ z ∷ t) × (continues_name z ≡ false)
after-name [] x r t e = (x, r, refl, e)
after-name (c ∷ a) x r t e =
    (c, a ++ (x ∷ r), refl, each-blank (λ (z : ℕ). continues_name z ≡ false) refl refl refl c (and_cases (is_blank c) (all_blank a) t).0)

module _ (n a m b : List ℕ) (N : T (is_name n)) (A : T (all_blank a)) (M : T (is_name m)) (B : T (all_blank b)) where
  -- a name and blanks, up to a byte that is neither
  body-once : (x y : ℕ) (r q : List ℕ) → n ++ (a ++ (x ∷ r)) ≡ m ++ (b ++ (y ∷ q)) → continues_name x ≡ false → continues_name y ≡ false → is_blank x ≡ false → is_blank y ≡ false
      → (n ≡ m) × (a ≡ b) × (x ∷ r ≡ y ∷ q)
  body-once x y r q e p t f g =
      let u = after-name a x r A p in
      let v = after-name b y q B t in
      let j : n ++ (u.0 ∷ u.1) ≡ m ++ (v.0 ∷ v.1) = ap (λ (l : List ℕ). n ++ l) (sym u.2) ∙ (e ∙ ap (λ (l : List ℕ). m ++ l) v.2) in
      let h = span-once continues_name n m j (name-bytes n N) (name-bytes m M) u.3 v.3 in
      let k = span-once is_blank a b (u.2 ∙ (h.1 ∙ sym v.2)) A B f g in
      (h.0, k.0, k.1)

  -- the same, of a tag's bytes after its `<` or `</`
  rest-once : (x y : ℕ) (d e r q : List ℕ) → (n ++ (a ++ (x ∷ d))) ++ r ≡ (m ++ (b ++ (y ∷ e))) ++ q
      → continues_name x ≡ false → continues_name y ≡ false → is_blank x ≡ false → is_blank y ≡ false → (n ≡ m) × (a ≡ b) × (x ∷ (d ++ r) ≡ y ∷ (e ++ q))
  rest-once x y d e r q h p t f g =
      body-once x y (d ++ r) (e ++ q) (sym (joined n a (x ∷ d) r) ∙ (h ∙ joined m b (y ∷ e) q)) p t f g
    where
      joined : (n a d r : List ℕ) → (n ++ (a ++ d)) ++ r ≡ n ++ (a ++ (d ++ r))
      joined n a d r = append_assoc n (a ++ d) r ∙ ap (λ (l : List ℕ). n ++ l) (append_assoc a d r)

-- no name starts with `/`
no_slash : (n l r : List ℕ) → T (is_name n) → n ++ l ≡ 0x2F ∷ r → ⊥
no_slash [] l r t e = t
no_slash (c ∷ n) l r t e =
    let h : c ≡ 0x2F = cc in
    subst (λ (x : ℕ). T (starts_name x)) h (and_cases (starts_name c) (all_of continues_name n && leb (length (c ∷ n)) max_name_bytes) t).0

-- a name and blanks before `>` and before `/>` are told apart, and so are tags with and without a `/` before the name
not-both : (n a m b r q : List ℕ) → T (is_name n) → T (all_blank a) → T (is_name m) → T (all_blank b)
    → (n ++ (a ++ (0x3E ∷ []))) ++ r ≡ (m ++ (b ++ (0x2F ∷ 0x3E ∷ []))) ++ q → ⊥
not-both n a m b r q N A M B e =
    let h = (rest-once n a m b N A M B 0x3E 0x2F [] (0x3E ∷ []) r q e refl refl refl refl).2 in
    let i : ◌≡◌ {A = ℕ} 0x3E 0x2F = cc in
    omega arith

not_end : (n a d r l : List ℕ) → T (is_name n) → (n ++ (a ++ d)) ++ r ≡ 0x2F ∷ l → ⊥
not_end n a d r l N e = no_slash n ((a ++ d) ++ r) l N (sym (append_assoc n (a ++ d) r) ∙ e)

tag-once : {t u : Token} (r q : List ℕ) → TagNext (t ∷ []) → Spelt t → TagNext (u ∷ []) → Spelt u → spell_token t ++ r ≡ spell_token u ++ q → (t ≡ u) × (r ≡ q)
tag-once r q start-next (start-spelt {n = n} {a = a} N A) start-next (start-spelt {n = m} {a = b} M B) e =
    let d = rest-once n a m b N A M B 0x3E 0x3E [] [] r q (cc) refl refl refl refl in
    let i : n ≡ m = d.0 in
    let j : a ≡ b = d.1 in
    let k = d.2 in
    (cc, cc)
tag-once r q start-next (start-spelt {n = n} {a = a} N A) empty-next (empty-spelt {n = m} {a = b} M B) e = absurd (not-both n a m b r q N A M B (cc))
tag-once r q start-next (start-spelt {n = n} {a = a} N A) end-next (end-spelt {n = m} {a = b} M B) e = absurd (not_end n a (0x3E ∷ []) r ((m ++ (b ++ (0x3E ∷ []))) ++ q) N (cc))
tag-once r q empty-next (empty-spelt {n = n} {a = a} N A) start-next (start-spelt {n = m} {a = b} M B) e = absurd (not-both m b n a q r M B N A (cc))
tag-once r q empty-next (empty-spelt {n = n} {a = a} N A) empty-next (empty-spelt {n = m} {a = b} M B) e =
    let d = rest-once n a m b N A M B 0x2F 0x2F (0x3E ∷ []) (0x3E ∷ []) r q (cc) refl refl refl refl in
    let i : n ≡ m = d.0 in
    let j : a ≡ b = d.1 in
    let k = d.2 in
    (cc, cc)
tag-once r q empty-next (empty-spelt {n = n} {a = a} N A) end-next (end-spelt {n = m} {a = b} M B) e = absurd (not_end n a (0x2F ∷ 0x3E ∷ []) r ((m ++ (b ++ (0x3E ∷ []))) ++ q) N (cc))
tag-once r q end-next (end-spelt {n = n} {a = a} N A) start-next (start-spelt {n = m} {a = b} M B) e = absurd (not_end m b (0x3E ∷ []) q ((n ++ (a ++ (0x3E ∷ []))) ++ r) M (cc))
tag-once r q end-next (end-spelt {n = n} {a = a} N A) empty-next (empty-spelt {n = m} {a = b} M B) e = absurd (not_end m b (0x2F ∷ 0x3E ∷ []) q ((n ++ (a ++ (0x3E ∷ []))) ++ r) M (cc))
tag-once r q end-next (end-spelt {n = n} {a = a} N A) end-next (end-spelt {n = m} {a = b} M B) e =
    let d = rest-once n a m b N A M B 0x3E 0x3E [] [] r q (cc) refl refl refl refl in
    let i : n ≡ m = d.0 in
    let j : a ≡ b = d.1 in
    let k = d.2 in
    (cc, cc)

-- character data has no `<`
abbrev is_data : ℕ → Bool
is_data b = not (eqb b 0x3C)

pieces-data : {w : List ℕ} → Pieces w → T (all_of is_data w)
pieces-data no-piece = tt
pieces-data (plain {b = b} {w = w} t p) =
    and_intro (is_data b) (all_of is_data w) (not-intro (eqb b 0x3C) (λ h. not-elim (eqb b 0x3C || eqb b 0x26) t (or_left (eqb b 0x3C) (eqb b 0x26) h))) (pieces-data p)
pieces-data (entity lt p) = pieces-data p
pieces-data (entity gt p) = pieces-data p
pieces-data (entity amp p) = pieces-data p
pieces-data (entity apos p) = pieces-data p
pieces-data (entity quot p) = pieces-data p

data-bytes : {w : List ℕ} → Spelt (characters w) → T (all_of is_data w)
data-bytes (characters-spelt p n) = pieces-data p

-- a `<` that is put behind follows character data
tag-first : (ts : List Token) → TagNext ts → (r : List ℕ) × (spell ts ++ (0x3C ∷ []) ≡ 0x3C ∷ r)
tag-first [] no-token = ([], refl)
tag-first (start_tag n a ∷ ts) start-next = (_, refl)
tag-first (empty_tag n a ∷ ts) empty-next = (_, refl)
tag-first (end_tag n a ∷ ts) end-next = (_, refl)
tag-first (characters _ ∷ ts) x4 = elim x4 [ ]

data-once : (w v : List ℕ) (ts us : List Token) → T (all_of is_data w) → T (all_of is_data v) → TagNext ts → TagNext us → w ++ spell ts ≡ v ++ spell us → (w ≡ v) × (spell ts ≡ spell us)
data-once w v ts us p q n m e =
    let t = tag-first ts n in
    let u = tag-first us m in
    let c : List ℕ = 0x3C ∷ [] in
    let j : w ++ (0x3C ∷ t.0) ≡ v ++ (0x3C ∷ u.0) =
    ap (λ (l : List ℕ). w ++ l) (sym t.1)
    ∙ (sym (append_assoc w (spell ts) c)
    ∙ (ap (λ (l : List ℕ). l ++ c) e ∙ (append_assoc v (spell us) c ∙ ap (λ (l : List ℕ). v ++ l) u.1))) in
    let h = (span-once is_data w v j p q refl refl).0 in
    (h, append-cancel w (e ∙ ap (λ (l : List ℕ). l ++ spell us) (sym h)))

spelt-fills : {t : Token} (r : List ℕ) → Spelt t → spell_token t ++ r ≡ [] → ⊥
spelt-fills r (start-spelt N A) e = never (cc)
spelt-fills r (empty-spelt N A) e = never (cc)
spelt-fills r (end-spelt N A) e = never (cc)
spelt-fills r (characters-spelt p n) e = never (cc)

tag-not-data : {t : Token} {w : List ℕ} (r q : List ℕ) → TagNext (t ∷ []) → Spelt (characters w) → spell_token t ++ r ≡ w ++ q → ⊥
tag-not-data {t} r q x (characters-spelt {b = b} {w = w} p n) e =
    let h : 0x3C ∷ (tag_rest t ++ r) ≡ b ∷ (w ++ q) = ap (λ (l : List ℕ). l ++ r) (sym (tag-spelling t x)) ∙ e in
    let i : b ≡ 0x3C = cc in
    subst (λ (y : ℕ). T (is_data y)) i (and_cases (is_data b) (all_of is_data w) (pieces-data p)).0

spelt-once : {ts us : List Token} → AllSpelt ts → AllSpelt us → spell ts ≡ spell us → ts ≡ us
spelt-once all_none all_none e = refl
spelt-once all_none (tag {ts = us} y s g) e = absurd (spelt-fills (spell us) s (sym e))
spelt-once all_none (data-then {ts = us} s m g) e = absurd (spelt-fills (spell us) s (sym e))
spelt-once (tag {ts = ts} x s h) all_none e = absurd (spelt-fills (spell ts) s e)
spelt-once (tag {ts = ts} x s h) (tag {t = u} {ts = us} y z g) e =
    let k = tag-once (spell ts) (spell us) x s y z e in
    ap (λ (t : Token). t ∷ ts) k.0 ∙ ap (λ (l : List Token). u ∷ l) (spelt-once h g k.1)
spelt-once (tag {ts = ts} x s h) (data-then {ts = us} z m g) e = absurd (tag-not-data (spell ts) (spell us) x z e)
spelt-once (data-then {ts = ts} s n h) all_none e = absurd (spelt-fills (spell ts) s e)
spelt-once (data-then {ts = ts} s n h) (tag {ts = us} y z g) e = absurd (tag-not-data (spell us) (spell ts) y s (sym e))
spelt-once (data-then {w = w} {ts = ts} s n h) (data-then {w = v} {ts = us} z m g) e =
    let k = data-once w v ts us (data-bytes s) (data-bytes z) n m e in
    ap (λ (x : List ℕ). characters x ∷ ts) k.0 ∙ ap (λ (l : List Token). characters v ∷ l) (spelt-once h g k.1)

pub tokens-once : {text : List ℕ} {ts us : List Token} → Tokens text ts → Tokens text us → ts ≡ us
tokens-once x y = spelt-once x.spelt y.spelt (sym x.joined ∙ y.joined)

-- ---- one tree
-- an end tag comes next, or nothing
data EndNext : List Token → Type 0 where
  at-end : EndNext []
  at-end-tag : {n a : List ℕ} {ts : List Token} → EndNext (end_tag n a ∷ ts)

-- what comes first: nothing or an end tag, character data, an empty tag, a start tag
abbrev front : List Token → ℕ
front [] = 0
front (end_tag n a ∷ ts) = 0
front (characters w ∷ ts) = 1
front (empty_tag n a ∷ ts) = 2
front (start_tag n a ∷ ts) = 3

end-front : {ts : List Token} → EndNext ts → front ts ≡ 0
end-front at-end = refl
end-front at-end-tag = refl

-- tokens up to the end, or to an end tag that is not theirs, nest in one way
nested-once : {k j : ℕ} {ts us : List Token} {f g : Forest} (r q : List Token) → Spells k ts f → Spells j us g → k ≡ j → EndNext r → EndNext q → ts ++ r ≡ us ++ q
    → (ts ≡ us) × (f ≡ g) × (r ≡ q)
nested-once r q no-tokens no-tokens h x y e = (refl, refl, e)
nested-once r q (data-next {k = k} {w = w} {ts = ts} {f = f} s) (data-next {k = j} {w = v} {ts = us} {f = g} t) h x y e =
    let a : w ≡ v = cc in
    let d = nested-once r q s t (cc) x y (cc) in
    let i : ts ≡ us = d.0 in
    let l : f ≡ g = d.1 in
    (cc, cc, d.2)
nested-once r q (empty-tag {k = k} {n = n} {a = a} {ts = ts} {f = f} s) (empty-tag {k = j} {n = m} {a = b} {ts = us} {f = g} t) h x y e =
    let a : n ≡ m = cc in
    let d = nested-once r q s t (cc) x y (cc) in
    let i : ts ≡ us = d.0 in
    let l : f ≡ g = d.1 in
    (cc, cc, d.2)
nested-once r q (tag-pair {k = k} {n = n} {a = a} {us = us} {ts = ts} {c = c} {f = f} b s t) (tag-pair {k = j} {n = m} {a = d} {us = vs} {ts = ws} {c = i} {f = g} z u v) h x y e =
    let heads : (us ++ (end_tag n b ∷ ts)) ++ r ≡ (vs ++ (end_tag m z ∷ ws)) ++ q = cc in
    let tails : us ++ (end_tag n b ∷ (ts ++ r)) ≡ vs ++ (end_tag m z ∷ (ws ++ q)) = sym (append_assoc us (end_tag n b ∷ ts) r) ∙ (heads ∙ append_assoc vs (end_tag m z ∷ ws) q) in
    let inner = nested-once (end_tag n b ∷ (ts ++ r)) (end_tag m z ∷ (ws ++ q)) s u (cc) at-end-tag at-end-tag tails in
    let i₀ : us ≡ vs = inner.0 in
    let i₁ : c ≡ i = inner.1 in
    let i₂ = inner.2 in
    let outer = nested-once r q t v (cc) x y (cc) in
    let o₀ : ts ≡ ws = outer.0 in
    let o₁ : f ≡ g = outer.1 in
    (cc, cc, outer.2)
nested-once r q no-tokens (data-next s) h x y e = never (omega (arith, end-front x, ap front e))
nested-once r q (data-next s) no-tokens h x y e = never (omega (arith, end-front y, ap front e))
nested-once r q no-tokens (empty-tag s) h x y e = never (omega (arith, end-front x, ap front e))
nested-once r q (empty-tag s) no-tokens h x y e = never (omega (arith, end-front y, ap front e))
nested-once r q no-tokens (tag-pair b s t) h x y e = never (omega (arith, end-front x, ap front e))
nested-once r q (tag-pair b s t) no-tokens h x y e = never (omega (arith, end-front y, ap front e))
nested-once r q (data-next s) (empty-tag u) h x y e = never (cc)
nested-once r q (data-next s) (tag-pair c u v) h x y e = never (cc)
nested-once r q (empty-tag s) (data-next u) h x y e = never (cc)
nested-once r q (empty-tag s) (tag-pair c u v) h x y e = never (cc)
nested-once r q (tag-pair b s t) (data-next u) h x y e = never (cc)
nested-once r q (tag-pair b s t) (empty-tag u) h x y e = never (cc)

root-once : {f d c : Forest} {k j : ℕ} {n m : List ℕ} → OneRoot f k n c → OneRoot f j m d → (k ≡ j) × (n ≡ m) × (c ≡ d)
root-once (at_once x) (at_once y) = (refl, refl, refl)
root-once (after-blanks x y) (after-blanks z w) = (refl, refl, refl)

-- THE THEOREM
pub one-tree : {journal : List ℕ} {k j : ℕ} {n m : List ℕ} {c d : Forest} → WellFormedText journal k n c → WellFormedText journal j m d → (k ≡ j) × (n ≡ m) × (c ≡ d)
one-tree {j = j} {m = m} {d = d} x y =
    let e : x.tokens ≡ y.tokens = tokens-once x.spelt y.spelt in
    let i = nested-once [] [] x.nested.spelt y.nested.spelt refl at-end at-end (ap (λ (ts : List Token). ts ++ []) e) in
    root-once x.nested.one_root (subst (λ (f : Forest). OneRoot f j m d) (sym i.1) y.nested.one_root)
