-- What the lexer makes of well-spelt bytes: names, blanks, tags, entities, character data.
use Rattle.std.specs.Prelude.{Bool, true, false, cond, ◌&&◌, ◌||◌, ◌⊎◌, ◌≡◌, ℕ, zero, suc, ◌+◌, ◌-◌, ◌≤◌, ◌<◌, T, eqb, leb, ltb, length}
use mathlib.Core.List.{List, [], ◌∷◌, ◌++◌, append_assoc, append-nil}
use Rattle.std.proofs.Common.{inl, inr, sym, ap, subst, ◌∙◌, add-zero, zero-add, add_assoc, arith, eqb→eq, lt→ltb, le→leb, leb→le, length-append}
use Rattle.std.proofs.Math.Option.{Option, none, some}
use Rattle.std.proofs.Math.Path.{refl}
use Rattle.text_laws.specs.Tests.{passed, failed, true_of, false_of, and_cases, or_cases}
use Rattle.text_spec.specs.Bytes.{is_blank, is_name, starts_name, continues_name, all_blank}
use Rattle.text_spec.specs.Limits.{max_name_bytes}
use Rattle.text_spec.specs.Lists.{all_of}
use Rattle.token_laws.specs.Characters.{plain-parts, plain-saved, entity-saved, none-saved}
use Rattle.token_laws.specs.Events.{told, events_from}
use Rattle.token_spec.specs.Characters.{saved_in}
use Rattle.token_spec.specs.Lexer.{mode_after, Run, run, Mode, between, in_data, opened, in_name, after_name, after_slash, ending, in_end_name, after_end_name, Event, quiet, starts, empties, ends, runs, Lexed, goes, tells, solid_by, saved_by, first_solid, data_byte, lex, misspelt_at, tag_byte, end_tag_byte}
use Rattle.token_spec.specs.Tokens.{Token, start_tag, empty_tag, end_tag, characters, spell_token, spell, Entity, lt, gt, amp, apos, quot, is_plain, Pieces, none as no-piece, plain, entity, section_end, NoSectionEnd, Spelt, start-spelt, empty-spelt, end-spelt, characters-spelt, TagNext, no-token, start-next, empty-next, end-next, AllSpelt, none as all_none, tag, data-then, Tokens}

-- the events of bytes, before the end is known
unfoldable pub events_over : Mode → ℕ → List ℕ → List Event
events_over m k [] = []
events_over m k (b ∷ bs) = told (lex m k b).event (events_over (lex m k b).mode (suc k) bs)

-- over these bytes the lexer goes from one mode to another and tells these events
pub record Passes (m : Mode) (k : ℕ) (bs : List ℕ) (after : Mode) (es : List Event) : Type 0 where
  pub mode : mode_after m k bs ≡ after
  pub events : events_over m k bs ≡ es

told-append : (e : Event) (es fs : List Event) → told e (es ++ fs) ≡ told e es ++ fs
told-append quiet es fs = refl
told-append (starts n k) es fs = refl
told-append (empties n k) es fs = refl
told-append (ends n k) es fs = refl
told-append (runs r l) es fs = refl

pub mode-append : (m : Mode) (k : ℕ) (u v : List ℕ) → mode_after m k (u ++ v) ≡ mode_after (mode_after m k u) (k + length u) v
unfolding mode_after
mode-append m k [] v = ap (λ (j : ℕ). mode_after m j v) (sym (add-zero k))
mode-append m k (b ∷ u) v =
    let e : suc k + length u ≡ k + suc (length u) = omega arith in
    mode-append (lex m k b).mode (suc k) u v ∙ ap (λ (j : ℕ). mode_after (mode_after (lex m k b).mode (suc k) u) j v) e

pub over-append : (m : Mode) (k : ℕ) (u v : List ℕ) → events_over m k (u ++ v) ≡ events_over m k u ++ events_over (mode_after m k u) (k + length u) v
unfolding mode_after events_over
over-append m k [] v = ap (λ (j : ℕ). events_over m j v) (sym (add-zero k))
over-append m k (b ∷ u) v =
    let e : suc k + length u ≡ k + suc (length u) = omega arith in
    ap (told (lex m k b).event) (over-append (lex m k b).mode (suc k) u v ∙ ap (λ (j : ℕ). events_over (lex m k b).mode (suc k) u ++ events_over (mode_after (lex m k b).mode (suc k) u) j v) e)
    ∙ told-append (lex m k b).event (events_over (lex m k b).mode (suc k) u) (events_over (mode_after (lex m k b).mode (suc k) u) (k + suc (length u)) v)

pub from-append : (m : Mode) (k : ℕ) (u v : List ℕ) → events_from m k (u ++ v) ≡ events_over m k u ++ events_from (mode_after m k u) (k + length u) v
unfolding mode_after events_over events_from
from-append m k [] v = ap (λ (j : ℕ). events_from m j v) (sym (add-zero k))
from-append m k (b ∷ u) v =
    let e : suc k + length u ≡ k + suc (length u) = omega arith in
    ap (told (lex m k b).event) (from-append (lex m k b).mode (suc k) u v ∙ ap (λ (j : ℕ). events_over (lex m k b).mode (suc k) u ++ events_from (mode_after (lex m k b).mode (suc k) u) j v) e)
    ∙ told-append (lex m k b).event (events_over (lex m k b).mode (suc k) u) (events_from (mode_after (lex m k b).mode (suc k) u) (k + suc (length u)) v)

pub passes_append : {m a c : Mode} {es fs : List Event} (k : ℕ) (u v : List ℕ) → Passes m k u a es → Passes a (k + length u) v c fs → Passes m k (u ++ v) c (es ++ fs)
passes_append {m} {a} {c} {es} {fs} k u v p q =
    record {
      mode = mode-append m k u v ∙ ap (λ (x : Mode). mode_after x (k + length u) v) p.mode ∙ q.mode;
      events =
          over-append m k u v ∙ ap (λ (x : Mode). events_over m k u ++ events_over x (k + length u) v) p.mode
          ∙ ap (λ (l : List Event). l ++ events_over a (k + length u) v) p.events ∙ ap (λ (l : List Event). es ++ l) q.events;
    }

pub passes_none : (m : Mode) (k : ℕ) → Passes m k [] m []
unfolding mode_after events_over
passes_none m k = record { mode = refl; events = refl }

-- one byte whose effect is known, then more
pub passes-byte : {m a c : Mode} {e : Event} {es : List Event} (k b : ℕ) (u : List ℕ) → lex m k b ≡ tells a e → Passes a (suc k) u c es → Passes m k (b ∷ u) c (told e es)
unfolding mode_after events_over
passes-byte {m} {a} {c} {e} {es} k b u h p =
    record {
      mode = ap (λ (l : Lexed). mode_after l.mode (suc k) u) h ∙ p.mode;
      events = ap (λ (l : Lexed). told l.event (events_over l.mode (suc k) u)) h ∙ ap (told e) p.events;
    }

-- what comes after bytes that the lexer passes
pub passes-mode : {m a : Mode} {es : List Event} (k : ℕ) (u v : List ℕ) → Passes m k u a es → mode_after m k (u ++ v) ≡ mode_after a (k + length u) v
passes-mode {m} k u v p = mode-append m k u v ∙ ap (λ (x : Mode). mode_after x (k + length u) v) p.mode

pub passes-events : {m a : Mode} {es : List Event} (k : ℕ) (u v : List ℕ) → Passes m k u a es → events_from m k (u ++ v) ≡ es ++ events_from a (k + length u) v
passes-events {m} {a} k u v p =
    from-append m k u v ∙ ap (λ (x : Mode). events_over m k u ++ events_from x (k + length u) v) p.mode ∙ ap (λ (l : List Event). l ++ events_from a (k + length u) v) p.events

-- ---- tags

-- a byte that passes a test is not one that fails it
pub other_byte : (f : ℕ → Bool) (b c : ℕ) → T (f b) → f c ≡ false → eqb b c ≡ false
other_byte f b c t e = false_of (eqb b c) (λ h. failed e (subst (λ (x : ℕ). T (f x)) (eqb→eq b c h) t))

pub blank-cases : (P : ℕ → Type 0) (b : ℕ) → T (is_blank b) → P 32 → P 9 → P 10 → P b
blank-cases P b t p q r = by (or_cases (eqb b 32) (eqb b 9 || eqb b 10) t)
  where
    low : T (eqb b 9) ⊎ T (eqb b 10) → P b
    low (inl h) = subst P (sym (eqb→eq b 9 h)) q
    low (inr h) = subst P (sym (eqb→eq b 10 h)) r

    by : T (eqb b 32) ⊎ T (eqb b 9 || eqb b 10) → P b
    by (inl h) = subst P (sym (eqb→eq b 32 h)) p
    by (inr h) = low (or_cases (eqb b 9) (eqb b 10) h)

-- a mode that takes a byte which does not go on with a name by g, where a blank leads to the mode `blanks`
AsByte : (ℕ → Lexed) → Mode → Type 0
AsByte g m = (k b : ℕ) → continues_name b ≡ false → lex m k b ≡ g b

module _ (g : ℕ → Lexed) (blanks : Mode) (stays : AsByte g blanks) (skips : (b : ℕ) → T (is_blank b) → g b ≡ goes blanks) where
  after-blanks : (fin : List ℕ) (es : List Event) → ((m : Mode) (k : ℕ) → AsByte g m → Passes m k fin between es) → (m : Mode) (k : ℕ) → AsByte g m → (a : List ℕ) → T (all_blank a)
      → Passes m k (a ++ fin) between es
  unfolding AsByte
  after-blanks fin es p m k h [] t = p m k h
  after-blanks fin es p m k h (b ∷ a) t =
      let c = and_cases (is_blank b) (all_blank a) t in
      passes-byte k b (a ++ fin) (h k b (blank-cases (λ (x : ℕ). continues_name x ≡ false) b c.0 refl refl refl) ∙ skips b c.0)
      (after-blanks fin es p blanks (suc k) stays a c.1)

-- a name in a mode that takes it byte by byte
module _ (c : List ℕ → Mode) (takes : (n : List ℕ) (k b : ℕ) → T (continues_name b) → length n < max_name_bytes → lex (c n) k b ≡ goes (c (n ++ (b ∷ [])))) where
  name-passes : (n v : List ℕ) (k : ℕ) → T (all_of continues_name v) → length n + length v ≤ max_name_bytes → Passes (c n) k v (c (n ++ v)) []
  name-passes n [] k t l = subst (λ (x : List ℕ). Passes (c n) k [] (c x) []) (sym (append-nil n)) (passes_none (c n) k)
  name-passes n (b ∷ v) k t l =
      let h = and_cases (continues_name b) (all_of continues_name v) t in
      let e : length (n ++ (b ∷ [])) ≡ length n + 1 = length-append n (b ∷ []) in
      passes-byte k b v (takes n k b h.0 (omega arith))
      (subst (λ (x : List ℕ). Passes (c (n ++ (b ∷ []))) (suc k) v (c x) []) (append_assoc n (b ∷ []) v) (name-passes (n ++ (b ∷ [])) v (suc k) h.1 (omega arith)))

name-takes : (at : ℕ) (n : List ℕ) (k b : ℕ) → T (continues_name b) → length n < max_name_bytes → lex (in_name at n) k b ≡ goes (in_name at (n ++ (b ∷ [])))
unfolding lex
name-takes at n k b t l = rw (true_of (continues_name b) t, true_of (ltb (length n) max_name_bytes) (lt→ltb (length n) max_name_bytes l))

end-name-takes : (at : ℕ) (n : List ℕ) (k b : ℕ) → T (continues_name b) → length n < max_name_bytes → lex (in_end_name at n) k b ≡ goes (in_end_name at (n ++ (b ∷ [])))
unfolding lex
end-name-takes at n k b t l = rw (true_of (continues_name b) t, true_of (ltb (length n) max_name_bytes) (lt→ltb (length n) max_name_bytes l))

name-as-byte : (at : ℕ) (n : List ℕ) → AsByte (tag_byte at n) (in_name at n)
unfolding AsByte lex
name-as-byte at n k b e = rw e

end-name-as-byte : (at : ℕ) (n : List ℕ) → AsByte (end_tag_byte at n) (in_end_name at n)
unfolding AsByte lex
end-name-as-byte at n k b e = rw e

blank-as-byte : (at : ℕ) (n : List ℕ) → AsByte (tag_byte at n) (after_name at n)
unfolding AsByte lex
blank-as-byte at n k b e = refl

end-blank-as-byte : (at : ℕ) (n : List ℕ) → AsByte (end_tag_byte at n) (after_end_name at n)
unfolding AsByte lex
end-blank-as-byte at n k b e = refl

tag-skips : (at : ℕ) (n : List ℕ) (b : ℕ) → T (is_blank b) → tag_byte at n b ≡ goes (after_name at n)
tag-skips at n b t = rw (true_of (is_blank b) t)

end-tag-skips : (at : ℕ) (n : List ℕ) (b : ℕ) → T (is_blank b) → end_tag_byte at n b ≡ goes (after_end_name at n)
end-tag-skips at n b t = rw (true_of (is_blank b) t)

-- a name's parts
name-parts : (b : ℕ) (n : List ℕ) → T (is_name (b ∷ n)) → T (starts_name b) × T (all_of continues_name n) × (1 + length n ≤ max_name_bytes)
name-parts b n t =
    let c = and_cases (starts_name b) (all_of continues_name n && leb (length (b ∷ n)) max_name_bytes) t in
    let d = and_cases (all_of continues_name n) (leb (length (b ∷ n)) max_name_bytes) c.1 in
    let l : length (b ∷ n) ≤ max_name_bytes = leb→le (length (b ∷ n)) max_name_bytes d.1 in
    (c.0, d.0, omega arith)

-- the events of a token that stands at a place
abbrev pub solid_from : ℕ → List ℕ → Option ℕ
solid_from k [] = none
solid_from k (b ∷ w) = cond (is_blank b) (solid_from (suc k) w) (some k)

abbrev pub token_events : ℕ → Token → List Event
token_events k (start_tag n a) = starts n k ∷ []
token_events k (empty_tag n a) = starts n k ∷ ends n k ∷ []
token_events k (end_tag n a) = ends n k ∷ []
token_events k (characters w) = runs (run k (solid_from k w) (saved_in w)) (length w) ∷ []

-- after its `<`
abbrev pub tag_rest : Token → List ℕ
tag_rest (start_tag n a) = n ++ (a ++ (0x3E ∷ []))
tag_rest (empty_tag n a) = n ++ (a ++ (0x2F ∷ 0x3E ∷ []))
tag_rest (end_tag n a) = 0x2F ∷ (n ++ (a ++ (0x3E ∷ [])))
tag_rest (characters w) = []

pub tag-spelling : (t : Token) → TagNext (t ∷ []) → spell_token t ≡ 0x3C ∷ tag_rest t
tag-spelling (start_tag n a) start-next = refl
tag-spelling (empty_tag n a) empty-next = refl
tag-spelling (end_tag n a) end-next = refl
tag-spelling (characters _) x'' = elim x'' [ ]

start-closes : (at : ℕ) (n : List ℕ) (m : Mode) (k : ℕ) → AsByte (tag_byte at n) m → Passes m k (0x3E ∷ []) between (starts n at ∷ [])
unfolding AsByte
start-closes at n m k h = passes-byte k 0x3E [] (h k 0x3E refl) (passes_none between (suc k))

empty-closes : (at : ℕ) (n : List ℕ) (m : Mode) (k : ℕ) → AsByte (tag_byte at n) m → Passes m k (0x2F ∷ 0x3E ∷ []) between (starts n at ∷ ends n at ∷ [])
unfolding AsByte lex
empty-closes at n m k h = passes-byte k 0x2F (0x3E ∷ []) (h k 0x2F refl) (passes-byte {m = after_slash at n} (suc k) 0x3E [] refl (passes_none between (suc (suc k))))

end-closes : (at : ℕ) (n : List ℕ) (m : Mode) (k : ℕ) → AsByte (end_tag_byte at n) m → Passes m k (0x3E ∷ []) between (ends n at ∷ [])
unfolding AsByte
end-closes at n m k h = passes-byte k 0x3E [] (h k 0x3E refl) (passes_none between (suc k))

name-begins : (at k b : ℕ) → T (starts_name b) → lex (opened at) k b ≡ goes (in_name at (b ∷ []))
unfolding lex
name-begins at k b t = rw (other_byte starts_name b 0x2F t refl, true_of (starts_name b) t)

end-name-begins : (at k b : ℕ) → T (starts_name b) → lex (ending at) k b ≡ goes (in_end_name at (b ∷ []))
unfolding lex
end-name-begins at k b t = rw (true_of (starts_name b) t)

-- a start tag or an empty tag from its name on
open-tag-passes : (at : ℕ) (n a fin : List ℕ) (es : List Event) → T (is_name n) → T (all_blank a)
    → ((m : Mode) (k : ℕ) → AsByte (tag_byte at n) m → Passes m k fin between es) → (k : ℕ) → Passes (opened at) k (n ++ (a ++ fin)) between es
open-tag-passes at [] a fin es t u p k = absurd t
open-tag-passes at (b ∷ n) a fin es t u p k =
    let h = name-parts b n t in
    passes-byte k b (n ++ (a ++ fin)) (name-begins at k b h.0)
    (passes_append (suc k) n (a ++ fin) (name-passes (in_name at) (name-takes at) (b ∷ []) n (suc k) h.1 h.2)
    (after-blanks (tag_byte at (b ∷ n)) (after_name at (b ∷ n)) (blank-as-byte at (b ∷ n)) (tag-skips at (b ∷ n)) fin es p (in_name at (b ∷ n)) (suc k + length n) (name-as-byte at (b ∷ n)) a u))

end-tag-passes : (at : ℕ) (n a : List ℕ) → T (is_name n) → T (all_blank a) → (k : ℕ) → Passes (ending at) k (n ++ (a ++ (0x3E ∷ []))) between (ends n at ∷ [])
end-tag-passes at [] a t u k = absurd t
end-tag-passes at (b ∷ n) a t u k =
    let h = name-parts b n t in
    passes-byte k b (n ++ (a ++ (0x3E ∷ []))) (end-name-begins at k b h.0)
    (passes_append (suc k) n (a ++ (0x3E ∷ [])) (name-passes (in_end_name at) (end-name-takes at) (b ∷ []) n (suc k) h.1 h.2)
    (after-blanks (end_tag_byte at (b ∷ n)) (after_end_name at (b ∷ n)) (end-blank-as-byte at (b ∷ n)) (end-tag-skips at (b ∷ n)) (0x3E ∷ []) (ends (b ∷ n) at ∷ [])
    (end-closes at (b ∷ n)) (in_end_name at (b ∷ n)) (suc k + length n) (end-name-as-byte at (b ∷ n)) a u))

ending-begins : (at k : ℕ) → lex (opened at) k 0x2F ≡ goes (ending at)
unfolding lex
ending-begins at k = refl

-- a tag after its `<`
pub tag-passes : {t : Token} (at k : ℕ) → TagNext (t ∷ []) → Spelt t → Passes (opened at) k (tag_rest t) between (token_events at t)
tag-passes at k h (start-spelt {n = n} {a = a} u v) = open-tag-passes at n a (0x3E ∷ []) (starts n at ∷ []) u v (start-closes at n) k
tag-passes at k h (empty-spelt {n = n} {a = a} u v) = open-tag-passes at n a (0x2F ∷ 0x3E ∷ []) (starts n at ∷ ends n at ∷ []) u v (empty-closes at n) k
tag-passes at k h (end-spelt {n = n} {a = a} u v) = passes-byte k 0x2F (n ++ (a ++ (0x3E ∷ []))) (ending-begins at k) (end-tag-passes at n a u v (suc k))
tag-passes at k h (characters-spelt u v) = elim h [ ]

-- ---- character data

-- no `]]>` in bytes that so many `]` precede
abbrev pub no_end : ℕ → List ℕ → Bool
no_end c [] = true
no_end c (b ∷ w) = cond (eqb b 0x5D) (no_end (suc c) w) (cond (eqb b 0x3E && leb 2 c) false (no_end 0 w))

abbrev pub brackets : ℕ → List ℕ
brackets zero = []
brackets (suc c) = 0x5D ∷ brackets c

pub brackets-more : (c : ℕ) (w : List ℕ) → brackets c ++ (0x5D ∷ w) ≡ 0x5D ∷ (brackets c ++ w)
brackets-more zero w = refl
brackets-more (suc c) w = ap (λ (l : List ℕ). 0x5D ∷ l) (brackets-more c w)

two-or-more : (c : ℕ) → leb 2 (suc (suc c)) ≡ true
two-or-more c = true_of (leb 2 (suc (suc c))) (le→leb 2 (suc (suc c)) (omega arith))

end-found : (c : ℕ) (u v : List ℕ) → no_end c (u ++ (section_end ++ v)) ≡ false
end-found c [] v = rw (two-or-more c)
end-found c (b ∷ u) v = by (λ d. end-found d u v) (eqb b 0x5D) (eqb b 0x3E && leb 2 c)
  where
    by : ((d : ℕ) → no_end d (u ++ (section_end ++ v)) ≡ false) → (p q : Bool)
        → cond p (no_end (suc c) (u ++ (section_end ++ v))) (cond q false (no_end 0 (u ++ (section_end ++ v)))) ≡ false
    by h true q = h (suc c)
    by h false true = refl
    by h false false = h 0

pub no-end-means : (w : List ℕ) → T (no_end 0 w) → NoSectionEnd w
no-end-means w t u v e = failed (ap (no_end 0) e ∙ end-found 0 u v) t

pub brackets-end : (c : ℕ) (w : List ℕ) → brackets (suc (suc c)) ++ (0x3E ∷ w) ≡ brackets c ++ (section_end ++ w)
brackets-end c w = sym (brackets-more c (0x5D ∷ 0x3E ∷ w) ∙ ap (λ (l : List ℕ). 0x5D ∷ l) (brackets-more c (0x3E ∷ w)))

-- two of the brackets before a `>`
pub last-two : (c : ℕ) → 2 ≤ c → (d : ℕ) × (c ≡ suc (suc d))
last-two zero h = absurd (omega arith)
last-two (suc zero) h = absurd (omega arith)
last-two (suc (suc d)) h = (d, refl)

not-closed : (c b : ℕ) (w : List ℕ) → NoSectionEnd (brackets c ++ (b ∷ w)) → T (eqb b 0x3E && leb 2 c) → ⊥
not-closed c b w h t =
    let k = and_cases (eqb b 0x3E) (leb 2 c) t in
    let d = last-two c (leb→le 2 c k.1) in
    h (brackets d.0) w (ap (λ (x : ℕ). brackets c ++ (x ∷ w)) (eqb→eq b 0x3E k.0) ∙ ap (λ (x : ℕ). brackets x ++ (0x3E ∷ w)) d.1 ∙ brackets-end d.0 w)

pub means-no-end : (c : ℕ) (w : List ℕ) → NoSectionEnd (brackets c ++ w) → T (no_end c w)
means-no-end c [] h = tt
means-no-end c (b ∷ w) h = by (means-no-end (suc c) w) (means-no-end 0 w) (eqb b 0x5D) (eqb b 0x3E && leb 2 c) refl refl
  where
    shorter : NoSectionEnd w
    shorter u v e = h (brackets c ++ (b ∷ u)) v (ap (λ (l : List ℕ). brackets c ++ (b ∷ l)) e ∙ sym (append_assoc (brackets c) (b ∷ u) (section_end ++ v)))

    one_more : b ≡ 0x5D → NoSectionEnd (0x5D ∷ (brackets c ++ w))
    one_more e u v f = h u v (ap (λ (x : ℕ). brackets c ++ (x ∷ w)) e ∙ brackets-more c w ∙ f)

    by : (NoSectionEnd (0x5D ∷ (brackets c ++ w)) → T (no_end (suc c) w)) → (NoSectionEnd w → T (no_end 0 w)) → (p q : Bool) → eqb b 0x5D ≡ p → (eqb b 0x3E && leb 2 c) ≡ q
        → T (cond p (no_end (suc c) w) (cond q false (no_end 0 w)))
    by i j true q e f = i (one_more (eqb→eq b 0x5D (passed e)))
    by i j false true e f = absurd (not-closed c b w h (passed f))
    by i j false false e f = j shorter

-- a byte of character data that is no `<`
pub data-lex : (r : Run) (c k b : ℕ) → eqb b 0x3C ≡ false → lex (in_data r c) k b ≡ goes (data_byte r c k b)
unfolding lex
data-lex r c k b e = rw e

pub between-lex : (k b : ℕ) → eqb b 0x3C ≡ false → lex between k b ≡ lex (in_data (run k none 0) 0) k b
unfolding lex
between-lex k b e = rw e

-- the first solid byte of a run that goes on
abbrev pub join_solid : Option ℕ → Option ℕ → Option ℕ
join_solid none x = x
join_solid (some j) x = some j

abbrev pub ran_on : Run → ℕ → List ℕ → Run
ran_on r k w = run r.start (join_solid r.solid (solid_from k w)) (r.saved + saved_in w)

ran-nothing : (r : Run) (k : ℕ) → r ≡ ran_on r k []
ran-nothing r k = by r.solid refl ∙ ap (run r.start (join_solid r.solid none)) (sym (ap (λ (n : ℕ). r.saved + n) none-saved ∙ add-zero r.saved))
  where
    by : (x : Option ℕ) → r.solid ≡ x → r ≡ run r.start (join_solid x none) r.saved
    by none e = rw (← e)
    by (some j) e = rw (← e)

solid-first : (x : Option ℕ) (k : ℕ) (y : Option ℕ) → join_solid (first_solid x k) y ≡ join_solid x (some k)
solid-first none k y = refl
solid-first (some j) k y = refl

-- after an entity that saves so many bytes
abbrev saving : Run → ℕ → ℕ → Mode
saving r k n = in_data (saved_by (solid_by r k) n) 0

three : (k : ℕ) → suc (suc (suc k)) - k ≡ 3
three k = omega arith

four : (k : ℕ) → suc (suc (suc (suc k))) - k ≡ 4
four k = omega arith

five : (k : ℕ) → suc (suc (suc (suc (suc k)))) - k ≡ 5
five k = omega arith

-- an entity stands for one character
pub entity-passes : {e : List ℕ} (r : Run) (c k : ℕ) → Entity e → Passes (in_data r c) k e (in_data (saved_by (solid_by r k) (length e - 1)) 0) []
unfolding mode_after events_over lex
entity-passes r c k lt = record { mode = ap (saving r k) (three k); events = refl }
entity-passes r c k gt = record { mode = ap (saving r k) (three k); events = refl }
entity-passes r c k amp = record { mode = ap (saving r k) (four k); events = refl }
entity-passes r c k apos = record { mode = ap (saving r k) (five k); events = refl }
entity-passes r c k quot = record { mode = ap (saving r k) (five k); events = refl }

pub entity-resets : {e : List ℕ} (c : ℕ) (w : List ℕ) → Entity e → no_end c (e ++ w) ≡ no_end 0 w
entity-resets c w lt = refl
entity-resets c w gt = refl
entity-resets c w amp = refl
entity-resets c w apos = refl
entity-resets c w quot = refl

entity-solid : {e : List ℕ} (k : ℕ) (w : List ℕ) → Entity e → solid_from k (e ++ w) ≡ some k
entity-solid k w lt = refl
entity-solid k w gt = refl
entity-solid k w amp = refl
entity-solid k w apos = refl
entity-solid k w quot = refl

-- the mode after bytes of character data, whatever brackets they end in
abbrev RunsOn : Run → ℕ → ℕ → List ℕ → Type 0
RunsOn r c k w = (d : ℕ) × Passes (in_data r c) k w (in_data (ran_on r k w) d) []

plain-runs-on : (r : Run) (c k b : ℕ) (w : List ℕ) → T (is_plain b) → T (no_end c (b ∷ w)) → ((q : Run) (d : ℕ) → T (no_end d w) → RunsOn q d (suc k) w) → RunsOn r c k (b ∷ w)
plain-runs-on r c k b w is_data t rest = by (is_blank b) (eqb b 0x5D) (eqb b 0x3E && leb 2 c) refl refl refl
  where
    no-tag : eqb b 0x3C ≡ false
    no-tag = (plain-parts b is_data).0

    no-entity : eqb b 0x26 ≡ false
    no-entity = (plain-parts b is_data).1

    solid : is_blank b ≡ false → (d : ℕ) → lex (in_data r c) k b ≡ goes (in_data (solid_by r k) d) → T (no_end d w) → RunsOn r c k (b ∷ w)
    solid e d l u =
        let h = rest (solid_by r k) d u in
        let f : ran_on (solid_by r k) (suc k) w ≡ ran_on r k (b ∷ w) = rw (e, solid-first r.solid k (solid_from (suc k) w), plain-saved b w no-entity) in
        (h.0, subst (λ (x : Run). Passes (in_data r c) k (b ∷ w) (in_data x h.0) []) f (passes-byte k b w l h.1))

    by : (p q x : Bool) → is_blank b ≡ p → eqb b 0x5D ≡ q → (eqb b 0x3E && leb 2 c) ≡ x → RunsOn r c k (b ∷ w)
    by true q x e f g =
        let h = rest r 0 (subst T (blank-cases (λ (y : ℕ). no_end c (y ∷ w) ≡ no_end 0 w) b (passed e) refl refl refl) t) in
        let s : ran_on r (suc k) w ≡ ran_on r k (b ∷ w) = rw (e, plain-saved b w no-entity) in
        let l : lex (in_data r c) k b ≡ goes (in_data r 0) = data-lex r c k b no-tag ∙ rw e in
        (h.0, subst (λ (z : Run). Passes (in_data r c) k (b ∷ w) (in_data z h.0) []) s (passes-byte k b w l h.1))
    by false true x e f g = solid e (suc c) (data-lex r c k b no-tag ∙ rw (e, no-entity, f)) (rw f at t)
    by false false true e f g = absurd (rw (f, g) at t)
    by false false false e f g = solid e 0 (data-lex r c k b no-tag ∙ rw (e, no-entity, f, g)) (rw (f, g) at t)

pub data-passes : {w : List ℕ} (r : Run) (c k : ℕ) → Pieces w → T (no_end c w) → RunsOn r c k w
data-passes r c k no-piece t = (c, subst (λ (x : Run). Passes (in_data r c) k [] (in_data x c) []) (ran-nothing r k) (passes_none (in_data r c) k))
data-passes r c k (plain {b = b} {w = w} h p) t = plain-runs-on r c k b w h t (λ q d u. data-passes q d (suc k) p u)
data-passes r c k (entity {e = e} {w = w} h p) t =
    let s = saved_by (solid_by r k) (length e - 1) in
    let i = data-passes s 0 (k + length e) p (subst T (entity-resets c w h) t) in
    let n : (r.saved + (length e - 1)) + saved_in w ≡ r.saved + saved_in (e ++ w) = add_assoc r.saved (length e - 1) (saved_in w) ∙ ap (λ (x : ℕ). r.saved + x) (sym (entity-saved w h)) in
    let f : ran_on s (k + length e) w ≡ ran_on r k (e ++ w) = rw (entity-solid k w h, solid-first r.solid k (solid_from (k + length e) w), n) in
    (i.0, subst (λ (x : Run). Passes (in_data r c) k (e ++ w) (in_data x i.0) []) f (passes_append k e w (entity-passes r c k h) i.1))

abbrev pub NotTag : List ℕ → Type 0
NotTag [] = Unit {0}
NotTag (b ∷ w) = eqb b 0x3C ≡ false

pub pieces-not-tag : {w : List ℕ} → Pieces w → NotTag w
pieces-not-tag no-piece = tt
pieces-not-tag (plain {b = b} h p) = (plain-parts b h).0
pieces-not-tag (entity lt p) = refl
pieces-not-tag (entity gt p) = refl
pieces-not-tag (entity amp p) = refl
pieces-not-tag (entity apos p) = refl
pieces-not-tag (entity quot p) = refl

-- a run from its first byte on
pub run-passes : (k b : ℕ) (w : List ℕ) → Pieces (b ∷ w) → NoSectionEnd (b ∷ w) → (d : ℕ) × Passes between k (b ∷ w) (in_data (run k (solid_from k (b ∷ w)) (saved_in (b ∷ w))) d) []
unfolding mode_after events_over
run-passes k b w p h =
    let i = data-passes (run k none 0) 0 k p (means-no-end 0 (b ∷ w) h) in
    let z : ran_on (run k none 0) k (b ∷ w) ≡ run k (solid_from k (b ∷ w)) (saved_in (b ∷ w)) = ap (run k (solid_from k (b ∷ w))) (zero-add (saved_in (b ∷ w))) in
    let e = between-lex k b (pieces-not-tag p) in (
      i.0,
      record {
        mode = ap (λ (l : Lexed). mode_after l.mode (suc k) w) e ∙ i.1.mode ∙ ap (λ (x : Run). in_data x i.0) z;
        events = ap (λ (l : Lexed). told l.event (events_over l.mode (suc k) w)) e ∙ i.1.events;
      },
    )

-- ---- tokens

unfoldable pub events_of : ℕ → List Token → List Event
events_of k [] = []
events_of k (t ∷ ts) = token_events k t ++ events_of (k + length (spell_token t)) ts

-- a run is whole where a tag or the end comes next
data-ends : {ts : List Token} (r : Run) (c k : ℕ) → TagNext ts → events_from (in_data r c) k (spell ts) ≡ runs r (k - r.start) ∷ events_from between k (spell ts)
unfolding events_from lex
data-ends r c k no-token = refl
data-ends r c k start-next = refl
data-ends r c k empty-next = refl
data-ends r c k end-next = refl

data-ends-mode : {ts : List Token} (r : Run) (c k : ℕ) → TagNext ts → misspelt_at (mode_after (in_data r c) k (spell ts)) ≡ misspelt_at (mode_after between k (spell ts))
unfolding mode_after lex
data-ends-mode r c k no-token = refl
data-ends-mode r c k start-next = refl
data-ends-mode r c k empty-next = refl
data-ends-mode r c k end-next = refl

pub tag-opens : (k : ℕ) → lex between k 0x3C ≡ goes (opened k)
unfolding lex
tag-opens k = refl

pub whole-tag-passes : {t : Token} (k : ℕ) → TagNext (t ∷ []) → Spelt t → Passes between k (spell_token t) between (token_events k t)
whole-tag-passes {t} k h s =
    subst (λ (w : List ℕ). Passes between k w between (token_events k t)) (sym (tag-spelling t h)) (passes-byte k 0x3C (tag_rest t) (tag-opens k) (tag-passes k (suc k) h s))

record Lexes (k : ℕ) (ts : List Token) : Type 0 where
  events : events_from between k (spell ts) ≡ events_of k ts
  spelt : misspelt_at (mode_after between k (spell ts)) ≡ []

lexes : {ts : List Token} (k : ℕ) → AllSpelt ts → Lexes k ts
unfolding events_from mode_after events_of
lexes k all_none = record { events = refl; spelt = refl }
lexes k (tag {t = t} {ts = ts} n s rest) =
    let p = whole-tag-passes k n s in
    let i = lexes (k + length (spell_token t)) rest in
    record {
      events = passes-events k (spell_token t) (spell ts) p ∙ ap (λ (l : List Event). token_events k t ++ l) i.events;
      spelt = ap misspelt_at (passes-mode k (spell_token t) (spell ts) p) ∙ i.spelt;
    }
lexes k (data-then {ts = ts} (characters-spelt {b = b} {w = w} p h) n rest) =
    let q = run-passes k b w p h in
    let i = lexes (k + length (b ∷ w)) rest in
    let e : (k + length (b ∷ w)) - k ≡ length (b ∷ w) = omega arith in
    record {
      events =
          passes-events k (b ∷ w) (spell ts) q.1 ∙ data-ends (run k (solid_from k (b ∷ w)) (saved_in (b ∷ w))) q.0 (k + length (b ∷ w)) n
          ∙ ap (λ (x : ℕ). runs (run k (solid_from k (b ∷ w)) (saved_in (b ∷ w))) x ∷ events_from between (k + length (b ∷ w)) (spell ts)) e
          ∙ ap (λ (l : List Event). runs (run k (solid_from k (b ∷ w)) (saved_in (b ∷ w))) (length (b ∷ w)) ∷ l) i.events;
      spelt = ap misspelt_at (passes-mode k (b ∷ w) (spell ts) q.1) ∙ data-ends-mode (run k (solid_from k (b ∷ w)) (saved_in (b ∷ w))) q.0 (k + length (b ∷ w)) n ∙ i.spelt;
    }

-- The lexer tells the events of the tokens that spell a text, and finds nothing misspelt in it.
pub tokens-lexed : {lent : List ℕ} {ts : List Token} → Tokens lent ts → (events_from between 0 lent ≡ events_of 0 ts) × (misspelt_at (mode_after between 0 lent) ≡ [])
tokens-lexed {lent} t =
    let i = lexes 0 t.spelt in
    (ap (λ (w : List ℕ). events_from between 0 w) t.joined ∙ i.events, ap (λ (w : List ℕ). misspelt_at (mode_after between 0 w)) t.joined ∙ i.spelt)
