-- Every text is either spelt by tokens, or misspelt where the lexer says so.
use Rattle.std.specs.Prelude.{Bool, true, false, cond, ◌&&◌, ◌||◌, ◌⊎◌, ◌≡◌, refl, ℕ, zero, suc, ◌+◌, ◌-◌, ◌≤◌, ◌<◌, T, eqb, leb, ltb, length, drop}
use mathlib.Core.List.Memᴰ.{head as here}
use mathlib.Core.List.Memᴰ.{tail as there}
use mathlib.Core.List.{List, [], ◌∷◌, ◌++◌, map, append_assoc, append-nil, Memᴰ as In}
use Rattle.std.proofs.Common.{inl, inr, sym, ap, subst, ◌∙◌, add-zero, zero-add, arith, eqb→eq, le→leb, leb→le, ltb→lt, length-append}
use Rattle.std.proofs.Math.Option.{none}
use Rattle.std.proofs.Math.Dec.{eqb_refl}
use Rattle.text_laws.specs.Bytes.{one-byte-name, name-snoc}
use Rattle.text_laws.specs.Lists.{any-in, in-any, empty_of, append-empty, member-fills, all_snoc}
use Rattle.text_laws.specs.Tests.{passed, failed, true_of, and_cases, or_cases, not-intro, never}
use Rattle.text_spec.specs.Bytes.{is_blank, is_name, starts_name, continues_name, all_blank}
use Rattle.text_spec.specs.Limits.{max_name_bytes}
use Rattle.text_spec.specs.Lists.{any_of, is_empty}
use Rattle.text_spec.specs.Machines.{longer}
use Rattle.token_laws.specs.Characters.{plain-parts}
use Rattle.token_laws.specs.Events.{told, events_from, cond_cases}
use Rattle.token_laws.specs.Passes.{mode-append, Passes, passes_none, passes-byte, passes_append, passes-events, token_events, whole-tag-passes, no_end, brackets, brackets-more, brackets-end, last-two, no-end-means, data-lex, entity-resets, tag-spelling, tag_rest, pieces-not-tag, entity-passes, tag-opens, blank-cases}
use Rattle.token_spec.specs.Lexer.{mode_after, Run, run, Mode, between, in_data, in_entity, opened, in_name, after_name, after_slash, ending, in_end_name, after_end_name, stopped, Event, runs, Lexed, goes, tells, solid_by, saved_by, tails_with, data_byte, entity_byte, lex, misspelt_at, tag_byte, end_tag_byte}
use Rattle.token_spec.specs.Misspellings.{Stretch, nothing_yet, a-tag, a_byte, an-entity, MisspeltHere, bad-tag, bad-entity, section-end, Misspelt}
use Rattle.token_spec.specs.Tokens.{Token, start_tag, empty_tag, end_tag, spell_token, spell, entities, Entity, lt, gt, amp, apos, quot, is_plain, Pieces, none as no-piece, plain, entity, section_end, Spelt, start-spelt, empty-spelt, end-spelt, characters-spelt, TagNext, no-token, start-next, empty-next, end-next, AllSpelt, none as all_none, tag, data-then, Tokens}

-- ---- a tag that is not complete

data Pending : Mode → ℕ → List ℕ → Type 0 where
  after-bracket : {at : ℕ} → Pending (opened at) at (0x3C ∷ [])
  in-name : {at : ℕ} {n : List ℕ} → T (is_name n) → Pending (in_name at n) at (0x3C ∷ n)
  after-name : {at : ℕ} {n : List ℕ} (a : List ℕ) → T (is_name n) → T (all_blank a) → Pending (after_name at n) at (0x3C ∷ (n ++ a))
  after-slash : {at : ℕ} {n : List ℕ} (a : List ℕ) → T (is_name n) → T (all_blank a) → Pending (after_slash at n) at (0x3C ∷ (n ++ (a ++ (0x2F ∷ []))))
  at-end : {at : ℕ} → Pending (ending at) at (0x3C ∷ 0x2F ∷ [])
  in-end-name : {at : ℕ} {n : List ℕ} → T (is_name n) → Pending (in_end_name at n) at (0x3C ∷ 0x2F ∷ n)
  after-end-name : {at : ℕ} {n : List ℕ} (a : List ℕ) → T (is_name n) → T (all_blank a) → Pending (after_end_name at n) at (0x3C ∷ 0x2F ∷ (n ++ a))

-- what a byte makes of it
data TagStep (at : ℕ) (p : List ℕ) (b : ℕ) : Lexed → Type 0 where
  goes_on_lem : {m : Mode} → Pending m at (p ++ (b ∷ [])) → TagStep at p b (goes m)
  completes : {t : Token} {e : Event} → TagNext (t ∷ []) → Spelt t → p ++ (b ∷ []) ≡ spell_token t → TagStep at p b (tells between e)
  stops : TagStep at p b (goes (stopped at))

blank-snoc : (a : List ℕ) (b : ℕ) → T (all_blank a) → T (is_blank b) → T (all_blank (a ++ (b ∷ [])))
blank-snoc a b h k = all_snoc is_blank a b h k

tag-byte-step : (at b : ℕ) (n a : List ℕ) → T (is_name n) → T (all_blank a) → TagStep at (0x3C ∷ (n ++ a)) b (tag_byte at n b)
tag-byte-step at b n a h k =
    let joined : (c : ℕ) → (0x3C ∷ (n ++ a)) ++ (c ∷ []) ≡ 0x3C ∷ (n ++ (a ++ (c ∷ []))) = λ c. ap (λ (l : List ℕ). 0x3C ∷ l) (append_assoc n a (c ∷ [])) in
    cond_cases (TagStep at (0x3C ∷ (n ++ a)) b) (is_blank b) _ _
    (λ e. goes_on_lem (subst (λ (l : List ℕ). Pending (after_name at n) at l) (sym (joined b)) (after-name (a ++ (b ∷ [])) h (blank-snoc a b k (passed e)))))
    (λ e.
    cond_cases (TagStep at (0x3C ∷ (n ++ a)) b) (eqb b 0x3E) _ _
    (λ f. completes {t = start_tag n a} start-next (start-spelt h k) (joined b ∙ ap (λ (c : ℕ). 0x3C ∷ (n ++ (a ++ (c ∷ [])))) (eqb→eq b 0x3E (passed f))))
    (λ f.
    cond_cases (TagStep at (0x3C ∷ (n ++ a)) b) (eqb b 0x2F) _ _
    (λ g. goes_on_lem (subst (λ (l : List ℕ). Pending (after_slash at n) at l) (sym (joined b ∙ ap (λ (c : ℕ). 0x3C ∷ (n ++ (a ++ (c ∷ [])))) (eqb→eq b 0x2F (passed g)))) (after-slash a h k)))
    (λ g. stops)))

end-tag-byte-step : (at b : ℕ) (n a : List ℕ) → T (is_name n) → T (all_blank a) → TagStep at (0x3C ∷ 0x2F ∷ (n ++ a)) b (end_tag_byte at n b)
end-tag-byte-step at b n a h k =
    let joined : (c : ℕ) → (0x3C ∷ 0x2F ∷ (n ++ a)) ++ (c ∷ []) ≡ 0x3C ∷ 0x2F ∷ (n ++ (a ++ (c ∷ []))) = λ c. ap (λ (l : List ℕ). 0x3C ∷ 0x2F ∷ l) (append_assoc n a (c ∷ [])) in
    cond_cases (TagStep at (0x3C ∷ 0x2F ∷ (n ++ a)) b) (is_blank b) _ _
    (λ e. goes_on_lem (subst (λ (l : List ℕ). Pending (after_end_name at n) at l) (sym (joined b)) (after-end-name (a ++ (b ∷ [])) h (blank-snoc a b k (passed e)))))
    (λ e.
    cond_cases (TagStep at (0x3C ∷ 0x2F ∷ (n ++ a)) b) (eqb b 0x3E) _ _
    (λ f. completes {t = end_tag n a} end-next (end-spelt h k) (joined b ∙ ap (λ (c : ℕ). 0x3C ∷ 0x2F ∷ (n ++ (a ++ (c ∷ [])))) (eqb→eq b 0x3E (passed f))))
    (λ f. stops))

longer-step : (at b : ℕ) (p n : List ℕ) (part : List ℕ → Mode) → (length n < max_name_bytes → Pending (part (n ++ (b ∷ []))) at (p ++ (b ∷ [])))
    → TagStep at p b (goes (longer (stopped at) n b part))
longer-step at b p n part h =
    cond_cases (λ (x : Mode). TagStep at p b (goes x)) (ltb (length n) max_name_bytes) _ _ (λ e. goes_on_lem (h (ltb→lt (length n) max_name_bytes (passed e)))) (λ e. stops)

tag-step : {m : Mode} {at : ℕ} {p : List ℕ} (k b : ℕ) → Pending m at p → TagStep at p b (lex m k b)
unfolding lex
tag-step {at = at} k b after-bracket =
    cond_cases (TagStep at (0x3C ∷ []) b) (eqb b 0x2F) _ _
    (λ e. goes_on_lem (subst (λ (c : ℕ). Pending (ending at) at (0x3C ∷ c ∷ [])) (sym (eqb→eq b 0x2F (passed e))) at-end))
    (λ e. cond_cases (TagStep at (0x3C ∷ []) b) (starts_name b) _ _ (λ f. goes_on_lem (in-name (one-byte-name b (passed f)))) (λ f. stops))
tag-step {at = at} k b (in-name {n = n} h) =
    cond_cases (TagStep at (0x3C ∷ n) b) (continues_name b) _ _
    (λ e. longer-step at b (0x3C ∷ n) n (in_name at) (λ l. in-name (name-snoc n b h (passed e) l)))
    (λ e. subst (λ (l : List ℕ). TagStep at (0x3C ∷ l) b (tag_byte at n b)) (append-nil n) (tag-byte-step at b n [] h tt))
tag-step {at = at} k b (after-name {n = n} a h u) = tag-byte-step at b n a h u
tag-step {at = at} k b (after-slash {n = n} a h u) =
    cond_cases (TagStep at (0x3C ∷ (n ++ (a ++ (0x2F ∷ [])))) b) (eqb b 0x3E) _ _
    (λ e. completes {t = empty_tag n a} empty-next (empty-spelt h u)
    (ap (λ (l : List ℕ). 0x3C ∷ l) (append_assoc n (a ++ (0x2F ∷ [])) (b ∷ []) ∙ ap (λ (l : List ℕ). n ++ l) (append_assoc a (0x2F ∷ []) (b ∷ [])))
    ∙ ap (λ (c : ℕ). 0x3C ∷ (n ++ (a ++ (0x2F ∷ c ∷ [])))) (eqb→eq b 0x3E (passed e))))
    (λ e. stops)
tag-step {at = at} k b at-end =
    cond_cases (TagStep at (0x3C ∷ 0x2F ∷ []) b) (starts_name b) _ _ (λ f. goes_on_lem (in-end-name (one-byte-name b (passed f)))) (λ f. stops)
tag-step {at = at} k b (in-end-name {n = n} h) =
    cond_cases (TagStep at (0x3C ∷ 0x2F ∷ n) b) (continues_name b) _ _
    (λ e. longer-step at b (0x3C ∷ 0x2F ∷ n) n (in_end_name at) (λ l. in-end-name (name-snoc n b h (passed e) l)))
    (λ e. subst (λ (l : List ℕ). TagStep at (0x3C ∷ 0x2F ∷ l) b (end_tag_byte at n b)) (append-nil n) (end-tag-byte-step at b n [] h tt))
tag-step {at = at} k b (after-end-name {n = n} a h u) = end-tag-byte-step at b n a h u

-- ---- what bytes from a place on are: spelt by tokens, or misspelt at one place

data Reading (k : ℕ) (bs : List ℕ) : List ℕ → Type 0 where
  spelled : {ts : List Token} → AllSpelt ts → bs ≡ spell ts → Reading k bs []
  misspelled : (j : ℕ) (u v : List ℕ) → Stretch u → MisspeltHere v → bs ≡ u ++ v → j ≡ k + length u → Reading k bs (j ∷ [])

reading-after-tag : (k l : ℕ) (xs bs : List ℕ) (t : Token) {ms : List ℕ} → TagNext (t ∷ []) → Spelt t → l ≡ k + length (spell_token t) → xs ≡ spell_token t ++ bs → Reading l bs ms → Reading k xs ms
reading-after-tag k l xs bs t n s h e (spelled a f) = spelled (tag n s a) (e ∙ ap (λ (w : List ℕ). spell_token t ++ w) f)
reading-after-tag k l xs bs t n s h e (misspelled j u v a m f p) =
    let q : length (spell_token t ++ u) ≡ length (spell_token t) + length u = length-append (spell_token t) u in
    misspelled j (spell_token t ++ u) v (a-tag n s a) m (e ∙ ap (λ (w : List ℕ). spell_token t ++ w) f ∙ sym (append_assoc (spell_token t) u v)) (omega arith)

some-event : {t : Token} (k : ℕ) (es : List Event) → TagNext (t ∷ []) → token_events k t ++ es ≡ [] → ⊥
some-event k es start-next e = never (cc)
some-event k es empty-next e = never (cc)
some-event k es end-next e = never (cc)

-- where the lexer tells no event, no tag begins
no-tag-here : (k : ℕ) (w : List ℕ) → events_from between k (0x3C ∷ w) ≡ [] → (t : Token) (r : List ℕ) → TagNext (t ∷ []) → Spelt t → 0x3C ∷ w ≡ spell_token t ++ r → ⊥
no-tag-here k w h t r n s e =
    some-event k (events_from between (k + length (spell_token t)) r) n
    (sym (passes-events k (spell_token t) r (whole-tag-passes k n s)) ∙ ap (λ (x : List ℕ). events_from between k x) (sym e) ∙ h)

pending-first : {m : Mode} {at : ℕ} {p : List ℕ} → Pending m at p → (q : List ℕ) × (p ≡ 0x3C ∷ q)
pending-first after-bracket = ([], refl)
pending-first (in-name {n = n} h) = (n, refl)
pending-first (after-name {n = n} a h u) = (n ++ a, refl)
pending-first (after-slash {n = n} a h u) = (n ++ (a ++ (0x2F ∷ [])), refl)
pending-first at-end = (0x2F ∷ [], refl)
pending-first (in-end-name {n = n} h) = (0x2F ∷ n, refl)
pending-first (after-end-name {n = n} a h u) = (0x2F ∷ (n ++ a), refl)

bad-pending : {m : Mode} (at : ℕ) (p bs : List ℕ) → Pending m at p → events_from between at (p ++ bs) ≡ [] → Reading at (p ++ bs) (at ∷ [])
bad-pending at p bs h e =
    let q = pending-first h in
    let f : p ++ bs ≡ 0x3C ∷ (q.0 ++ bs) = ap (λ (x : List ℕ). x ++ bs) q.1 in
    misspelled at [] (0x3C ∷ (q.0 ++ bs)) nothing_yet
    (bad-tag (no-tag-here at (q.0 ++ bs) (ap (λ (x : List ℕ). events_from between at x) (sym f) ∙ e))) f (sym (add-zero at))

cut_off : {m : Mode} {at : ℕ} {p : List ℕ} (k : ℕ) → Pending m at p → (events_from m k [] ≡ []) × (misspelt_at m ≡ at ∷ [])
unfolding events_from
cut_off k after-bracket = (refl, refl)
cut_off k (in-name h) = (refl, refl)
cut_off k (after-name a h u) = (refl, refl)
cut_off k (after-slash a h u) = (refl, refl)
cut_off k at-end = (refl, refl)
cut_off k (in-end-name h) = (refl, refl)
cut_off k (after-end-name a h u) = (refl, refl)

stopped-events : (at k : ℕ) (bs : List ℕ) → events_from (stopped at) k bs ≡ []
unfolding events_from lex
stopped-events at k [] = refl
stopped-events at k (b ∷ bs) = stopped-events at (suc k) bs

pub stopped-mode : (at k : ℕ) (bs : List ℕ) → mode_after (stopped at) k bs ≡ stopped at
unfolding mode_after lex
stopped-mode at k [] = refl
stopped-mode at k (b ∷ bs) = stopped-mode at (suc k) bs

-- ---- character data, which so many `]` precede

data DataReading (j : ℕ) (xs : List ℕ) : List ℕ → Type 0 where
  data-spelled : {w : List ℕ} {ts : List Token} → Pieces w → T (no_end 0 w) → TagNext ts → AllSpelt ts → xs ≡ w ++ spell ts → DataReading j xs []
  data-misspelled : (i : ℕ) (u v : List ℕ) → Stretch u → MisspeltHere v → xs ≡ u ++ v → i ≡ j + length u → DataReading j xs (i ∷ [])

from-data : {k : ℕ} {bs ms : List ℕ} → DataReading k bs ms → Reading k bs ms
from-data (data-spelled {w = []} p n t a e) = spelled a e
from-data (data-spelled {w = b ∷ w} p n t a e) = spelled (data-then (characters-spelt p (no-end-means (b ∷ w) n)) t a) e
from-data (data-misspelled i u v a m e p) = misspelled i u v a m e p

-- the parts of an entity: what was read of it, and what may come
record Matches (c : List ℕ) (rests : List (List ℕ)) : Type 0 where
  sound : (w : List ℕ) → In w rests → Entity (c ++ w)
  complete : (w : List ℕ) → Entity (c ++ w) → In w rests

abbrev NoneYet : List ℕ → Type 0
NoneYet c = (e r : List ℕ) → Entity e → c ≡ e ++ r → ⊥

abbrev M : Mode → ℕ → List ℕ → List ℕ
M m k bs = misspelt_at (mode_after m k bs)

record Claims (bs : List ℕ) : Type 0 where
  at-between : (k : ℕ) → Reading k bs (M between k bs)
  at-data : (r : Run) (c j k : ℕ) → j + c ≡ k → DataReading j (brackets c ++ bs) (M (in_data r c) k bs)
  at-entity : (rests : List (List ℕ)) (at : ℕ) (r : Run) (c : List ℕ) (k : ℕ) → Matches (0x26 ∷ c) rests → NoneYet (0x26 ∷ c) → at + suc (length c) ≡ k
      → DataReading at ((0x26 ∷ c) ++ bs) (M (in_entity rests at r) k bs)
  at_tag : {m : Mode} (at : ℕ) (p : List ℕ) (k : ℕ) → Pending m at p → Passes between at p m [] → at + length p ≡ k → Reading at (p ++ bs) (M m k bs)

events-step : (m : Mode) (k b : ℕ) (bs : List ℕ) (l : Lexed) → lex m k b ≡ l → events_from m k (b ∷ bs) ≡ told l.event (events_from l.mode (suc k) bs)
unfolding events_from
events-step m k b bs l e = ap (λ (x : Lexed). told x.event (events_from x.mode (suc k) bs)) e

-- ---- one byte of a tag

tag-claim : {m : Mode} {at : ℕ} {p : List ℕ} (k b : ℕ) (bs : List ℕ) {l : Lexed} → Claims bs → Pending m at p → Passes between at p m [] → at + length p ≡ k → TagStep at p b l → lex m k b ≡ l
    → Reading at (p ++ (b ∷ bs)) (M l.mode (suc k) bs)
tag-claim {m} {at} {p} k b bs c h q e (goes_on_lem {m = a} g) x =
    let y : lex m (at + length p) b ≡ goes a = ap (λ (i : ℕ). lex m i b) e ∙ x in
    let n : length (p ++ (b ∷ [])) ≡ length p + 1 = length-append p (b ∷ []) in
    subst (λ (w : List ℕ). Reading at w (M a (suc k) bs)) (append_assoc p (b ∷ []) bs)
    (c.at_tag at (p ++ (b ∷ [])) (suc k) g (passes_append at p (b ∷ []) q (passes-byte (at + length p) b [] y (passes_none a (suc (at + length p))))) (omega arith))
tag-claim {m} {at} {p} k b bs c h q e (completes {t = t} n s f) x =
    let g : length (p ++ (b ∷ [])) ≡ length p + 1 = length-append p (b ∷ []) in
    let i : length (p ++ (b ∷ [])) ≡ length (spell_token t) = ap length f in
    reading-after-tag at (suc k) (p ++ (b ∷ bs)) bs t n s (omega arith) (sym (append_assoc p (b ∷ []) bs) ∙ ap (λ (w : List ℕ). w ++ bs) f) (c.at-between (suc k))
tag-claim {m} {at} {p} k b bs c h q e stops x =
    subst (λ (y : List ℕ). Reading at (p ++ (b ∷ bs)) y) (sym (ap misspelt_at (stopped-mode at (suc k) bs))) (bad-pending at p (b ∷ bs) h silent)
  where
    silent : events_from between at (p ++ (b ∷ bs)) ≡ []
    silent = passes-events at p (b ∷ bs) q ∙ events-step m (at + length p) b bs (goes (stopped at)) (ap (λ (i : ℕ). lex m i b) e ∙ x) ∙ stopped-events at (suc (at + length p)) bs

-- ---- one byte of character data

pieces-append : {u v : List ℕ} → Pieces u → Pieces v → Pieces (u ++ v)
pieces-append no-piece q = q
pieces-append (plain h p) q = plain h (pieces-append p q)
pieces-append {v = v} (entity {e = e} {w = w} h p) q = subst Pieces (sym (append_assoc e w v)) (entity h (pieces-append p q))

brackets-pieces : (c : ℕ) → Pieces (brackets c)
brackets-pieces zero = no-piece
brackets-pieces (suc c) = plain tt (brackets-pieces c)

brackets-stretch : (c : ℕ) {u : List ℕ} → Stretch u → Stretch (brackets c ++ u)
brackets-stretch zero h = h
brackets-stretch (suc c) h = a_byte tt (brackets-stretch c h)

brackets-length : (c : ℕ) → length (brackets c) ≡ c
brackets-length zero = refl
brackets-length (suc c) = ap suc (brackets-length c)

no-end-after : (c d : ℕ) (w : List ℕ) → no_end d (brackets c ++ w) ≡ no_end (c + d) w
no-end-after zero d w =
    let e : d ≡ 0 + d = omega arith in
    ap (λ (x : ℕ). no_end x w) e
no-end-after (suc c) d w =
    let e : c + suc d ≡ suc c + d = omega arith in
    no-end-after c (suc d) w ∙ ap (λ (x : ℕ). no_end x w) e

no-end-brackets : (c : ℕ) (w : List ℕ) → no_end 0 (brackets c ++ w) ≡ no_end c w
no-end-brackets c w = no-end-after c 0 w ∙ ap (λ (x : ℕ). no_end x w) (add-zero c)

front_length : (c : ℕ) (u : List ℕ) → length (brackets c ++ u) ≡ c + length u
front_length c u = length-append (brackets c) u ∙ ap (λ (x : ℕ). x + length u) (brackets-length c)

extend-byte : (j c k b : ℕ) (bs : List ℕ) {ms : List ℕ} → j + c ≡ k → T (is_plain b) → ((w : List ℕ) → no_end c (b ∷ w) ≡ no_end 0 w) → DataReading (suc k) bs ms → DataReading j (brackets c ++ (b ∷ bs)) ms
extend-byte j c k b bs h p r (data-spelled {w = w} {ts = ts} q n t a e) =
    data-spelled (pieces-append (brackets-pieces c) (plain p q)) (subst T (sym (no-end-brackets c (b ∷ w) ∙ r w)) n) t a
    (ap (λ (l : List ℕ). brackets c ++ (b ∷ l)) e ∙ sym (append_assoc (brackets c) (b ∷ w) (spell ts)))
extend-byte j c k b bs h p r (data-misspelled i u v a m e g) =
    let l : length (brackets c ++ (b ∷ u)) ≡ c + length (b ∷ u) = front_length c (b ∷ u) in
    data-misspelled i (brackets c ++ (b ∷ u)) v (brackets-stretch c (a_byte p a)) m (ap (λ (x : List ℕ). brackets c ++ (b ∷ x)) e ∙ sym (append_assoc (brackets c) (b ∷ u) v)) (omega arith)

entity-first : (c : ℕ) (bs w x : List ℕ) → 0x26 ∷ bs ≡ w ++ x → no_end c w ≡ no_end 0 w
entity-first c bs [] x e = refl
entity-first c bs (b ∷ w) x e =
    let z : 0x26 ≡ b = cc in
    subst (λ (y : ℕ). no_end c (y ∷ w) ≡ no_end 0 (y ∷ w)) z refl

extend-entity : (j c k : ℕ) (bs : List ℕ) {ms : List ℕ} → j + c ≡ k → DataReading k (0x26 ∷ bs) ms → DataReading j (brackets c ++ (0x26 ∷ bs)) ms
extend-entity j c k bs h (data-spelled {w = w} {ts = ts} q n t a e) =
    data-spelled (pieces-append (brackets-pieces c) q) (subst T (sym (no-end-brackets c w ∙ entity-first c bs w (spell ts) e)) n) t a
    (ap (λ (l : List ℕ). brackets c ++ l) e ∙ sym (append_assoc (brackets c) w (spell ts)))
extend-entity j c k bs h (data-misspelled i u v a m e g) =
    let l : length (brackets c ++ u) ≡ c + length u = front_length c u in
    data-misspelled i (brackets c ++ u) v (brackets-stretch c a) m (ap (λ (x : List ℕ). brackets c ++ x) e ∙ sym (append_assoc (brackets c) u v)) (omega arith)

-- tokens whose spelling begins with `<` begin with a tag
tag-first : {ts : List Token} (bs : List ℕ) → AllSpelt ts → 0x3C ∷ bs ≡ spell ts → TagNext ts
tag-first bs all_none e = never (cc)
tag-first bs (tag start-next s a) e = start-next
tag-first bs (tag empty-next s a) e = empty-next
tag-first bs (tag end-next s a) e = end-next
tag-first bs (data-then (characters-spelt {b = b} p h) n a) e =
    let z : 0x3C ≡ b = cc in
    absurd (failed (subst (λ (y : ℕ). eqb y 0x3C ≡ false) (sym z) (pieces-not-tag p)) tt)

no-end-of-brackets : (c d : ℕ) → T (no_end d (brackets c))
no-end-of-brackets zero d = tt
no-end-of-brackets (suc c) d = no-end-of-brackets c (suc d)

extend-tag : (j c k : ℕ) (bs : List ℕ) {ms : List ℕ} → j + c ≡ k → Reading k (0x3C ∷ bs) ms → DataReading j (brackets c ++ (0x3C ∷ bs)) ms
extend-tag j c k bs h (spelled {ts = ts} a e) =
    data-spelled (brackets-pieces c) (no-end-of-brackets c 0) (tag-first bs a e) a (ap (λ (l : List ℕ). brackets c ++ l) e)
extend-tag j c k bs h (misspelled i u v a m e g) =
    let l : length (brackets c ++ u) ≡ c + length u = front_length c u in
    data-misspelled i (brackets c ++ u) v (brackets-stretch c a) m (ap (λ (x : List ℕ). brackets c ++ x) e ∙ sym (append_assoc (brackets c) u v)) (omega arith)

section-reading : (j c k : ℕ) (bs : List ℕ) → j + c ≡ k → 2 ≤ c → DataReading j (brackets c ++ (0x3E ∷ bs)) ((k - 2) ∷ [])
section-reading j c k bs h l =
    let d = last-two c l in
    let e : c ≡ suc (suc d.0) = d.1 in
    let f : length (brackets d.0) ≡ d.0 = brackets-length d.0 in
    data-misspelled (k - 2) (brackets d.0) (section_end ++ bs) (subst Stretch (append-nil (brackets d.0)) (brackets-stretch d.0 nothing_yet)) (section-end bs)
    (ap (λ (x : ℕ). brackets x ++ (0x3E ∷ bs)) e ∙ brackets-end d.0 bs) (omega arith)

-- ---- one byte of an entity

in-tails : (b : ℕ) (w : List ℕ) (rests : List (List ℕ)) → In (b ∷ w) rests → In w (tails_with b rests)
in-tails b w [] i = elim i [ ]
in-tails b w ([] ∷ ws) (here e) = never (cc)
in-tails b w ([] ∷ ws) (there i) = in-tails b w ws i
in-tails b w ((c ∷ v) ∷ ws) (here e) =
    let p : c ≡ b = cc in
    let q : w ≡ v = cc in
    subst (λ (x : ℕ). In w (cond (eqb b x) (v ∷ tails_with b ws) (tails_with b ws))) (sym p) (chosen (eqb b b) (true_of (eqb b b) (eqb_refl b)) q)
  where
    chosen : (t : Bool) → t ≡ true → w ≡ v → In w (cond t (v ∷ tails_with b ws) (tails_with b ws))
    chosen true e q = here q
    chosen false e q = never (cc)
in-tails b w ((c ∷ v) ∷ ws) (there i) = later (eqb b c) (in-tails b w ws i)
  where
    later : (t : Bool) → In w (tails_with b ws) → In w (cond t (v ∷ tails_with b ws) (tails_with b ws))
    later true j = there j
    later false j = j

tails-in : (b : ℕ) (w : List ℕ) (rests : List (List ℕ)) → In w (tails_with b rests) → In (b ∷ w) rests
tails-in b w [] i = elim i [ ]
tails-in b w ([] ∷ ws) i = there (tails-in b w ws i)
tails-in b w ((c ∷ v) ∷ ws) i = by (tails-in b w ws) (eqb b c) refl i
  where
    by : (In w (tails_with b ws) → In (b ∷ w) ws) → (t : Bool) → eqb b c ≡ t → In w (cond t (v ∷ tails_with b ws) (tails_with b ws)) → In (b ∷ w) ((c ∷ v) ∷ ws)
    by h true e (here q) =
        let z : b ≡ c = eqb→eq b c (passed e) in
        let y : b ∷ w ≡ c ∷ v = cc in
        here y
    by h true e (there j) = there (h j)
    by h false e j = there (h j)

first-match : Matches (0x26 ∷ []) (map (drop 1) entities)
first-match = record { sound = sound; complete = λ w e. complete e refl }
  where
    sound : (w : List ℕ) → In w (map (drop 1) entities) → Entity (0x26 ∷ w)
    sound w (here e) = subst (λ (x : List ℕ). Entity (0x26 ∷ x)) (sym e) lt
    sound w (there (here e)) = subst (λ (x : List ℕ). Entity (0x26 ∷ x)) (sym e) gt
    sound w (there (there (here e))) = subst (λ (x : List ℕ). Entity (0x26 ∷ x)) (sym e) amp
    sound w (there (there (there (here e)))) = subst (λ (x : List ℕ). Entity (0x26 ∷ x)) (sym e) apos
    sound w (there (there (there (there (here e))))) = subst (λ (x : List ℕ). Entity (0x26 ∷ x)) (sym e) quot
    sound w (there (there (there (there (there i))))) = elim i [ ]

    complete : {e w : List ℕ} → Entity e → e ≡ 0x26 ∷ w → In w (map (drop 1) entities)
    complete {w = w} lt h = here (sym (ap (drop 1) h))
    complete {w = w} gt h = there (here (sym (ap (drop 1) h)))
    complete {w = w} amp h = there (there (here (sym (ap (drop 1) h))))
    complete {w = w} apos h = there (there (there (here (sym (ap (drop 1) h)))))
    complete {w = w} quot h = there (there (there (there (here (sym (ap (drop 1) h))))))

match-step : (c : List ℕ) (rests : List (List ℕ)) (b : ℕ) → Matches c rests → Matches (c ++ (b ∷ [])) (tails_with b rests)
match-step c rests b h =
    record {
      sound = λ w i. subst Entity (sym (append_assoc c (b ∷ []) w)) (h.sound (b ∷ w) (tails-in b w rests i));
      complete = λ w e. in-tails b w rests (h.complete (b ∷ w) (subst Entity (append_assoc c (b ∷ []) w) e));
    }

snoc-cases : (c : List ℕ) (b : ℕ) (e r : List ℕ) → c ++ (b ∷ []) ≡ e ++ r → (r ≡ []) ⊎ ((x : List ℕ) × (c ≡ e ++ x))
snoc-cases c b [] r h = inr (c, refl)
snoc-cases [] b (x ∷ e) r h =
    let z : e ++ r ≡ [] = cc in
    inl (append-empty e r z).1
snoc-cases (y ∷ c) b (x ∷ e) r h =
    let z : c ++ (b ∷ []) ≡ e ++ r = cc in
    let p : y ≡ x = cc in
    by p (snoc-cases c b e r z)
  where
    by : y ≡ x → (r ≡ []) ⊎ ((v : List ℕ) × (c ≡ e ++ v)) → (r ≡ []) ⊎ ((v : List ℕ) × (y ∷ c ≡ x ∷ (e ++ v)))
    by p (inl q) = inl q
    by p (inr q) =
        let d : c ≡ e ++ q.0 = q.1 in
        inr (q.0, cc)

prefix_cases : (c bs e r : List ℕ) → c ++ bs ≡ e ++ r → ((y : List ℕ) × (e ≡ c ++ y)) ⊎ ((x : List ℕ) × (c ≡ e ++ x))
prefix_cases [] bs e r h = inl (e, refl)
prefix_cases (y ∷ c) bs [] r h = inr (y ∷ c, refl)
prefix_cases (y ∷ c) bs (x ∷ e) r h =
    let z : c ++ bs ≡ e ++ r = cc in
    let p : y ≡ x = cc in
    by p (prefix_cases c bs e r z)
  where
    by : y ≡ x → ((v : List ℕ) × (e ≡ c ++ v)) ⊎ ((v : List ℕ) × (c ≡ e ++ v)) → ((v : List ℕ) × (x ∷ e ≡ y ∷ (c ++ v))) ⊎ ((v : List ℕ) × (y ∷ c ≡ x ∷ (e ++ v)))
    by p (inl q) =
        let d : e ≡ c ++ q.0 = q.1 in
        inl (q.0, cc)
    by p (inr q) =
        let d : c ≡ e ++ q.0 = q.1 in
        inr (q.0, cc)

none-yet-step : (c : List ℕ) (rests : List (List ℕ)) (b : ℕ) → NoneYet c → Matches (c ++ (b ∷ [])) rests → (In [] rests → ⊥) → NoneYet (c ++ (b ∷ []))
none-yet-step c rests b h m n e r i q = by (snoc-cases c b e r q)
  where
    by : (r ≡ []) ⊎ ((x : List ℕ) × (c ≡ e ++ x)) → ⊥
    by (inl z) = n (m.complete [] (subst Entity (sym (append-nil (c ++ (b ∷ [])) ∙ q ∙ ap (λ (l : List ℕ). e ++ l) z ∙ append-nil e)) i))
    by (inr z) = h e z.0 i z.1

extend-whole-entity : (at k : ℕ) (c bs : List ℕ) {ms : List ℕ} → Entity c → at + length c ≡ k → DataReading k bs ms → DataReading at (c ++ bs) ms
extend-whole-entity at k c bs h p (data-spelled {w = w} {ts = ts} q n t a e) =
    data-spelled (entity h q) (subst T (sym (entity-resets 0 w h)) n) t a (ap (λ (l : List ℕ). c ++ l) e ∙ sym (append_assoc c w (spell ts)))
extend-whole-entity at k c bs h p (data-misspelled i u v a m e g) =
    let l : length (c ++ u) ≡ length c + length u = length-append c u in
    data-misspelled i (c ++ u) v (an-entity h a) m (ap (λ (x : List ℕ). c ++ x) e ∙ sym (append_assoc c u v)) (omega arith)

bad-entity-reading : (at : ℕ) (c bs : List ℕ) → ((e r : List ℕ) → Entity e → (0x26 ∷ c) ++ bs ≡ e ++ r → ⊥) → DataReading at ((0x26 ∷ c) ++ bs) (at ∷ [])
bad-entity-reading at c bs h = data-misspelled at [] (0x26 ∷ (c ++ bs)) nothing_yet (bad-entity h) refl (sym (add-zero at))

entity-claim : (bs : List ℕ) → Claims bs → (rests : List (List ℕ)) (at : ℕ) (r : Run) (c : List ℕ) (k b : ℕ) → Matches (0x26 ∷ c) rests → NoneYet (0x26 ∷ c) → at + suc (length c) ≡ k
    → DataReading at ((0x26 ∷ c) ++ (b ∷ bs)) (M (entity_byte (tails_with b rests) at k r) (suc k) bs)
entity-claim bs claims rests at r c k b m n p =
    subst (λ (l : List ℕ). DataReading at (0x26 ∷ l) (M (entity_byte rests' at k r) (suc k) bs)) (append_assoc c (b ∷ []) bs)
    (cond_cases (λ (x : Mode). DataReading at ((0x26 ∷ c') ++ bs) (M x (suc k) bs)) (is_empty rests') _ _
    (λ e. subst (λ (l : List ℕ). DataReading at ((0x26 ∷ c') ++ bs) l) (sym (ap misspelt_at (stopped-mode at (suc k) bs))) (bad-entity-reading at c' bs (no-entity (passed e))))
    (λ e. cond_cases (λ (x : Mode). DataReading at ((0x26 ∷ c') ++ bs) (M x (suc k) bs)) (any_of is_empty rests') _ _
    (λ f. extend-whole-entity at (suc k) (0x26 ∷ c') bs (whole (passed f)) grown (claims.at-data (saved_by r (k - at)) 0 (suc k) (suc k) (add-zero (suc k))))
    (λ f. claims.at-entity rests' at r c' (suc k) matched (none-yet-step (0x26 ∷ c) rests' b n matched (λ i. failed f (any-in is_empty i tt))) grown)))
  where
    rests' : List (List ℕ)
    rests' = tails_with b rests

    c' : List ℕ
    c' = c ++ (b ∷ [])

    matched : Matches (0x26 ∷ c') rests'
    matched = match-step (0x26 ∷ c) rests b m

    grown : at + suc (length c') ≡ suc k
    grown = let l : length (c ++ (b ∷ [])) ≡ length c + 1 = length-append c (b ∷ []) in omega arith

    whole : T (any_of is_empty rests') → Entity (0x26 ∷ c')
    whole t =
        let x = in-any is_empty rests' t in
        let z : x.0 ≡ [] = empty_of x.2 in
        subst Entity (ap (λ (l : List ℕ). 0x26 ∷ (c' ++ l)) z ∙ append-nil (0x26 ∷ c')) (matched.sound x.0 x.1)

    no-entity : T (is_empty rests') → (e r : List ℕ) → Entity e → (0x26 ∷ c') ++ bs ≡ e ++ r → ⊥
    no-entity t e r i q = by (prefix_cases (0x26 ∷ c') bs e r q)
      where
        by : ((y : List ℕ) × (e ≡ (0x26 ∷ c') ++ y)) ⊎ ((x : List ℕ) × (0x26 ∷ c' ≡ e ++ x)) → ⊥
        by (inl z) = member-fills (matched.complete z.0 (subst Entity z.1 i)) t
        by (inr z) = none-yet-step (0x26 ∷ c) rests' b n matched (λ j. member-fills j t) e z.0 i z.1

-- ---- any byte

plain_byte : (b : ℕ) → eqb b 0x3C ≡ false → eqb b 0x26 ≡ false → T (is_plain b)
plain_byte b e f = not-intro (eqb b 0x3C || eqb b 0x26) (λ t. by (or_cases (eqb b 0x3C) (eqb b 0x26) t))
  where
    by : T (eqb b 0x3C) ⊎ T (eqb b 0x26) → ⊥
    by (inl t) = failed e t
    by (inr t) = failed f t

no-entity-yet : NoneYet (0x26 ∷ [])
no-entity-yet e r i q = by i q
  where
    by : {x : List ℕ} → Entity x → 0x26 ∷ [] ≡ x ++ r → ⊥
    by lt z = never (cc)
    by gt z = never (cc)
    by amp z = never (cc)
    by apos z = never (cc)
    by quot z = never (cc)

data-claim : (bs : List ℕ) → Claims bs → (r : Run) (c j k b : ℕ) → j + c ≡ k → DataReading j (brackets c ++ (b ∷ bs)) (M (lex (in_data r c) k b).mode (suc k) bs)
unfolding lex
data-claim bs claims r c j k b h =
    cond_cases (λ (l : Lexed). DataReading j (brackets c ++ (b ∷ bs)) (M l.mode (suc k) bs)) (eqb b 0x3C) _ _
    (λ e. subst (λ (x : ℕ). DataReading j (brackets c ++ (x ∷ bs)) (M (opened k) (suc k) bs)) (sym (eqb→eq b 0x3C (passed e)))
    (extend-tag j c k bs h (claims.at_tag k (0x3C ∷ []) (suc k) after-bracket (passes-byte k 0x3C [] (tag-opens k) (passes_none (opened k) (suc k))) (omega arith))))
    (λ e. cond_cases P (is_blank b) _ _
    (λ f. extend-byte j c k b bs h (blank-cases (λ (x : ℕ). T (is_plain x)) b (passed f) tt tt tt) (λ w. blank-cases (λ (x : ℕ). no_end c (x ∷ w) ≡ no_end 0 w) b (passed f) refl refl refl)
    (claims.at-data r 0 (suc k) (suc k) (add-zero (suc k))))
    (λ f. cond_cases P (eqb b 0x26) _ _
    (λ g. subst (λ (x : ℕ). DataReading j (brackets c ++ (x ∷ bs)) (M (in_entity (map (drop 1) entities) k (solid_by r k)) (suc k) bs)) (sym (eqb→eq b 0x26 (passed g)))
    (extend-entity j c k bs h (claims.at-entity (map (drop 1) entities) k (solid_by r k) [] (suc k) first-match no-entity-yet (omega arith))))
    (λ g. cond_cases P (eqb b 0x5D) _ _
    (λ i. subst (λ (l : List ℕ). DataReading j l (M (in_data (solid_by r k) (suc c)) (suc k) bs)) (sym (brackets-more c bs) ∙ ap (λ (x : ℕ). brackets c ++ (x ∷ bs)) (sym (eqb→eq b 0x5D (passed i))))
    (claims.at-data (solid_by r k) (suc c) j (suc k) (omega arith)))
    (λ i. cond_cases P (eqb b 0x3E && leb 2 c) _ _
    (λ o. section (passed o))
    (λ o. extend-byte j c k b bs h (plain_byte b e g) (λ w. rw (i, o)) (claims.at-data (solid_by r k) 0 (suc k) (suc k) (add-zero (suc k))))))))
  where
    P : Mode → Type 0
    P m = DataReading j (brackets c ++ (b ∷ bs)) (M m (suc k) bs)

    section : T (eqb b 0x3E && leb 2 c) → P (stopped (k - 2))
    section t =
        let s = and_cases (eqb b 0x3E) (leb 2 c) t in
        subst (λ (l : List ℕ). DataReading j (brackets c ++ (b ∷ bs)) l) (sym (ap misspelt_at (stopped-mode (k - 2) (suc k) bs)))
        (subst (λ (x : ℕ). DataReading j (brackets c ++ (x ∷ bs)) ((k - 2) ∷ [])) (sym (eqb→eq b 0x3E s.0)) (section-reading j c k bs h (leb→le 2 c s.1)))

-- the lexer leaves `between` by a byte as it leaves a run that has not begun
between-mode : (k b : ℕ) → (lex between k b).mode ≡ (lex (in_data (run k none 0) 0) k b).mode
unfolding lex
between-mode k b = by (eqb b 0x3C)
  where
    by : (t : Bool) → (cond t (goes (opened k)) (goes (data_byte (run k none 0) 0 k b))).mode ≡ (cond t (tells (opened k) (runs (run k none 0) (k - k))) (goes (data_byte (run k none 0) 0 k b))).mode
    by true = refl
    by false = refl

entity-lex : (rests : List (List ℕ)) (at : ℕ) (r : Run) (k b : ℕ) → lex (in_entity rests at r) k b ≡ goes (entity_byte (tails_with b rests) at k r)
unfolding lex
entity-lex rests at r k b = refl

no_bytes : Claims []
unfolding mode_after
no_bytes =
    record {
      at-between = λ k. spelled all_none refl;
      at-data = λ r c j k h. data-spelled (brackets-pieces c) (no-end-of-brackets c 0) no-token all_none refl;
      at-entity = λ rests at r c k m n p. bad-entity-reading at c [] (λ e x i q. n e x i (sym (append-nil (0x26 ∷ c)) ∙ q));
      at_tag = λ at p k h q e. cut at p k h q e;
    }
  where
    cut : {m : Mode} (at : ℕ) (p : List ℕ) (k : ℕ) → Pending m at p → Passes between at p m [] → at + length p ≡ k → Reading at (p ++ []) (misspelt_at m)
    cut at p k h q e =
        subst (λ (l : List ℕ). Reading at (p ++ []) l) (sym (cut_off k h).1) (bad-pending at p [] h (passes-events at p [] q ∙ (cut_off (at + length p) h).0))

one-byte-more : (b : ℕ) (bs : List ℕ) → Claims bs → Claims (b ∷ bs)
unfolding mode_after
one-byte-more b bs claims =
    record {
      at-between = λ k. from-data (subst (λ (m : Mode). DataReading k (b ∷ bs) (M m (suc k) bs)) (sym (between-mode k b)) (data-claim bs claims (run k none 0) 0 k k b (add-zero k)));
      at-data = λ r c j k h. data-claim bs claims r c j k b h;
      at-entity = λ rests at r c k m n p. subst (λ (x : Mode). DataReading at ((0x26 ∷ c) ++ (b ∷ bs)) (M x (suc k) bs)) (entity-mode rests at r k) (entity-claim bs claims rests at r c k b m n p);
      at_tag = λ at p k h q e. tag-claim k b bs claims h q e (tag-step k b h) refl;
    }
  where
    entity-mode : (rests : List (List ℕ)) (at : ℕ) (r : Run) (k : ℕ) → entity_byte (tails_with b rests) at k r ≡ (lex (in_entity rests at r) k b).mode
    entity-mode rests at r k = ap (λ (l : Lexed). l.mode) (sym (entity-lex rests at r k b))

claims-of : (bs : List ℕ) → Claims bs
claims-of [] = no_bytes
claims-of (b ∷ bs) = one-byte-more b bs (claims-of bs)

-- ---- the place of refusal 11 is the least

data OpenMode : Mode → Type 0 where
  open-between : OpenMode between
  open-data : {r : Run} {c : ℕ} → OpenMode (in_data r c)

-- between tokens the next byte is read as the first of a run would be
record AsData (m : Mode) (k : ℕ) : Type 0 where
  run-so-far : Run
  count : ℕ
  reads_on : (b : ℕ) (w : List ℕ) → mode_after m k (b ∷ w) ≡ mode_after (in_data run-so-far count) k (b ∷ w)

as-data : {m : Mode} (k : ℕ) → OpenMode m → AsData m k
unfolding mode_after
as-data k open-between = record { run-so-far = run k none 0; count = 0; reads_on = λ b w. ap (λ (m : Mode). mode_after m (suc k) w) (between-mode k b) }
as-data k (open-data {r = r} {c = c}) = record { run-so-far = r; count = c; reads_on = λ b w. refl }

data Through (m : Mode) (k : ℕ) (u : List ℕ) : Type 0 where
  comes-through : {a : Mode} → OpenMode a → mode_after m k u ≡ a → Through m k u
  stops-before : (i : ℕ) → i ≤ k + length u → mode_after m k u ≡ stopped i → Through m k u

through-append : {m a : Mode} (k : ℕ) (u v : List ℕ) → mode_after m k u ≡ a → Through a (k + length u) v → Through m k (u ++ v)
through-append {m} k u v e (comes-through o h) = comes-through o (mode-append m k u v ∙ ap (λ (x : Mode). mode_after x (k + length u) v) e ∙ h)
through-append {m} k u v e (stops-before i l h) =
    let n : length (u ++ v) ≡ length u + length v = length-append u v in
    stops-before i (omega arith) (mode-append m k u v ∙ ap (λ (x : Mode). mode_after x (k + length u) v) e ∙ h)

through-stopped : {m : Mode} (k i : ℕ) (u v : List ℕ) → i ≤ k → mode_after m k u ≡ stopped i → Through m k (u ++ v)
through-stopped {m} k i u v l e =
    stops-before i (omega arith) (mode-append m k u v ∙ ap (λ (x : Mode). mode_after x (k + length u) v) e ∙ stopped-mode i (k + length u) v)

plain-mode : (r : Run) (c k b : ℕ) → T (is_plain b) → OpenMode (lex (in_data r c) k b).mode ⊎ ((lex (in_data r c) k b).mode ≡ stopped (k - 2))
plain-mode r c k b h =
    let p = plain-parts b h in
    subst (λ (l : Lexed). OpenMode l.mode ⊎ (l.mode ≡ stopped (k - 2))) (sym (data-lex r c k b p.0))
    (cond_cases P (is_blank b) _ _ (λ e. inl open-data)
    (λ e. cond_cases P (eqb b 0x26) _ _ (λ f. never (cc p.1))
    (λ f. cond_cases P (eqb b 0x5D) _ _ (λ g. inl open-data) (λ g. cond_cases P (eqb b 0x3E && leb 2 c) _ _ (λ i. inr refl) (λ i. inl open-data)))))
  where
    P : Mode → Type 0
    P m = OpenMode m ⊎ (m ≡ stopped (k - 2))

tag-mode : {m : Mode} {t : Token} (k : ℕ) → OpenMode m → TagNext (t ∷ []) → Spelt t → mode_after m k (spell_token t) ≡ between
unfolding mode_after lex
tag-mode {t = t} k open-between n s = (whole-tag-passes k n s).mode
tag-mode {t = t} k (open-data {r = r} {c = c}) n s =
    ap (λ (w : List ℕ). mode_after (in_data r c) k w) (tag-spelling t n) ∙ ap (λ (w : List ℕ). mode_after between k w) (sym (tag-spelling t n)) ∙ (whole-tag-passes k n s).mode

entity-mode : {m : Mode} {e : List ℕ} (k : ℕ) → OpenMode m → Entity e → (a : Mode) × OpenMode a × (mode_after m k e ≡ a)
entity-mode {m} {e} k o h =
    let d = as-data k o in
    (in_data (saved_by (solid_by d.run-so-far k) (length e - 1)) 0, open-data, by h d)
  where
    by : {e : List ℕ} → Entity e → (d : AsData m k) → mode_after m k e ≡ in_data (saved_by (solid_by d.run-so-far k) (length e - 1)) 0
    by lt d = d.reads_on _ _ ∙ (entity-passes d.run-so-far d.count k lt).mode
    by gt d = d.reads_on _ _ ∙ (entity-passes d.run-so-far d.count k gt).mode
    by amp d = d.reads_on _ _ ∙ (entity-passes d.run-so-far d.count k amp).mode
    by apos d = d.reads_on _ _ ∙ (entity-passes d.run-so-far d.count k apos).mode
    by quot d = d.reads_on _ _ ∙ (entity-passes d.run-so-far d.count k quot).mode

one-mode : (m : Mode) (k b : ℕ) → mode_after m k (b ∷ []) ≡ (lex m k b).mode
unfolding mode_after
one-mode m k b = refl

stretch-through : {m : Mode} {u : List ℕ} (k : ℕ) → OpenMode m → Stretch u → Through m k u
unfolding mode_after
stretch-through k o nothing_yet = comes-through o refl
stretch-through {m = m} k o (a-tag {t = t} {w = w} n s h) = through-append k (spell_token t) w (tag-mode k o n s) (stretch-through {m = between} (k + length (spell_token t)) open-between h)
stretch-through k o (an-entity {e = e} {w = w} i h) =
    let g = entity-mode k o i in
    through-append k e w g.2 (stretch-through (k + length e) g.1 h)
stretch-through {m} k o (a_byte {b = b} {w = w} p h) = by (plain-mode (as-data k o).run-so-far (as-data k o).count k b p) (λ a q. stretch-through (k + 1) q h)
  where
    first : mode_after m k (b ∷ []) ≡ (lex (in_data (as-data k o).run-so-far (as-data k o).count) k b).mode
    first = (as-data k o).reads_on b [] ∙ one-mode (in_data (as-data k o).run-so-far (as-data k o).count) k b

    by : OpenMode (lex (in_data (as-data k o).run-so-far (as-data k o).count) k b).mode ⊎ ((lex (in_data (as-data k o).run-so-far (as-data k o).count) k b).mode ≡ stopped (k - 2))
        → ((a : Mode) → OpenMode a → Through a (k + 1) w) → Through m k (b ∷ w)
    by (inl q) rest = through-append k (b ∷ []) w first (rest _ q)
    by (inr e) rest = through-stopped k (k - 2) (b ∷ []) w (omega arith) (first ∙ e)

different-first : (b c : ℕ) (u v : List ℕ) → eqb b c ≡ false → b ∷ u ≡ c ∷ v → ⊥
different-first b c u v d e =
    let z : b ≡ c = cc in
    failed d (subst (λ (x : ℕ). T (eqb b x)) z (eqb_refl b))

-- where no tag begins at a `<`, or no entity at an `&`, nothing is passed over
no-tag-place : (j : ℕ) (w : List ℕ) {ms : List ℕ} → ((t : Token) (r : List ℕ) → TagNext (t ∷ []) → Spelt t → 0x3C ∷ w ≡ spell_token t ++ r → ⊥) → Reading j (0x3C ∷ w) ms → ms ≡ j ∷ []
no-tag-place j w h (spelled a e) = absurd (by (tag-first w a e) a e)
  where
    by : {ts : List Token} → TagNext ts → AllSpelt ts → 0x3C ∷ w ≡ spell ts → ⊥
    by no-token all_none e = never (cc)
    by start-next (tag {t = t} {ts = ts} n s b) e = h t (spell ts) n s e
    by empty-next (tag {t = t} {ts = ts} n s b) e = h t (spell ts) n s e
    by end-next (tag {t = t} {ts = ts} n s b) e = h t (spell ts) n s e
no-tag-place j w h (misspelled i u v a m e p) = by a e p
  where
    by : {x : List ℕ} → Stretch x → 0x3C ∷ w ≡ x ++ v → i ≡ j + length x → i ∷ [] ≡ j ∷ []
    by nothing_yet q z = ap (λ (y : ℕ). y ∷ []) (z ∙ add-zero j)
    by (a-tag {t = t} {w = x} n s b) q z = absurd (h t (x ++ v) n s (q ∙ append_assoc (spell_token t) x v))
    by (a_byte {b = b} g o) q z =
        let y : 0x3C ≡ b = cc in
        absurd (failed (plain-parts b g).0 (subst (λ (c : ℕ). T (eqb c 0x3C)) y tt))
    by (an-entity lt o) q z = absurd (different-first 0x3C 0x26 w _ refl q)
    by (an-entity gt o) q z = absurd (different-first 0x3C 0x26 w _ refl q)
    by (an-entity amp o) q z = absurd (different-first 0x3C 0x26 w _ refl q)
    by (an-entity apos o) q z = absurd (different-first 0x3C 0x26 w _ refl q)
    by (an-entity quot o) q z = absurd (different-first 0x3C 0x26 w _ refl q)

no-entity-place : (j : ℕ) (w : List ℕ) {ms : List ℕ} → ((e r : List ℕ) → Entity e → 0x26 ∷ w ≡ e ++ r → ⊥) → DataReading j (0x26 ∷ w) ms → ms ≡ j ∷ []
no-entity-place j w h (data-spelled {ts = ts} p n t a e) = absurd (by p t e)
  where
    by : {x : List ℕ} {us : List Token} → Pieces x → TagNext us → 0x26 ∷ w ≡ x ++ spell us → ⊥
    by no-piece no-token q = never (cc)
    by no-piece start-next q = different-first 0x26 0x3C w _ refl q
    by no-piece empty-next q = different-first 0x26 0x3C w _ refl q
    by no-piece end-next q = different-first 0x26 0x3C w _ refl q
    by (plain {b = b} g o) z q =
        let y : 0x26 ≡ b = cc in
        failed (plain-parts b g).1 (subst (λ (c : ℕ). T (eqb c 0x26)) y tt)
    by {us = us} (entity {e = x} {w = r} g o) z q = h x (r ++ spell us) g (q ∙ append_assoc x r (spell us))
no-entity-place j w h (data-misspelled i u v a m e p) = by a e p
  where
    by : {x : List ℕ} → Stretch x → 0x26 ∷ w ≡ x ++ v → i ≡ j + length x → i ∷ [] ≡ j ∷ []
    by nothing_yet q z = ap (λ (y : ℕ). y ∷ []) (z ∙ add-zero j)
    by (a-tag {t = t} {w = x} n s b) q z =
        absurd (different-first 0x26 0x3C w (tag_rest t ++ (x ++ v)) refl (q ∙ append_assoc (spell_token t) x v ∙ ap (λ (l : List ℕ). l ++ (x ++ v)) (tag-spelling t n)))
    by (a_byte {b = b} g o) q z =
        let y : 0x26 ≡ b = cc in
        absurd (failed (plain-parts b g).1 (subst (λ (c : ℕ). T (eqb c 0x26)) y tt))
    by (an-entity {e = x} {w = r} g o) q z = absurd (h x (r ++ v) g (q ∙ append_assoc x r v))

section-mode : (r : Run) (c j : ℕ) (w : List ℕ) → mode_after (in_data r c) j (section_end ++ w) ≡ stopped j
unfolding mode_after lex
section-mode r c j w =
    let e : leb 2 (suc (suc c)) ≡ true = true_of (leb 2 (suc (suc c))) (le→leb 2 (suc (suc c)) (omega arith)) in
    let f : suc (suc j) - 2 ≡ j = omega arith in
    rw e (stopped-mode (suc (suc j) - 2) (suc (suc (suc j))) w ∙ ap (λ (i : ℕ). stopped i) f)

misspelt-found : {m : Mode} {v : List ℕ} (j : ℕ) → OpenMode m → MisspeltHere v → misspelt_at (mode_after m j v) ≡ j ∷ []
unfolding mode_after lex
misspelt-found j o (bad-tag {w = w} h) =
    let d = as-data j o in
    ap misspelt_at (d.reads_on 0x3C w)
    ∙ no-tag-place j w h ((claims-of w).at_tag j (0x3C ∷ []) (suc j) after-bracket (passes-byte j 0x3C [] (tag-opens j) (passes_none (opened j) (suc j))) (omega arith))
misspelt-found j o (bad-entity {w = w} h) =
    let d = as-data j o in
    ap misspelt_at (d.reads_on 0x26 w)
    ∙ no-entity-place j w h ((claims-of w).at-entity (map (drop 1) entities) j (solid_by d.run-so-far j) [] (suc j) first-match no-entity-yet (omega arith))
misspelt-found j o (section-end w) =
    let d = as-data j o in
    ap misspelt_at (d.reads_on 0x5D (0x5D ∷ 0x3E ∷ w) ∙ section-mode d.run-so-far d.count j w)

-- ---- theorems

-- A text in which the lexer finds nothing misspelt is spelt by tokens.
pub unmisspelt-tokens : (lent : List ℕ) → misspelt_at (mode_after between 0 lent) ≡ [] → (ts : List Token) × Tokens lent ts
unmisspelt-tokens lent e = by ((claims-of lent).at-between 0) e
  where
    by : {ms : List ℕ} → Reading 0 lent ms → ms ≡ [] → (ts : List Token) × Tokens lent ts
    by (spelled {ts = ts} a f) z = (ts, record { spelt = a; joined = f })
    by (misspelled j u v a m f p) z = never (cc)

-- Where the lexer finds a text misspelt, refusal 11 applies.
pub misspelt-applies : (lent : List ℕ) (k : ℕ) → In k (misspelt_at (mode_after between 0 lent)) → Misspelt lent k
misspelt-applies lent k i = by ((claims-of lent).at-between 0) i
  where
    by : {ms : List ℕ} → Reading 0 lent ms → In k ms → Misspelt lent k
    by (spelled a f) j = elim j [ ]
    by (misspelled j u v a m f p) (here z) =
        let q : length u ≡ k = (let w : 0 + length u ≡ length u = zero-add (length u) in cc) in
        record { before = u; after = v; joined = f; placed = q; spelt = a; fault = m }
    by (misspelled j u v a m f p) (there z) = elim z [ ]

-- Where refusal 11 applies, the lexer finds the text misspelt there or before.
pub misspelt-least : (lent : List ℕ) (k : ℕ) → Misspelt lent k → (j : ℕ) × In j (misspelt_at (mode_after between 0 lent)) × (j ≤ k)
misspelt-least lent k h = by (stretch-through 0 open-between h.spelt)
  where
    whole : mode_after between 0 lent ≡ mode_after (mode_after between 0 h.before) (0 + length h.before) h.after
    whole = ap (λ (w : List ℕ). mode_after between 0 w) h.joined ∙ mode-append between 0 h.before h.after

    place : 0 + length h.before ≡ k
    place = zero-add (length h.before) ∙ h.placed

    by : Through between 0 h.before → (j : ℕ) × In j (misspelt_at (mode_after between 0 lent)) × (j ≤ k)
    by (comes-through {a = a} o e) =
        let z : misspelt_at (mode_after between 0 lent) ≡ (0 + length h.before) ∷ [] =
        ap misspelt_at (whole ∙ ap (λ (m : Mode). mode_after m (0 + length h.before) h.after) e) ∙ misspelt-found (0 + length h.before) o h.fault in
        (0 + length h.before, subst (λ (l : List ℕ). In (0 + length h.before) l) (sym z) (here refl), omega arith)
    by (stops-before i l e) =
        let z : misspelt_at (mode_after between 0 lent) ≡ i ∷ [] =
        ap misspelt_at (whole ∙ ap (λ (m : Mode). mode_after m (0 + length h.before) h.after) e ∙ stopped-mode i (0 + length h.before) h.after) in
        (i, subst (λ (x : List ℕ). In i x) (sym z) (here refl), omega arith)
