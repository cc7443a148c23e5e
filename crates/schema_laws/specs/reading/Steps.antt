-- The live steps of the machine as a relation between states, what the machine computes by it, and chains of steps.
use Rattle.std.specs.Prelude.{Bool, true, false, cond, ◌&&◌, List, [], ◌∷◌, ◌++◌, ◌≡◌, refl, ℕ, suc, ◌+◌, ◌<◌, T, eqb, ltb, length}
use Rattle.std.proofs.Common.{sym, subst, ◌∙◌, arith, eqb→eq, ltb→lt, lt→ltb}
use Rattle.std.proofs.Math.Dec.{eqb_refl}
use Rattle.schema_spec.specs.Declarations.{Use, Declaration, Indicator, optional, any, one_or_more, indicated, Separator, unparted, by_bar, by_comma}
use Rattle.schema_spec.specs.Grammar.{Parts, first-bar, next-bar, first-comma, next-comma}
use Rattle.schema_spec.specs.Machine.{Frame, fresh, holding, Opening, Head, State, dead, between, in_keyword, after_keyword, before_name, in_name, before_content, in_empty, after_open, in_pcdata, after_pcdata, expecting, in_use, closed, past, after_content, declared, closing, join, separated, following, indicating, beginning, longer, headed, matching, step}
use Rattle.schema_spec.specs.Models.{Particle, named, Content, empty, pcdata, children}
use Rattle.text_laws.specs.Bytes.{each-blank}
use Rattle.text_laws.specs.Tests.{cond-true, cond-false, and_cases}
use Rattle.text_spec.specs.Bytes.{is_blank, starts_name, continues_name}
use Rattle.text_spec.specs.Limits.{max_name_bytes, max_groups}
use Rattle.text_spec.specs.Lists.{bytes}

-- states in which a blank changes nothing
pub data Skips : State → Type 0 where
  skip-between : {ds : List Declaration} → Skips (between ds)
  skip-name : {o : Opening} → Skips (before_name o)
  skip-content : {h : Head} → Skips (before_content h)
  skip-open : {h : Head} → Skips (after_open h)
  skip-pcdata : {h : Head} → Skips (after_pcdata h)
  skip-particle : {f : Frame} {fs : List Frame} {h : Head} → Skips (expecting f fs h)

-- in a keyword: the bytes still to come, and the state after them
pub data Spelling : State → List ℕ → State → Type 0 where
  in-element : {w : List ℕ} {o : Opening} → Spelling (in_keyword w o) w (after_keyword o)
  in-empty : {w : List ℕ} {h : Head} → Spelling (in_empty w h) w (after_content empty h)
  in-pcdata : {w : List ℕ} {h : Head} → Spelling (in_pcdata w h) w (after_pcdata h)

-- a particle is due in the group f, which stands inside the groups fs
pub data Due : State → Frame → List Frame → Head → Type 0 where
  due-first : {h : Head} → Due (after_open h) fresh [] h
  due-next : {f : Frame} {fs : List Frame} {h : Head} → Due (expecting f fs h) f fs h

-- just after a name or a group, inside the groups fs
pub data Ended : State → Particle Use → List Frame → Head → Type 0 where
  at_name : {j : ℕ} {n : List ℕ} {f : Frame} {fs : List Frame} {h : Head} → Ended (in_use j n f fs h) (named (record { place = j; name = n })) (f ∷ fs) h
  at-closed : {p : Particle Use} {fs : List Frame} {h : Head} → Ended (closed p fs h) p fs h

-- after a particle, with its indicator or without one
pub data Over : State → Particle Use → List Frame → Head → Type 0 where
  unmarked : {q : State} {p : Particle Use} {fs : List Frame} {h : Head} → Ended q p fs h → Over q p fs h
  at-past : {p : Particle Use} {fs : List Frame} {h : Head} → Over (past p fs h) p fs h

-- after the whole content
pub data Finished : State → Content Use → Head → Type 0 where
  at-model : {q : State} {p : Particle Use} {h : Head} → Over q p [] h → Finished q (children p) h
  at-content : {c : Content Use} {h : Head} → Finished (after_content c h) c h

-- what parts an open group so far
pub data Holds : Frame → Separator → Type 0 where
  holds-one : Holds fresh unparted
  holds-bar : {p : Particle Use} → Holds (holding by_bar p) by_bar
  holds-comma : {p : Particle Use} → Holds (holding by_comma p) by_comma

-- the byte of an indicator
pub data Marks : Indicator → ℕ → Type 0 where
  mark-optional : Marks optional 0x3F
  mark-any : Marks any 0x2A
  mark-one_or_more : Marks one_or_more 0x2B

-- `Goes q k b r`: the byte b at the place k takes the state q to the live state r
pub data Goes : State → ℕ → ℕ → State → Type 0 where
  idle : {q : State} {k b : ℕ} → Skips q → T (is_blank b) → Goes q k b q
  begin-declaration : {ds : List Declaration} {k : ℕ} → Goes (between ds) k 0x3C (in_keyword (bytes "!ELEMENT") (record { place = k; done = ds }))
  spell : {q r z : State} {k c d : ℕ} {w : List ℕ} → Spelling q (c ∷ d ∷ w) z → Spelling r (d ∷ w) z → Goes q k c r
  spelt : {q z : State} {k c : ℕ} → Spelling q (c ∷ []) z → Goes q k c z
  keyword-blank : {o : Opening} {k b : ℕ} → T (is_blank b) → Goes (after_keyword o) k b (before_name o)
  begin-name : {o : Opening} {k b : ℕ} → T (starts_name b) → Goes (before_name o) k b (in_name k (b ∷ []) o)
  grow-name : {o : Opening} {j k b : ℕ} {n : List ℕ} → T (continues_name b) → length n < max_name_bytes → Goes (in_name j n o) k b (in_name j (n ++ (b ∷ [])) o)
  name-blank : {o : Opening} {j k b : ℕ} {n : List ℕ} → T (is_blank b) → Goes (in_name j n o) k b (before_content (headed j n o))
  begin-empty : {h : Head} {k : ℕ} → Goes (before_content h) k 0x45 (in_empty (bytes "MPTY") h)
  open-content : {h : Head} {k : ℕ} → Goes (before_content h) k 0x28 (after_open h)
  begin-pcdata : {h : Head} {k : ℕ} → Goes (after_open h) k 0x23 (in_pcdata (bytes "PCDATA") h)
  close-pcdata : {h : Head} {k : ℕ} → Goes (after_pcdata h) k 0x29 (after_content pcdata h)
  begin-use : {q : State} {f : Frame} {fs : List Frame} {h : Head} {k b : ℕ} → Due q f fs h → T (starts_name b) → Goes q k b (in_use k (b ∷ []) f fs h)
  grow-use : {f : Frame} {fs : List Frame} {h : Head} {j k b : ℕ} {n : List ℕ} → T (continues_name b) → length n < max_name_bytes
      → Goes (in_use j n f fs h) k b (in_use j (n ++ (b ∷ [])) f fs h)
  open-group : {q : State} {f : Frame} {fs : List Frame} {h : Head} {k : ℕ} → Due q f fs h → suc (length fs) < max_groups → Goes q k 0x28 (expecting fresh (f ∷ fs) h)
  mark : {q : State} {p : Particle Use} {fs : List Frame} {h : Head} {k b : ℕ} {o : Indicator} → Ended q p fs h → Marks o b → Goes q k b (past (indicated o p) fs h)
  over-blank : {q : State} {p : Particle Use} {f : Frame} {fs : List Frame} {h : Head} {k b : ℕ} → Over q p (f ∷ fs) h → T (is_blank b) → Goes q k b (past p (f ∷ fs) h)
  over-part : {q : State} {p : Particle Use} {f : Frame} {fs : List Frame} {h : Head} {k x : ℕ} {s t : Separator} → Over q p (f ∷ fs) h → Holds f s → Parts s x t
      → Goes q k x (expecting (holding t (join f p)) fs h)
  over-close : {q : State} {p : Particle Use} {f : Frame} {fs : List Frame} {h : Head} {k : ℕ} → Over q p (f ∷ fs) h → Goes q k 0x29 (closed (join f p) fs h)
  finish-blank : {q : State} {c : Content Use} {h : Head} {k b : ℕ} → Finished q c h → T (is_blank b) → Goes q k b (after_content c h)
  finish : {q : State} {c : Content Use} {h : Head} {k : ℕ} → Finished q c h → Goes q k 0x3E (between (declared c h ∷ h.opening.done))

-- Each step of the machine is such a step, or none can be made.
pub data Live (q : State) (k b : ℕ) : State → Type 0 where
  dies : Live q k b dead
  goes : {r : State} → Goes q k b r → Live q k b r

by_cases : {q : State} {k b : ℕ} (t : Bool) {x y : State} → (T t → Live q k b x) → ((T t → ⊥) → Live q k b y) → Live q k b (cond t x y)
by_cases true l m = l tt
by_cases false l m = m (λ z. z)

by-test : {q : State} {k b : ℕ} (t : Bool) {x y : State} → (T t → Live q k b x) → Live q k b y → Live q k b (cond t x y)
by-test t l m = by_cases t l (λ n. m)

by_byte : {q : State} {k : ℕ} (b c : ℕ) {x y : State} → Live q k c x → Live q k b y → Live q k b (cond (eqb b c) x y)
by_byte {q} {k} b c {x} l m = by-test (eqb b c) (λ t. subst (λ (i : ℕ). Live q k i x) (sym (eqb→eq b c t)) l) m

live-longer : {q : State} {k b : ℕ} (n : List ℕ) (part : List ℕ → State) → (length n < max_name_bytes → Goes q k b (part (n ++ (b ∷ [])))) → Live q k b (longer n b part)
live-longer n part g = by-test (ltb (length n) max_name_bytes) (λ t. goes (g (ltb→lt (length n) max_name_bytes t))) dies

live-bar : {q : State} {k : ℕ} {p : Particle Use} (f : Frame) {fs : List Frame} {h : Head} → Over q p (f ∷ fs) h → Live q k 0x7C (separated by_bar f p fs h)
live-bar fresh v = goes (over-part v holds-one first-bar)
live-bar (holding unparted p) v = dies
live-bar (holding by_bar p) v = goes (over-part v holds-bar next-bar)
live-bar (holding by_comma p) v = dies

live-comma : {q : State} {k : ℕ} {p : Particle Use} (f : Frame) {fs : List Frame} {h : Head} → Over q p (f ∷ fs) h → Live q k 0x2C (separated by_comma f p fs h)
live-comma fresh v = goes (over-part v holds-one first-comma)
live-comma (holding unparted p) v = dies
live-comma (holding by_bar p) v = dies
live-comma (holding by_comma p) v = goes (over-part v holds-comma next-comma)

live-closing : {q : State} {c : Content Use} {h : Head} (k b : ℕ) → Finished q c h → Live q k b (closing c h b)
live-closing k b v = by-test (is_blank b) (λ t. goes (finish-blank v t)) (by_byte b 0x3E (goes (finish v)) dies)

live-following : {q : State} {p : Particle Use} (fs : List Frame) {h : Head} (k b : ℕ) → Over q p fs h → Live q k b (following p fs h b)
live-following [] k b v = live-closing k b (at-model v)
live-following (f ∷ fs) k b v =
    by-test (is_blank b) (λ t. goes (over-blank v t))
    (by_byte b 0x29 (goes (over-close v)) (by_byte b 0x7C (live-bar f v) (by_byte b 0x2C (live-comma f v) dies)))

live-indicating : {q : State} {p : Particle Use} (fs : List Frame) {h : Head} (k b : ℕ) → Ended q p fs h → Live q k b (indicating p fs h b)
live-indicating fs k b v =
    by_byte b 0x3F (goes (mark v mark-optional))
    (by_byte b 0x2A (goes (mark v mark-any)) (by_byte b 0x2B (goes (mark v mark-one_or_more)) (live-following fs k b (unmarked v))))

live-beginning : {q : State} {f : Frame} {fs : List Frame} {h : Head} (k b : ℕ) → Due q f fs h → (T (is_blank b) → Goes q k b (expecting f fs h))
    → Live q k b (beginning f fs h k b)
live-beginning {q} {f} {fs} {h} k b v blank =
    by-test (is_blank b) (λ t. goes (blank t))
    (by-test (starts_name b) (λ t. goes (begin-use v t)) (by-test (eqb b 0x28 && ltb (suc (length fs)) max_groups) opens dies))
  where
    opens : T (eqb b 0x28 && ltb (suc (length fs)) max_groups) → Live q k b (expecting fresh (f ∷ fs) h)
    opens t =
        let c = and_cases (eqb b 0x28) (ltb (suc (length fs)) max_groups) t in
        subst (λ (i : ℕ). Live q k i (expecting fresh (f ∷ fs) h)) (sym (eqb→eq b 0x28 c.0)) (goes (open-group v (ltb→lt (suc (length fs)) max_groups c.1)))

-- the rest of a keyword, which matches byte by byte
live-spelling : {q z : State} {k b : ℕ} (w : List ℕ) (part : List ℕ → State) → Spelling q w z → ((v : List ℕ) → Spelling (part v) v z) → Live q k b (matching w b z part)
live-spelling [] part s r = dies
live-spelling {b} (c ∷ []) part s r = by_byte b c (goes (spelt s)) dies
live-spelling {b} (c ∷ d ∷ w) part s r = by_byte b c (goes (spell s (r (d ∷ w)))) dies

pub live : (q : State) (k b : ℕ) → Live q k b (step q k b)
unfolding step
live dead k b = dies
live (between ds) k b = by-test (is_blank b) (λ t. goes (idle skip-between t)) (by_byte b 0x3C (goes begin-declaration) dies)
live (in_keyword w o) k b = live-spelling w (λ v. in_keyword v o) in-element (λ v. in-element)
live (after_keyword o) k b = by-test (is_blank b) (λ t. goes (keyword-blank t)) dies
live (before_name o) k b = by-test (is_blank b) (λ t. goes (idle skip-name t)) (by-test (starts_name b) (λ t. goes (begin-name t)) dies)
live (in_name j n o) k b =
    by-test (continues_name b) (λ t. live-longer n (λ m. in_name j m o) (λ l. grow-name t l)) (by-test (is_blank b) (λ t. goes (name-blank t)) dies)
live (before_content h) k b =
    by-test (is_blank b) (λ t. goes (idle skip-content t)) (by_byte b 0x28 (goes open-content) (by_byte b 0x45 (goes begin-empty) dies))
live (in_empty w h) k b = live-spelling w (λ v. in_empty v h) in-empty (λ v. in-empty)
live (after_open h) k b =
    by_cases (is_blank b) (λ t. goes (idle skip-open t))
    (λ n. by-test (eqb b 0x23) (λ t. by_byte b 0x23 (goes begin-pcdata) dies) (live-beginning k b due-first (λ t. absurd (n t))))
live (in_pcdata w h) k b = live-spelling w (λ v. in_pcdata v h) in-pcdata (λ v. in-pcdata)
live (after_pcdata h) k b = by-test (is_blank b) (λ t. goes (idle skip-pcdata t)) (by_byte b 0x29 (goes close-pcdata) dies)
live (expecting f fs h) k b = live-beginning k b due-next (λ t. idle skip-particle t)
live (in_use j n f fs h) k b = by-test (continues_name b) (λ t. live-longer n (λ m. in_use j m f fs h) (λ l. grow-use t l)) (live-indicating (f ∷ fs) k b at_name)
live (closed p fs h) k b = live-indicating fs k b at-closed
live (past p fs h) k b = live-following fs k b at-past
live (after_content c h) k b = live-closing k b at-content

-- Conversely the machine makes each such step.
begins-no-blank : (b : ℕ) → T (starts_name b) → T (is_blank b) → ⊥
begins-no-blank b s t = each-blank (λ c. T (starts_name c) → ⊥) (λ z. z) (λ z. z) (λ z. z) b t s

-- a byte that begins a name differs from one that does not
begins-other : (b c : ℕ) → (T (starts_name c) → ⊥) → T (starts_name b) → T (eqb b c) → ⊥
begins-other b c n s t = n (subst (λ (i : ℕ). T (starts_name i)) (eqb→eq b c t) s)

step-idle : {q : State} (k b : ℕ) → Skips q → T (is_blank b) → step q k b ≡ q
unfolding step
step-idle k b skip-between t = cond-true (is_blank b) _ _ t
step-idle k b skip-name t = cond-true (is_blank b) _ _ t
step-idle k b skip-content t = cond-true (is_blank b) _ _ t
step-idle k b skip-open t = cond-true (is_blank b) _ _ t
step-idle k b skip-pcdata t = cond-true (is_blank b) _ _ t
step-idle k b skip-particle t = cond-true (is_blank b) _ _ t

step-spell : {q r z : State} {c d : ℕ} {w : List ℕ} (k : ℕ) → Spelling q (c ∷ d ∷ w) z → Spelling r (d ∷ w) z → step q k c ≡ r
unfolding step
step-spell {c} k in-element in-element = cond-true (eqb c c) _ _ (eqb_refl c)
step-spell {c} k in-empty in-empty = cond-true (eqb c c) _ _ (eqb_refl c)
step-spell {c} k in-pcdata in-pcdata = cond-true (eqb c c) _ _ (eqb_refl c)

step-spelt : {q z : State} {c : ℕ} (k : ℕ) → Spelling q (c ∷ []) z → step q k c ≡ z
unfolding step
step-spelt {c} k in-element = cond-true (eqb c c) _ _ (eqb_refl c)
step-spelt {c} k in-empty = cond-true (eqb c c) _ _ (eqb_refl c)
step-spelt {c} k in-pcdata = cond-true (eqb c c) _ _ (eqb_refl c)

begins : (f : Frame) (fs : List Frame) (h : Head) (k b : ℕ) → T (starts_name b) → beginning f fs h k b ≡ in_use k (b ∷ []) f fs h
begins f fs h k b t = cond-false (is_blank b) _ _ (begins-no-blank b t) ∙ cond-true (starts_name b) _ _ t

step-begins : {q : State} {f : Frame} {fs : List Frame} {h : Head} (k b : ℕ) → Due q f fs h → T (starts_name b) → step q k b ≡ in_use k (b ∷ []) f fs h
unfolding step
step-begins k b (due-first {h = h}) t =
    cond-false (is_blank b) _ _ (begins-no-blank b t) ∙ cond-false (eqb b 0x23) _ _ (begins-other b 0x23 (λ z. z) t) ∙ begins fresh [] h k b t
step-begins k b (due-next {f = f} {fs = fs} {h = h}) t = begins f fs h k b t

step-opens : {q : State} {f : Frame} {fs : List Frame} {h : Head} (k : ℕ) → Due q f fs h → suc (length fs) < max_groups → step q k 0x28 ≡ expecting fresh (f ∷ fs) h
unfolding step
step-opens k due-first l = refl
step-opens k (due-next {fs = fs}) l = cond-true (ltb (suc (length fs)) max_groups) _ _ (lt→ltb (suc (length fs)) max_groups l)

step-mark : {q : State} {p : Particle Use} {fs : List Frame} {h : Head} {b : ℕ} {o : Indicator} (k : ℕ) → Ended q p fs h → Marks o b → step q k b ≡ past (indicated o p) fs h
unfolding step
step-mark k at_name mark-optional = refl
step-mark k at_name mark-any = refl
step-mark k at_name mark-one_or_more = refl
step-mark k at-closed mark-optional = refl
step-mark k at-closed mark-any = refl
step-mark k at-closed mark-one_or_more = refl

step-over-blank : {q : State} {p : Particle Use} {f : Frame} {fs : List Frame} {h : Head} (k b : ℕ) → Over q p (f ∷ fs) h → T (is_blank b) → step q k b ≡ past p (f ∷ fs) h
unfolding step
step-over-blank {q} {p} {f} {fs} {h} k b (unmarked at_name) t = each-blank (λ c. step q k c ≡ past p (f ∷ fs) h) refl refl refl b t
step-over-blank {q} {p} {f} {fs} {h} k b (unmarked at-closed) t = each-blank (λ c. step q k c ≡ past p (f ∷ fs) h) refl refl refl b t
step-over-blank {q} {p} {f} {fs} {h} k b at-past t = each-blank (λ c. step q k c ≡ past p (f ∷ fs) h) refl refl refl b t

step-over-part : {q : State} {p : Particle Use} {f : Frame} {fs : List Frame} {h : Head} (k : ℕ) {x : ℕ} {s t : Separator} → Over q p (f ∷ fs) h → Holds f s → Parts s x t
    → step q k x ≡ expecting (holding t (join f p)) fs h
unfolding step
step-over-part k (unmarked at_name) holds-one first-bar = refl
step-over-part k (unmarked at_name) holds-one first-comma = refl
step-over-part k (unmarked at_name) holds-bar next-bar = refl
step-over-part k (unmarked at_name) holds-comma next-comma = refl
step-over-part k (unmarked at-closed) holds-one first-bar = refl
step-over-part k (unmarked at-closed) holds-one first-comma = refl
step-over-part k (unmarked at-closed) holds-bar next-bar = refl
step-over-part k (unmarked at-closed) holds-comma next-comma = refl
step-over-part k at-past holds-one first-bar = refl
step-over-part k at-past holds-one first-comma = refl
step-over-part k at-past holds-bar next-bar = refl
step-over-part k at-past holds-comma next-comma = refl

step-over-close : {q : State} {p : Particle Use} {f : Frame} {fs : List Frame} {h : Head} (k : ℕ) → Over q p (f ∷ fs) h → step q k 0x29 ≡ closed (join f p) fs h
unfolding step
step-over-close k (unmarked at_name) = refl
step-over-close k (unmarked at-closed) = refl
step-over-close k at-past = refl

step-finish-blank : {q : State} {c : Content Use} {h : Head} (k b : ℕ) → Finished q c h → T (is_blank b) → step q k b ≡ after_content c h
unfolding step
step-finish-blank {q} {c} {h} k b (at-model (unmarked at-closed)) t = each-blank (λ i. step q k i ≡ after_content c h) refl refl refl b t
step-finish-blank {q} {c} {h} k b (at-model at-past) t = each-blank (λ i. step q k i ≡ after_content c h) refl refl refl b t
step-finish-blank {q} {c} {h} k b at-content t = each-blank (λ i. step q k i ≡ after_content c h) refl refl refl b t

step-finish : {q : State} {c : Content Use} {h : Head} (k : ℕ) → Finished q c h → step q k 0x3E ≡ between (declared c h ∷ h.opening.done)
unfolding step
step-finish k (at-model (unmarked at-closed)) = refl
step-finish k (at-model at-past) = refl
step-finish k at-content = refl

pub goes_step : {q : State} {k b : ℕ} {r : State} → Goes q k b r → step q k b ≡ r
unfolding step
goes_step {k} {b} (idle s t) = step-idle k b s t
goes_step begin-declaration = refl
goes_step {k} (spell s z) = step-spell k s z
goes_step {k} (spelt s) = step-spelt k s
goes_step {b} (keyword-blank t) = cond-true (is_blank b) _ _ t
goes_step {b} (begin-name t) = cond-false (is_blank b) _ _ (begins-no-blank b t) ∙ cond-true (starts_name b) _ _ t
goes_step {b} (grow-name {n = n} t l) = cond-true (continues_name b) _ _ t ∙ cond-true (ltb (length n) max_name_bytes) _ _ (lt→ltb (length n) max_name_bytes l)
goes_step {q} {k} {b} {r} (name-blank t) = each-blank (λ c. step q k c ≡ r) refl refl refl b t
goes_step begin-empty = refl
goes_step open-content = refl
goes_step begin-pcdata = refl
goes_step close-pcdata = refl
goes_step {k} {b} (begin-use v t) = step-begins k b v t
goes_step {b} (grow-use {n = n} t l) = cond-true (continues_name b) _ _ t ∙ cond-true (ltb (length n) max_name_bytes) _ _ (lt→ltb (length n) max_name_bytes l)
goes_step {k} (open-group v l) = step-opens k v l
goes_step {k} (mark v m) = step-mark k v m
goes_step {k} {b} (over-blank v t) = step-over-blank k b v t
goes_step {k} (over-part v f s) = step-over-part k v f s
goes_step {k} (over-close v) = step-over-close k v
goes_step {k} {b} (finish-blank v t) = step-finish-blank k b v t
goes_step {k} (finish v) = step-finish k v

-- a chain of steps over a text that starts at the place k
pub data Transitions : State → ℕ → List ℕ → State → Type 0 where
  stay : {q : State} {k : ℕ} → Transitions q k [] q
  go : {q r z : State} {k b : ℕ} {w : List ℕ} → Goes q k b r → Transitions r (suc k) w z → Transitions q k (b ∷ w) z

pub path-append : {q r z : State} {k j : ℕ} {u v : List ℕ} → Transitions q k u r → j ≡ k + length u → Transitions r j v z → Transitions q k (u ++ v) z
path-append {r} {z} {k} {j} {v} stay e p = subst (λ (i : ℕ). Transitions r i v z) (omega arith) p
path-append (go g p) e m = go g (path-append p (omega arith) m)
