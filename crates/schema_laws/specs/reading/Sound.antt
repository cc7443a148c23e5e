-- Each text that the machine reads is of the grammar, and declares what the machine spells.
use Rattle.std.specs.Prelude.{not, ◌≡◌, refl, ℕ, suc, ◌+◌, ◌-◌, ◌≤◌, ◌<◌, T, length}
use mathlib.Core.List.{List, [], ◌∷◌, ◌++◌, append_assoc, append-nil, reverse, reverse_aux, reverse-reverse}
use Rattle.std.proofs.Common.{sym, ap, subst, ◌∙◌, arith, length-append}
use Rattle.schema_laws.specs.Machine.{schema-dead, ends-between}
use Rattle.schema_laws.specs.reading.Runs.{live-path}
use Rattle.schema_laws.specs.reading.Steps.{skip-between, skip-name, skip-content, skip-open, skip-pcdata, skip-particle, in-element, in-empty, in-pcdata, Due, due-first, due-next, Ended, at_name, at-closed, Over, unmarked, at-past, Finished, at-model, at-content, Holds, holds-one, holds-bar, holds-comma, Marks, mark-optional, mark-any, mark-one_or_more, Goes, idle, begin-declaration, spell, spelt, keyword-blank, begin-name, grow-name, name-blank, begin-empty, open-content, begin-pcdata, close-pcdata, begin-use, grow-use, open-group, mark, over-blank, over-part, over-close, finish-blank, finish, Transitions, stay, go}
use Rattle.schema_spec.specs.Declarations.{Use, Declaration, element_keyword, pcdata_keyword, Indicator, once, optional, any, one_or_more, spell_indicator, indicated, Separator, unparted}
use Rattle.schema_spec.specs.Grammar.{Blanks, none, blank, space, Parts, Kind, particle, group, rest, Model, a-name, a-group, opened, close, more, ContentText, is-empty, is-pcdata, is-children, DeclarationText, declaration, DeclarationsText, end, next, SchemaText, schema-text}
use Rattle.schema_spec.specs.Machine.{Frame, fresh, holding, Opening, Head, State, dead, between, in_keyword, after_keyword, before_name, in_name, before_content, in_empty, after_open, in_pcdata, after_pcdata, expecting, in_use, closed, past, after_content, declared, join, headed, schema_machine, parse}
use Rattle.schema_spec.specs.Models.{Particle, named, Content, empty, pcdata, children}
use Rattle.text_laws.specs.Bytes.{one-byte-name, name-snoc}
use Rattle.text_laws.specs.Machines.{final, run-spells, spells-live}
use Rattle.text_laws.specs.Tests.{never}
use Rattle.text_spec.specs.Bytes.{is_blank, is_name}
use Rattle.text_spec.specs.Limits.{max_groups}
use Rattle.text_spec.specs.Lists.{bytes, is_empty}
use Rattle.text_spec.specs.Machines.{spells}

-- what parts an open group
abbrev parted_by : Frame → Separator
parted_by fresh = unparted
parted_by (holding s p) = s

-- What may follow in each state, so that the text ends with the declarations `last`, the last one first: the rest of what is
-- begun in the grammar's own terms, then the rest of what is around it.

-- declarations to the end of the text
data Declares (last : List Declaration) : List Declaration → ℕ → List ℕ → Type 0 where
  declares : {done ds : List Declaration} {k : ℕ} {w : List ℕ} → DeclarationsText k w ds → reverse_aux ds done ≡ last → Declares last done k w

-- blanks and `>`
data Finishes (last : List Declaration) : Content Use → Head → ℕ → List ℕ → Type 0 where
  finishes : {c : Content Use} {h : Head} {k j : ℕ} {e z : List ℕ} → Blanks e → Declares last (declared c h ∷ h.opening.done) j z → j ≡ suc (k + length e)
      → Finishes last c h k (e ++ (0x3E ∷ z))

-- after a particle: the end of the content, or the rest of the group around it with its indicator
data Follows (last : List Declaration) : Particle Use → List Frame → Head → ℕ → List ℕ → Type 0 where
  outside : {p : Particle Use} {h : Head} {k : ℕ} {w : List ℕ} → Finishes last (children p) h k w → Follows last p [] h k w
  inside : {p g : Particle Use} {f : Frame} {fs : List Frame} {h : Head} {d k i j : ℕ} {b r z : List ℕ} → Blanks b → Model (rest (parted_by f) (join f p)) d i r g → (o : Indicator)
      → Follows last (indicated o g) fs h j z → suc (d + length fs) ≡ max_groups → i ≡ k + length b → j ≡ i + length r + length (spell_indicator o)
      → Follows last p (f ∷ fs) h k (b ++ (r ++ (spell_indicator o ++ z)))

-- after a group or a name: its indicator, if it has one
data Closes (last : List Declaration) : Particle Use → List Frame → Head → ℕ → List ℕ → Type 0 where
  closes : {p : Particle Use} {fs : List Frame} {h : Head} {k j : ℕ} {z : List ℕ} (o : Indicator) → Follows last (indicated o p) fs h j z → j ≡ k + length (spell_indicator o)
      → Closes last p fs h k (spell_indicator o ++ z)

-- in a name of the model: the rest of the name
data Uses (last : List Declaration) : ℕ → List ℕ → Frame → List Frame → Head → ℕ → List ℕ → Type 0 where
  uses : {f : Frame} {fs : List Frame} {h : Head} {i j k : ℕ} {m n z : List ℕ} (t : List ℕ) → T (is_name m) → m ≡ n ++ t
      → Closes last (named (record { place = j; name = m })) (f ∷ fs) h i z → i ≡ k + length t → Uses last j n f fs h k (t ++ z)

-- blanks and a particle
data Wants (last : List Declaration) : Frame → List Frame → Head → ℕ → List ℕ → Type 0 where
  wants : {p : Particle Use} {f : Frame} {fs : List Frame} {h : Head} {d i j k : ℕ} {a u z : List ℕ} → Blanks a → Model particle d i u p
      → Follows last p (f ∷ fs) h j z → suc (d + length fs) ≡ max_groups → i ≡ k + length a → j ≡ i + length u → Wants last f fs h k (a ++ (u ++ z))

-- the rest of `#PCDATA`, blanks and `)`
data Pcdata (last : List Declaration) : List ℕ → Head → ℕ → List ℕ → Type 0 where
  pcdatas : {h : Head} {j k : ℕ} {u b z : List ℕ} → Blanks b → Finishes last pcdata h j z → j ≡ suc (k + length u + length b) → Pcdata last u h k (u ++ (b ++ (0x29 ∷ z)))

-- after the outermost `(`
data Opens (last : List Declaration) : Head → ℕ → List ℕ → Type 0 where
  with-model : {h : Head} {k : ℕ} {w : List ℕ} → Wants last fresh [] h k w → Opens last h k w
  with-text : {h : Head} {i k : ℕ} {a z : List ℕ} → Blanks a → Pcdata last pcdata_keyword h i z → i ≡ k + length a → Opens last h k (a ++ z)

-- the rest of `EMPTY`
data Empties (last : List Declaration) : List ℕ → Head → ℕ → List ℕ → Type 0 where
  empties : {h : Head} {j k : ℕ} {u z : List ℕ} → Finishes last empty h j z → j ≡ k + length u → Empties last u h k (u ++ z)

-- blanks and the content
data Contains (last : List Declaration) : Head → ℕ → List ℕ → Type 0 where
  contains : {c : Content Use} {h : Head} {i j k : ℕ} {b w z : List ℕ} → Blanks b → ContentText i w c → Finishes last c h j z → i ≡ k + length b → j ≡ i + length w
      → Contains last h k (b ++ (w ++ z))

-- in the declared name: the rest of the name, and a blank
data Names (last : List Declaration) : ℕ → List ℕ → Opening → ℕ → List ℕ → Type 0 where
  names : {o : Opening} {i j k : ℕ} {m n z : List ℕ} (t : List ℕ) (b : ℕ) → T (is_name m) → m ≡ n ++ t → T (is_blank b) → Contains last (headed j m o) i z → i ≡ suc (k + length t)
      → Names last j n o k (t ++ (b ∷ z))

-- blanks, the declared name, and a blank
data Heads (last : List Declaration) : Opening → ℕ → List ℕ → Type 0 where
  heads : {o : Opening} {i j k : ℕ} {a n z : List ℕ} (b : ℕ) → Blanks a → T (is_name n) → T (is_blank b) → Contains last (headed j n o) i z
      → j ≡ k + length a → i ≡ suc (j + length n) → Heads last o k (a ++ (n ++ (b ∷ z)))

-- the rest of `<!ELEMENT`, and a blank
data Keywords (last : List Declaration) : List ℕ → Opening → ℕ → List ℕ → Type 0 where
  keywords : {o : Opening} {i k : ℕ} {u z : List ℕ} (b : ℕ) → T (is_blank b) → Heads last o i z → i ≡ suc (k + length u) → Keywords last u o k (u ++ (b ∷ z))

-- what may follow in a state
abbrev Completes : List Declaration → State → ℕ → List ℕ → Type 0
Completes last dead k w = ⊥
Completes last (between done) k w = Declares last done k w
Completes last (in_keyword u o) k w = Keywords last u o k w
Completes last (after_keyword o) k w = Keywords last [] o k w
Completes last (before_name o) k w = Heads last o k w
Completes last (in_name j n o) k w = Names last j n o k w
Completes last (before_content h) k w = Contains last h k w
Completes last (in_empty u h) k w = Empties last u h k w
Completes last (after_open h) k w = Opens last h k w
Completes last (in_pcdata u h) k w = Pcdata last u h k w
Completes last (after_pcdata h) k w = Pcdata last [] h k w
Completes last (expecting f fs h) k w = Wants last f fs h k w
Completes last (in_use j n f fs h) k w = Uses last j n f fs h k w
Completes last (closed p fs h) k w = Closes last p fs h k w
Completes last (past p fs h) k w = Follows last p fs h k w
Completes last (after_content c h) k w = Finishes last c h k w

-- what holds of each state that is reached: names are names, and at most eight groups are open
abbrev pub Invariant : State → Type 0
Invariant dead = Unit {0}
Invariant (between ds) = Unit {0}
Invariant (in_keyword w o) = T (not (is_empty w))
Invariant (after_keyword o) = Unit {0}
Invariant (before_name o) = Unit {0}
Invariant (in_name j n o) = T (is_name n)
Invariant (before_content h) = Unit {0}
Invariant (in_empty w h) = T (not (is_empty w))
Invariant (after_open h) = Unit {0}
Invariant (in_pcdata w h) = T (not (is_empty w))
Invariant (after_pcdata h) = Unit {0}
Invariant (expecting f fs h) = length fs < max_groups
Invariant (in_use j n f fs h) = T (is_name n) × (length fs < max_groups)
Invariant (closed p fs h) = length fs ≤ max_groups
Invariant (past p fs h) = length fs ≤ max_groups
Invariant (after_content c h) = Unit {0}

over-bounded : {q : State} {p : Particle Use} {fs : List Frame} {h : Head} → Over q p fs h → Invariant q → length fs ≤ max_groups
over-bounded (unmarked at_name) s = s.1
over-bounded (unmarked at-closed) s = s
over-bounded at-past s = s

due-bounded : {q : State} {f : Frame} {fs : List Frame} {h : Head} → Due q f fs h → Invariant q → length fs < max_groups
due-bounded due-first s = omega arith
due-bounded due-next s = s

pub goes-invariant : {q : State} {k b : ℕ} {r : State} → Goes q k b r → Invariant q → Invariant r
goes-invariant (idle v t) s = s
goes-invariant begin-declaration s = tt
goes-invariant (spell v in-element) s = tt
goes-invariant (spell v in-empty) s = tt
goes-invariant (spell v in-pcdata) s = tt
goes-invariant (spelt in-element) s = tt
goes-invariant (spelt in-empty) s = tt
goes-invariant (spelt in-pcdata) s = tt
goes-invariant (keyword-blank t) s = tt
goes-invariant (begin-name {b = b} t) s = one-byte-name b t
goes-invariant (grow-name {b = b} {n = n} t l) s = name-snoc n b s t l
goes-invariant (name-blank t) s = tt
goes-invariant begin-empty s = tt
goes-invariant open-content s = tt
goes-invariant begin-pcdata s = tt
goes-invariant close-pcdata s = tt
goes-invariant (begin-use {b = b} v t) s = (one-byte-name b t, due-bounded v s)
goes-invariant (grow-use {b = b} {n = n} t l) s = (name-snoc n b s.0 t l, s.1)
goes-invariant (open-group v l) s = l
goes-invariant (mark v m) s = over-bounded (unmarked v) s
goes-invariant (over-blank v t) s = over-bounded v s
goes-invariant (over-part v f x) s =
    let l = over-bounded v s in
    omega arith
goes-invariant (over-close v) s =
    let l = over-bounded v s in
    omega arith
goes-invariant (finish-blank v t) s = tt
goes-invariant (finish v) s = tt

-- A byte in front: what may follow after the byte gives what may follow before it.
declares-blank : {last done : List Declaration} {k b : ℕ} {w : List ℕ} → T (is_blank b) → Declares last done (suc k) w → Declares last done k (b ∷ w)
declares-blank t (declares (end x) e) = declares (end (blank t x)) e
declares-blank {k} {b} t (declares (next {a = a} {w = w} {r = r} {d = d} {ds = ds} x m n) e) =
    declares
    (next {k = k} (blank {b = b} t x) (subst (λ (i : ℕ). DeclarationText i w d) (omega arith) m) (subst (λ (i : ℕ). DeclarationsText i r ds) (omega arith) n)) e

declares-next : {last done : List Declaration} {j k : ℕ} {w z : List ℕ} {d : Declaration} → DeclarationText k w d → j ≡ k + length w → Declares last (d ∷ done) j z
    → Declares last done k (w ++ z)
declares-next {j} {k} {w} {z} {d} m e (declares {ds = ds} n f) =
    declares (next {k = k} none (subst (λ (i : ℕ). DeclarationText i w d) (omega arith) m) (subst (λ (i : ℕ). DeclarationsText i z ds) (omega arith) n)) f

declaration-joins : (b₀ b₁ : ℕ) (a n b w e z : List ℕ)
    → element_keyword ++ ((b₀ ∷ a) ++ (n ++ ((b₁ ∷ b) ++ (w ++ (e ++ (0x3E ∷ [])))))) ++ z
    ≡ element_keyword ++ (b₀ ∷ (a ++ (n ++ (b₁ ∷ (b ++ (w ++ (e ++ (0x3E ∷ z))))))))
declaration-joins b₀ b₁ a n b w e z = simp append_assoc

declaration-length : (b₀ b₁ : ℕ) (a n b w e : List ℕ)
    → length (element_keyword ++ ((b₀ ∷ a) ++ (n ++ ((b₁ ∷ b) ++ (w ++ (e ++ (0x3E ∷ []))))))) ≡ 12 + (length a + length n + length b + length w + length e)
declaration-length b₀ b₁ a n b w e = simp length-append (omega arith)

declares-open : {last done : List Declaration} {k : ℕ} {w : List ℕ} → Keywords last (bytes "!ELEMENT") (record { place = k; done = done }) (suc k) w → Declares last done k (0x3C ∷ w)
declares-open {last} {done} {k}
    (keywords b₀ t₀ (heads {j = j} {a = a} {n = n} b₁ x t t₁ (contains {c = c} {b = b} {w = w} y m (finishes {j = l} {e = e} {z = z} v r e₅) e₃ e₄) e₁ e₂) e₀) =
    subst (λ (u : List ℕ). Declares last done k u) (declaration-joins b₀ b₁ a n b w e z)
    (declares-next
    (declaration n (space t₀ x) t (space t₁ y)
    (subst (λ (i : ℕ). ContentText i w c) (omega arith) m) v)
    (omega (arith, declaration-length b₀ b₁ a n b w e))
    (subst (λ (i : ℕ). Declares last (record { place = k; name = record { place = i; name = n }; content = c } ∷ done) l z) (omega arith) r))

keywords-front : {last : List Declaration} {o : Opening} {k c : ℕ} {u w : List ℕ} → Keywords last u o (suc k) w → Keywords last (c ∷ u) o k (c ∷ w)
keywords-front {k} {c} (keywords {u = u} b t r e) = keywords {k = k} {u = c ∷ u} b t r (omega arith)

empties-front : {last : List Declaration} {h : Head} {k c : ℕ} {u w : List ℕ} → Empties last u h (suc k) w → Empties last (c ∷ u) h k (c ∷ w)
empties-front {k} {c} (empties {u = u} r e) = empties {k = k} {u = c ∷ u} r (omega arith)

empties-none : {last : List Declaration} {h : Head} {k : ℕ} {w : List ℕ} → Finishes last empty h k w → Empties last [] h k w
empties-none {k} r = empties {k = k} {u = []} r (omega arith)

pcdata-front : {last : List Declaration} {h : Head} {k c : ℕ} {u w : List ℕ} → Pcdata last u h (suc k) w → Pcdata last (c ∷ u) h k (c ∷ w)
pcdata-front {k} {c} (pcdatas {u = u} x r e) = pcdatas {k = k} {u = c ∷ u} x r (omega arith)

heads-blank : {last : List Declaration} {o : Opening} {k b : ℕ} {w : List ℕ} → T (is_blank b) → Heads last o (suc k) w → Heads last o k (b ∷ w)
heads-blank {k} {b} t (heads c x u v r e f) = heads {k = k} c (blank {b = b} t x) u v r (omega arith) f

contains-blank : {last : List Declaration} {h : Head} {k b : ℕ} {w : List ℕ} → T (is_blank b) → Contains last h (suc k) w → Contains last h k (b ∷ w)
contains-blank {k} {b} t (contains x m r e f) = contains {k = k} (blank {b = b} t x) m r (omega arith) f

wants-blank : {last : List Declaration} {f : Frame} {fs : List Frame} {h : Head} {k b : ℕ} {w : List ℕ} → T (is_blank b) → Wants last f fs h (suc k) w → Wants last f fs h k (b ∷ w)
wants-blank {k} {b} t (wants x m r d e f) = wants {k = k} (blank {b = b} t x) m r d (omega arith) f

opens-blank : {last : List Declaration} {h : Head} {k b : ℕ} {w : List ℕ} → T (is_blank b) → Opens last h (suc k) w → Opens last h k (b ∷ w)
opens-blank t (with-model r) = with-model (wants-blank t r)
opens-blank {k} {b} t (with-text x r e) = with-text {k = k} (blank {b = b} t x) r (omega arith)

pcdata-blank : {last : List Declaration} {h : Head} {k b : ℕ} {w : List ℕ} → T (is_blank b) → Pcdata last [] h (suc k) w → Pcdata last [] h k (b ∷ w)
pcdata-blank {k} {b} t (pcdatas x r e) = pcdatas {k = k} {u = []} (blank {b = b} t x) r (omega arith)

finishes-blank : {last : List Declaration} {c : Content Use} {h : Head} {k b : ℕ} {w : List ℕ} → T (is_blank b) → Finishes last c h (suc k) w → Finishes last c h k (b ∷ w)
finishes-blank {k} {b} t (finishes x r e) = finishes {k = k} (blank {b = b} t x) r (omega arith)

follows-blank : {last : List Declaration} {p : Particle Use} {fs : List Frame} {h : Head} {k b : ℕ} {w : List ℕ} → T (is_blank b) → Follows last p fs h (suc k) w
    → Follows last p fs h k (b ∷ w)
follows-blank t (outside r) = outside (finishes-blank t r)
follows-blank {k} {b} t (inside x m o r d e f) = inside {k = k} (blank {b = b} t x) m o r d (omega arith) f

-- names
heads-begin : {last : List Declaration} {o : Opening} {k b : ℕ} {w : List ℕ} → Names last k (b ∷ []) o (suc k) w → Heads last o k (b ∷ w)
heads-begin {last} {o} {k} {b} (names {i = i} {z = z} t c s e u r f) =
    heads {k = k} c none (subst (λ (m : List ℕ). T (is_name m)) e s) u (subst (λ (m : List ℕ). Contains last (headed k m o) i z) e r) (omega arith) (omega arith)

names-grow : {last : List Declaration} {o : Opening} {j k b : ℕ} {n w : List ℕ} → Names last j (n ++ (b ∷ [])) o (suc k) w → Names last j n o k (b ∷ w)
names-grow {k} {b} {n} (names t c s e u r f) = names {k = k} (b ∷ t) c s (e ∙ append_assoc n (b ∷ []) t) u r (omega arith)

names-end : {last : List Declaration} {o : Opening} {j k b : ℕ} {n w : List ℕ} → T (is_name n) → T (is_blank b) → Contains last (headed j n o) (suc k) w → Names last j n o k (b ∷ w)
names-end {k} {b} {n} s u r = names {k = k} [] b s (sym (append-nil n)) u r (omega arith)

uses-grow : {last : List Declaration} {f : Frame} {fs : List Frame} {h : Head} {j k b : ℕ} {n w : List ℕ} → Uses last j (n ++ (b ∷ [])) f fs h (suc k) w → Uses last j n f fs h k (b ∷ w)
uses-grow {k} {b} {n} (uses t s e r f) = uses {k = k} (b ∷ t) s (e ∙ append_assoc n (b ∷ []) t) r (omega arith)

uses-end : {last : List Declaration} {f : Frame} {fs : List Frame} {h : Head} {j k : ℕ} {n w : List ℕ} → T (is_name n) → Closes last (named (record { place = j; name = n })) (f ∷ fs) h k w
    → Uses last j n f fs h k w
uses-end {k} {n} s r = uses {k = k} [] s (sym (append-nil n)) r (omega arith)

-- particles and groups
model_at : {κ : Kind} {d e i j : ℕ} {w : List ℕ} {p : Particle Use} → Model κ d i w p → d ≡ e → i ≡ j → Model κ e j w p
model_at {κ} {d} {e} {i} {j} {w} {p} m x y = subst (λ (l : ℕ). Model κ e l w p) y (subst (λ (l : ℕ). Model κ l i w p) x m)

group-joins : (a u b r y : List ℕ) → a ++ (u ++ (b ++ r)) ++ y ≡ a ++ (u ++ (b ++ (r ++ y)))
group-joins a u b r y = simp append_assoc

-- a whole group with its indicator, and what follows
data Groups (last : List Declaration) : List Frame → Head → ℕ → List ℕ → Type 0 where
  groups : {g : Particle Use} {fs : List Frame} {h : Head} {d j k : ℕ} {w z : List ℕ} → Model group (suc d) k w g → (o : Indicator) → Follows last (indicated o g) fs h j z
      → suc (d + length fs) ≡ max_groups → j ≡ k + length w + length (spell_indicator o) → Groups last fs h k (w ++ (spell_indicator o ++ z))

groups-open : {last : List Declaration} {fs : List Frame} {h : Head} {k : ℕ} {w : List ℕ} → Wants last fresh fs h (suc k) w → Groups last fs h k (0x28 ∷ w)
groups-open {last} {fs} {h} {k} (wants {d = d} {a = a} {u = u} x m (inside {b = b} {r = r} {z = z} y n o s e₁ e₂ e₃) e₄ e₅ e₆) =
    subst (λ (v : List ℕ). Groups last fs h k (0x28 ∷ v)) (group-joins a u b r (spell_indicator o ++ z))
    (groups (opened {d = d} x (model_at m refl e₅) y (model_at n (omega arith) (omega arith))) o s e₄ (simp length-append (omega arith)))

contains-group : {last : List Declaration} {h : Head} {k : ℕ} {w : List ℕ} → Groups last [] h k w → Contains last h k w
contains-group {last} {h} {k} (groups {d = d} {w = w} {z = z} m o (outside r) e f) =
    subst (λ (v : List ℕ). Contains last h k v) (append_assoc w (spell_indicator o) z)
    (contains {b = []} none (is-children (model_at m (omega arith) refl) o) r (omega arith) (simp length-append (omega arith)))

wants-group : {last : List Declaration} {f : Frame} {fs : List Frame} {h : Head} {k : ℕ} {w : List ℕ} → Groups last (f ∷ fs) h k w → Wants last f fs h k w
wants-group {last} {f} {fs} {h} {k} (groups {d = d} {w = w} {z = z} m o r e e₂) =
    subst (λ (v : List ℕ). Wants last f fs h k v) (append_assoc w (spell_indicator o) z)
    (wants {a = []} none (a-group m o) r (omega arith) (omega arith) (simp length-append (omega arith)))

pcdata-joins : (a b z : List ℕ) → a ++ (pcdata_keyword ++ (b ++ (0x29 ∷ []))) ++ z ≡ a ++ (pcdata_keyword ++ (b ++ (0x29 ∷ z)))
pcdata-joins a b z = simp append_assoc

contains-open : {last : List Declaration} {h : Head} {k : ℕ} {w : List ℕ} → Opens last h (suc k) w → Contains last h k (0x28 ∷ w)
contains-open (with-model r) = contains-group (groups-open r)
contains-open {last} {h} {k} (with-text {a = a} x (pcdatas {b = b} {z = z} y r e) f) =
    subst (λ (v : List ℕ). Contains last h k (0x28 ∷ v)) (pcdata-joins a b z)
    (contains {i = k} {b = []} none (is-pcdata x y) r (omega arith) (simp length-append (omega arith)))

contains-empty : {last : List Declaration} {h : Head} {k : ℕ} {w : List ℕ} → Empties last (bytes "MPTY") h (suc k) w → Contains last h k (0x45 ∷ w)
contains-empty {k} (empties r e) = contains {i = k} {k = k} none is-empty r (omega arith) (omega arith)

opens-pcdata : {last : List Declaration} {h : Head} {k : ℕ} {w : List ℕ} → Pcdata last (bytes "PCDATA") h (suc k) w → Opens last h k (0x23 ∷ w)
opens-pcdata {k} r = with-text {k = k} none (pcdata-front r) (omega arith)

wants-name : {last : List Declaration} {f : Frame} {fs : List Frame} {h : Head} {k b : ℕ} {w : List ℕ} → length fs < max_groups → Uses last k (b ∷ []) f fs h (suc k) w
    → Wants last f fs h k (b ∷ w)
wants-name {last} {f} {fs} {h} {k} {b} l (uses {m = m} t s e (closes {z = z} o r e₁) e₂) =
    subst (λ (v : List ℕ). Wants last f fs h k v) (append_assoc m (spell_indicator o) z ∙ ap (λ (v : List ℕ). v ++ (spell_indicator o ++ z)) e)
    (wants {a = []} none (a-name {d = max_groups - suc (length fs)} m s o) r (omega arith) (omega arith) (omega (arith, simp length-append at (ap length e), length-append m (spell_indicator o))))

holds-parted : {f : Frame} {s : Separator} → Holds f s → s ≡ parted_by f
holds-parted holds-one = refl
holds-parted holds-bar = refl
holds-parted holds-comma = refl

follows-part : {last : List Declaration} {p : Particle Use} {f : Frame} {fs : List Frame} {h : Head} {k x : ℕ} {s t : Separator} {w : List ℕ} → Holds f s → Parts s x t
    → Wants last (holding t (join f p)) fs h (suc k) w → Follows last p (f ∷ fs) h k (x ∷ w)
follows-part {last} {p} {f} {fs} {h} {k} {x} {s} {t} v c (wants {d = d} {a = a} {u = u} y m (inside {g = g} {b = b} {r = r} {z = z} y₂ n o q e₁ e₂ e₃) e₄ e₅ e₆) =
    subst (λ (l : List ℕ). Follows last p (f ∷ fs) h k (x ∷ l)) (group-joins a u b r (spell_indicator o ++ z))
    (inside {k = k} {b = []} none
    (subst (λ (i : Separator). Model (rest i (join f p)) d k (x ∷ (a ++ (u ++ (b ++ r)))) g) (holds-parted v)
    (more c y (model_at m refl e₅) y₂ (model_at n (omega arith) (omega arith))))
    o q e₄ (omega arith) (simp length-append (omega arith)))

follows-close : {last : List Declaration} {p : Particle Use} {f : Frame} {fs : List Frame} {h : Head} {k : ℕ} {w : List ℕ} → length fs < max_groups → Closes last (join f p) fs h (suc k) w
    → Follows last p (f ∷ fs) h k (0x29 ∷ w)
follows-close {fs} {k} l (closes o r e) = inside {k = k} none (close {d = max_groups - suc (length fs)} {k = k}) o r (omega arith) (omega arith) (omega arith)

closes-mark : {last : List Declaration} {p : Particle Use} {fs : List Frame} {h : Head} {k b : ℕ} {o : Indicator} {w : List ℕ} → Marks o b → Follows last (indicated o p) fs h (suc k) w
    → Closes last p fs h k (b ∷ w)
closes-mark {k} mark-optional r = closes {k = k} optional r (omega arith)
closes-mark {k} mark-any r = closes {k = k} any r (omega arith)
closes-mark {k} mark-one_or_more r = closes {k = k} one_or_more r (omega arith)

closes-unmarked : {last : List Declaration} {p : Particle Use} {fs : List Frame} {h : Head} {k : ℕ} {w : List ℕ} → Follows last p fs h k w → Closes last p fs h k w
closes-unmarked {k} r = closes {k = k} once r (omega arith)

pcdata-close : {last : List Declaration} {h : Head} {k : ℕ} {w : List ℕ} → Finishes last pcdata h (suc k) w → Pcdata last [] h k (0x29 ∷ w)
pcdata-close {k} r = pcdatas {k = k} {u = []} none r (omega arith)

finishes-end : {last : List Declaration} {c : Content Use} {h : Head} {k : ℕ} {w : List ℕ} → Declares last (declared c h ∷ h.opening.done) (suc k) w → Finishes last c h k (0x3E ∷ w)
finishes-end {k} r = finishes {k = k} none r (omega arith)

keywords-blank : {last : List Declaration} {o : Opening} {k b : ℕ} {w : List ℕ} → T (is_blank b) → Heads last o (suc k) w → Keywords last [] o k (b ∷ w)
keywords-blank {k} {b} t r = keywords {k = k} {u = []} b t r (omega arith)

-- in a state after a name, a group, a particle or the content
ended-completes : {last : List Declaration} {q : State} {p : Particle Use} {fs : List Frame} {h : Head} {k : ℕ} {w : List ℕ} → Ended q p fs h → Invariant q → Closes last p fs h k w
    → Completes last q k w
ended-completes at_name s r = uses-end s.0 r
ended-completes at-closed s r = r

over-completes : {last : List Declaration} {q : State} {p : Particle Use} {fs : List Frame} {h : Head} {k : ℕ} {w : List ℕ} → Over q p fs h → Invariant q → Follows last p fs h k w
    → Completes last q k w
over-completes (unmarked v) s r = ended-completes v s (closes-unmarked r)
over-completes at-past s r = r

finished-completes : {last : List Declaration} {q : State} {c : Content Use} {h : Head} {k : ℕ} {w : List ℕ} → Finished q c h → Invariant q → Finishes last c h k w → Completes last q k w
finished-completes (at-model v) s r = over-completes v s (outside r)
finished-completes at-content s r = r

due-completes : {last : List Declaration} {q : State} {f : Frame} {fs : List Frame} {h : Head} {k : ℕ} {w : List ℕ} → Due q f fs h → Wants last f fs h k w → Completes last q k w
due-completes due-first r = with-model r
due-completes due-next r = r

goes-completes : (last : List Declaration) {q : State} {k b : ℕ} {r : State} (w : List ℕ) → Goes q k b r → Invariant q → Completes last r (suc k) w → Completes last q k (b ∷ w)
goes-completes last w (idle skip-between t) s c = declares-blank t c
goes-completes last w (idle skip-name t) s c = heads-blank t c
goes-completes last w (idle skip-content t) s c = contains-blank t c
goes-completes last w (idle skip-open t) s c = opens-blank t c
goes-completes last w (idle skip-pcdata t) s c = pcdata-blank t c
goes-completes last w (idle skip-particle t) s c = wants-blank t c
goes-completes last w begin-declaration s c = declares-open c
goes-completes last w (spell in-element in-element) s c = keywords-front c
goes-completes last w (spell in-empty in-empty) s c = empties-front c
goes-completes last w (spell in-pcdata in-pcdata) s c = pcdata-front c
goes-completes last w (spelt in-element) s c = keywords-front c
goes-completes last w (spelt in-empty) s c = empties-front (empties-none c)
goes-completes last w (spelt in-pcdata) s c = pcdata-front c
goes-completes last w (keyword-blank t) s c = keywords-blank t c
goes-completes last w (begin-name t) s c = heads-begin c
goes-completes last w (grow-name t l) s c = names-grow c
goes-completes last w (name-blank t) s c = names-end s t c
goes-completes last w begin-empty s c = contains-empty c
goes-completes last w open-content s c = contains-open c
goes-completes last w begin-pcdata s c = opens-pcdata c
goes-completes last w close-pcdata s c = pcdata-close c
goes-completes last w (begin-use v t) s c = due-completes v (wants-name (due-bounded v s) c)
goes-completes last w (grow-use t l) s c = uses-grow c
goes-completes last w (open-group v l) s c = due-completes v (wants-group (groups-open c))
goes-completes last w (mark v m) s c = ended-completes v s (closes-mark m c)
goes-completes last w (over-blank v t) s c = over-completes v s (follows-blank t c)
goes-completes last w (over-part v f x) s c = over-completes v s (follows-part f x c)
goes-completes last w (over-close v) s c = over-completes v s (follows-close (over-bounded v s) c)
goes-completes last w (finish-blank v t) s c = finished-completes v s (finishes-blank t c)
goes-completes last w (finish v) s c = finished-completes v s (finishes-end c)

path-completes : {last : List Declaration} {q : State} {k : ℕ} {w : List ℕ} → Transitions q k w (between last) → Invariant q → Completes last q k w
path-completes stay s = declares (end none) refl
path-completes {last} (go {w = w} g p) s = goes-completes last w g s (path-completes p (goes-invariant g s))

-- Each text that is read is of the grammar, with the declarations that it was read as.
pub path-grammatical : {text : List ℕ} {done : List Declaration} → Transitions (between []) 0 text (between done) → (done ≡ [] → ⊥) → SchemaText text (reverse done)
path-grammatical {text} {done} p n = of-schema (path-completes p tt)
  where
    of-schema : Declares done [] 0 text → SchemaText text (reverse done)
    of-schema (declares {ds = []} m e) = absurd (n (sym e))
    of-schema (declares {ds = d ∷ ds} m e) =
        subst (λ (l : List Declaration). SchemaText text l) (sym (reverse-reverse (d ∷ ds)) ∙ ap reverse e) (schema-text m)

pub schema-sound : (text : List ℕ) (ds : List Declaration) → parse text ≡ spells ds → SchemaText text ds
unfolding parse
schema-sound text ds e =
    let q = final schema_machine (between []) text 0 in
    let s = run-spells schema_machine (between []) text 0 e in
    let r = ends-between q s in
    let p = subst (Transitions (between []) 0 text) r.2 (live-path (between []) 0 text (spells-live schema-dead q s)) in
    subst (SchemaText text) (sym r.3) (path-grammatical p (λ f. never (cc)))
