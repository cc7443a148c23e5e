-- The machine reads each text of the grammar, and spells what its derivation declares, places included.
use Rattle.std.specs.Prelude.{◌&&◌, ◌≡◌, refl, ℕ, suc, ◌+◌, ◌≤◌, ◌<◌, T, leb, length}
use mathlib.Core.List.{List, [], ◌∷◌, ◌++◌, append_assoc, append-nil, reverse, reverse_aux, reverse-reverse}
use Rattle.std.proofs.Math.Option.{some}
use Rattle.std.proofs.Common.{sym, ap, subst, ◌∙◌, arith, leb→le, length-append}
use Rattle.schema_laws.specs.Machine.{schema-dead}
use Rattle.schema_laws.specs.reading.Runs.{path-final}
use Rattle.schema_laws.specs.reading.Steps.{Skips, skip-between, skip-name, skip-content, skip-open, skip-pcdata, skip-particle, Spelling, in-element, in-empty, in-pcdata, Due, due-first, due-next, Ended, at_name, at-closed, Over, unmarked, at-past, Finished, at-model, at-content, Holds, holds-one, holds-bar, holds-comma, mark-optional, mark-any, mark-one_or_more, Goes, idle, begin-declaration, spell, spelt, keyword-blank, begin-name, grow-name, name-blank, begin-empty, open-content, begin-pcdata, close-pcdata, begin-use, grow-use, open-group, mark, over-blank, over-part, over-close, finish-blank, finish, Transitions, stay, go, path-append}
use Rattle.schema_spec.specs.Declarations.{Use, Declaration, element_keyword, pcdata_keyword, Indicator, once, optional, any, one_or_more, spell_indicator, indicated, Separator, join_by}
use Rattle.schema_spec.specs.Grammar.{Blanks, none, blank, space, Parts, first-bar, next-bar, first-comma, next-comma, Kind, particle, group, rest, Model, a-name, a-group, opened, close, more, ContentText, is-empty, is-pcdata, is-children, DeclarationText, declaration, DeclarationsText, end, next, SchemaText, schema-text}
use Rattle.schema_spec.specs.Machine.{Frame, fresh, holding, Opening, Head, State, between, before_name, in_name, before_content, after_open, expecting, in_use, closed, past, after_content, join, headed, ends, parse}
use Rattle.schema_spec.specs.Models.{Particle, named, Content}
use Rattle.text_laws.specs.Machines.{final-spells}
use Rattle.text_laws.specs.Tests.{never, and_cases}
use Rattle.text_spec.specs.Bytes.{starts_name, continues_name, is_name}
use Rattle.text_spec.specs.Limits.{max_name_bytes, max_groups}
use Rattle.text_spec.specs.Lists.{bytes, all_of}
use Rattle.text_spec.specs.Machines.{spells}

-- the machine comes from q over the text w to a state with the property P
pub record Reaches (q : State) (k : ℕ) (w : List ℕ) (P : State → Type 0) : Type 0 where
  pub state : State
  pub path : Transitions q k w state
  pub there : P state

reach : {q r : State} {k : ℕ} {w : List ℕ} {P : State → Type 0} → Transitions q k w r → P r → Reaches q k w P
reach {r} p t = record { state = r; path = p; there = t }

-- blanks
blanks-path : {q : State} {w : List ℕ} (k : ℕ) → Skips q → Blanks w → Transitions q k w q
blanks-path k s none = stay
blanks-path k s (blank t b) = go (idle s t) (blanks-path (suc k) s b)

past-blanks : {p : Particle Use} {f : Frame} {fs : List Frame} {h : Head} {w : List ℕ} (k : ℕ) → Blanks w → Transitions (past p (f ∷ fs) h) k w (past p (f ∷ fs) h)
past-blanks k none = stay
past-blanks k (blank t b) = go (over-blank at-past t) (past-blanks (suc k) b)

over-blanks : {q : State} {p : Particle Use} {f : Frame} {fs : List Frame} {h : Head} {w : List ℕ} (k : ℕ) → Over q p (f ∷ fs) h → Blanks w
    → Reaches q k w (λ s. Over s p (f ∷ fs) h)
over-blanks k v none = reach stay v
over-blanks k v (blank t b) = reach (go (over-blank v t) (past-blanks (suc k) b)) at-past

content-blanks : {c : Content Use} {h : Head} {w : List ℕ} (k : ℕ) → Blanks w → Transitions (after_content c h) k w (after_content c h)
content-blanks k none = stay
content-blanks k (blank t b) = go (finish-blank at-content t) (content-blanks (suc k) b)

finished-blanks : {q : State} {c : Content Use} {h : Head} {w : List ℕ} (k : ℕ) → Finished q c h → Blanks w → Reaches q k w (λ s. Finished s c h)
finished-blanks k v none = reach stay v
finished-blanks k v (blank t b) = reach (go (finish-blank v t) (content-blanks (suc k) b)) at-content

due-blanks : {q : State} {f : Frame} {fs : List Frame} {h : Head} {w : List ℕ} (k : ℕ) → Due q f fs h → Blanks w → Transitions q k w q
due-blanks k due-first b = blanks-path k skip-open b
due-blanks k due-next b = blanks-path k skip-particle b

-- keywords
spelling-on : {q z : State} {c d : ℕ} {w : List ℕ} → Spelling q (c ∷ d ∷ w) z → (r : State) × Spelling r (d ∷ w) z
spelling-on in-element = (_, in-element)
spelling-on in-empty = (_, in-empty)
spelling-on in-pcdata = (_, in-pcdata)

pub keyword-path : {q z : State} {c : ℕ} (w : List ℕ) (k : ℕ) → Spelling q (c ∷ w) z → Transitions q k (c ∷ w) z
keyword-path [] k s = go (spelt s) stay
keyword-path {q = q} (d ∷ w) k s =
    let r = spelling-on s in
    go (spell s r.1) (keyword-path {q = (spelling-on s).0} w (suc k) r.1)

-- names: a state holds the bytes so far, and each further one lengthens them
module _ (holding_name : List ℕ → State) (grow : (n : List ℕ) (k b : ℕ) → T (continues_name b) → length n < max_name_bytes → Goes (holding_name n) k b (holding_name (n ++ (b ∷ [])))) where
  tail-path : (t n : List ℕ) (k : ℕ) → T (all_of continues_name t) → length n + length t ≤ max_name_bytes → Transitions (holding_name n) k t (holding_name (n ++ t))
  tail-path [] n k a l = subst (λ (m : List ℕ). Transitions (holding_name n) k [] (holding_name m)) (sym (append-nil n)) stay
  tail-path (b ∷ t) n k a l =
      let c = and_cases (continues_name b) (all_of continues_name t) a in
      go (grow n k b c.0 (omega arith))
      (subst (λ (m : List ℕ). Transitions (holding_name (n ++ (b ∷ []))) (suc k) t (holding_name m)) (append_assoc n (b ∷ []) t)
      (tail-path t (n ++ (b ∷ [])) (suc k) c.1 (simp length-append (omega arith))))

  name-path : {q : State} (k : ℕ) (n : List ℕ) → ((b : ℕ) → T (starts_name b) → Goes q k b (holding_name (b ∷ []))) → T (is_name n) → Transitions q k n (holding_name n)
  name-path k [] begin t = absurd t
  name-path k (b ∷ n) begin t =
      let c = and_cases (starts_name b) (all_of continues_name n && leb (length (b ∷ n)) max_name_bytes) t in
      let d = and_cases (all_of continues_name n) (leb (length (b ∷ n)) max_name_bytes) c.1 in
      let l : suc (length n) ≤ max_name_bytes = leb→le (length (b ∷ n)) max_name_bytes d.1 in
      go (begin b c.0) (tail-path n (b ∷ []) (suc k) d.0 (omega arith))

declared-name : (o : Opening) (k : ℕ) (n : List ℕ) → T (is_name n) → Transitions (before_name o) k n (in_name k n o)
declared-name o k n t = name-path (λ m. in_name k m o) (λ m i b u l. grow-name u l) k n (λ b u. begin-name u) t

used-name : {q : State} {f : Frame} {fs : List Frame} {h : Head} (k : ℕ) (n : List ℕ) → Due q f fs h → T (is_name n) → Transitions q k n (in_use k n f fs h)
used-name {f} {fs} {h} k n v t = name-path (λ m. in_use k m f fs h) (λ m i b u l. grow-use u l) k n (λ b u. begin-use v u) t

-- an indicator, or none
marked : {q : State} {p : Particle Use} {fs : List Frame} {h : Head} (k : ℕ) (o : Indicator) → Ended q p fs h → Reaches q k (spell_indicator o) (λ s. Over s (indicated o p) fs h)
marked k once v = reach stay (unmarked v)
marked k optional v = reach (go (mark v mark-optional) stay) at-past
marked k any v = reach (go (mark v mark-any) stay) at-past
marked k one_or_more v = reach (go (mark v mark-one_or_more) stay) at-past

-- what reading a part of a model does, by its kind, where at most eight parentheses are open at once
abbrev Reads : Kind → ℕ → ℕ → List ℕ → Particle Use → Type 0
Reads particle d k w p = (q : State) (f : Frame) (fs : List Frame) (h : Head) → Due q f fs h → suc (length fs) + d ≤ max_groups → Reaches q k w (λ s. Over s p (f ∷ fs) h)
Reads group d k w p =
    (v : List ℕ) × (w ≡ 0x28 ∷ v) × (0 < d) × ((q : State) (fs : List Frame) (h : Head) → Due q fresh fs h → length fs + d ≤ max_groups → Transitions q (suc k) v (closed p fs h))
Reads (rest s g) d k w p =
    (q : State) (z : Particle Use) (f : Frame) (fs : List Frame) (h : Head) → Over q z (f ∷ fs) h → Holds f s → join f z ≡ g → suc (length fs) + d ≤ max_groups
    → Transitions q k w (closed p fs h)

-- blanks, a particle, blanks and the rest of a group
in_group : {s : Separator} {a b : List ℕ} (d k : ℕ) (u r : List ℕ) (p g z : Particle Use) → Blanks a → Reads particle d (k + length a) u p → Blanks b
    → Reads (rest s g) d (k + length a + length u + length b) r z
    → (q : State) (f : Frame) (fs : List Frame) (h : Head) → Due q f fs h → Holds f s → join f p ≡ g → suc (length fs) + d ≤ max_groups → Transitions q k (a ++ (u ++ (b ++ r))) (closed z fs h)
in_group {a} {b} d k u r p g z x m y n q f fs h v o e l =
    let i = m q f fs h v l in
    let j = over-blanks (k + length a + length u) i.there y in
    path-append (due-blanks k v x) refl (path-append i.path refl (path-append j.path refl (n j.state p f fs h j.there o e l)))

group-path : (d k : ℕ) (w : List ℕ) (p : Particle Use) → Reads group d k w p → (q : State) (f : Frame) (fs : List Frame) (h : Head) → Due q f fs h → suc (length fs) + d ≤ max_groups
    → Transitions q k w (closed p (f ∷ fs) h)
group-path d k w p g q f fs h v l =
    let z = g.2 in
    subst (λ (u : List ℕ). Transitions q k u (closed p (f ∷ fs) h)) (sym g.1)
    (go (open-group v (omega arith)) (g.3 (expecting fresh (f ∷ fs) h) (f ∷ fs) h due-next l))

parts-holds : {s t : Separator} {x : ℕ} {p : Particle Use} → Parts s x t → Holds (holding t p) t
parts-holds first-bar = holds-bar
parts-holds next-bar = holds-bar
parts-holds first-comma = holds-comma
parts-holds next-comma = holds-comma

pub reads : {κ : Kind} {d k : ℕ} {w : List ℕ} {p : Particle Use} → Model κ d k w p → Reads κ d k w p
reads {d} {k} (a-name n t o) = λ q f fs h v l.
    let i = marked {p = named (record { place = k; name = n })} (k + length n) o at_name in
    reach (path-append (used-name k n v t) refl i.path) i.there
reads {d} {k} (a-group {w = w} {p = p} m o) = λ q f fs h v l.
    let i = marked {fs = f ∷ fs} {h = h} (k + length w) o (at-closed {p = p}) in
    reach (path-append (group-path d k w p (reads m) q f fs h v l) refl i.path) i.there
reads {d} {k} {p} (opened {d = c} {a = a} {u = u} {b = b} {r = r} {p = p₁} x m y n) =
    (a ++ (u ++ (b ++ r)), refl, omega arith, λ q fs h v l. in_group c (suc k) u r p₁ p₁ p x (reads m) y (reads n) q fresh fs h v holds-one refl (omega arith))
reads {k} close = λ q z f fs h v o e l. subst (λ (g : Particle Use). Transitions q k (0x29 ∷ []) (closed g fs h)) e (go (over-close v) stay)
reads {d} {k} {p} (more {s = s} {t = t} {a = a} {u = u} {b = b} {r = r} {p = p₁} {q = p₂} c x m y n) = λ q z f fs h v o e l.
    go (over-part v o c)
    (in_group d (suc k) u r p₂ (join_by t p₁ p₂) p x (reads m) y (reads n) (expecting (holding t (join f z)) fs h) (holding t (join f z)) fs h due-next (parts-holds c)
    (ap (λ (g : Particle Use). join_by t g p₂) e) l)

content-reads : {k : ℕ} {w : List ℕ} {c : Content Use} → ContentText k w c → (h : Head) → Reaches (before_content h) k w (λ s. Finished s c h)
content-reads {k} is-empty h = reach (go begin-empty (keyword-path (bytes "PTY") (suc k) in-empty)) at-content
content-reads {k} (is-pcdata {a = a} {b = b} x y) h =
    reach
    (go open-content
    (path-append (blanks-path (suc k) skip-open x) refl
    (path-append (go begin-pcdata (keyword-path (bytes "CDATA") (suc (suc k + length a)) in-pcdata)) refl
    (path-append (blanks-path (suc k + length a + length pcdata_keyword) skip-pcdata y) refl (go close-pcdata stay)))))
    at-content
content-reads {k} (is-children {w = w} {p = p} m o) h =
    let g = reads m in
    let i = marked {fs = []} {h = h} (k + length w) o (at-closed {p = p}) in
    reach
    (path-append
    (subst (λ (u : List ℕ). Transitions (before_content h) k u (closed p [] h)) (sym g.1) (go open-content (g.3 (after_open h) [] h due-first (omega arith))))
    refl i.path)
    (at-model i.there)

declaration-reads : {k : ℕ} {w : List ℕ} {d : Declaration} → DeclarationText k w d → (done : List Declaration) → Transitions (between done) k w (between (d ∷ done))
declaration-reads {k} (declaration {a = a} {b = b} {w = w} {e = e} {c = c} n (space {w = a₁} t x) u (space {w = b₁} v y) m z) done =
    let o : Opening = record { place = k; done = done } in
    let h : Head = headed (k + length element_keyword + length a) n o in
    let i = content-reads m h in
    let j = finished-blanks (k + length element_keyword + length a + length n + length b + length w) i.there z in
    path-append (go begin-declaration (keyword-path (bytes "ELEMENT") (suc k) (in-element {o = o}))) refl
    (path-append (go (keyword-blank t) (blanks-path _ skip-name x)) refl
    (path-append (declared-name o (k + length element_keyword + length a) n u) refl
    (path-append (go (name-blank v) (blanks-path _ skip-content y)) refl (path-append i.path refl (path-append j.path refl (go (finish j.there) stay))))))

declarations-read : {k : ℕ} {w : List ℕ} {ds : List Declaration} → DeclarationsText k w ds → (done : List Declaration) → Transitions (between done) k w (between (reverse_aux ds done))
declarations-read {k} (end x) done = blanks-path k skip-between x
declarations-read {k} (next {d = d} x m n) done = path-append (blanks-path k skip-between x) refl (path-append (declaration-reads m done) refl (declarations-read n (d ∷ done)))

-- the text ends after at least one declaration
ends_some : (done : List Declaration) → (done ≡ [] → ⊥) → ends (between done) ≡ some (reverse done)
ends_some [] n = absurd (n refl)
ends_some (d ∷ done) n = refl

reversed-some : (d : Declaration) (ds : List Declaration) → reverse (d ∷ ds) ≡ [] → ⊥
reversed-some d ds e =
    let f : d ∷ ds ≡ [] = sym (reverse-reverse (d ∷ ds)) ∙ ap reverse e in
    never cc

-- a text that ends where a declaration may begin, after at least one
pub path-spells : {text : List ℕ} (done : List Declaration) → Transitions (between []) 0 text (between done) → (done ≡ [] → ⊥) → parse text ≡ spells (reverse done)
unfolding parse
path-spells {text} done p n = final-spells schema-dead (between []) text 0 (ap ends (path-final p) ∙ ends_some done n)

-- Every text of the grammar is read, with exactly what its derivation declares.
pub schema-complete : {text : List ℕ} {ds : List Declaration} → SchemaText text ds → parse text ≡ spells ds
schema-complete (schema-text {d = d} {ds = ds} m) =
    path-spells (reverse (d ∷ ds)) (declarations-read m []) (reversed-some d ds) ∙ ap spells (reverse-reverse (d ∷ ds))

-- so a text has at most one derivation's worth of declarations
pub schema-unique : {text : List ℕ} {ds es : List Declaration} → SchemaText text ds → SchemaText text es → ds ≡ es
schema-unique m n =
    let e = sym (schema-complete m) ∙ schema-complete n in
    cc
