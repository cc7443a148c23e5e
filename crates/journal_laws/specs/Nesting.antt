-- The builder breaks exactly where tokens stop nesting (12) or open depth 65 (13).
use Rattle.std.specs.Prelude.{Bool, cond, not, ◌⊎◌, ◌≡◌, ℕ, suc, ◌+◌, ◌≤◌, ◌<◌, T, length}
use Rattle.std.proofs.Math.Bool.{true, false}
use mathlib.Core.List.Memᴰ.{head as here}
use mathlib.Core.List.{List, [], ◌∷◌, ◌++◌, append_assoc, append-nil}
use Rattle.std.proofs.Common.{inl, inr, sym, ap, subst, ◌∙◌, add-zero, zero-add, arith, leb→le, length-append}
use Rattle.std.proofs.Math.Option.{Option, none, some}
use Rattle.std.proofs.Math.Path.{refl}
use Rattle.std.proofs.Math.Dec.{leb, nleb→lt}
use Rattle.journal_laws.specs.Events.{build}
use Rattle.journal_laws.specs.Walks.{Moves, root-starts, starts-in, root-empty, empty-in, ends-in, blanks-out, data-in, Walks, stays, move, moves-once, walks-append, walks-split, ShallowFrom, shallow-tail, shallow-head, shallow-none, shallow-cons, move-depth, walk-depth, walk-shallow, nested-walk, Parted, spelt-parted, spell-length, walk-nested, walk-beginning, beginning-walk, parted-first}
use Rattle.journal_spec.specs.Builder.{Filling, unjudged, misfit, unfilled, filled_by_text, filled_by_children, with_run, fits_at_end, Open, Building, building, breaks, refill, begin, on_start, end_of, outside, text_node, inside, on_event}
use Rattle.journal_spec.specs.Conditions.{NestedBeginning, Begins, by-start-tag, by-empty-tag, Shallow, OffendsAt, start-tag, empty-tag, end-tag, solid-byte, Misnested, offends, ends-early, TooDeep, too-deep}
use Rattle.journal_spec.specs.Trees.{Forest, Nested}
use Rattle.schema_spec.specs.Schemas.{Schema}
use Rattle.table_laws.specs.Places.{none-some}
use Rattle.table_spec.specs.Rows.{Row}
use Rattle.text_laws.specs.Lists.{bytes-equal, bytes_same}
use Rattle.text_laws.specs.Tests.{passed, failed, true_of, false_of, and_cases, and_intro, never}
use Rattle.text_spec.specs.Bytes.{is_blank, all_blank}
use Rattle.text_spec.specs.Limits.{max_depth}
use Rattle.text_spec.specs.Lists.{is_none, same_bytes}
use Rattle.text_spec.specs.Refusals.{Refusal, at, bad_nesting, over_depth}
use Rattle.token_laws.specs.Passes.{token_events, events_of, solid_from}
use Rattle.token_spec.specs.Characters.{saved_in}
use Rattle.token_spec.specs.Lexer.{run, Event, ends}
use Rattle.token_spec.specs.Tokens.{Token, start_tag, empty_tag, end_tag, characters, spell_token, spell, Tokens, open_after}

abbrev pub names : List Open → List (List ℕ)
names [] = []
names (o ∷ os) = o.name ∷ names os

names-length : (os : List Open) → length (names os) ≡ length os
names-length [] = refl
names-length (o ∷ os) = ap suc (names-length os)

pub build-append : (s : Schema) (es fs : List Event) (b : Building) → build s (es ++ fs) b ≡ build s fs (build s es b)
unfolding build
build-append s [] fs b = refl
build-append s (e ∷ es) fs b = build-append s es fs (on_event s e b)

pub events-append : (k : ℕ) (us vs : List Token) → events_of k (us ++ vs) ≡ events_of k us ++ events_of (k + length (spell us)) vs
unfolding events_of
events-append k [] vs = ap (λ (j : ℕ). events_of j vs) (sym (add-zero k))
events-append k (t ∷ us) vs =
    let e : k + length (spell_token t) + length (spell us) ≡ k + length (spell_token t ++ spell us) = (let l : length (spell_token t ++ spell us) ≡ length (spell_token t) + length (spell us) = length-append (spell_token t) (spell us) in omega arith) in
    ap (λ (l : List Event). token_events k t ++ l) (events-append (k + length (spell_token t)) us vs ∙ ap (λ (j : ℕ). events_of (k + length (spell_token t)) us ++ events_of j vs) e)
    ∙ sym (append_assoc (token_events k t) (events_of (k + length (spell_token t)) us) (events_of (k + length (spell_token t ++ spell us)) vs))

-- what is built from tokens that start at a place
abbrev pub tokens_built : Schema → ℕ → List Token → Building → Building
tokens_built s k ts b = build s (events_of k ts) b

abbrev pub token_built : Schema → ℕ → Token → Building → Building
token_built s k t b = build s (token_events k t) b

pub tokens-cons : (s : Schema) (k : ℕ) (t : Token) (ts : List Token) (b : Building) → tokens_built s k (t ∷ ts) b ≡ tokens_built s (k + length (spell_token t)) ts (token_built s k t b)
unfolding events_of
tokens-cons s k t ts b = build-append s (token_events k t) (events_of (k + length (spell_token t)) ts) b

pub tokens_append : (s : Schema) (k : ℕ) (us vs : List Token) (b : Building) → tokens_built s k (us ++ vs) b ≡ tokens_built s (k + length (spell us)) vs (tokens_built s k us b)
tokens_append s k us vs b = ap (λ (l : List Event). build s l b) (events-append k us vs) ∙ build-append s (events_of k us) (events_of (k + length (spell us)) vs) b

-- ---- what is broken stays so

pub broken-stays : (s : Schema) (es : List Event) (b : Building) (f : Refusal) → b.broken ≡ some f → build s es b ≡ b
unfolding build on_event
broken-stays s [] b f e = refl
broken-stays s (x ∷ es) b f e = ap (build s es) (rw e) ∙ broken-stays s es b f e

pub unbroken-before : (s : Schema) (es : List Event) (b : Building) → (build s es b).broken ≡ none → b.broken ≡ none
unbroken-before s es b e = by b.broken refl
  where
    by : (o : Option Refusal) → b.broken ≡ o → b.broken ≡ none
    by none h = h
    by (some f) h =
        let z : b.broken ≡ none = ap (λ (c : Building). c.broken) (sym (broken-stays s es b f h)) ∙ e in
        z

-- ---- the first byte of character data that is not a blank

pub data Solid (k : ℕ) (w : List ℕ) : Type 0 where
  only-blanks : solid_from k w ≡ none → T (all_blank w) → Solid k w
  solid-at : (j : ℕ) → solid_from k w ≡ some (k + j) → OffendsAt (characters w) j → (T (all_blank w) → ⊥) → Solid k w

pub solid-of : (k : ℕ) (w : List ℕ) → Solid k w
solid-of k [] = only-blanks refl tt
solid-of k (b ∷ w) = by (is_blank b) refl (solid-of (suc k) w)
  where
    not-all : is_blank b ≡ false → T (all_blank (b ∷ w)) → ⊥
    not-all e t = failed e (and_cases (is_blank b) (all_blank w) t).0

    later : (j : ℕ) → is_blank b ≡ true → OffendsAt (characters w) j → OffendsAt (characters (b ∷ w)) (suc j)
    later j e (solid-byte s h n) =
        solid-byte (record { before = b ∷ s.before; here = s.here; after = s.after; joined = ap (λ (l : List ℕ). b ∷ l) s.joined; placed = ap suc s.placed })
        (and_intro (is_blank b) (all_blank s.before) (passed e) h) n

    by : (t : Bool) → is_blank b ≡ t → Solid (suc k) w → Solid k (b ∷ w)
    by true e (only-blanks f h) = only-blanks (rw e f) (and_intro (is_blank b) (all_blank w) (passed e) h)
    by true e (solid-at j f o n) =
        let q : suc k + j ≡ k + suc j = omega arith in
        solid-at (suc j) (rw e (f ∙ ap (λ (i : ℕ). some i) q)) (later j e o) (λ t. n (and_cases (is_blank b) (all_blank w) t).1)
    by false e r =
        solid-at 0 (rw e (ap (λ (i : ℕ). some i) (sym (add-zero k))))
        (solid-byte (record { before = []; here = b; after = w; joined = refl; placed = refl }) tt (λ t. failed e t)) (not-all e)

solid-after : (k : ℕ) (u : List ℕ) (b : ℕ) (v : List ℕ) → T (all_blank u) → (T (is_blank b) → ⊥) → solid_from k (u ++ (b ∷ v)) ≡ some (k + length u)
solid-after k [] b v h n = rw (false_of (is_blank b) n) (ap (λ (i : ℕ). some i) (sym (add-zero k)))
solid-after k (x ∷ u) b v h n =
    let c = and_cases (is_blank x) (all_blank u) h in
    let q : suc k + length u ≡ k + suc (length u) = omega arith in
    rw (true_of (is_blank x) c.0) (solid-after (suc k) u b v c.1 n ∙ ap (λ (i : ℕ). some i) q)

offends-once : {t : Token} {i j : ℕ} → OffendsAt t i → OffendsAt t j → i ≡ j
offends-once start-tag start-tag = refl
offends-once empty-tag empty-tag = refl
offends-once end-tag end-tag = refl
offends-once {i = i} {j = j} (solid-byte {w = w} s h n) (solid-byte u g m) =
    let a : solid_from 0 w ≡ some (0 + i) = ap (solid_from 0) s.joined ∙ solid-after 0 s.before s.here s.after h n ∙ ap (λ (x : ℕ). some (0 + x)) s.placed in
    let b : solid_from 0 w ≡ some (0 + j) = ap (solid_from 0) u.joined ∙ solid-after 0 u.before u.here u.after g m ∙ ap (λ (x : ℕ). some (0 + x)) u.placed in
    let c : 0 + i ≡ 0 + j = cc in
    omega arith

-- ---- one token

-- what a token does to an unbroken building with these open elements
pub data Acts (k : ℕ) (os : List Open) (rt : Bool) (t : Token) (b : Building) : Type 0 where
  goes_on_lem : b.broken ≡ none → Moves (names os) rt t (names b.opens) b.rooted → ((n : List ℕ) → Begins t n → length os < max_depth) → Acts k os rt t b
  misnests : (j : ℕ) → OffendsAt t j → b.broken ≡ some (at bad_nesting (k + j)) → ((ms : List (List ℕ)) (q : Bool) → Moves (names os) rt t ms q → ⊥) → Acts k os rt t b
  gets-too-deep : (n : List ℕ) → Begins t n → max_depth ≤ length os → b.broken ≡ some (at over_depth k) → Acts k os rt t b

here-broken : (k : ℕ) → ◌≡◌ {A = Option Refusal} (some (at bad_nesting k)) (some (at bad_nesting (k + 0)))
here-broken k = ap (λ (i : ℕ). some (at bad_nesting i)) (sym (add-zero k))

no-depth : {t : Token} (d : ℕ) → ((n : List ℕ) → Begins t n → ⊥) → (n : List ℕ) → Begins t n → d < max_depth
no-depth d h n b = absurd (h n b)

module _ (s : Schema) (k : ℕ) (fs : List Refusal) (rs : List Row) (m : ℕ) where
  start-acts : (n a : List ℕ) (os : List Open) (rt : Bool) → Acts k os rt (start_tag n a) (on_start s n k (building os rt fs rs m))
  start-acts n a [] true = misnests 0 start-tag (here-broken k) (λ ms q x. elim x [ ])
  start-acts n a [] false = goes_on_lem refl root-starts (λ x b. omega arith)
  start-acts n a (o ∷ os) rt = by (leb max_depth (length (o ∷ os))) refl
    where
      by : (d : Bool) → leb max_depth (length (o ∷ os)) ≡ d
          → Acts k (o ∷ os) rt (start_tag n a) (cond d (breaks (at over_depth k) (building (o ∷ os) rt fs rs m)) (begin s n k (building (o ∷ os) rt fs rs m)))
      by true e = gets-too-deep n by-start-tag (leb→le max_depth (length (o ∷ os)) (passed e)) refl
      by false e = goes_on_lem refl starts-in (λ x b. nleb→lt max_depth (length (o ∷ os)) (rw e tt))

  end-acts : (n a : List ℕ) (os : List Open) (rt : Bool) → Acts k os rt (end_tag n a) (end_of os n k (building os rt fs rs m))
  end-acts n a [] rt = misnests 0 end-tag (here-broken k) (λ ms q x. no-end x)
    where
      no-end : {i q : Bool} {ms : List (List ℕ)} → Moves [] i (end_tag n a) ms q → ⊥
      no-end x = elim x [ ]
  end-acts n a (o ∷ os) rt = by (same_bytes n o.name) refl
    where
      same-name : {ms : List (List ℕ)} {q : Bool} {x : List ℕ} {ns : List (List ℕ)} → Moves (x ∷ ns) rt (end_tag n a) ms q → n ≡ x
      same-name ends-in = refl

      by : (d : Bool) → same_bytes n o.name ≡ d
          → Acts k (o ∷ os) rt (end_tag n a)
          (cond d (building os rt (Rattle.text_spec.specs.Refusals.given (not (fits_at_end o.filling)) (at Rattle.text_spec.specs.Refusals.bad_content o.place) ++ fs) rs m)
          (breaks (at bad_nesting k) (building (o ∷ os) rt fs rs m)))
      by true e =
          goes_on_lem refl (subst (λ (x : List ℕ). Moves (o.name ∷ names os) rt (end_tag x a) (names os) rt) (sym (bytes-equal n o.name (passed e))) ends-in)
          (no-depth (length (o ∷ os)) (λ x b. elim b [ ]))
      by false e = misnests 0 end-tag (here-broken k) (λ ms q x. failed e (subst (λ (y : List ℕ). T (same_bytes n y)) (same-name x) (bytes_same n)))

  run-acts : (w : List ℕ) (os : List Open) (rt : Bool) → Acts k os rt (characters w) (inside os (run k (solid_from k w) (saved_in w)) (length w) (building os rt fs rs m))
  run-acts w [] rt = by (solid-of k w)
    where
      blank-move : {i : Bool} {ms : List (List ℕ)} {q : Bool} → Moves [] i (characters w) ms q → T (all_blank w)
      blank-move (blanks-out h) = h

      by : Solid k w → Acts k [] rt (characters w) (outside (solid_from k w) (building [] rt fs rs m))
      by (only-blanks e h) = rw e (goes_on_lem refl (blanks-out h) (no-depth 0 (λ x b. elim b [ ])))
      by (solid-at j e o n) = rw e (misnests j o refl (λ ms q x. n (blank-move x)))
  run-acts w (o ∷ os) rt = by o.filling
    where
      by : (f : Filling)
          → Acts k (o ∷ os) rt (characters w) (text_node f (run k (solid_from k w) (saved_in w)) (length w) o.row (building (refill (with_run (is_none (solid_from k w))) (o ∷ os)) rt fs rs m))
      by unjudged = goes_on_lem refl data-in (no-depth (length (o ∷ os)) (λ x b. elim b [ ]))
      by misfit = goes_on_lem refl data-in (no-depth (length (o ∷ os)) (λ x b. elim b [ ]))
      by unfilled = goes_on_lem refl data-in (no-depth (length (o ∷ os)) (λ x b. elim b [ ]))
      by (filled_by_text e) = goes_on_lem refl data-in (no-depth (length (o ∷ os)) (λ x b. elim b [ ]))
      by (filled_by_children q) = goes_on_lem refl data-in (no-depth (length (o ∷ os)) (λ x b. elim b [ ]))

  -- an empty tag: what its start does, and its end
  empty-acts : (n a : List ℕ) (os : List Open) (rt : Bool) → Acts k os rt (empty_tag n a) (on_event s (ends n k) (on_start s n k (building os rt fs rs m)))
  unfolding on_event
  empty-acts n a [] true = misnests 0 empty-tag (here-broken k) (λ ms q x. elim x [ ])
  empty-acts n a [] false = rw (true_of (same_bytes n n) (bytes_same n)) (goes_on_lem refl root-empty (λ x b. omega arith))
  empty-acts n a (o ∷ os) rt = by (leb max_depth (length (o ∷ os))) refl
    where
      by : (d : Bool) → leb max_depth (length (o ∷ os)) ≡ d
          → Acts k (o ∷ os) rt (empty_tag n a) (on_event s (ends n k) (cond d (breaks (at over_depth k) (building (o ∷ os) rt fs rs m)) (begin s n k (building (o ∷ os) rt fs rs m))))
      by true e = gets-too-deep n by-empty-tag (leb→le max_depth (length (o ∷ os)) (passed e)) refl
      by false e = rw (true_of (same_bytes n n) (bytes_same n)) (goes_on_lem refl empty-in (λ x b. nleb→lt max_depth (length (o ∷ os)) (rw e tt)))

  token-acts-on : (t : Token) (os : List Open) (rt : Bool) → Acts k os rt t (token_built s k t (building os rt fs rs m))
  unfolding build on_event
  token-acts-on (start_tag n a) os rt = start-acts n a os rt
  token-acts-on (empty_tag n a) os rt = empty-acts n a os rt
  token-acts-on (end_tag n a) os rt = end-acts n a os rt
  token-acts-on (characters w) os rt = run-acts w os rt

pub unbroken-form : (b : Building) → b.broken ≡ none → b ≡ building b.opens b.rooted b.faults b.rows b.count
unbroken-form b e = ap (λ (x : Option Refusal). record { opens = b.opens; rooted = b.rooted; broken = x; faults = b.faults; rows = b.rows; count = b.count }) e

pub token-acts : (s : Schema) (k : ℕ) (t : Token) (b : Building) → b.broken ≡ none → Acts k b.opens b.rooted t (token_built s k t b)
token-acts s k t b e =
    subst (λ (c : Building). Acts k b.opens b.rooted t (token_built s k t c)) (sym (unbroken-form b e)) (token-acts-on s k b.faults b.rows b.count t b.opens b.rooted)

-- ---- many tokens

-- tokens that leave a building unbroken are a walk that stays shallow
pub builds-walk : (s : Schema) (k : ℕ) (us : List Token) (b : Building) → b.broken ≡ none → (tokens_built s k us b).broken ≡ none
    → Walks (names b.opens) b.rooted us (names (tokens_built s k us b).opens) (tokens_built s k us b).rooted × ShallowFrom (length b.opens) us
unfolding events_of build
builds-walk s k [] b e f = (stays, shallow-none (length b.opens))
builds-walk s k (t ∷ us) b e f = by (token-acts s k t b e) (builds-walk s (k + length (spell_token t)) us (token_built s k t b))
  where
    c : Building
    c = token_built s k t b

    d : Building
    d = tokens_built s (k + length (spell_token t)) us c

    whole : tokens_built s k (t ∷ us) b ≡ d
    whole = tokens-cons s k t us b

    ends-unbroken : d.broken ≡ none
    ends-unbroken = ap (λ (x : Building). x.broken) (sym whole) ∙ f

    goes-unbroken : c.broken ≡ none
    goes-unbroken = unbroken-before s (events_of (k + length (spell_token t)) us) c ends-unbroken

    by : Acts k b.opens b.rooted t c
        → (c.broken ≡ none → d.broken ≡ none → Walks (names c.opens) c.rooted us (names d.opens) d.rooted × ShallowFrom (length c.opens) us)
        → Walks (names b.opens) b.rooted (t ∷ us) (names (tokens_built s k (t ∷ us) b).opens) (tokens_built s k (t ∷ us) b).rooted × ShallowFrom (length b.opens) (t ∷ us)
    by (goes_on_lem g m h) ih =
        let r = ih goes-unbroken ends-unbroken in
        let depth : length c.opens ≡ open_after (length b.opens) (t ∷ []) =
        sym (ap (λ (i : ℕ). open_after i (t ∷ [])) (sym (names-length b.opens)) ∙ move-depth m ∙ names-length c.opens) in (
          subst (λ (x : Building). Walks (names b.opens) b.rooted (t ∷ us) (names x.opens) x.rooted) (sym whole) (move m r.0),
          shallow-cons (length b.opens) t us h (subst (λ (i : ℕ). ShallowFrom i us) depth r.1),
        )
    by (misnests j o g n) ih = none-some (sym goes-unbroken ∙ g)
    by (gets-too-deep n g l h) ih = none-some (sym goes-unbroken ∙ h)

pub record Walked (b : Building) (ms : List (List ℕ)) (q : Bool) : Type 0 where
  pub unbroken : b.broken ≡ none
  pub open-names : names b.opens ≡ ms
  pub root-begun : b.rooted ≡ q

-- a walk that stays shallow leaves a building unbroken
pub walk-builds : (s : Schema) (k : ℕ) (us : List Token) (b : Building) {ns ms : List (List ℕ)} {r q : Bool} → Walked b ns r → Walks ns r us ms q → ShallowFrom (length ns) us
    → Walked (tokens_built s k us b) ms q
unfolding events_of build
walk-builds s k [] b e stays h = e
walk-builds s k (t ∷ us) b {ns} {ms} {r} {q} e (move {os = os} {p = p} m w) h =
    subst (λ (x : Building). Walked x ms q) (sym (tokens-cons s k t us b))
    (walk-builds s (k + length (spell_token t)) us (token_built s k t b) (by (token-acts s k t b e.unbroken)) w
    (subst (λ (i : ℕ). ShallowFrom i us) (move-depth m) (shallow-tail (length ns) t us h)))
  where
    the-move : Moves (names b.opens) b.rooted t os p
    the-move = subst (λ (x : List (List ℕ)). Moves x b.rooted t os p) (sym e.open-names) (subst (λ (x : Bool). Moves ns x t os p) (sym e.root-begun) m)

    size : length b.opens ≡ length ns
    size = sym (names-length b.opens) ∙ ap length e.open-names

    by : Acts k b.opens b.rooted t (token_built s k t b) → Walked (token_built s k t b) os p
    by (goes_on_lem g n l) =
        let o = moves-once n the-move in
        record { unbroken = g; open-names = o.0; root-begun = o.1 }
    by (misnests j o g n) = absurd (n os p the-move)
    by (gets-too-deep n g l i) =
        let z : length ns < max_depth = shallow-head (length ns) t us n h g in
        let y : length b.opens ≡ length ns = size in
        absurd (omega arith)

-- the first token that breaks a building
pub record FirstBreak (s : Schema) (k : ℕ) (ts : List Token) (b : Building) (f : Refusal) : Type 0 where
  pub before : List Token
  pub breaker : Token
  pub after : List Token
  pub joined : ts ≡ before ++ (breaker ∷ after)
  pub unbroken : (tokens_built s k before b).broken ≡ none
  pub breaks-there : (token_built s (k + length (spell before)) breaker (tokens_built s k before b)).broken ≡ some f

pub first-break : (s : Schema) (k : ℕ) (ts : List Token) (b : Building) (f : Refusal) → b.broken ≡ none → (tokens_built s k ts b).broken ≡ some f → FirstBreak s k ts b f
unfolding events_of build
first-break s k [] b f e h = none-some (sym e ∙ h)
first-break s k (t ∷ ts) b f e h = by (token_built s k t b).broken refl (first-break s (k + length (spell_token t)) ts (token_built s k t b) f)
  where
    c : Building
    c = token_built s k t b

    rest : (tokens_built s (k + length (spell_token t)) ts c).broken ≡ some f
    rest = ap (λ (x : Building). x.broken) (sym (tokens-cons s k t ts b)) ∙ h

    by : (o : Option Refusal) → c.broken ≡ o → (c.broken ≡ none → (tokens_built s (k + length (spell_token t)) ts c).broken ≡ some f → FirstBreak s (k + length (spell_token t)) ts c f)
        → FirstBreak s k (t ∷ ts) b f
    by none g ih =
        let r = ih g rest in
        let place : k + length (spell_token t) + length (spell r.before) ≡ k + length (spell (t ∷ r.before)) =
        (let l : length (spell (t ∷ r.before)) ≡ length (spell_token t) + length (spell r.before) = length-append (spell_token t) (spell r.before) in omega arith) in
        record {
          before = t ∷ r.before;
          breaker = r.breaker;
          after = r.after;
          joined = ap (λ (l : List Token). t ∷ l) r.joined;
          unbroken = ap (λ (x : Building). x.broken) (tokens-cons s k t r.before b) ∙ r.unbroken;
          breaks-there =
              ap (λ (x : Building). (token_built s (k + length (spell (t ∷ r.before))) r.breaker x).broken) (tokens-cons s k t r.before b)
              ∙ ap (λ (i : ℕ). (token_built s i r.breaker (tokens_built s (k + length (spell_token t)) r.before c)).broken) (sym place) ∙ r.breaks-there;
        }
    by (some g) i ih =
        let same : c.broken ≡ some f = ap (λ (x : Building). x.broken) (sym (broken-stays s (events_of (k + length (spell_token t)) ts) c g i)) ∙ rest in
        record {
          before = [];
          breaker = t;
          after = ts;
          joined = refl;
          unbroken = e;
          breaks-there = ap (λ (i : ℕ). (token_built s i t b).broken) (add-zero k) ∙ same;
        }

-- ---- refusals 12 and 13

-- what is built from a text's tokens
abbrev pub start : Building
start = building [] false [] [] 0

abbrev pub from_tokens : Schema → List Token → Building
from_tokens s ts = tokens_built s 0 ts start

module _ (s : Schema) where
  -- what a broken building says of its tokens
  record Broken (ts : List Token) (f : Refusal) : Type 0 where
    before : List Token
    breaker : Token
    after : List Token
    joined : ts ≡ before ++ (breaker ∷ after)
    beginning : NestedBeginning before
    shallow : Shallow before
    depth : length (tokens_built s 0 before start).opens ≡ open_after 0 before
    bounded : length (tokens_built s 0 before start).opens ≤ max_depth
    acts : Acts (length (spell before)) (tokens_built s 0 before start).opens (tokens_built s 0 before start).rooted breaker (token_built s (length (spell before)) breaker (tokens_built s 0 before start))
    breaks-there : (token_built s (length (spell before)) breaker (tokens_built s 0 before start)).broken ≡ some f

  broken-at : (ts : List Token) (f : Refusal) → Parted ts → (from_tokens s ts).broken ≡ some f → Broken ts f
  broken-at ts f p e =
      let r = first-break s 0 ts start f refl e in
      let w = builds-walk s 0 r.before start refl r.unbroken in
      let place : 0 + length (spell r.before) ≡ length (spell r.before) = zero-add (length (spell r.before)) in
      record {
        before = r.before;
        breaker = r.breaker;
        after = r.after;
        joined = r.joined;
        beginning = walk-beginning r.before (r.breaker ∷ r.after) (subst Parted r.joined p) w.0;
        shallow = w.1;
        depth = sym (walk-depth w.0 ∙ names-length (tokens_built s 0 r.before start).opens);
        bounded = subst (λ (i : ℕ). i ≤ max_depth) (names-length (tokens_built s 0 r.before start).opens) (walk-shallow w.0 w.1 (omega arith));
        acts = token-acts s (length (spell r.before)) r.breaker (tokens_built s 0 r.before start) r.unbroken;
        breaks-there = ap (λ (i : ℕ). (token_built s i r.breaker (tokens_built s 0 r.before start)).broken) (sym place) ∙ r.breaks-there;
      }

  -- a beginning that stays shallow is built unbroken
  beginning-walked : (us : List Token) (b : NestedBeginning us) → Shallow us → Walked (tokens_built s 0 us start) (beginning-walk b).names (beginning-walk b).rooted
  beginning-walked us b h = walk-builds s 0 us start (record { unbroken = refl; open-names = refl; root-begun = refl }) (beginning-walk b).first h

  no-way-on : (us : List Token) (t : Token) → Shallow us → ((ms : List (List ℕ)) (q : Bool) → Moves (names (tokens_built s 0 us start).opens) (tokens_built s 0 us start).rooted t ms q → ⊥)
      → NestedBeginning (us ++ (t ∷ [])) → ⊥
  no-way-on us t h n b =
      let a = walks-split us (t ∷ []) (beginning-walk b).first in
      by (walk-builds s 0 us start (record { unbroken = refl; open-names = refl; root-begun = refl }) a.first h) a.second
    where
      by : {ns ms : List (List ℕ)} {r q : Bool} → Walked (tokens_built s 0 us start) ns r → Walks ns r (t ∷ []) ms q → ⊥
      by {ns} w (move {os = os} {p = p} m v) =
          n os p (subst (λ (x : List (List ℕ)). Moves x (tokens_built s 0 us start).rooted t os p) (sym w.open-names) (subst (λ (x : Bool). Moves ns x t os p) (sym w.root-begun) m))

  -- Where the builder breaks, refusal 12 or 13 applies.
  pub broken-applies : {lent : List ℕ} {ts : List Token} (f : Refusal) → Tokens lent ts → (from_tokens s ts).broken ≡ some f
      → ((f.reason ≡ bad_nesting) × Misnested lent f.place) ⊎ ((f.reason ≡ over_depth) × TooDeep lent f.place)
  broken-applies {lent} {ts} f t e = by b.acts
    where
      b : Broken ts f
      b = broken-at ts f (spelt-parted t.spelt) e

      parts : Tokens lent (b.before ++ (b.breaker ∷ b.after))
      parts = subst (λ (x : List Token). Tokens lent x) b.joined t

      is : {x : Option Refusal} {g : Refusal} → x ≡ some f → x ≡ some g → g ≡ f
      is p q = cc

      by : Acts (length (spell b.before)) (tokens_built s 0 b.before start).opens (tokens_built s 0 b.before start).rooted b.breaker
          (token_built s (length (spell b.before)) b.breaker (tokens_built s 0 b.before start))
          → ((f.reason ≡ bad_nesting) × Misnested lent f.place) ⊎ ((f.reason ≡ over_depth) × TooDeep lent f.place)
      by (goes_on_lem g m h) = none-some (sym g ∙ b.breaks-there)
      by (misnests j o g n) =
          let z : at bad_nesting (length (spell b.before) + j) ≡ f = is b.breaks-there g in
          inl (
            ap (λ (x : Refusal). x.reason) (sym z),
            subst (λ (x : Refusal). Misnested lent x.place) z (offends b.before b.after parts b.beginning b.shallow (no-way-on b.before b.breaker b.shallow n) o),
          )
      by (gets-too-deep n g l h) =
          let z : at over_depth (length (spell b.before)) ≡ f = is b.breaks-there h in
          let d : open_after 0 b.before ≡ max_depth = (let d1 : length (tokens_built s 0 b.before start).opens ≡ open_after 0 b.before = b.depth in let d2 : length (tokens_built s 0 b.before start).opens ≤ max_depth = b.bounded in omega arith) in
          inr (ap (λ (x : Refusal). x.reason) (sym z), subst (λ (x : Refusal). TooDeep lent x.place) z (too-deep b.before b.after parts b.beginning d g))

  -- a building that ends unbroken, but with an element open or without a root: refusal 12 applies at the end
  pub early-applies : {lent : List ℕ} {ts : List Token} → Tokens lent ts → (from_tokens s ts).broken ≡ none → (((from_tokens s ts).opens ≡ []) → ((from_tokens s ts).rooted ≡ true) → ⊥)
      → Misnested lent (length lent)
  early-applies {lent} {ts} t e n =
      let w = builds-walk s 0 ts start refl e in
      ends-early t (walk-beginning ts [] (subst Parted (sym (append-nil ts)) (spelt-parted t.spelt)) w.0) w.1 (λ k m c h. ends w.1 h)
    where
      nothing-open : (os : List Open) → names os ≡ [] → os ≡ []
      nothing-open [] q = refl
      nothing-open (o ∷ os) q = never (cc)

      ends : {k : ℕ} {m : List ℕ} {c : Forest} → ShallowFrom 0 ts → Nested ts k m c → ⊥
      ends h x =
          let w = walk-builds s 0 ts start (record { unbroken = refl; open-names = refl; root-begun = refl }) (nested-walk x) h in
          n (nothing-open (from_tokens s ts).opens w.open-names) w.root-begun

  built-past : (us vs : List Token) (t : Token) (f : Refusal) → (token_built s (length (spell us)) t (tokens_built s 0 us start)).broken ≡ some f → (from_tokens s (us ++ (t ∷ vs))).broken ≡ some f
  built-past us vs t f e =
      let c = tokens_built s 0 us start in
      let d = token_built s (length (spell us)) t c in
      ap (λ (x : Building). x.broken)
      (tokens_append s 0 us (t ∷ vs) start ∙ ap (λ (i : ℕ). tokens_built s i (t ∷ vs) c) (zero-add (length (spell us))) ∙ tokens-cons s (length (spell us)) t vs c
      ∙ broken-stays s (events_of (length (spell us) + length (spell_token t)) vs) d f e)
      ∙ e

  -- where an element is open, each tag that begins one moves
  deep-moves : {t : Token} {n : List ℕ} (os : List Open) (r : Bool) → Begins t n → max_depth ≤ length os → ((ms : List (List ℕ)) (q : Bool) → Moves (names os) r t ms q → ⊥) → ⊥
  deep-moves [] r b l h = omega arith
  deep-moves {n = n} (o ∷ os) r by-start-tag l h = h (n ∷ names (o ∷ os)) true starts-in
  deep-moves (o ∷ os) r by-empty-tag l h = h (names (o ∷ os)) true empty-in

  -- what the builder finds where refusal 12 applies
  pub record FoundUnnested (lent : List ℕ) (j : ℕ) : Type 0 where
    pub tokens : List Token
    pub spelt : Tokens lent tokens
    pub found : ((from_tokens s tokens).broken ≡ some (at bad_nesting j))
        ⊎ (((from_tokens s tokens).broken ≡ none) × (j ≡ length lent) × (((from_tokens s tokens).opens ≡ []) → ((from_tokens s tokens).rooted ≡ true) → ⊥))

  no-continuation : {lent : List ℕ} (us vs : List Token) (t : Token) → Tokens lent (us ++ (t ∷ vs)) → (tokens_built s 0 us start).broken ≡ none → (NestedBeginning (us ++ (t ∷ [])) → ⊥)
      → (ms : List (List ℕ)) (q : Bool) → Moves (names (tokens_built s 0 us start).opens) (tokens_built s 0 us start).rooted t ms q → ⊥
  no-continuation us vs t k e n ms q m =
      n (walk-beginning (us ++ (t ∷ [])) vs (subst Parted (sym (append_assoc us (t ∷ []) vs)) (spelt-parted k.spelt)) (walks-append (builds-walk s 0 us start refl e).0 (move m stays)))

  pub misnested-found : {lent : List ℕ} {j : ℕ} → Misnested lent j → FoundUnnested lent j
  misnested-found {lent} (offends {t = t} {j = j} us vs k b h n o) =
      record { tokens = us ++ (t ∷ vs); spelt = k; found = inl (built-past us vs t (at bad_nesting (length (spell us) + j)) (by (token-acts s (length (spell us)) t c whole))) }
    where
      c : Building
      c = tokens_built s 0 us start

      whole : c.broken ≡ none
      whole = (beginning-walked us b h).unbroken

      by : Acts (length (spell us)) c.opens c.rooted t (token_built s (length (spell us)) t c) → (token_built s (length (spell us)) t c).broken ≡ some (at bad_nesting (length (spell us) + j))
      by (goes_on_lem g m d) = absurd (no-continuation us vs t k whole n (names (token_built s (length (spell us)) t c).opens) (token_built s (length (spell us)) t c).rooted m)
      by (misnests i p g d) = g ∙ ap (λ (x : ℕ). some (at bad_nesting (length (spell us) + x))) (offends-once p o)
      by (gets-too-deep x g l d) = absurd (deep-moves c.opens c.rooted g l (no-continuation us vs t k whole n))
  misnested-found {lent} (ends-early {ts = ts} k b h n) =
      record { tokens = ts; spelt = k; found = inr ((beginning-walked ts b h).unbroken, refl, closed) }
    where
      closed : (from_tokens s ts).opens ≡ [] → (from_tokens s ts).rooted ≡ true → ⊥
      closed e f =
          let w = (builds-walk s 0 ts start refl (beginning-walked ts b h).unbroken).0 in
          let v : Walks [] false ts [] true = subst (λ (x : Bool). Walks [] false ts [] x) f (subst (λ (x : List Open). Walks [] false ts (names x) (from_tokens s ts).rooted) e w) in
          let x = walk-nested (spelt-parted k.spelt) v in
          n x.0 x.1 x.2 x.3

  -- what the builder finds where refusal 13 applies: this, or a refusal that comes first
  pub record FoundDeep (lent : List ℕ) (j : ℕ) : Type 0 where
    pub tokens : List Token
    pub spelt : Tokens lent tokens
    pub place : ℕ
    pub found : ((from_tokens s tokens).broken ≡ some (at bad_nesting place)) ⊎ (((from_tokens s tokens).broken ≡ some (at over_depth place)) × (place ≤ j))

  pub too-deep-found : {lent : List ℕ} {j : ℕ} → TooDeep lent j → FoundDeep lent j
  too-deep-found {lent} (too-deep {t = t} {n = n} us vs k b e g) = by c.broken refl
    where
      c : Building
      c = tokens_built s 0 us start

      whole : Building
      whole = from_tokens s (us ++ (t ∷ vs))

      place' : ℕ
      place' = length (spell us)

      now : c.broken ≡ none → Acts place' c.opens c.rooted t (token_built s place' t c) → (token_built s place' t c).broken ≡ some (at over_depth place')
      now q a = act a
        where
          deep : length c.opens ≡ max_depth
          deep = sym (names-length c.opens) ∙ sym (walk-depth (builds-walk s 0 us start refl q).0) ∙ e

          act : Acts place' c.opens c.rooted t (token_built s place' t c) → (token_built s place' t c).broken ≡ some (at over_depth place')
          act (goes_on_lem x m d) =
              let y : length c.opens < max_depth = d n g in
              let z : length c.opens ≡ max_depth = deep in
              absurd (omega arith)
          act (misnests i p x d) =
              let z : length c.opens ≡ max_depth = deep in
              absurd (deep-moves c.opens c.rooted g (omega arith) d)
          act (gets-too-deep x y l d) = d

      earlier : (f : Refusal) → c.broken ≡ some f → FoundDeep lent place'
      earlier f q = act r.acts
        where
          r : Broken us f
          r = broken-at us f (parted-first us (t ∷ vs) (spelt-parted k.spelt)) q

          final : whole.broken ≡ some f
          final =
              ap (λ (x : Building). x.broken)
              (tokens_append s 0 us (t ∷ vs) start ∙ broken-stays s (events_of (0 + length (spell us)) (t ∷ vs)) c f q) ∙ q

          act : Acts (length (spell r.before)) (tokens_built s 0 r.before start).opens (tokens_built s 0 r.before start).rooted r.breaker
              (token_built s (length (spell r.before)) r.breaker (tokens_built s 0 r.before start))
              → FoundDeep lent place'
          act (goes_on_lem x m d) = none-some (sym x ∙ r.breaks-there)
          act (misnests i p x d) =
              let z : some f ≡ some (at bad_nesting (length (spell r.before) + i)) = sym r.breaks-there ∙ x in
              record { tokens = us ++ (t ∷ vs); spelt = k; place = length (spell r.before) + i; found = inl (final ∙ z) }
          act (gets-too-deep x y l d) =
              let z : some f ≡ some (at over_depth (length (spell r.before))) = sym r.breaks-there ∙ d in
              let m : length (spell us) ≡ length (spell r.before) + length (spell (r.breaker ∷ r.after)) = ap (λ (u : List Token). length (spell u)) r.joined ∙ spell-length r.before (r.breaker ∷ r.after) in
              record { tokens = us ++ (t ∷ vs); spelt = k; place = length (spell r.before); found = inr (final ∙ z, omega arith) }

      by : (o : Option Refusal) → c.broken ≡ o → FoundDeep lent place'
      by none q =
          record { tokens = us ++ (t ∷ vs); spelt = k; place = place'; found = inr (built-past us vs t (at over_depth place') (now q (token-acts s place' t c q)), omega arith) }
      by (some f) q = earlier f q
