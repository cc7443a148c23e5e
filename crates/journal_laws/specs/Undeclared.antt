-- Refusal 14 over tokens: it is found for exactly the tags of undeclared elements. What reasons the builder gives.
use Rattle.std.specs.Prelude.{Bool, true, false, cond, not, ◌⊎◌, ◌≡◌, refl, ℕ, ◌+◌, ◌≤◌, T, leb}
use mathlib.Core.List.Memᴰ.{append_cases}
use mathlib.Core.List.Memᴰ.{append_left}
use mathlib.Core.List.Memᴰ.{append_right}
use mathlib.Core.List.{List, [], ◌∷◌, ◌++◌, Memᴰ as In}
use Rattle.std.proofs.Math.Logic.{inl, inr}
use Rattle.std.proofs.Math.Option.{Option, none, some}
use Rattle.std.proofs.Math.Path.{sym}
use Rattle.std.proofs.Common.{ap, subst, ◌∙◌, add-zero, zero-add, arith, length-append}
use Rattle.std.proofs.Math.ListN.{length}
use Rattle.journal_laws.specs.Contents.{given-other}
use Rattle.journal_laws.specs.Events.{build}
use Rattle.journal_laws.specs.Kept.{KeptByEnds, KeptByRuns, KeptByStarts, keep-end, keep_run, keep-event}
use Rattle.journal_laws.specs.Nesting.{tokens_built, token_built, tokens-cons, tokens_append, start, from_tokens, unbroken-before, unbroken-form}
use Rattle.journal_spec.specs.Builder.{fits_at_end, Open, Building, building, breaks, wrong_root, begin, on_start, on_end, on_run, on_event}
use Rattle.journal_spec.specs.Conditions.{Begins, by-start-tag, by-empty-tag, Undeclared, undeclared}
use Rattle.schema_spec.specs.Schemas.{Schema, element_named}
use Rattle.table_laws.specs.Places.{none-some}
use Rattle.table_spec.specs.Rows.{Row}
use Rattle.text_laws.specs.Lists.{is-none}
use Rattle.text_laws.specs.Refusals.{in-given, given-in}
use Rattle.text_spec.specs.Limits.{max_depth, max_nodes}
use Rattle.text_spec.specs.Lists.{is_empty, is_none}
use Rattle.text_spec.specs.Refusals.{Reason, Refusal, number_of, at, given, bad_nesting, over_depth, undeclared_element, bad_content, over_node_limit}
use Rattle.token_laws.specs.Events.{cond_both}
use Rattle.token_laws.specs.Passes.{events_of, solid_from}
use Rattle.token_spec.specs.Characters.{saved_in}
use Rattle.token_spec.specs.Lexer.{Run, run, Event, starts, ends, runs}
use Rattle.token_spec.specs.Tokens.{Token, start_tag, empty_tag, end_tag, characters, spell_token, spell, Tokens}

-- ---- faults stay

event-keeps : {g : Refusal} (s : Schema) (e : Event) (b : Building) → In g b.faults → In g (on_event s e b).faults
event-keeps {g} s e b i = keep-event Has by-ends b i by_runs s by-starts e
  where
    Has : Building → Type 0
    Has c = In g c.faults

    by-ends : KeptByEnds Has
    by-ends = record { broken-12 = λ c k h. h; ended = λ c o os h. append_right (given (not (fits_at_end o.filling)) (at bad_content o.place)) h }

    by_runs : KeptByRuns Has b
    by_runs = record { run_on = λ os. i; text-on = λ os t k r. append_right (given t (at over_node_limit k)) i }

    by-starts : KeptByStarts Has s b
    by-starts =
        record {
          broken-13 = λ k. i;
          begun = λ n k.
              append_right (given (is_none (element_named s n)) (at undeclared_element k))
              (append_right (given (wrong_root b.opens (element_named s n)) (at bad_content k)) (append_right (given (leb max_nodes b.count) (at over_node_limit k)) i));
        }

pub build-keeps : {g : Refusal} (s : Schema) (es : List Event) (b : Building) → In g b.faults → In g (build s es b).faults
unfolding build
build-keeps s [] b i = i
build-keeps s (e ∷ es) b i = build-keeps s es (on_event s e b) (event-keeps s e b i)

-- ---- the builder's reasons are 12 to 16

-- the reasons of faults
pub data Late : Reason → Type 0 where
  late-14 : Late undeclared_element
  late-15 : Late bad_content
  late-16 : Late over_node_limit

pub late-number : {r : Reason} → Late r → 14 ≤ number_of r
late-number late-14 = omega arith
late-number late-15 = omega arith
late-number late-16 = omega arith

pub record Reasons (b : Building) : Type 0 where
  pub broken-by : (f : Refusal) → b.broken ≡ some f → (12 ≤ number_of f.reason) × (number_of f.reason ≤ 13)
  pub faulted-by : (f : Refusal) → In f b.faults → Late f.reason

given-late : (t : Bool) (r : Reason) (k : ℕ) (fs : List Refusal) → Late r → ((f : Refusal) → In f fs → Late f.reason) → (f : Refusal) → In f (given t (at r k) ++ fs) → Late f.reason
given-late t r k fs l h f i = by (append_cases (given t (at r k)) i)
  where
    by : In f (given t (at r k)) ⊎ In f fs → Late f.reason
    by (inl x) = subst (λ (g : Refusal). Late g.reason) (sym (given-in t (at r k) f x).1) l
    by (inr x) = h f x

not-broken : (f : Refusal) → ◌≡◌ {A = Option Refusal} none (some f) → (12 ≤ number_of f.reason) × (number_of f.reason ≤ 13)
not-broken f e = none-some e

broken-is : (r : Reason) (k : ℕ) → (12 ≤ number_of r) × (number_of r ≤ 13) → (f : Refusal) → some (at r k) ≡ some f → (12 ≤ number_of f.reason) × (number_of f.reason ≤ 13)
broken-is r k l f e =
    let z : at r k ≡ f = cc in
    subst (λ (g : Refusal). (12 ≤ number_of g.reason) × (number_of g.reason ≤ 13)) z l

event-reasons : (s : Schema) (e : Event) (b : Building) → Reasons b → Reasons (on_event s e b)
event-reasons s e b h = keep-event Reasons by-ends b h by_runs s by-starts e
  where
    by-ends : KeptByEnds Reasons
    by-ends =
        record {
          broken-12 = λ c k x. record { broken-by = broken-is bad_nesting k (omega arith, omega arith); faulted-by = x.faulted-by };
          ended = λ c o os x. record { broken-by = not-broken; faulted-by = given-late (not (fits_at_end o.filling)) bad_content o.place c.faults late-15 x.faulted-by };
        }

    by_runs : KeptByRuns Reasons b
    by_runs =
        record {
          run_on = λ os. record { broken-by = not-broken; faulted-by = h.faulted-by };
          text-on = λ os t k r. record { broken-by = not-broken; faulted-by = given-late t over_node_limit k b.faults late-16 h.faulted-by };
        }

    by-starts : KeptByStarts Reasons s b
    by-starts =
        record {
          broken-13 = λ k. record { broken-by = broken-is over_depth k (omega arith, omega arith); faulted-by = h.faulted-by };
          begun = λ n k.
              record {
                broken-by = not-broken;
                faulted-by =
                    given-late (is_none (element_named s n)) undeclared_element k _ late-14
                    (given-late (wrong_root b.opens (element_named s n)) bad_content k _ late-15 (given-late (leb max_nodes b.count) over_node_limit k b.faults late-16 h.faulted-by));
              };
        }

build-reasons : (s : Schema) (es : List Event) (b : Building) → Reasons b → Reasons (build s es b)
unfolding build
build-reasons s [] b h = h
build-reasons s (e ∷ es) b h = build-reasons s es (on_event s e b) (event-reasons s e b h)

pub reasons-of : (s : Schema) (es : List Event) → Reasons (build s es start)
reasons-of s es = build-reasons s es start (record { broken-by = not-broken; faulted-by = λ f i. elim i [ ] })

-- ---- where 14 is found

module _ (s : Schema) (j : ℕ) where
  abbrev Is14 : List Refusal → Type 0
  Is14 fs = In (at undeclared_element j) fs

  only-14 : (t : Bool) (r : Reason) (k : ℕ) (fs : List Refusal) → (number_of undeclared_element ≡ number_of r → ⊥) → Is14 (given t (at r k) ++ fs) → Is14 fs
  only-14 t r k fs h i = by (append_cases (given t (at r k)) i)
    where
      by : Is14 (given t (at r k)) ⊎ Is14 fs → Is14 fs
      by (inl x) = absurd (given-other t r k h x)
      by (inr x) = x

  -- new: the element that begins is undeclared
  abbrev New : List ℕ → ℕ → Type 0
  New n k = (element_named s n ≡ none) × (j ≡ k)

  begin-14 : (n : List ℕ) (k : ℕ) (b : Building) → Is14 (begin s n k b).faults → Is14 b.faults ⊎ New n k
  begin-14 n k b i = by (append_cases (given (is_none (element_named s n)) (at undeclared_element k)) i)
    where
      by : Is14 (given (is_none (element_named s n)) (at undeclared_element k))
          ⊎ Is14 (given (wrong_root b.opens (element_named s n)) (at bad_content k) ++ (given (leb max_nodes b.count) (at over_node_limit k) ++ b.faults)) → Is14 b.faults ⊎ New n k
      by (inl x) =
          let g = given-in (is_none (element_named s n)) (at undeclared_element k) (at undeclared_element j) x in
          inr (is-none (element_named s n) g.0, ap (λ (f : Refusal). f.place) g.1)
      by (inr x) =
          inl (only-14 (leb max_nodes b.count) over_node_limit k b.faults (λ e. omega arith)
          (only-14 (wrong_root b.opens (element_named s n)) bad_content k (given (leb max_nodes b.count) (at over_node_limit k) ++ b.faults) (λ e. omega arith) x))

  start-14 : (n : List ℕ) (k : ℕ) (b : Building) → Is14 (on_start s n k b).faults → Is14 b.faults ⊎ New n k
  start-14 n k b =
      cond_both P (is_empty b.opens) _ _ (cond_both P b.rooted _ _ (λ i. inl i) (begin-14 n k b)) (cond_both P (leb max_depth (length b.opens)) _ _ (λ i. inl i) (begin-14 n k b))
    where
      P : Building → Type 0
      P c = Is14 c.faults → Is14 b.faults ⊎ New n k

  -- an end tag or character data finds no 14
  Before14 : Building → Building → Type 0
  Before14 b c = Is14 c.faults → Is14 b.faults

  ends-14 : (b : Building) → KeptByEnds (Before14 b)
  unfolding Before14
  ends-14 b = record { broken-12 = λ c k h. h; ended = λ c o os h i. h (only-14 (not (fits_at_end o.filling)) bad_content o.place c.faults (λ e. omega arith) i) }

  end-14 : (n : List ℕ) (k : ℕ) (b : Building) → Is14 (on_end n k b).faults → Is14 b.faults
  unfolding Before14
  end-14 n k b = keep-end (Before14 b) (ends-14 b) b.opens n k b (λ i. i)

  run-14 : (r : Run) (l : ℕ) (b : Building) → Is14 (on_run r l b).faults → Is14 b.faults
  unfolding Before14
  run-14 r l b =
      keep_run (Before14 b) (ends-14 b) b (λ i. i) (record { run_on = λ os i. i; text-on = λ os t k x i. only-14 t over_node_limit k b.faults (λ e. omega arith) i }) b.opens r l

  on-end-14 : (n : List ℕ) (k : ℕ) (b : Building) → Is14 (on_event s (ends n k) b).faults → Is14 b.faults
  unfolding on_event
  on-end-14 n k b = cond_both (λ (d : Building). Is14 d.faults → Is14 b.faults) (is_none b.broken) _ _ (end-14 n k b) (λ i. i)

  on-start-14 : (n : List ℕ) (k : ℕ) (b : Building) → Is14 (on_event s (starts n k) b).faults → Is14 b.faults ⊎ New n k
  unfolding on_event
  on-start-14 n k b = cond_both (λ (d : Building). Is14 d.faults → Is14 b.faults ⊎ New n k) (is_none b.broken) _ _ (start-14 n k b) (λ i. inl i)

  on-run-14 : (r : Run) (l : ℕ) (b : Building) → Is14 (on_event s (runs r l) b).faults → Is14 b.faults
  unfolding on_event
  on-run-14 r l b = cond_both (λ (d : Building). Is14 d.faults → Is14 b.faults) (is_none b.broken) _ _ (run-14 r l b) (λ i. i)

  -- the tag that begins an undeclared element
  Tagged : Token → ℕ → Type 0
  Tagged t k = (n : List ℕ) × Begins t n × New n k

  token-14 : (t : Token) (k : ℕ) (b : Building) → Is14 (token_built s k t b).faults → Is14 b.faults ⊎ Tagged t k
  unfolding build Tagged
  token-14 (start_tag n a) k b i = by (on-start-14 n k b i)
    where
      by : Is14 b.faults ⊎ New n k → Is14 b.faults ⊎ Tagged (start_tag n a) k
      by (inl x) = inl x
      by (inr x) = inr (n, by-start-tag, x)
  token-14 (empty_tag n a) k b i = by (on-start-14 n k b (on-end-14 n k (on_event s (starts n k) b) i))
    where
      by : Is14 b.faults ⊎ New n k → Is14 b.faults ⊎ Tagged (empty_tag n a) k
      by (inl x) = inl x
      by (inr x) = inr (n, by-empty-tag, x)
  token-14 (end_tag n a) k b i = inl (on-end-14 n k b i)
  token-14 (characters w) k b i = inl (on-run-14 (run k (solid_from k w) (saved_in w)) (length w) b i)

  record TaggedIn (k : ℕ) (ts : List Token) : Type 0 where
    before : List Token
    tag : Token
    after : List Token
    joined : ts ≡ before ++ (tag ∷ after)
    name : List ℕ
    begins : Begins tag name
    nameless : element_named s name ≡ none
    placed : j ≡ k + length (spell before)

  tokens-14 : (k : ℕ) (ts : List Token) (b : Building) → Is14 (tokens_built s k ts b).faults → Is14 b.faults ⊎ TaggedIn k ts
  unfolding build events_of Tagged
  tokens-14 k [] b i = inl i
  tokens-14 k (t ∷ ts) b i = later (tokens-14 (k + length (spell_token t)) ts (token_built s k t b) (subst (λ (c : Building). Is14 c.faults) (tokens-cons s k t ts b) i))
    where
      first : Is14 b.faults ⊎ Tagged t k → Is14 b.faults ⊎ TaggedIn k (t ∷ ts)
      first (inl x) = inl x
      first (inr x) =
          inr (record { before = []; tag = t; after = ts; joined = refl; name = x.0; begins = x.1; nameless = x.2.0; placed = x.2.1 ∙ sym (add-zero k) })

      later : Is14 (token_built s k t b).faults ⊎ TaggedIn (k + length (spell_token t)) ts → Is14 b.faults ⊎ TaggedIn k (t ∷ ts)
      later (inl x) = first (token-14 t k b x)
      later (inr x) =
          let l : length (spell (t ∷ x.before)) ≡ length (spell_token t) + length (spell x.before) = length-append (spell_token t) (spell x.before) in
          let p : j ≡ k + length (spell_token t) + length (spell x.before) = x.placed in
          inr (record {
            before = t ∷ x.before;
            tag = x.tag;
            after = x.after;
            joined = ap (λ (l : List Token). t ∷ l) x.joined;
            name = x.name;
            begins = x.begins;
            nameless = x.nameless;
            placed = omega arith;
          })

  -- Where 14 is found, refusal 14 applies.
  pub found-14 : {lent : List ℕ} {ts : List Token} → Tokens lent ts → Is14 (from_tokens s ts).faults → Undeclared s lent j
  found-14 {lent} {ts} t i = by (tokens-14 0 ts start i)
    where
      by : Is14 [] ⊎ TaggedIn 0 ts → Undeclared s lent j
      by (inl x) = elim x [ ]
      by (inr x) =
          let p : length (spell x.before) ≡ j = sym (x.placed ∙ zero-add (length (spell x.before))) in
          subst (λ (k : ℕ). Undeclared s lent k) p (undeclared x.before x.after (subst (λ (l : List Token). Tokens lent l) x.joined t) x.begins x.nameless)

-- ---- 14 is found where it applies

begin-found : (s : Schema) (n : List ℕ) (k : ℕ) (b : Building) → element_named s n ≡ none → In (at undeclared_element k) (begin s n k b).faults
begin-found s n k b e = append_left _ (in-given (is_none (element_named s n)) (subst (λ (o : Option ℕ). T (is_none o)) (sym e) tt) refl)

start-found : (s : Schema) (n : List ℕ) (k : ℕ) (os : List Open) (rt : Bool) (fs : List Refusal) (rs : List Row) (m : ℕ) → element_named s n ≡ none
    → (on_start s n k (building os rt fs rs m)).broken ≡ none → In (at undeclared_element k) (on_start s n k (building os rt fs rs m)).faults
start-found s n k [] true fs rs m e h = none-some (sym h)
start-found s n k [] false fs rs m e h = begin-found s n k (building [] false fs rs m) e
start-found s n k (o ∷ os) rt fs rs m e h = by (leb max_depth (length (o ∷ os))) h
  where
    by : (d : Bool) → (cond d (breaks (at over_depth k) (building (o ∷ os) rt fs rs m)) (begin s n k (building (o ∷ os) rt fs rs m))).broken ≡ none
        → In (at undeclared_element k) (cond d (breaks (at over_depth k) (building (o ∷ os) rt fs rs m)) (begin s n k (building (o ∷ os) rt fs rs m))).faults
    by true g = none-some (sym g)
    by false g = begin-found s n k (building (o ∷ os) rt fs rs m) e

on-start-found : (s : Schema) (n : List ℕ) (k : ℕ) (b : Building) → element_named s n ≡ none → (on_event s (starts n k) b).broken ≡ none → In (at undeclared_element k) (on_event s (starts n k) b).faults
unfolding on_event
on-start-found s n k b e h = by b.broken refl h
  where
    explicit : b.broken ≡ none → (on_start s n k b).broken ≡ none → In (at undeclared_element k) (on_start s n k b).faults
    explicit q g =
        subst (λ (c : Building). (on_start s n k c).broken ≡ none → In (at undeclared_element k) (on_start s n k c).faults) (sym (unbroken-form b q))
        (start-found s n k b.opens b.rooted b.faults b.rows b.count e) g

    by : (o : Option Refusal) → b.broken ≡ o → (cond (is_none o) (on_start s n k b) b).broken ≡ none → In (at undeclared_element k) (cond (is_none o) (on_start s n k b) b).faults
    by none q g = explicit q g
    by (some f) q g = none-some (sym g ∙ q)

token-found : {t : Token} {n : List ℕ} (s : Schema) (k : ℕ) (b : Building) → Begins t n → element_named s n ≡ none → (token_built s k t b).broken ≡ none → In (at undeclared_element k) (token_built s k t b).faults
unfolding build
token-found {n = n} s k b by-start-tag e h = on-start-found s n k b e h
token-found {n = n} s k b by-empty-tag e h =
    event-keeps s (ends n k) (on_event s (starts n k) b) (on-start-found s n k b e (unbroken-before s (ends n k ∷ []) (on_event s (starts n k) b) h))

-- Where refusal 14 applies and nothing is broken, 14 is found.
pub undeclared-listed : {t : Token} {n : List ℕ} (s : Schema) (us vs : List Token) → Begins t n → element_named s n ≡ none → (from_tokens s (us ++ (t ∷ vs))).broken ≡ none
    → In (at undeclared_element (length (spell us))) (from_tokens s (us ++ (t ∷ vs))).faults
undeclared-listed {t} s us vs g e h =
    let c = tokens_built s 0 us start in
    let k = length (spell us) in
    let d = token_built s k t c in
    let whole : from_tokens s (us ++ (t ∷ vs)) ≡ tokens_built s (k + length (spell_token t)) vs d =
    tokens_append s 0 us (t ∷ vs) start ∙ ap (λ (i : ℕ). tokens_built s i (t ∷ vs) c) (zero-add k) ∙ tokens-cons s k t vs c in
    subst (λ (b : Building). In (at undeclared_element k) b.faults) (sym whole)
    (build-keeps s (events_of (k + length (spell_token t)) vs) d
    (token-found s k c g e (unbroken-before s (events_of (k + length (spell_token t)) vs) d (ap (λ (b : Building). b.broken) (sym whole) ∙ h))))
