-- What the builder makes of a whole tree: its faults, rows and contents as functions of the tree.
use Rattle.std.specs.Prelude.{Bool, true, false, not, ◌||◌, List, [], ◌∷◌, ◌++◌, ◌≡◌, refl, ℕ, suc, ◌+◌, ◌≤◌, ◌<◌, T, leb, ltb, length}
use Rattle.std.proofs.Common.{append_assoc, sym, ap, subst, ◌∙◌, arith, leb→le}
use Rattle.std.proofs.Math.Option.{Option, none}
use Rattle.journal_laws.specs.Derivations.{opening}
use Rattle.journal_laws.specs.Events.{build}
use Rattle.journal_laws.specs.Nesting.{tokens_built, token_built, tokens-cons, tokens_append, start, from_tokens}
use Rattle.journal_laws.specs.Walks.{ShallowFrom, shallow-tail, shallow-head, open_step}
use Rattle.journal_spec.specs.Builder.{Filling, unjudged, misfit, unfilled, filled_by_text, filled_by_children, filling_for, with_child, with_run, fits_at_end, Open, Building, building, wrong_root, text_node, on_event}
use Rattle.journal_spec.specs.Conditions.{by-start-tag, by-empty-tag}
use Rattle.journal_spec.specs.Trees.{Forest, nothing, data-node, element-node, Spells, no-tokens, data-next, empty-tag, tag-pair, OnlyBlanks, no-blanks, blanks, OneRoot, at_once, after-blanks, Nested, height}
use Rattle.schema_spec.specs.Schemas.{Schema, element_named}
use Rattle.table_spec.specs.Rows.{Row, element_row, text_row}
use Rattle.text_laws.specs.Lists.{bytes_same}
use Rattle.text_laws.specs.Tests.{true_of, false_of, and_cases}
use Rattle.text_spec.specs.Bytes.{is_blank, all_blank}
use Rattle.text_spec.specs.Limits.{max_depth, max_nodes, max_text_bytes}
use Rattle.text_spec.specs.Lists.{is_none, value_or, same_bytes}
use Rattle.text_spec.specs.Refusals.{Refusal, at, given, undeclared_element, bad_content, over_node_limit}
use Rattle.token_laws.specs.Characters.{decoded-size}
use Rattle.token_laws.specs.Passes.{events_of, solid_from}
use Rattle.token_spec.specs.Characters.{decode, saved_in}
use Rattle.token_spec.specs.Lexer.{run}
use Rattle.token_spec.specs.Tokens.{Token, start_tag, empty_tag, end_tag, characters, spell_token, spell, open_after}

-- what is held while an element is open: its content, and the faults, rows and count so far
pub record Held : Type 0 where
  pub filling : Filling
  pub faults : List Refusal
  pub rows : List Row
  pub count : ℕ

abbrev pub held : Filling → List Refusal → List Row → ℕ → Held
held g fs rs n = record { filling = g; faults = fs; rows = rs; count = n }

-- character data at a place, under the row p
abbrev pub run_held : Filling → ℕ → ℕ → List ℕ → Filling → List Refusal → List Row → ℕ → Held
run_held (filled_by_text e) p k w g fs rs n =
    held g (given (ltb max_text_bytes (length w) || leb max_nodes n) (at over_node_limit k) ++ fs) (text_row n e p k (length w) (length (decode w)) ∷ rs) (suc n)
run_held unjudged p k w g fs rs n = held g fs rs n
run_held misfit p k w g fs rs n = held g fs rs n
run_held unfilled p k w g fs rs n = held g fs rs n
run_held (filled_by_children q) p k w g fs rs n = held g fs rs n

abbrev pub after_run : ℕ → ℕ → List ℕ → Held → Held
after_run p k w h = run_held h.filling p k w (with_run (is_none (solid_from k w)) h.filling) h.faults h.rows h.count

-- an element begins under the row p, and ends
abbrev pub at_start : Schema → ℕ → ℕ → Option ℕ → Held → Held
at_start s p k e h =
    held (filling_for s e) (given (is_none e) (at undeclared_element k) ++ (given (leb max_nodes h.count) (at over_node_limit k) ++ h.faults))
    (element_row h.count (value_or 0 e) p ∷ h.rows) (suc h.count)

abbrev pub at_end : ℕ → Option ℕ → Filling → Held → Held
at_end k e g h = held (with_child e g) (given (not (fits_at_end h.filling)) (at bad_content k) ++ h.faults) h.rows h.count

-- a forest under the row p
unfoldable pub after_forest : Schema → ℕ → Forest → Held → Held
after_forest s p nothing h = h
after_forest s p (data-node k w f) h = after_forest s p f (after_run p k w h)
after_forest s p (element-node k n c f) h =
    after_forest s p f (at_end k (element_named s n) h.filling (after_forest s h.count c (at_start s p k (element_named s n) h)))

-- the building in which an element holds this
abbrev pub holding : Open → List Open → Held → Building
holding o os h = building (opening o.name o.place o.row h.filling ∷ os) true h.faults h.rows h.count

-- ---- one token

not-deep : (d : ℕ) → d < max_depth → leb max_depth d ≡ false
not-deep d l = false_of (leb max_depth d) (λ t. let z : max_depth ≤ d = leb→le max_depth d t in omega arith)

run-built : (s : Schema) (k : ℕ) (w : List ℕ) (o : Open) (os : List Open) (h : Held) → token_built s k (characters w) (holding o os h) ≡ holding o os (after_run o.row k w h)
unfolding build on_event
run-built s k w o os h = by h.filling (with_run (is_none (solid_from k w)) h.filling)
  where
    by : (f g : Filling)
        → text_node f (run k (solid_from k w) (saved_in w)) (length w) o.row (building (opening o.name o.place o.row g ∷ os) true h.faults h.rows h.count)
        ≡ holding o os (run_held f o.row k w g h.faults h.rows h.count)
    by unjudged g = refl
    by misfit g = refl
    by unfilled g = refl
    by (filled_by_text e) g = rw (decoded-size w)
    by (filled_by_children q) g = refl

start-built : (s : Schema) (k : ℕ) (n a : List ℕ) (o : Open) (os : List Open) (h : Held) → length (o ∷ os) < max_depth
    → token_built s k (start_tag n a) (holding o os h)
    ≡ holding (opening n k h.count unjudged) (opening o.name o.place o.row (with_child (element_named s n) h.filling) ∷ os) (at_start s o.row k (element_named s n) h)
unfolding build on_event
start-built s k n a o os h l = rw (not-deep (length (o ∷ os)) l)

end-built : (s : Schema) (j k : ℕ) (n b : List ℕ) (row : ℕ) (o : Open) (os : List Open) (e : Option ℕ) (g : Filling) (h : Held)
    → token_built s j (end_tag n b) (holding (opening n k row unjudged) (opening o.name o.place o.row (with_child e g) ∷ os) h) ≡ holding o os (at_end k e g h)
unfolding build on_event
end-built s j k n b row o os e g h = rw (true_of (same_bytes n n) (bytes_same n))

empty-built : (s : Schema) (k : ℕ) (n a : List ℕ) (o : Open) (os : List Open) (h : Held) → length (o ∷ os) < max_depth
    → token_built s k (empty_tag n a) (holding o os h) ≡ holding o os (at_end k (element_named s n) h.filling (at_start s o.row k (element_named s n) h))
unfolding build on_event
empty-built s k n a o os h l = rw (not-deep (length (o ∷ os)) l, true_of (same_bytes n n) (bytes_same n))

-- ---- a forest inside an element

pub forest-built : {k : ℕ} {us : List Token} {f : Forest} (s : Schema) (o : Open) (os : List Open) (h : Held) → Spells k us f → length (o ∷ os) + height f ≤ max_depth
    → tokens_built s k us (holding o os h) ≡ holding o os (after_forest s o.row f h)
unfolding events_of build after_forest
forest-built s o os h no-tokens l = refl
forest-built s o os h (data-next {k = k} {w = w} {ts = ts} x) l =
    tokens-cons s k (characters w) ts (holding o os h) ∙ ap (tokens_built s (k + length w) ts) (run-built s k w o os h) ∙ forest-built s o os (after_run o.row k w h) x l
forest-built s o os h (empty-tag {k = k} {n = n} {a = a} {ts = ts} x) l =
    let inner = at_end k (element_named s n) h.filling (at_start s o.row k (element_named s n) h) in
    tokens-cons s k (empty_tag n a) ts (holding o os h) ∙ ap (tokens_built s (k + length (spell_token (empty_tag n a))) ts) (empty-built s k n a o os h (omega arith))
    ∙ forest-built s o os inner x (omega arith)
forest-built s o os h (tag-pair {k = k} {n = n} {a = a} {us = us} {ts = ts} {c = c} b x y) l =
    let e = element_named s n in
    let j = k + length (spell_token (start_tag n a)) in
    let i = j + length (spell us) in
    let p = opening n k h.count unjudged in
    let ps = opening o.name o.place o.row (with_child e h.filling) ∷ os in
    let first = at_start s o.row k e h in
    let inner = after_forest s h.count c first in
    tokens-cons s k (start_tag n a) (us ++ (end_tag n b ∷ ts)) (holding o os h)
    ∙ ap (tokens_built s j (us ++ (end_tag n b ∷ ts))) (start-built s k n a o os h (omega arith))
    ∙ tokens_append s j us (end_tag n b ∷ ts) (holding p ps first)
    ∙ ap (tokens_built s i (end_tag n b ∷ ts)) (forest-built s p ps first x (omega arith))
    ∙ tokens-cons s i (end_tag n b) ts (holding p ps inner)
    ∙ ap (tokens_built s (i + length (spell_token (end_tag n b))) ts) (end-built s i k n b h.count o os e h.filling inner)
    ∙ forest-built s o os (at_end k e h.filling inner) y (omega arith)

-- ---- the whole tree

abbrev pub root_start : Schema → ℕ → Option ℕ → Held
root_start s k e = held (filling_for s e) (given (is_none e) (at undeclared_element k) ++ (given (wrong_root [] e) (at bad_content k) ++ [])) (element_row 0 (value_or 0 e) 0 ∷ []) 1

-- what is held at the end of the root with this place, name and content
abbrev pub tree_held : Schema → ℕ → List ℕ → Forest → Held
tree_held s k n c = at_end k none unjudged (after_forest s 0 c (root_start s k (element_named s n)))

abbrev pub closed_building : Held → Building
closed_building h = building [] true h.faults h.rows h.count

pub blank-solid : (k : ℕ) (w : List ℕ) → T (all_blank w) → solid_from k w ≡ none
blank-solid k [] t = refl
blank-solid k (b ∷ w) t =
    let c = and_cases (is_blank b) (all_blank w) t in
    rw (true_of (is_blank b) c.0) (blank-solid (suc k) w c.1)

blank-built : (s : Schema) (k : ℕ) (w : List ℕ) (rt : Bool) (fs : List Refusal) (rs : List Row) (n : ℕ) → T (all_blank w)
    → token_built s k (characters w) (building [] rt fs rs n) ≡ building [] rt fs rs n
unfolding build on_event
blank-built s k w rt fs rs n t = rw (blank-solid k w t)

root-start-built : (s : Schema) (k : ℕ) (n a : List ℕ) → token_built s k (start_tag n a) start ≡ holding (opening n k 0 unjudged) [] (root_start s k (element_named s n))
unfolding build on_event
root-start-built s k n a = refl

root-end-built : (s : Schema) (j k : ℕ) (n b : List ℕ) (h : Held) → token_built s j (end_tag n b) (holding (opening n k 0 unjudged) [] h) ≡ closed_building (at_end k none unjudged h)
unfolding build on_event
root-end-built s j k n b h = rw (true_of (same_bytes n n) (bytes_same n))

root-empty-built : (s : Schema) (k : ℕ) (n a : List ℕ) → token_built s k (empty_tag n a) start ≡ closed_building (at_end k none unjudged (root_start s k (element_named s n)))
unfolding build on_event
root-empty-built s k n a = rw (true_of (same_bytes n n) (bytes_same n))

blanks-built : {k : ℕ} {ts : List Token} {f : Forest} (s : Schema) (fs : List Refusal) (rs : List Row) (n : ℕ) → OnlyBlanks f → Spells k ts f
    → tokens_built s k ts (building [] true fs rs n) ≡ building [] true fs rs n
unfolding events_of build
blanks-built s fs rs n no-blanks no-tokens = refl
blanks-built s fs rs n (blanks {w = w} t) (data-next {k = k} no-tokens) = tokens-cons s k (characters w) [] (building [] true fs rs n) ∙ blank-built s k w true fs rs n t

root-built : {j k : ℕ} {n : List ℕ} {ts : List Token} {c f : Forest} (s : Schema) → OnlyBlanks f → suc (height c) ≤ max_depth → Spells j ts (element-node k n c f)
    → tokens_built s j ts start ≡ closed_building (tree_held s k n c)
unfolding events_of build after_forest
root-built s o l (empty-tag {k = k} {n = n} {a = a} {ts = ts} x) =
    let h = tree_held s k n nothing in
    tokens-cons s k (empty_tag n a) ts start ∙ ap (tokens_built s (k + length (spell_token (empty_tag n a))) ts) (root-empty-built s k n a) ∙ blanks-built s h.faults h.rows h.count o x
root-built s o l (tag-pair {k = k} {n = n} {a = a} {us = us} {ts = ts} {c = c} b x y) =
    let j = k + length (spell_token (start_tag n a)) in
    let i = j + length (spell us) in
    let p = opening n k 0 unjudged in
    let first = root_start s k (element_named s n) in
    let h = tree_held s k n c in
    tokens-cons s k (start_tag n a) (us ++ (end_tag n b ∷ ts)) start
    ∙ ap (tokens_built s j (us ++ (end_tag n b ∷ ts))) (root-start-built s k n a)
    ∙ tokens_append s j us (end_tag n b ∷ ts) (holding p [] first)
    ∙ ap (tokens_built s i (end_tag n b ∷ ts)) (forest-built s p [] first x (omega arith))
    ∙ tokens-cons s i (end_tag n b) ts (holding p [] (after_forest s 0 c first))
    ∙ ap (tokens_built s (i + length (spell_token (end_tag n b))) ts) (root-end-built s i k n b (after_forest s 0 c first))
    ∙ blanks-built s h.faults h.rows h.count o y

-- Tokens that nest, no deeper than 64, are built into what their tree holds.
pub nested-built : {ts : List Token} {k : ℕ} {n : List ℕ} {c : Forest} (s : Schema) → Nested ts k n c → suc (height c) ≤ max_depth → from_tokens s ts ≡ closed_building (tree_held s k n c)
nested-built s x l = by x.one_root x.spelt l
  where
    by : {ts : List Token} {k : ℕ} {n : List ℕ} {c f : Forest} → OneRoot f k n c → Spells 0 ts f → suc (height c) ≤ max_depth → tokens_built s 0 ts start ≡ closed_building (tree_held s k n c)
    by (at_once o) y l = root-built s o l y
    by (after-blanks {w = w} t o) (data-next {ts = ts} y) l =
        tokens-cons s 0 (characters w) ts start ∙ ap (tokens_built s (0 + length w) ts) (blank-built s 0 w false [] [] 0 t) ∙ root-built s o l y

-- ---- depth

open-append : (d : ℕ) (us vs : List Token) → open_after d (us ++ vs) ≡ open_after (open_after d us) vs
open-append d [] vs = refl
open-append d (t ∷ us) vs = open_step d t (us ++ vs) ∙ open-append (open_after d (t ∷ [])) us vs ∙ ap (λ (i : ℕ). open_after i vs) (sym (open_step d t us))

shallow-first : (d : ℕ) (us vs : List Token) → ShallowFrom d (us ++ vs) → ShallowFrom d us
shallow-first d us vs h xs ys t n e b = h xs (ys ++ vs) t n (ap (λ (l : List Token). l ++ vs) e ∙ append_assoc xs (t ∷ ys) vs) b

shallow-second : (d : ℕ) (us vs : List Token) → ShallowFrom d (us ++ vs) → ShallowFrom (open_after d us) vs
shallow-second d us vs h xs ys t n e b =
    subst (λ (i : ℕ). i < max_depth) (open-append d us xs) (h (us ++ xs) ys t n (ap (λ (l : List Token). us ++ l) e ∙ sym (append_assoc us xs (t ∷ ys))) b)

spells-open : {k : ℕ} {us : List Token} {f : Forest} (d : ℕ) → Spells k us f → open_after (suc d) us ≡ suc d
spells-open d no-tokens = refl
spells-open d (data-next x) = spells-open d x
spells-open d (empty-tag x) = spells-open d x
spells-open d (tag-pair {n = n} {us = us} {ts = ts} b x y) =
    open-append (suc (suc d)) us (end_tag n b ∷ ts) ∙ ap (λ (i : ℕ). open_after i (end_tag n b ∷ ts)) (spells-open (suc d) x) ∙ spells-open d y

spells-height : {k : ℕ} {us : List Token} {f : Forest} (d : ℕ) → Spells k us f → suc d ≤ max_depth → ShallowFrom (suc d) us → suc d + height f ≤ max_depth
spells-height d no-tokens l h = omega arith
spells-height d (data-next {w = w} {ts = ts} x) l h = spells-height d x l (shallow-tail (suc d) (characters w) ts h)
spells-height d (empty-tag {n = n} {a = a} {ts = ts} x) l h =
    let i = shallow-head (suc d) (empty_tag n a) ts n h by-empty-tag in
    let j = spells-height d x l (shallow-tail (suc d) (empty_tag n a) ts h) in
    omega arith
spells-height d (tag-pair {n = n} {a = a} {us = us} {ts = ts} b x y) l h =
    let rest = us ++ (end_tag n b ∷ ts) in
    let i = shallow-head (suc d) (start_tag n a) rest n h by-start-tag in
    let t = shallow-tail (suc d) (start_tag n a) rest h in
    let j = spells-height (suc d) x i (shallow-first (suc (suc d)) us (end_tag n b ∷ ts) t) in
    let u : ShallowFrom (suc (suc d)) (end_tag n b ∷ ts) = subst (λ (z : ℕ). ShallowFrom z (end_tag n b ∷ ts)) (spells-open (suc d) x) (shallow-second (suc (suc d)) us (end_tag n b ∷ ts) t) in
    let m = spells-height d y l (shallow-tail (suc (suc d)) (end_tag n b) ts u) in
    omega arith

-- a tree whose tokens stay shallow is not too high
pub nested-height : {ts : List Token} {k : ℕ} {n : List ℕ} {c : Forest} → Nested ts k n c → ShallowFrom 0 ts → suc (height c) ≤ max_depth
nested-height x h = by x.one_root x.spelt h
  where
    root : {j k : ℕ} {n : List ℕ} {ts : List Token} {c f : Forest} → Spells j ts (element-node k n c f) → ShallowFrom 0 ts → suc (height c) ≤ max_depth
    root (empty-tag y) h = omega arith
    root (tag-pair {n = n} {a = a} {us = us} {ts = ts} b y z) h =
        let t = shallow-tail 0 (start_tag n a) (us ++ (end_tag n b ∷ ts)) h in
        let i = spells-height 0 y (omega arith) (shallow-first 1 us (end_tag n b ∷ ts) t) in
        omega arith

    by : {ts : List Token} {k : ℕ} {n : List ℕ} {c f : Forest} → OneRoot f k n c → Spells 0 ts f → ShallowFrom 0 ts → suc (height c) ≤ max_depth
    by (at_once o) y h = root y h
    by (after-blanks {w = w} t o) (data-next {ts = ts} y) h = root y (shallow-tail 0 (characters w) ts h)
