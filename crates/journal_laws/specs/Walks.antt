-- Tokens as moves on a stack of open names, and the trees that such walks spell.
use Rattle.std.specs.Prelude.{Bool, true, false, List, [], ◌∷◌, ◌++◌, ◌≡◌, refl, ℕ, zero, suc, ◌+◌, ◌≤◌, ◌<◌, T, length}
use Rattle.std.proofs.Common.{append_assoc, append-nil, sym, ap, subst, ◌∙◌, arith, length-append}
use Rattle.journal_spec.specs.Conditions.{NestedBeginning, Begins, by-start-tag}
use Rattle.journal_spec.specs.Trees.{Forest, nothing, data-node, element-node, Spells, no-tokens, data-next, empty-tag, tag-pair, OnlyBlanks, no-blanks, blanks, OneRoot, at_once, after-blanks, Nested}
use Rattle.text_laws.specs.Tests.{never}
use Rattle.text_spec.specs.Bytes.{all_blank}
use Rattle.text_spec.specs.Limits.{max_depth}
use Rattle.token_spec.specs.Tokens.{Token, start_tag, empty_tag, end_tag, characters, spell_token, spell, TagNext, no-token, start-next, empty-next, end-next, AllSpelt, none as all_none, tag, data-then, open_after}

-- one token: the open names and whether the root has begun, before and after it
pub data Moves : List (List ℕ) → Bool → Token → List (List ℕ) → Bool → Type 0 where
  root-starts : {n a : List ℕ} → Moves [] false (start_tag n a) (n ∷ []) true
  starts-in : {r : Bool} {n a x : List ℕ} {ns : List (List ℕ)} → Moves (x ∷ ns) r (start_tag n a) (n ∷ x ∷ ns) true
  root-empty : {n a : List ℕ} → Moves [] false (empty_tag n a) [] true
  empty-in : {r : Bool} {n a x : List ℕ} {ns : List (List ℕ)} → Moves (x ∷ ns) r (empty_tag n a) (x ∷ ns) true
  ends-in : {r : Bool} {n a : List ℕ} {ns : List (List ℕ)} → Moves (n ∷ ns) r (end_tag n a) ns r
  blanks-out : {r : Bool} {w : List ℕ} → T (all_blank w) → Moves [] r (characters w) [] r
  data-in : {r : Bool} {w x : List ℕ} {ns : List (List ℕ)} → Moves (x ∷ ns) r (characters w) (x ∷ ns) r

pub data Walks : List (List ℕ) → Bool → List Token → List (List ℕ) → Bool → Type 0 where
  stays : {ns : List (List ℕ)} {r : Bool} → Walks ns r [] ns r
  move : {ns os ms : List (List ℕ)} {r p q : Bool} {t : Token} {ts : List Token} → Moves ns r t os p → Walks os p ts ms q → Walks ns r (t ∷ ts) ms q

pub moves-once : {ns ms os : List (List ℕ)} {r p q : Bool} {t : Token} → Moves ns r t ms p → Moves ns r t os q → (ms ≡ os) × (p ≡ q)
moves-once root-starts root-starts = (refl, refl)
moves-once starts-in starts-in = (refl, refl)
moves-once root-empty root-empty = (refl, refl)
moves-once empty-in empty-in = (refl, refl)
moves-once (ends-in {ns = ns}) m = at m refl
  where
    at : {us ks : List (List ℕ)} {x y : List ℕ} {i j : Bool} → Moves us i (end_tag x y) ks j → us ≡ x ∷ ns → (ns ≡ ks) × (i ≡ j)
    at (ends-in {ns = ks}) e =
        let z : ns ≡ ks = cc in
        (z, refl)
moves-once (blanks-out h) (blanks-out k) = (refl, refl)
moves-once data-in data-in = (refl, refl)

pub walks-append : {ns os ms : List (List ℕ)} {r p q : Bool} {us vs : List Token} → Walks ns r us os p → Walks os p vs ms q → Walks ns r (us ++ vs) ms q
walks-append stays w = w
walks-append (move m v) w = move m (walks-append v w)

pub record Split (ns : List (List ℕ)) (r : Bool) (us vs : List Token) (ms : List (List ℕ)) (q : Bool) : Type 0 where
  pub names : List (List ℕ)
  pub rooted : Bool
  pub first : Walks ns r us names rooted
  pub second : Walks names rooted vs ms q

pub walks-split : {ns ms : List (List ℕ)} {r q : Bool} (us vs : List Token) → Walks ns r (us ++ vs) ms q → Split ns r us vs ms q
walks-split {ns} {r = r} [] vs w = record { names = ns; rooted = r; first = stays; second = w }
walks-split (t ∷ us) vs (move m w) =
    let s = walks-split us vs w in
    record { names = s.names; rooted = s.rooted; first = move m s.first; second = s.second }

-- ---- depth

abbrev pub ShallowFrom : ℕ → List Token → Type 0
ShallowFrom d ts = (us vs : List Token) (t : Token) (n : List ℕ) → ts ≡ us ++ (t ∷ vs) → Begins t n → open_after d us < max_depth

pub open_step : (d : ℕ) (t : Token) (us : List Token) → open_after d (t ∷ us) ≡ open_after (open_after d (t ∷ [])) us
open_step d (start_tag n a) us = refl
open_step d (empty_tag n a) us = refl
open_step zero (end_tag n a) us = refl
open_step (suc d) (end_tag n a) us = refl
open_step d (characters w) us = refl

pub shallow-tail : (d : ℕ) (t : Token) (ts : List Token) → ShallowFrom d (t ∷ ts) → ShallowFrom (open_after d (t ∷ [])) ts
shallow-tail d t ts h us vs x n e b = subst (λ (i : ℕ). i < max_depth) (open_step d t us) (h (t ∷ us) vs x n (ap (λ (l : List Token). t ∷ l) e) b)

pub shallow-head : (d : ℕ) (t : Token) (ts : List Token) (n : List ℕ) → ShallowFrom d (t ∷ ts) → Begins t n → d < max_depth
shallow-head d t ts n h b = h [] ts t n refl b

pub shallow-none : (d : ℕ) → ShallowFrom d []
shallow-none d [] vs t n e b = never (cc)
shallow-none d (x ∷ us) vs t n e b = never (cc)

pub shallow-cons : (d : ℕ) (t : Token) (ts : List Token) → ((n : List ℕ) → Begins t n → d < max_depth) → ShallowFrom (open_after d (t ∷ [])) ts → ShallowFrom d (t ∷ ts)
shallow-cons d t ts h k [] vs x n e b =
    let z : t ≡ x = cc in
    h n (subst (λ (y : Token). Begins y n) (sym z) b)
shallow-cons d t ts h k (y ∷ us) vs x n e b =
    let z : t ≡ y = cc in
    let f : ts ≡ us ++ (x ∷ vs) = cc in
    subst (λ (i : ℕ). i < max_depth) (sym (ap (λ (v : Token). open_after d (v ∷ us)) (sym z) ∙ open_step d t us)) (k us vs x n f b)

pub move-depth : {ns ms : List (List ℕ)} {r q : Bool} {t : Token} → Moves ns r t ms q → open_after (length ns) (t ∷ []) ≡ length ms
move-depth root-starts = refl
move-depth starts-in = refl
move-depth root-empty = refl
move-depth empty-in = refl
move-depth ends-in = refl
move-depth (blanks-out h) = refl
move-depth data-in = refl

pub walk-depth : {ns ms : List (List ℕ)} {r q : Bool} {ts : List Token} → Walks ns r ts ms q → open_after (length ns) ts ≡ length ms
walk-depth stays = refl
walk-depth {ns} (move {t = t} {ts = ts} m w) = open_step (length ns) t ts ∙ ap (λ (d : ℕ). open_after d ts) (move-depth m) ∙ walk-depth w

move-shallow : {ns ms : List (List ℕ)} {r q : Bool} {t : Token} → Moves ns r t ms q → ((n : List ℕ) → Begins t n → length ns < max_depth) → length ns ≤ max_depth → length ms ≤ max_depth
move-shallow (root-starts {n = n}) h l = omega (arith, h n by-start-tag)
move-shallow (starts-in {n = n}) h l = h n by-start-tag
move-shallow root-empty h l = l
move-shallow empty-in h l = l
move-shallow ends-in h l = omega arith
move-shallow (blanks-out k) h l = l
move-shallow data-in h l = l

-- the depth stays within the limit
pub walk-shallow : {ns ms : List (List ℕ)} {r q : Bool} {ts : List Token} → Walks ns r ts ms q → ShallowFrom (length ns) ts → length ns ≤ max_depth → length ms ≤ max_depth
walk-shallow stays h l = l
walk-shallow {ns} (move {t = t} {ts = ts} m w) h l =
    walk-shallow w (subst (λ (d : ℕ). ShallowFrom d ts) (move-depth m) (shallow-tail (length ns) t ts h)) (move-shallow m (λ n b. shallow-head (length ns) t ts n h b) l)

-- ---- a tree is a walk

pub spells-walk : {k : ℕ} {ts : List Token} {f : Forest} (x : List ℕ) (ns : List (List ℕ)) → Spells k ts f → Walks (x ∷ ns) true ts (x ∷ ns) true
spells-walk x ns no-tokens = stays
spells-walk x ns (data-next h) = move data-in (spells-walk x ns h)
spells-walk x ns (empty-tag h) = move empty-in (spells-walk x ns h)
spells-walk x ns (tag-pair {n = n} b c f) = move starts-in (walks-append (spells-walk n (x ∷ ns) c) (move ends-in (spells-walk x ns f)))

blanks-walk : {k : ℕ} {ts : List Token} {f : Forest} → OnlyBlanks f → Spells k ts f → Walks [] true ts [] true
blanks-walk no-blanks no-tokens = stays
blanks-walk (blanks h) (data-next no-tokens) = move (blanks-out h) stays

root-walk : {j k : ℕ} {n : List ℕ} {ts : List Token} {c f : Forest} → OnlyBlanks f → Spells j ts (element-node k n c f) → Walks [] false ts [] true
root-walk o (empty-tag h) = move root-empty (blanks-walk o h)
root-walk o (tag-pair {n = n} b c f) = move root-starts (walks-append (spells-walk n [] c) (move ends-in (blanks-walk o f)))

pub nested-walk : {ts : List Token} {k : ℕ} {n : List ℕ} {c : Forest} → Nested ts k n c → Walks [] false ts [] true
nested-walk h = by h.one_root h.spelt
  where
    by : {j k : ℕ} {n : List ℕ} {ts : List Token} {c f : Forest} → OneRoot f k n c → Spells j ts f → Walks [] false ts [] true
    by (at_once o) s = root-walk o s
    by (after-blanks b o) (data-next s) = move (blanks-out b) (root-walk o s)

-- ---- a walk that ends with nothing open is a tree

-- no character data directly after other character data
pub data Parted : List Token → Type 0 where
  no-parts : Parted []
  tag-part : {t : Token} {ts : List Token} → TagNext (t ∷ []) → Parted ts → Parted (t ∷ ts)
  data-part : {w : List ℕ} {ts : List Token} → TagNext ts → Parted ts → Parted (characters w ∷ ts)

pub spelt-parted : {ts : List Token} → AllSpelt ts → Parted ts
spelt-parted all_none = no-parts
spelt-parted (tag n s h) = tag-part n (spelt-parted h)
spelt-parted (data-then s n h) = data-part n (spelt-parted h)

pub spell-append : (us vs : List Token) → spell (us ++ vs) ≡ spell us ++ spell vs
spell-append [] vs = refl
spell-append (t ∷ us) vs = ap (λ (l : List ℕ). spell_token t ++ l) (spell-append us vs) ∙ sym (append_assoc (spell_token t) (spell us) (spell vs))

pub spell-length : (us vs : List Token) → length (spell (us ++ vs)) ≡ length (spell us) + length (spell vs)
spell-length us vs = ap length (spell-append us vs) ∙ length-append (spell us) (spell vs)

-- the rest of the tokens closes the open names one by one, and then only blanks come
data Closes : ℕ → List (List ℕ) → List Token → Type 0 where
  closed-out : {k : ℕ} {ts : List Token} {f : Forest} → OnlyBlanks f → Spells k ts f → Closes k [] ts
  closed_in : {k j : ℕ} {x : List ℕ} {ns : List (List ℕ)} {ts us rest : List Token} {f : Forest} (b : List ℕ) → ts ≡ us ++ (end_tag x b ∷ rest) → Spells k us f
      → j ≡ k + length (spell us) + length (spell_token (end_tag x b)) → Closes j ns rest → Closes k (x ∷ ns) ts

closes-start : {k j : ℕ} {n a x : List ℕ} {ns : List (List ℕ)} {ts : List Token} → j ≡ k + length (spell_token (start_tag n a)) → Closes j (n ∷ x ∷ ns) ts → Closes k (x ∷ ns) (start_tag n a ∷ ts)
closes-start {k} {n = n} {a = a} e (closed_in {j = i} {us = us} {f = c} b p s q (closed_in {j = h} {x = x} {us = vs} {rest = rest} {f = f} d r t u z)) =
    let inner : Spells (k + length (spell_token (start_tag n a))) us c = subst (λ (y : ℕ). Spells y us c) e s in
    let place : i ≡ k + length (spell_token (start_tag n a)) + length (spell us) + length (spell_token (end_tag n b)) = q ∙ ap (λ (y : ℕ). y + length (spell us) + length (spell_token (end_tag n b))) e in
    let outer : Spells (k + length (spell_token (start_tag n a)) + length (spell us) + length (spell_token (end_tag n b))) vs f = subst (λ (y : ℕ). Spells y vs f) place t in
    let g1 : length (spell (us ++ (end_tag n b ∷ vs))) ≡ length (spell us) + length (spell (end_tag n b ∷ vs)) = spell-length us (end_tag n b ∷ vs) in
    let g2 : length (spell (end_tag n b ∷ vs)) ≡ length (spell_token (end_tag n b)) + length (spell vs) = length-append (spell_token (end_tag n b)) (spell vs) in
    let g3 : length (spell (start_tag n a ∷ (us ++ (end_tag n b ∷ vs)))) ≡ length (spell_token (start_tag n a)) + length (spell (us ++ (end_tag n b ∷ vs))) =
    length-append (spell_token (start_tag n a)) (spell (us ++ (end_tag n b ∷ vs))) in
    closed_in {us = start_tag n a ∷ (us ++ (end_tag n b ∷ vs))} {rest = rest} d
    (ap (λ (l : List Token). start_tag n a ∷ l)
    (p ∙ ap (λ (l : List Token). us ++ (end_tag n b ∷ l)) r ∙ sym (append_assoc us (end_tag n b ∷ vs) (end_tag x d ∷ rest))))
    (tag-pair b inner outer) (longer i h (length (spell us)) (length (spell vs)) (length (spell_token (start_tag n a))) (length (spell_token (end_tag n b))) (length (spell_token (end_tag x d))) place u g1 g2 g3) z
  where
    longer : (i h lu lv ls le ld : ℕ) {l1 l2 l3 : ℕ} → i ≡ k + ls + lu + le → h ≡ i + lv + ld → l1 ≡ lu + l2 → l2 ≡ le + lv → l3 ≡ ls + l1 → h ≡ k + l3 + ld
    longer i h lu lv ls le ld p1 p2 p3 p4 p5 = omega arith

closes-token : {k j : ℕ} {t : Token} {x : List ℕ} {ns : List (List ℕ)} {ts : List Token} → j ≡ k + length (spell_token t) → ((us : List Token) (f : Forest) → Spells j us f → (g : Forest) × Spells k (t ∷ us) g)
    → Closes j (x ∷ ns) ts → Closes k (x ∷ ns) (t ∷ ts)
closes-token {k} {j} {t} e h (closed_in {j = i} {x = x} {us = us} {rest = rest} {f = f} b p s q z) =
    let g : length (spell (t ∷ us)) ≡ length (spell_token t) + length (spell us) = length-append (spell_token t) (spell us) in
    closed_in {us = t ∷ us} {rest = rest} b (ap (λ (l : List Token). t ∷ l) p) (h us f s).1 (longer i (length (spell_token t)) (length (spell us)) (length (spell_token (end_tag x b))) e q g) z
  where
    longer : (i lt lu le : ℕ) {l : ℕ} → j ≡ k + lt → i ≡ j + lu + le → l ≡ lt + lu → i ≡ k + l + le
    longer i lt lu le p1 p2 p3 = omega arith

closes : {ns ms : List (List ℕ)} {q : Bool} {ts : List Token} (k : ℕ) → Parted ts → Walks ns true ts ms q → ms ≡ [] → Closes k ns ts
closes k p stays e = subst (λ (l : List (List ℕ)). Closes k l []) (sym e) (closed-out no-blanks no-tokens)
closes k (tag-part t p) (move (starts-in {n = n} {a = a}) w) e = closes-start refl (closes (k + length (spell_token (start_tag n a))) p w e)
closes k (tag-part t p) (move (empty-in {n = n} {a = a}) w) e = closes-token refl (λ us f s. (element-node k n nothing f, empty-tag s)) (closes (k + length (spell_token (empty_tag n a))) p w e)
closes k (tag-part t p) (move (ends-in {n = n} {a = a}) w) e =
    let j : k + length (spell_token (end_tag n a)) ≡ k + 0 + length (spell_token (end_tag n a)) = omega arith in
    closed_in {us = []} a refl no-tokens j (closes (k + length (spell_token (end_tag n a))) p w e)
closes k (data-part t p) (move (data-in {w = v}) w) e = closes-token refl (λ us f s. (data-node k v f, data-next s)) (closes (k + length v) p w e)
closes k (data-part t p) (move (blanks-out {w = v} b) w) e = by t (closes (k + length v) p w e)
  where
    by : {ts : List Token} → TagNext ts → Closes (k + length v) [] ts → Closes k [] (characters v ∷ ts)
    by t (closed-out no-blanks no-tokens) = closed-out (blanks b) (data-next no-tokens)
    by t (closed-out (blanks c) (data-next no-tokens)) = elim t [ ]
closes k (tag-part t p) (move (blanks-out b) w) e = elim t [ ]
closes k (tag-part t p) (move data-in w) e = elim t [ ]

record Rooted (j : ℕ) (ts : List Token) : Type 0 where
  forest : Forest
  place : ℕ
  name : List ℕ
  content : Forest
  spelt : Spells j ts forest
  root : OneRoot forest place name content

root-of : {ms : List (List ℕ)} {q : Bool} {ts : List Token} (j : ℕ) → Parted ts → Walks [] false ts ms q → ms ≡ [] → q ≡ true → Rooted j ts
root-of j p stays e f = never (cc)
root-of j (tag-part t p) (move (root-starts {n = n} {a = a}) w) e f = by (closes (j + length (spell_token (start_tag n a))) p w e)
  where
    by : {ts : List Token} → Closes (j + length (spell_token (start_tag n a))) (n ∷ []) ts → Rooted j (start_tag n a ∷ ts)
    by {ts} (closed_in {us = us} {rest = rest} {f = c} b e s q (closed-out {f = g} o z)) =
        record {
          forest = element-node j n c g;
          place = j;
          name = n;
          content = c;
          spelt =
              subst (λ (l : List Token). Spells j (start_tag n a ∷ l) (element-node j n c g)) (sym e) (tag-pair b s (subst (λ (i : ℕ). Spells i rest g) q z));
          root = at_once o;
        }
root-of j (tag-part t p) (move (root-empty {n = n} {a = a}) w) e f = by (closes (j + length (spell_token (empty_tag n a))) p w e)
  where
    by : {ts : List Token} → Closes (j + length (spell_token (empty_tag n a))) [] ts → Rooted j (empty_tag n a ∷ ts)
    by (closed-out {f = g} o z) = record { forest = element-node j n nothing g; place = j; name = n; content = nothing; spelt = empty-tag z; root = at_once o }
root-of j (data-part t p) (move (blanks-out {w = v} b) w) e f = by t (root-of (j + length v) p w e f)
  where
    put : {ts : List Token} {g : Forest} {k : ℕ} {n : List ℕ} {c : Forest} → TagNext ts → Spells (j + length v) ts g → OneRoot g k n c → Rooted j (characters v ∷ ts)
    put {g = g} {k = k} {n = n} {c = c} t s (at_once o) = record { forest = data-node j v g; place = k; name = n; content = c; spelt = data-next s; root = after-blanks b o }
    put t (data-next s) (after-blanks h o) = elim t [ ]

    by : {ts : List Token} → TagNext ts → Rooted (j + length v) ts → Rooted j (characters v ∷ ts)
    by t r = put t r.spelt r.root
root-of j (tag-part t p) (move (blanks-out b) w) e f = elim t [ ]

pub walk-nested : {ts : List Token} → Parted ts → Walks [] false ts [] true → (k : ℕ) × (n : List ℕ) × (c : Forest) × Nested ts k n c
walk-nested p w =
    let r = root-of 0 p w refl refl in
    (r.place, r.name, r.content, record { forest = r.forest; spelt = r.spelt; one_root = r.root })

-- ---- a walk is the beginning of one that ends with nothing open

data RootedIf : List (List ℕ) → Bool → Type 0 where
  unopened : {r : Bool} → RootedIf [] r
  begun : {ns : List (List ℕ)} → RootedIf ns true

move-rooted : {ns ms : List (List ℕ)} {r q : Bool} {t : Token} → Moves ns r t ms q → RootedIf ns r → RootedIf ms q
move-rooted root-starts h = begun
move-rooted starts-in h = begun
move-rooted root-empty h = begun
move-rooted empty-in h = begun
move-rooted ends-in begun = begun
move-rooted (blanks-out b) h = unopened
move-rooted data-in begun = begun

walk-rooted : {ns ms : List (List ℕ)} {r q : Bool} {ts : List Token} → Walks ns r ts ms q → RootedIf ns r → RootedIf ms q
walk-rooted stays h = h
walk-rooted (move m w) h = walk-rooted w (move-rooted m h)

closers : List (List ℕ) → List Token
closers [] = []
closers (n ∷ ns) = end_tag n [] ∷ closers ns

closers-walk : (ns : List (List ℕ)) → Walks ns true (closers ns) [] true
unfolding closers
closers-walk [] = stays
closers-walk (n ∷ ns) = move ends-in (closers-walk ns)

closers-tags : (ns : List (List ℕ)) → TagNext (closers ns) × Parted (closers ns)
unfolding closers
closers-tags [] = (no-token, no-parts)
closers-tags (n ∷ ns) = (end-next, tag-part end-next (closers-tags ns).1)

-- what closes all that a walk leaves open
record Closing (ns : List (List ℕ)) (r : Bool) : Type 0 where
  more : List Token
  tags : TagNext more
  parts : Parted more
  walk : Walks ns r more [] true

closing : {ns : List (List ℕ)} (r : Bool) → RootedIf ns r → Closing ns r
closing true (unopened) = record { more = []; tags = no-token; parts = no-parts; walk = stays }
closing false (unopened) = record { more = empty_tag [] [] ∷ []; tags = empty-next; parts = tag-part empty-next no-parts; walk = move root-empty stays }
closing {ns} true begun = record { more = closers ns; tags = (closers-tags ns).0; parts = (closers-tags ns).1; walk = closers-walk ns }

tags-join : (us vs more : List Token) → TagNext (us ++ vs) → TagNext more → TagNext (us ++ more)
tags-join [] vs more h t = t
tags-join (start_tag n a ∷ us) vs more h t = start-next
tags-join (empty_tag n a ∷ us) vs more h t = empty-next
tags-join (end_tag n a ∷ us) vs more h t = end-next
tags-join (characters w ∷ us) vs more h t = elim h [ ]

parted-join : (us vs more : List Token) → Parted (us ++ vs) → TagNext more → Parted more → Parted (us ++ more)
parted-join [] vs more p t q = q
parted-join (x ∷ us) vs more (tag-part n p) t q = tag-part n (parted-join us vs more p t q)
parted-join (x ∷ us) vs more (data-part n p) t q = data-part (tags-join us vs more n t) (parted-join us vs more p t q)

pub parted-first : (us vs : List Token) → Parted (us ++ vs) → Parted us
parted-first us vs p = subst Parted (append-nil us) (parted-join us vs [] p no-token no-parts)

pub walk-beginning : {ms : List (List ℕ)} {q : Bool} (us vs : List Token) → Parted (us ++ vs) → Walks [] false us ms q → NestedBeginning us
walk-beginning {q = q} us vs p w =
    let c = closing q (walk-rooted w unopened) in
    let n = walk-nested (parted-join us vs c.more p c.tags c.parts) (walks-append w c.walk) in
    record { more = c.more; place = n.0; name = n.1; content = n.2; nested = n.3 }

pub beginning-walk : {us : List Token} → (b : NestedBeginning us) → Split [] false us b.more [] true
beginning-walk {us} b = walks-split us b.more (nested-walk b.nested)
