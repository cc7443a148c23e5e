-- The rows of an accepted journal are its tree's nodes in document order, each text with its own bytes of the journal, which stand for its characters; so they
-- are a well-formed table beside the journal.
use Rattle.std.specs.Prelude.{Bool, true, false, cond, ◌≡◌, refl, ℕ, suc, ◌+◌, ◌≤◌, T, length, take, drop}
use mathlib.Core.List.Memᴰ.{append_cases}
use mathlib.Core.List.Memᴰ.{append_left}
use mathlib.Core.List.Memᴰ.{append_right}
use mathlib.Core.List.Memᴰ.{head as here}
use mathlib.Core.List.Memᴰ.{tail as there}
use mathlib.Core.List.{List, [], ◌∷◌, ◌++◌, append_assoc, append-nil, Memᴰ as In}
use Rattle.std.proofs.Common.{⊎_elim, sym, ap, subst, ◌∙◌, arith, length-append, length-take, length-drop, take-append-drop, take_at, drop_at}
use Rattle.std.proofs.Math.Option.{Option, some}
use Rattle.std.proofs.Math.ListN.{get_elem?}
use Rattle.journal_laws.specs.Accepted.{accepted-table}
use Rattle.journal_laws.specs.Judging.Meaning.{accepted-valid}
use Rattle.journal_laws.specs.OneTree.{one-tree}
use Rattle.journal_laws.specs.Walks.{spell-append}
use Rattle.journal_spec.specs.Conditions.{ValidJournal}
use Rattle.journal_spec.specs.Reading.{read_journal}
use Rattle.journal_spec.specs.Trees.{Forest, nothing, data-node, element-node, Spells, no-tokens, data-next, empty-tag, tag-pair, OneRoot, at_once, after-blanks, WellFormedText, index_of, count_in, nodes_under, tree_nodes, rows_under, tree_rows}
use Rattle.schema_spec.specs.Names.{Name, element, text, is_text}
use Rattle.schema_spec.specs.Schemas.{Schema, content_at, is_pcdata}
use Rattle.schema_spec.specs.Types.{types_of}
use Rattle.table_laws.specs.Characters.{copied-characters, text-characters}
use Rattle.table_laws.specs.Fits.{cells_fit, all-cells}
use Rattle.table_laws.specs.Places.{at_before, at-end}
use Rattle.table_laws.specs.WellFormed.{cells-mean, table-means, well-formed-beside}
use Rattle.table_spec.specs.Conditions.{TextCells, of-element, of-text, CopiedOrDecoded, is-decoded}
use Rattle.table_spec.specs.Nodes.{Node, top, under, attach_to, node_at, nodes_from, nodes_of}
use Rattle.table_spec.specs.Rows.{Row, element_row, text_row, text_of, characters_of}
use Rattle.table_spec.specs.Tables.{well_formed_with}
use Rattle.text_laws.specs.Lists.{all_in}
use Rattle.text_spec.specs.Lists.{part}
use Rattle.text_spec.specs.Refusals.{accepted}
use Rattle.token_laws.specs.Texts.{spelt-text, spelt-filled}
use Rattle.token_spec.specs.Characters.{decode}
use Rattle.token_spec.specs.Texts.{OneText}
use Rattle.token_spec.specs.Tokens.{Token, start_tag, empty_tag, end_tag, characters, spell_token, spell, Spelt, AllSpelt, none, tag, data-then}

-- ---- the bytes of character data stand in the text where its node says, spelt well
abbrev pub OwnBytes : List ℕ → Forest → Type 0
OwnBytes journal nothing = Unit {0}
OwnBytes journal (data-node k w f) = (part k (length w) journal ≡ w) × Spelt (characters w) × OwnBytes journal f
OwnBytes journal (element-node k n c f) = OwnBytes journal c × OwnBytes journal f

part-here : (u w r : List ℕ) (k : ℕ) → length u ≡ k → part k (length w) (u ++ (w ++ r)) ≡ w
part-here u w r k e =
    ap (take (length w)) (drop_at u (w ++ r) k e) ∙ take_at w r (length w) refl

-- each token is spelt well
abbrev EachSpelt : List Token → Type 0
EachSpelt ts = (t : Token) → In t ts → Spelt t

each-spelt : {ts : List Token} → AllSpelt ts → EachSpelt ts
each-spelt none t i = elim i [ ]
each-spelt (tag n s a) t (here e) = subst Spelt (sym e) s
each-spelt (tag n s a) t (there i) = each-spelt a t i
each-spelt (data-then s n a) t (here e) = subst Spelt (sym e) s
each-spelt (data-then s n a) t (there i) = each-spelt a t i

-- what is read from the place after u, and before v
own-bytes : {k : ℕ} {ts : List Token} {f : Forest} (u v : List ℕ) → length u ≡ k → Spells k ts f → EachSpelt ts → OwnBytes (u ++ (spell ts ++ v)) f
own-bytes u v e no-tokens each = tt
own-bytes u v e (data-next {k = k} {w = w} {ts = ts} {f = f} h) each =
    let r : u ++ ((w ++ spell ts) ++ v) ≡ u ++ (w ++ (spell ts ++ v)) = ap (λ (x : List ℕ). u ++ x) (append_assoc w (spell ts) v) in (
      ap (λ (x : List ℕ). part k (length w) x) r ∙ part-here u w (spell ts ++ v) k e,
      each (characters w) (here refl),
      subst (λ (x : List ℕ). OwnBytes x f) (append_assoc u w (spell ts ++ v) ∙ sym r)
          (own-bytes (u ++ w) v (length-append u w ∙ ap (λ (j : ℕ). j + length w) e) h (λ t i. each t (there i))),
    )
own-bytes u v e (empty-tag {n = n} {a = a} {ts = ts} {f = f} h) each =
    let t = spell_token (empty_tag n a) in (
      tt,
      subst (λ (x : List ℕ). OwnBytes x f) (append_assoc u t (spell ts ++ v) ∙ ap (λ (x : List ℕ). u ++ x) (sym (append_assoc t (spell ts) v)))
          (own-bytes (u ++ t) v (length-append u t ∙ ap (λ (j : ℕ). j + length t) e) h (λ t i. each t (there i))),
    )
own-bytes u v e (tag-pair {k = k} {n = n} {a = a} {us = us} {ts = ts} {c = c} {f = f} b h g) each =
    let t = spell_token (start_tag n a) in
    let z = spell_token (end_tag n b) in
    let inner : (u ++ t) ++ (spell us ++ (z ++ (spell ts ++ v))) ≡ u ++ ((t ++ spell (us ++ (end_tag n b ∷ ts))) ++ v) =
    append_assoc u t (spell us ++ (z ++ (spell ts ++ v)))
    ∙ ap (λ (x : List ℕ). u ++ x)
    (ap (λ (x : List ℕ). t ++ (spell us ++ x)) (sym (append_assoc z (spell ts) v))
    ∙ (ap (λ (x : List ℕ). t ++ x) (sym (append_assoc (spell us) (z ++ spell ts) v))
    ∙ (ap (λ (x : List ℕ). t ++ (x ++ v)) (sym (spell-append us (end_tag n b ∷ ts))) ∙ sym (append_assoc t (spell (us ++ (end_tag n b ∷ ts))) v)))) in
    let outer : (((u ++ t) ++ spell us) ++ z) ++ (spell ts ++ v) ≡ (u ++ t) ++ (spell us ++ (z ++ (spell ts ++ v))) =
    append_assoc ((u ++ t) ++ spell us) z (spell ts ++ v) ∙ append_assoc (u ++ t) (spell us) (z ++ (spell ts ++ v)) in
    let l : length (u ++ t) ≡ k + length t = length-append u t ∙ ap (λ (j : ℕ). j + length t) e in (
      subst (λ (x : List ℕ). OwnBytes x c) inner (own-bytes (u ++ t) (z ++ (spell ts ++ v)) l h (λ x i. each x (there (append_left (end_tag n b ∷ ts) i)))),
      subst (λ (x : List ℕ). OwnBytes x f) (outer ∙ inner)
          (own-bytes (((u ++ t) ++ spell us) ++ z) v
          (length-append ((u ++ t) ++ spell us) z ∙ ap (λ (j : ℕ). j + length z) (length-append (u ++ t) (spell us) ∙ ap (λ (j : ℕ). j + length (spell us)) l)) g
          (λ x i. each x (there (append_right us (there i))))),
    )

-- ---- the nodes of the rows are the nodes of the tree
nodes-append : (lent : List ℕ) (before : List Node) (qs rs : List Row)
    → nodes_from lent before (qs ++ rs) ≡ nodes_from lent before qs ++ nodes_from lent (before ++ nodes_from lent before qs) rs
nodes-append lent before [] rs = ap (λ (l : List Node). nodes_from lent l rs) (sym (append-nil before))
nodes-append lent before (q ∷ qs) rs =
    let y = node_at lent before q in
    let later = nodes_from lent (before ++ (y ∷ [])) qs in
    ap (λ (l : List Node). y ∷ l) (nodes-append lent (before ++ (y ∷ [])) qs rs)
    ∙ ap (λ (l : List Node). y ∷ (later ++ nodes_from lent l rs)) (append_assoc before (y ∷ []) later)

under-count : (s : Schema) (e : ℕ) (p : Node) (next : ℕ) (f : Forest) → length (nodes_under s e p next f) ≡ count_in s e f
under-count s e p next nothing = refl
under-count s e p next (data-node k w f) = by (is_pcdata (content_at s e)) (under-count s e p (suc next) f) (under-count s e p next f)
  where
    by : (b : Bool) → length (nodes_under s e p (suc next) f) ≡ count_in s e f → length (nodes_under s e p next f) ≡ count_in s e f
        → length (cond b (under next (text e) (decode w) p ∷ nodes_under s e p (suc next) f) (nodes_under s e p next f)) ≡ cond b (suc (count_in s e f)) (count_in s e f)
    by true h g = ap suc h
    by false h g = g
under-count s e p next (element-node k n c f) =
    let i = index_of s n in
    let inner = nodes_under s i (under next (element i) [] p) (suc next) c in
    let a : length inner ≡ count_in s i c = under-count s i (under next (element i) [] p) (suc next) c in
    let b = under-count s e p (suc next + count_in s i c) f in
    let d = length-append inner (nodes_under s e p (suc next + count_in s i c) f) in
    omega arith

longer : (before : List Node) (y : Node) {next : ℕ} → length before ≡ next → length (before ++ (y ∷ [])) ≡ suc next
longer before y e = let l = length-append before (y ∷ []) in omega arith

-- the characters of a text row whose bytes these are
own-characters : (journal : List ℕ) (r : Row) (w : List ℕ) → text_of journal r ≡ w → Spelt (characters w) → length w ≡ r.size → length (decode w) ≡ r.decoded
    → characters_of journal r ≡ decode w
own-characters journal r w own spelt size decoded =
    text-characters journal r (ap length own ∙ size) (subst (λ (x : List ℕ). OneText x (decode w)) (sym own) (spelt-text spelt)) decoded

module _ (journal : List ℕ) (s : Schema) where
  under-nodes : (e : ℕ) (f : Forest) (before : List Node) (parent next : ℕ) (p : Node) → get_elem? before parent ≡ some p → length before ≡ next
      → OwnBytes journal f → nodes_from journal before (rows_under s e parent next f) ≡ nodes_under s e p next f
  under-nodes e nothing before parent next p a l own = refl
  under-nodes e (data-node k w f) before parent next p a l own =
      by (is_pcdata (content_at s e)) (under-nodes e f (before ++ (y ∷ [])) parent (suc next) p (at_before before (y ∷ []) parent p a) (longer before y l) own.2)
      (under-nodes e f before parent next p a l own.2)
    where
      r : Row
      r = text_row next e parent k (length w) (length (decode w))

      y : Node
      y = under next (text e) (decode w) p

      by : (b : Bool) → nodes_from journal (before ++ (y ∷ [])) (rows_under s e parent (suc next) f) ≡ nodes_under s e p (suc next) f
          → nodes_from journal before (rows_under s e parent next f) ≡ nodes_under s e p next f
          → nodes_from journal before (cond b (r ∷ rows_under s e parent (suc next) f) (rows_under s e parent next f))
          ≡ cond b (y ∷ nodes_under s e p (suc next) f) (nodes_under s e p next f)
      by true h g =
          let q : node_at journal before r ≡ y =
          ap (λ (o : Option Node). attach_to next (text e) (characters_of journal r) o) a
          ∙ ap (λ (x : List ℕ). under next (text e) x p) (own-characters journal r w own.0 own.1 refl refl) in
          ap (λ (z : Node). z ∷ nodes_from journal (before ++ (z ∷ [])) (rows_under s e parent (suc next) f)) q
          ∙ ap (λ (z : List Node). y ∷ z) h
      by false h g = g
  under-nodes e (element-node k n c f) before parent next p a l own =
      let inner : nodes_from journal grown insides ≡ inners = under-nodes i c grown next (suc next) y here (longer before y l) own.0 in
      ap (λ (z : Node). z ∷ nodes_from journal (before ++ (z ∷ [])) (insides ++ after)) q
      ∙ ap (λ (z : List Node). y ∷ z)
      (nodes-append journal grown insides after
      ∙ (ap (λ (z : List Node). z ++ nodes_from journal (grown ++ z) after) inner
      ∙ ap (λ (z : List Node). inners ++ z)
      (under-nodes e f (grown ++ inners) parent (suc next + count_in s i c) p (at_before grown inners parent p (at_before before (y ∷ []) parent p a)) long own.1)))
    where
      i : ℕ
      i = index_of s n

      y : Node
      y = under next (element i) [] p

      grown : List Node
      grown = before ++ (y ∷ [])

      insides : List Row
      insides = rows_under s i next (suc next) c

      after : List Row
      after = rows_under s e parent (suc next + count_in s i c) f

      inners : List Node
      inners = nodes_under s i y (suc next) c

      q : node_at journal before (element_row next i parent) ≡ y
      q =
          ap (λ (o : Option Node). attach_to next (element i) (characters_of journal (element_row next i parent)) o) a
          ∙ ap (λ (x : List ℕ). under next (element i) x p) (copied-characters journal (element_row next i parent) refl)

      here : get_elem? grown next ≡ some y
      here = subst (λ (j : ℕ). get_elem? grown j ≡ some y) l (at-end before y [])

      long : length (grown ++ inners) ≡ suc next + count_in s i c
      long =
          let b = length-append grown inners in
          let d = longer before y l in
          let g : length inners ≡ count_in s i c = under-count s i y (suc next) c in
          omega arith

-- the content of the root
root-own : (journal : List ℕ) {f : Forest} {k : ℕ} {n : List ℕ} {c : Forest} → OneRoot f k n c → OwnBytes journal f → OwnBytes journal c
root-own journal (at_once b) own = own.0
root-own journal (after-blanks w b) own = own.2.0

content-own : {journal : List ℕ} {k : ℕ} {n : List ℕ} {c : Forest} → WellFormedText journal k n c → OwnBytes journal c
content-own {journal = journal} w =
    root-own journal w.nested.one_root
    (subst (λ (x : List ℕ). OwnBytes x w.nested.forest) (append-nil (spell w.tokens) ∙ sym w.spelt.joined)
    (own-bytes [] [] refl w.nested.spelt (each-spelt w.spelt.spelt)))

-- the rows of a journal's tree, with the journal's bytes beside them, are the nodes of the tree
pub tree-nodes : {journal : List ℕ} {k : ℕ} {n : List ℕ} {c : Forest} (s : Schema) → WellFormedText journal k n c → nodes_of journal (tree_rows s n c) ≡ tree_nodes s n c
unfolding nodes_of tree_rows tree_nodes
tree-nodes {journal = journal} {n = n} {c = c} s w =
    let i = index_of s n in
    let y = top 0 (element i) in
    ap (λ (l : List Node). y ∷ l) (under-nodes journal s i c (y ∷ []) 0 1 y refl refl (content-own w))

-- Demand 2: the rows of a valid journal are its nodes in document order, with their own text, by whatever tree the journal is valid,
pub valid-nodes : {limit : ℕ} {s : Schema} {journal : List ℕ} {rows : List Row} (v : ValidJournal limit s journal rows) → nodes_of journal rows ≡ tree_nodes s v.name v.content
valid-nodes {s = s} {journal = journal} v = ap (nodes_of journal) v.gives-rows ∙ tree-nodes s v.tree

-- and those of an accepted one are the nodes of whatever tree its text spells.
pub accepted-nodes : (limit : ℕ) (s : Schema) (journal : List ℕ) (rows : List Row) {k : ℕ} {n : List ℕ} {c : Forest} → read_journal limit s journal ≡ accepted rows → WellFormedText journal k n c
    → nodes_of journal rows ≡ tree_nodes s n c
accepted-nodes limit s journal rows {n = n} e w =
    let v = accepted-valid limit s journal rows e in
    let t = one-tree v.tree w in
    valid-nodes v ∙ (ap (λ (m : List ℕ). tree_nodes s m v.content) t.1 ∙ ap (tree_nodes s n) t.2)

-- ---- the rows of an accepted journal beside its text

-- a text row whose bytes these are
record OwnText (journal : List ℕ) (r : Row) : Type 0 where
  bytes : List ℕ
  own : text_of journal r ≡ bytes
  spelt : Spelt (characters bytes)
  size : length bytes ≡ r.size
  decoded : length (decode bytes) ≡ r.decoded

under-texts : (journal : List ℕ) (s : Schema) (e : ℕ) (f : Forest) (parent next : ℕ) → OwnBytes journal f → (r : Row) → In r (rows_under s e parent next f) → T (is_text r.name) → OwnText journal r
under-texts journal s e nothing parent next own r i t = elim i [ ]
under-texts journal s e (data-node k w f) parent next own r i t =
    by (is_pcdata (content_at s e)) i (λ j. under-texts journal s e f parent (suc next) own.2 r j t) (λ j. under-texts journal s e f parent next own.2 r j t)
  where
    this : Row
    this = text_row next e parent k (length w) (length (decode w))

    by : (b : Bool) → In r (cond b (this ∷ rows_under s e parent (suc next) f) (rows_under s e parent next f)) → (In r (rows_under s e parent (suc next) f) → OwnText journal r)
        → (In r (rows_under s e parent next f) → OwnText journal r) → OwnText journal r
    by true (here q) g h = subst (OwnText journal) (sym q) (record { bytes = w; own = own.0; spelt = own.1; size = refl; decoded = refl })
    by true (there j) g h = g j
    by false j g h = h j
under-texts journal s e (element-node k n c f) parent next own r (here q) t = absurd (subst (λ (x : Row). T (is_text x.name)) q t)
under-texts journal s e (element-node k n c f) parent next own r (there j) t =
    let i = index_of s n in
    ⊎_elim (λ x. under-texts journal s i c next (suc next) own.0 r x t) (λ x. under-texts journal s e f parent (suc next + count_in s i c) own.1 r x t)
    (append_cases (rows_under s i next (suc next) c) j)

tree-texts : {journal : List ℕ} {k : ℕ} {n : List ℕ} {c : Forest} (s : Schema) → WellFormedText journal k n c → (r : Row) → In r (tree_rows s n c) → T (is_text r.name) → OwnText journal r
unfolding tree_rows
tree-texts s w r (here q) t = absurd (subst (λ (x : Row). T (is_text x.name)) q t)
tree-texts {journal} {n = n} {c = c} s w r (there j) t = under-texts journal s (index_of s n) c 0 1 (content-own w) r j t

-- a byte of a part is a byte of the whole
part_in : (k n : ℕ) (w : List ℕ) {b : ℕ} → In b (part k n w) → In b w
part_in k n w {b} i =
    subst (In b) (take-append-drop k w) (append_right (take k w) (subst (In b) (take-append-drop n (drop k w)) (append_left (drop n (drop k w)) i)))

-- a text that is spelt well is not empty, so it begins in the journal
own-inside : (journal : List ℕ) (r : Row) → OwnText journal r → r.start + r.size ≤ length journal
own-inside journal r x =
    let filled : 1 ≤ length x.bytes = spelt-filled x.spelt in
    let size : length (text_of journal r) ≡ r.size = ap length x.own ∙ x.size in
    omega (arith, x.size, simp (length-take, length-drop) at size)

-- The rows of an accepted journal are a well-formed table beside its text.
pub accepted-well-formed : (limit : ℕ) (s : Schema) (lent : List ℕ) (rows : List Row) → read_journal limit s lent ≡ accepted rows → T (well_formed_with (types_of s) lent rows)
accepted-well-formed limit s lent rows e =
    (well-formed-beside (types_of s) lent rows).1
    (record {
      table = table-means (types_of s) rows (accepted-table limit s lent rows e);
      inside = λ r i t. own-inside lent r (own r i t);
      passes = λ r i t b j. v.passes b (part_in r.start r.size lent j);
      spelt = λ r i t. stands r (own r i t);
    })
  where
    v : ValidJournal limit s lent rows
    v = accepted-valid limit s lent rows e

    own : (r : Row) → In r rows → T (is_text r.name) → OwnText lent r
    own r i t = tree-texts s v.tree r (subst (In r) v.gives-rows i) t

    stands : (r : Row) → OwnText lent r → CopiedOrDecoded lent r
    stands r x = is-decoded (subst (λ (w : List ℕ). OneText w (decode x.bytes)) (sym x.own) (spelt-text x.spelt)) x.decoded

-- and each row has the characters that its bytes stand for.
pub accepted-decoded : (limit : ℕ) (s : Schema) (lent : List ℕ) (rows : List Row) → read_journal limit s lent ≡ accepted rows → (r : Row) → In r rows
    → characters_of lent r ≡ decode (text_of lent r)
unfolding decode
accepted-decoded limit s lent rows e r i = by (cells-mean r.name r refl (all_in cells_fit (all-cells (types_of s) rows (accepted-table limit s lent rows e)) i))
  where
    by : TextCells r → characters_of lent r ≡ decode (text_of lent r)
    by (of-element q a b c) =
        let none : text_of lent r ≡ [] = ap (λ (n : ℕ). part r.start n lent) b in
        copied-characters lent r (c ∙ sym b) ∙ none ∙ sym (ap decode none)
    by (of-text q a b c d) =
        let v = accepted-valid limit s lent rows e in
        let x = tree-texts s v.tree r (subst (In r) v.gives-rows i) (subst (λ (n : Name). T (is_text n)) (sym q) tt) in
        own-characters lent r x.bytes x.own x.spelt x.size x.decoded ∙ ap decode (sym x.own)
