-- A journal text is accepted exactly when it spells a tree that is valid under the schema and within the limits, and then its rows are
-- that tree's nodes.
use Rattle.std.specs.Prelude.{Bool, ◌||◌, ◌⊎◌, refl, ℕ, ◌+◌, ◌≤◌, ◌<◌, T, eqb, ltb, length}
use Rattle.std.proofs.Math.Bool.{true, false, not}
use mathlib.Core.List.Memᴰ.{append_right}
use mathlib.Core.List.Memᴰ.{head as here}
use mathlib.Core.List.{List, [], ◌∷◌, reverse, Memᴰ as In}
use Rattle.std.proofs.Math.Logic.{inl, inr}
use Rattle.std.proofs.Common.{⊎_elim, sym, subst, ◌∙◌, arith, eqb→eq, ltb→lt, nltb→le, length-append}
use Rattle.std.proofs.Math.Option.{Option, none, some}
use Rattle.std.proofs.Math.Path.{◌≡◌, ap}
use Rattle.journal_laws.specs.Contents.{Misplaced, wrong-root, wrong-content, tree-14, tree-15, tree-wrong-root}
use Rattle.journal_laws.specs.Events.{build, none-foreign}
use Rattle.journal_laws.specs.Forests.{tree_held, closed_building, nested-built}
use Rattle.journal_laws.specs.Judging.{built, found, read_as, source, Source, in-length, in-foreign, in-misspelt, in-broken, in-early, in-faults, as-tokens, nothing-found, accepted-tree, accepted-fits, accepted-rows, foreign-origin, ForeignAt, journal-judged}
use Rattle.journal_laws.specs.Nesting.{start}
use Rattle.journal_laws.specs.NodeLimits.{Over, over-split, split-over, AllFitTree, tree-rows, tree_over, over-tree}
use Rattle.journal_laws.specs.OneTree.{one-tree}
use Rattle.journal_laws.specs.Undeclared.{Late, late-14, late-15, late-16, reasons-of}
use Rattle.journal_spec.specs.Builder.{Building, wrong_root}
use Rattle.journal_spec.specs.Conditions.{JournalApplies, JournalGives, gives, ValidJournal}
use Rattle.journal_spec.specs.Reading.{initial, run, ends_early, read_journal}
use Rattle.journal_spec.specs.Trees.{Forest, tree_rows, tree_starts, NodeStart}
use Rattle.journal_spec.specs.Validity.{the-root, ContentFits, Valid}
use Rattle.schema_spec.specs.Schemas.{Schema, element_named, content_at}
use Rattle.table_spec.specs.Rows.{Row}
use Rattle.text_laws.specs.Lists.{all_in, memberless, append-empty, empty_of}
use Rattle.text_laws.specs.Order.{judged-once}
use Rattle.text_laws.specs.Refusals.{judged-accepted, judged-free, given-in}
use Rattle.text_laws.specs.Tests.{or_cases, not-intro, not-elim, decided, never}
use Rattle.text_laws.specs.Texts.{length-within, split_at, in_split}
use Rattle.text_spec.specs.Bytes.{is_foreign}
use Rattle.text_spec.specs.Limits.{max_nodes, max_text_bytes}
use Rattle.text_spec.specs.Lists.{is_empty, is_none}
use Rattle.text_spec.specs.Refusals.{Reason, Refusal, at, all_at, misspelt, bad_content, undeclared_element, over_node_limit, bad_length, Outcome, accepted, Judged}
use Rattle.text_spec.specs.Texts.{SplitAt, length_refusals}
use Rattle.token_laws.specs.Events.{events_from}
use Rattle.token_laws.specs.Passes.{tokens-lexed}
use Rattle.token_spec.specs.Lexer.{between}

-- a declared root that is not the wrong one is the schema's
right-root : (o : Option ℕ) (e : ℕ) → o ≡ some e → (T (wrong_root [] o) → ⊥) → o ≡ some 0
right-root none e q n =
    never (cc)
right-root (some x) e q n = pick (decided (eqb x 0))
  where
    pick : T (eqb x 0) ⊎ (T (eqb x 0) → ⊥) → some x ≡ some 0
    pick (inl t) = ap {B = Option ℕ} some (eqb→eq x 0 t)
    pick (inr m) = absurd (n (not-intro (eqb x 0) m))

module _ (limit : ℕ) (s : Schema) (lent : List ℕ) where
  -- ---- accepted, so valid
  module _ (free : found limit s lent ≡ []) where
    place : ℕ
    place = (accepted-tree limit s lent free).place

    name : List ℕ
    name = (accepted-tree limit s lent free).name

    content : Forest
    content = (accepted-tree limit s lent free).content

    fits : AllFitTree s place name content
    unfolding place name content
    fits = accepted-fits limit s lent free

    no-fault : (f : Refusal) → In f (tree_held s place name content).faults → ⊥
    unfolding place name content
    no-fault f i = nothing-found limit s lent free f (in-faults (subst (λ (b : Building). In f b.faults) (sym (accepted-tree limit s lent free).as-tree) i))

    valid : Valid s place name content
    valid =
        record {
          root_element = right-root (element_named s name) (fits place name content the-root).0 (fits place name content the-root).1 (λ t. no-fault (at bad_content place) (tree-wrong-root s place name content t));
          each = fits;
        }

    starts : List NodeStart
    starts = tree_starts s place name content

    not-over : {i : ℕ} (p : SplitAt starts i) → (max_nodes ≤ i) ⊎ (max_text_bytes < p.here.bytes) → ⊥
    unfolding starts
    not-over {i} p h =
        no-fault (at over_node_limit p.here.place)
        (tree_over s place name content fits p.here.place
        (subst (λ (l : List NodeStart). Over 0 l p.here.place) (sym p.joined) (split-over 0 p.before p.here p.after (⊎_elim (λ l. inl (omega (arith, p.placed, l))) (λ l. inr l) h))))

    few-nodes : length starts ≤ max_nodes
    few-nodes = nltb→le max_nodes (length starts) (not-intro (ltb max_nodes (length starts)) (λ t. not-over (split_at starts max_nodes (ltb→lt max_nodes (length starts) t)) (inl (omega arith))))

    short-texts : (x : NodeStart) → In x starts → x.bytes ≤ max_text_bytes
    short-texts x i =
        nltb→le max_text_bytes x.bytes
        (not-intro (ltb max_text_bytes x.bytes)
        (λ t.
        let p = in_split _ i in
        not-over p.1 (inr (subst (λ (y : NodeStart). max_text_bytes < y.bytes) (sym p.2) (ltb→lt max_text_bytes x.bytes t)))))

    pub free-valid : ValidJournal limit s lent (reverse (built limit s lent).rows)
    unfolding place name content starts
    free-valid =
        let parts = append-empty (length_refusals limit lent) _ free in
        let bytes = append-empty (run s initial lent).foreign _ parts.1 in
        record {
          place = place;
          name = name;
          content = content;
          tree = (accepted-tree limit s lent free).text-tree;
          valid = valid;
          short_enough = length-within limit lent parts.0;
          passes = λ b i t. not-elim (is_foreign b) (all_in (λ x. not (is_foreign x)) (none-foreign s initial lent bytes.0) i) t;
          shallow = (accepted-tree limit s lent free).shallow;
          few_nodes = few-nodes;
          short_texts = short-texts;
          gives-rows = accepted-rows limit s lent free;
        }

  pub accepted-valid : (rows : List Row) → read_journal limit s lent ≡ accepted rows → ValidJournal limit s lent rows
  accepted-valid rows e =
      let j = judged-accepted (found limit s lent) (reverse (built limit s lent).rows) rows (sym (read_as limit s lent) ∙ e) in
      subst (ValidJournal limit s lent) j.1 (free-valid j.0)

  -- ---- valid, so accepted
  module _ (rows : List Row) (v : ValidJournal limit s lent rows) where
    built-as : built limit s lent ≡ closed_building (tree_held s v.place v.name v.content)
    built-as = as-tokens limit s lent v.tree.spelt ∙ nested-built s v.tree.nested v.shallow

    -- a text without bytes has no root
    filled : lent ≡ [] → ⊥
    unfolding build events_from
    filled e =
        let b : ◌≡◌ {A = Bool} (build s (events_from between 0 []) start).rooted true =
        ap (λ (w : List ℕ). (build s (events_from between 0 w) start).rooted) (sym e) ∙ ap (λ (x : Building). x.rooted) built-as in
        let z : ◌≡◌ {A = Bool} false true = b in
        never (cc)

    late_free : (r : Reason) (k : ℕ) → Late r → In (at r k) (tree_held s v.place v.name v.content).faults → ⊥
    late_free r k late-14 i =
        let t = tree-14 s v.place v.name v.content i in
        let d = v.valid.each k t.0 t.1 t.2 in
        subst (λ (o : Option ℕ). T (is_none o)) d.1 t.3
    late_free r k late-15 i = misplaced (tree-15 s v.place v.name v.content i)
      where
        misplaced : Misplaced s v.place v.name v.content k → ⊥
        misplaced (wrong-root e t) = subst (λ (o : Option ℕ). T (wrong_root [] o)) v.valid.root_element t
        misplaced (wrong-content {m = m} {d = d} w (e, q, n)) =
            let x = v.valid.each k m d w in
            let z : x.0 ≡ e = same-element (element_named s m) x.1 q in
            n (subst (λ (a : ℕ). ContentFits s (content_at s a) d) z x.2)
          where
            same-element : (o : Option ℕ) {a b : ℕ} → o ≡ some a → o ≡ some b → a ≡ b
            same-element o {a} {b} p r = cc
    late_free r k late-16 i = over (over-split (over-tree s v.place v.name v.content v.valid.each k i))
      where
        over : (i : ℕ) × (p : SplitAt (tree_starts s v.place v.name v.content) i) × ((max_nodes ≤ 0 + i) ⊎ (max_text_bytes < p.here.bytes)) × (p.here.place ≡ k) → ⊥
        over (i, p, inl l, e) = omega (arith, split-bound p, v.few_nodes)
          where
            split-bound : {j : ℕ} {xs : List NodeStart} → SplitAt xs j → j < length xs
            split-bound {j} {xs} q = omega (arith, ap length q.joined, length-append q.before (q.here ∷ q.after), q.placed)
        over (i, p, inr l, e) = omega (arith, v.short_texts p.here (split-member p), l)
          where
            split-member : {j : ℕ} {xs : List NodeStart} (q : SplitAt xs j) → In q.here xs
            split-member q = subst (λ (z : List NodeStart). In q.here z) (sym q.joined) (append_right q.before (here refl))

    none_found : (f : Refusal) → Source limit s lent f → ⊥
    none_found f (in-length i) =
        let g = given-in (is_empty lent || ltb limit (length lent)) (at bad_length 0) f i in
        ⊎_elim (λ t. filled (empty_of t)) (λ t. let l = ltb→lt limit (length lent) t in omega (arith, l, v.short_enough)) (or_cases (is_empty lent) (ltb limit (length lent)) g.0)
    none_found f (in-foreign i) = foreign (foreign-origin s initial lent i)
      where
        foreign : In f initial.foreign ⊎ ForeignAt initial.place lent f → ⊥
        foreign (inl x) = elim x [ ]
        foreign (inr x) = v.passes x.split.here (subst (λ (w : List ℕ). In x.split.here w) (sym x.split.joined) (append_right x.split.before (here refl))) x.foreign
    none_found f (in-misspelt i) = elim (subst (λ (ks : List ℕ). In f (all_at misspelt ks)) (tokens-lexed v.tree.spelt).1 i) [ ]
    none_found f (in-broken e) =
        let b : none ≡ some f = ap (λ (x : Building). x.broken) (sym built-as) ∙ e in
        never (cc)
    none_found f (in-early i) = elim (subst (λ (b : Building). In f (ends_early b (length lent))) built-as i) [ ]
    none_found f (in-faults i) = late_free f.reason f.place ((reasons-of s (events_from between 0 lent)).faulted-by f i) (subst (λ (b : Building). In f b.faults) built-as i)

    pub valid-accepted : read_journal limit s lent ≡ accepted rows
    valid-accepted =
        read_as limit s lent
        ∙ (judged-free (found limit s lent) (reverse (built limit s lent).rows) (memberless (found limit s lent) (λ f i. none_found f (source limit s lent i)))
        ∙ ap accepted (ap (λ (b : Building). reverse b.rows) built-as ∙ (tree-rows s v.place v.name v.content v.valid.each ∙ sym v.gives-rows)))

-- A text gives one list of rows: those of the one tree that it spells.
pub one-rows : {limit : ℕ} {s : Schema} {lent : List ℕ} {rows rows' : List Row} → ValidJournal limit s lent rows → ValidJournal limit s lent rows' → rows ≡ rows'
one-rows {s = s} v w =
    let t = one-tree v.tree w.tree in
    v.gives-rows ∙ (ap (λ (n : List ℕ). tree_rows s n v.content) t.1 ∙ (ap (tree_rows s w.name) t.2 ∙ sym w.gives-rows))

gives-once : (s : Schema) (lent : List ℕ) (rows rows' : List Row) → JournalGives s lent rows → JournalGives s lent rows' → rows ≡ rows'
gives-once s lent rows rows' (gives {c = c} x) (gives {n = m} y) =
    let t = one-tree x y in
    ap (λ (n : List ℕ). tree_rows s n c) t.1 ∙ ap (tree_rows s m) t.2

-- The conditions admit at most one outcome: that of the reader.
pub journal-judged-once : (limit : ℕ) (s : Schema) (lent : List ℕ) {o : Outcome (List Row)} → Judged (JournalApplies limit s lent) (JournalGives s lent) o → o ≡ read_journal limit s lent
journal-judged-once limit s lent j = judged-once (JournalApplies limit s lent) (JournalGives s lent) (gives-once s lent) j (journal-judged limit s lent)
