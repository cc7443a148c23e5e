-- The one-pass reader's outcome is what the conditions say: the first refusal that applies, or the rows of the tree.
use Rattle.std.specs.Prelude.{Bool, true, false, ◌&&◌, ◌||◌, ◌⊎◌, ◌≡◌, ℕ, suc, ◌+◌, ◌≤◌, ◌<◌, eqb, ltb, length}
use Rattle.std.proofs.Math.Bool.{not}
use mathlib.Core.List.Memᴰ.{append_cases}
use mathlib.Core.List.Memᴰ.{append_left}
use mathlib.Core.List.Memᴰ.{append_right}
use mathlib.Core.List.Memᴰ.{head as here}
use mathlib.Core.List.Memᴰ.{tail as there}
use mathlib.Core.List.{List, [], ◌∷◌, ◌++◌, reverse, Memᴰ as In}
use Rattle.std.proofs.Math.Logic.{inl, inr}
use Rattle.std.proofs.Math.Option.{Option, none, some}
use Rattle.std.proofs.Math.Path.{refl, ap, subst}
use Rattle.std.proofs.Common.{sym, ◌∙◌, add-zero, eqb→eq, ltb→lt, nltb→le}
use Rattle.std.proofs.Math.Nat.{zero-add}
use native.Mathlib.Omega.{arith}
use Rattle.std.proofs.Math.Dec.{T}
use Rattle.journal_laws.specs.Contents.{filling_after, ends-content, not-declared, not-fitting, tree-faulty, tree-wrong-root, Misplaced, wrong-root, wrong-content, tree-15}
use Rattle.journal_laws.specs.Events.{build, ended-builds, run-mode}
use Rattle.journal_laws.specs.Forests.{Held, tree_held, closed_building, nested-built, nested-height}
use Rattle.journal_laws.specs.Nesting.{names, start, from_tokens, builds-walk, broken-applies, early-applies, misnested-found, too-deep-found}
use Rattle.journal_laws.specs.NodeLimits.{Over, over-split, split-over, AllFitTree, tree-rows, tree_over, over-tree, faultless-fits}
use Rattle.journal_laws.specs.Undeclared.{Late, late-14, late-15, late-16, reasons-of, found-14, undeclared-listed}
use Rattle.journal_laws.specs.Walks.{Walks, spelt-parted, walk-nested}
use Rattle.journal_spec.specs.Builder.{filling_of, filling_for, fits_at_end, wrong_root, Open, Building}
use Rattle.journal_spec.specs.Conditions.{JournalApplies, length-2, byte-3, misspelt-11, nesting-12, depth-13, undeclared-14, content-15, nodes-16, JournalGives, gives, Misnested, TooDeep, Undeclared, undeclared, Misfit, bad-root, bad-content, OverLimit, over}
use Rattle.journal_spec.specs.Reading.{Machine, initial, step, run, ends_early, machine_refusals, read_journal}
use Rattle.journal_spec.specs.Trees.{Forest, WellFormedText, height, tree_rows, tree_starts, NodeStart}
use Rattle.journal_spec.specs.Validity.{the-root}
use Rattle.schema_spec.specs.Schemas.{Schema, element_named, content_at}
use Rattle.table_spec.specs.Rows.{Row}
use Rattle.text_laws.specs.Lists.{in_map, in-any, any-in}
use Rattle.text_laws.specs.Order.{NoLater, judged-least, found_all}
use Rattle.text_laws.specs.Refusals.{in-given, given-in}
use Rattle.text_laws.specs.Tests.{passed, and_cases, and_intro, not-intro, not-elim, decided, never}
use Rattle.text_laws.specs.Texts.{length_found, length-listed, split-first, split-later}
use Rattle.text_spec.specs.Bytes.{is_foreign}
use Rattle.text_spec.specs.Limits.{max_depth, max_nodes, max_text_bytes}
use Rattle.text_spec.specs.Lists.{is_empty, is_none, list_of, any_of}
use Rattle.text_spec.specs.Refusals.{Reason, Refusal, number_of, at, all_at, given, bad_length, bad_byte, misspelt, bad_nesting, over_depth, undeclared_element, bad_content, over_node_limit, judged, Judged}
use Rattle.text_spec.specs.Texts.{SplitAt, length_refusals, ByteApplies}
use Rattle.token_laws.specs.Events.{events_from}
use Rattle.token_laws.specs.Passes.{tokens-lexed}
use Rattle.token_laws.specs.Spellings.{unmisspelt-tokens, misspelt-applies, misspelt-least}
use Rattle.token_spec.specs.Lexer.{mode_after, Mode, Event, between, misspelt_at}
use Rattle.token_spec.specs.Tokens.{Token, Tokens}
pub mod Meaning

-- ---- refusal 3

run-place : (s : Schema) (m : Machine) (bs : List ℕ) → (run s m bs).place ≡ m.place + length bs
unfolding run step
run-place s m [] = sym (add-zero m.place)
run-place s m (b ∷ bs) =
    let e : suc m.place + length bs ≡ m.place + suc (length bs) = omega arith in
    run-place s (step s m b) bs ∙ e

foreign_kept : {f : Refusal} (s : Schema) (m : Machine) (bs : List ℕ) → In f m.foreign → In f (run s m bs).foreign
unfolding run step
foreign_kept s m [] i = i
foreign_kept s m (b ∷ bs) i = foreign_kept s (step s m b) bs (append_right (given (is_foreign b) (at bad_byte m.place)) i)

-- a foreign byte is found, ..
foreign-listed : (s : Schema) (m : Machine) (u : List ℕ) (b : ℕ) (v : List ℕ) → T (is_foreign b) → In (at bad_byte (m.place + length u)) (run s m (u ++ (b ∷ v))).foreign
unfolding run step
foreign-listed s m [] b v t =
    subst (λ (k : ℕ). In (at bad_byte k) (run s (step s m b) v).foreign) (sym (add-zero m.place))
    (foreign_kept s (step s m b) v (append_left m.foreign (in-given (is_foreign b) t refl)))
foreign-listed s m (x ∷ u) b v t =
    let e : suc m.place + length u ≡ m.place + suc (length u) = omega arith in
    subst (λ (k : ℕ). In (at bad_byte k) (run s (step s m x) (u ++ (b ∷ v))).foreign) e (foreign-listed s (step s m x) u b v t)

-- .. and nothing else is
record ForeignAt (k : ℕ) (bs : List ℕ) (f : Refusal) : Type 0 where
  index : ℕ
  split : SplitAt bs index
  foreign : T (is_foreign split.here)
  named : f ≡ at bad_byte (k + index)

foreign-origin : {f : Refusal} (s : Schema) (m : Machine) (bs : List ℕ) → In f (run s m bs).foreign → In f m.foreign ⊎ ForeignAt m.place bs f
unfolding run step
foreign-origin s m [] i = inl i
foreign-origin {f} s m (b ∷ bs) i = later (foreign-origin s (step s m b) bs i)
  where
    first : In f (given (is_foreign b) (at bad_byte m.place)) ⊎ In f m.foreign → In f m.foreign ⊎ ForeignAt m.place (b ∷ bs) f
    first (inl x) =
        let g = given-in (is_foreign b) (at bad_byte m.place) f x in
        inr (record { index = 0; split = split-first b bs; foreign = g.0; named = g.1 ∙ ap (λ (k : ℕ). at bad_byte k) (sym (add-zero m.place)) })
    first (inr x) = inl x

    later : In f (given (is_foreign b) (at bad_byte m.place) ++ m.foreign) ⊎ ForeignAt (suc m.place) bs f → In f m.foreign ⊎ ForeignAt m.place (b ∷ bs) f
    later (inl x) = first (append_cases (given (is_foreign b) (at bad_byte m.place)) x)
    later (inr x) =
        let e : suc m.place + x.index ≡ m.place + suc x.index = omega arith in
        inr (record { index = suc x.index; split = split-later b x.split; foreign = x.foreign; named = x.named ∙ ap (λ (k : ℕ). at bad_byte k) e })

-- ---- all that is found

no-later-number : (f : Refusal) (r : Reason) (k : ℕ) → number_of f.reason < number_of r → NoLater f (at r k)
no-later-number f r k l = record { by_number = omega arith; by_place = λ e. absurd (omega arith) }

no-later-place : (r : Reason) (j k : ℕ) → j ≤ k → NoLater (at r j) (at r k)
no-later-place r j k l = record { by_number = omega arith; by_place = λ e. l }

module _ (limit : ℕ) (s : Schema) (lent : List ℕ) where
  abbrev built : Building
  built = build s (events_from between 0 lent) start

  abbrev misspellings : List ℕ
  misspellings = misspelt_at (mode_after between 0 lent)

  abbrev foreigns : List Refusal
  foreigns = (run s initial lent).foreign

  abbrev found : List Refusal
  found = length_refusals limit lent ++ (foreigns ++ (all_at misspelt misspellings ++ (list_of built.broken ++ (ends_early built (length lent) ++ built.faults))))

  read_as : read_journal limit s lent ≡ judged found (reverse built.rows)
  unfolding read_journal
  read_as =
      ap (λ (b : Building). judged (length_refusals limit lent ++ machine_refusals (run s initial lent) b) (reverse b.rows)) (ended-builds s initial lent)
      ∙ ap (λ (m : Mode). judged (length_refusals limit lent ++ (foreigns ++ (all_at misspelt (misspelt_at m) ++ (list_of built.broken ++ (ends_early built (run s initial lent).place ++ built.faults))))) (reverse built.rows)) (run-mode s initial lent)
      ∙ ap (λ (k : ℕ). judged (length_refusals limit lent ++ (foreigns ++ (all_at misspelt misspellings ++ (list_of built.broken ++ (ends_early built k ++ built.faults))))) (reverse built.rows)) (run-place s initial lent ∙ zero-add (length lent))

  -- where a refusal was found
  data Source (f : Refusal) : Type 0 where
    in-length : In f (length_refusals limit lent) → Source f
    in-foreign : In f foreigns → Source f
    in-misspelt : In f (all_at misspelt misspellings) → Source f
    in-broken : built.broken ≡ some f → Source f
    in-early : In f (ends_early built (length lent)) → Source f
    in-faults : In f built.faults → Source f

  listed-broken : {f : Refusal} (o : Option Refusal) → o ≡ some f → In f (list_of o)
  listed-broken none e = never (cc)
  listed-broken {f} (some g) e =
      let z : f ≡ g = cc in
      here z

  broken-listed : {f : Refusal} (o : Option Refusal) → In f (list_of o) → o ≡ some f
  broken-listed none i = elim i [ ]
  broken-listed (some g) (here e) = ap (λ (x : Refusal). some x) (sym e)
  broken-listed (some g) (there i) = elim i [ ]

  is_found : {f : Refusal} → Source f → In f found
  is_found (in-length i) = append_left _ i
  is_found (in-foreign i) = append_right (length_refusals limit lent) (append_left _ i)
  is_found (in-misspelt i) = append_right (length_refusals limit lent) (append_right foreigns (append_left _ i))
  is_found (in-broken e) = append_right (length_refusals limit lent) (append_right foreigns (append_right (all_at misspelt misspellings) (append_left _ (listed-broken built.broken e))))
  is_found (in-early i) = append_right (length_refusals limit lent) (append_right foreigns (append_right (all_at misspelt misspellings) (append_right (list_of built.broken) (append_left _ i))))
  is_found (in-faults i) = append_right (length_refusals limit lent) (append_right foreigns (append_right (all_at misspelt misspellings) (append_right (list_of built.broken) (append_right (ends_early built (length lent)) i))))

  source : {f : Refusal} → In f found → Source f
  source {f} i = s1 (append_cases (length_refusals limit lent) i)
    where
      s5 : In f (ends_early built (length lent)) ⊎ In f built.faults → Source f
      s5 (inl x) = in-early x
      s5 (inr x) = in-faults x

      s4 : In f (list_of built.broken) ⊎ In f (ends_early built (length lent) ++ built.faults) → Source f
      s4 (inl x) = in-broken (broken-listed built.broken x)
      s4 (inr x) = s5 (append_cases (ends_early built (length lent)) x)

      s3 : In f (all_at misspelt misspellings) ⊎ In f (list_of built.broken ++ (ends_early built (length lent) ++ built.faults)) → Source f
      s3 (inl x) = in-misspelt x
      s3 (inr x) = s4 (append_cases (list_of built.broken) x)

      s2 : In f foreigns ⊎ In f (all_at misspelt misspellings ++ (list_of built.broken ++ (ends_early built (length lent) ++ built.faults))) → Source f
      s2 (inl x) = in-foreign x
      s2 (inr x) = s3 (append_cases (all_at misspelt misspellings) x)

      s1 : In f (length_refusals limit lent) ⊎ In f (foreigns ++ (all_at misspelt misspellings ++ (list_of built.broken ++ (ends_early built (length lent) ++ built.faults)))) → Source f
      s1 (inl x) = in-length x
      s1 (inr x) = s2 (append_cases foreigns x)

  -- ---- tokens and trees of the text

  as-tokens : {ts : List Token} → Tokens lent ts → built ≡ from_tokens s ts
  as-tokens t = ap (λ (es : List Event). build s es start) (tokens-lexed t).0

  First : Refusal → Type 0
  First f = (g : Refusal) → In g found → NoLater f g

  -- where the first refusal is 12 or later, the text is spelt by tokens
  first-tokens : (f : Refusal) → 12 ≤ number_of f.reason → First f → (ts : List Token) × Tokens lent ts
  unfolding First
  first-tokens f l h = unmisspelt-tokens lent (by misspellings refl)
    where
      by : (ks : List ℕ) → misspellings ≡ ks → misspellings ≡ []
      by [] e = e
      by (k ∷ ks) e =
          let x = (h (at misspelt k) (is_found (in-misspelt (in_map (at misspelt) (subst (λ (z : List ℕ). In k z) (sym e) (here refl)))))).by_number in
          absurd (omega arith)

  record Treed : Type 0 where
    place : ℕ
    name : List ℕ
    content : Forest
    text-tree : WellFormedText lent place name content
    shallow : suc (height content) ≤ max_depth
    as-tree : built ≡ closed_building (tree_held s place name content)

  closed-tree : (ts : List Token) → Tokens lent ts → built.broken ≡ none → built.opens ≡ [] → built.rooted ≡ true → Treed
  closed-tree ts t e f g =
      let a = as-tokens t in
      let w = builds-walk s 0 ts start refl (ap (λ (b : Building). b.broken) (sym a) ∙ e) in
      let f' : (from_tokens s ts).opens ≡ [] = ap (λ (b : Building). b.opens) (sym a) ∙ f in
      let g' : (from_tokens s ts).rooted ≡ true = ap (λ (b : Building). b.rooted) (sym a) ∙ g in
      let v : Walks [] false ts [] true = subst (λ (x : Bool). Walks [] false ts [] x) g' (subst (λ (os : List Open). Walks [] false ts (names os) (from_tokens s ts).rooted) f' w.0) in
      let n = walk-nested (spelt-parted t.spelt) v in
      record {
        place = n.0;
        name = n.1;
        content = n.2;
        text-tree = record { tokens = ts; spelt = t; nested = n.3 };
        shallow = nested-height n.3 w.1;
        as-tree = a ∙ nested-built s n.3 (nested-height n.3 w.1);
      }

  -- a well-formed text is broken by its depth alone
  tree-or-broken : {k : ℕ} {n : List ℕ} {c : Forest} → WellFormedText lent k n c → ((f : Refusal) × (built.broken ≡ some f)) ⊎ (built ≡ closed_building (tree_held s k n c))
  tree-or-broken {k} {n} {c} w = by built.broken refl
    where
      a : built ≡ from_tokens s w.tokens
      a = as-tokens w.spelt

      by : (o : Option Refusal) → built.broken ≡ o → ((f : Refusal) × (built.broken ≡ some f)) ⊎ (built ≡ closed_building (tree_held s k n c))
      by none e =
          let v = builds-walk s 0 w.tokens start refl (ap (λ (b : Building). b.broken) (sym a) ∙ e) in
          inr (a ∙ nested-built s w.nested (nested-height w.nested v.1))
      by (some f) e = inl (f, e)

  -- ---- what is found first applies

  faulted-tree : (f : Refusal) → 14 ≤ number_of f.reason → First f → Treed
  unfolding First
  faulted-tree f l h =
      let t = first-tokens f (omega arith) h in
      whole t.0 t.1 built.broken refl built.opens refl built.rooted refl
    where
      too-early : (os : List Open) (rt : Bool) → built.broken ≡ none → built.opens ≡ os → built.rooted ≡ rt → T (not (is_empty os) || not rt) → ⊥
      too-early os rt e p q t =
          let u : T (is_none built.broken && (not (is_empty built.opens) || not built.rooted)) = rw (e, p, q) t in
          let x = (h (at bad_nesting (length lent)) (is_found (in-early (in-given (is_none built.broken && (not (is_empty built.opens) || not built.rooted)) u refl)))).by_number in
          omega arith

      whole : (ts : List Token) → Tokens lent ts → (o : Option Refusal) → built.broken ≡ o → (os : List Open) → built.opens ≡ os → (rt : Bool) → built.rooted ≡ rt → Treed
      whole ts t (some g) e os p rt q =
          let x = (h g (is_found (in-broken e))).by_number in
          let y = ((reasons-of s (events_from between 0 lent)).broken-by g e).1 in
          absurd (omega arith)
      whole ts t none e [] p true q = closed-tree ts t e p q
      whole ts t none e [] p false q = absurd (too-early [] false e p q tt)
      whole ts t none e (x ∷ os) p rt q = absurd (too-early (x ∷ os) rt e p q tt)

  not_root : (o : Option ℕ) → T (wrong_root [] o) → o ≡ some 0 → ⊥
  not_root none t e = t
  not_root (some x) t e =
      let z : x ≡ 0 = cc in
      not-elim (eqb x 0) t (subst (λ (y : ℕ). T (eqb y 0)) (sym z) tt)

  fault-applies : (r : Reason) (k : ℕ) → Late r → In (at r k) built.faults → First (at r k) → JournalApplies limit s lent r k
  unfolding First
  fault-applies r k late-14 i h =
      let t = first-tokens (at undeclared_element k) (omega arith) h in
      undeclared-14 (found-14 s k t.1 (subst (λ (b : Building). In (at undeclared_element k) b.faults) (as-tokens t.1) i))
  fault-applies r k late-15 i h =
      let t = faulted-tree (at bad_content k) (omega arith) h in
      content-15 (by t (tree-15 s t.place t.name t.content (subst (λ (b : Building). In (at bad_content k) b.faults) t.as-tree i)))
    where
      by : (t : Treed) → Misplaced s t.place t.name t.content k → Misfit s lent k
      by t (wrong-root e x) = subst (λ (j : ℕ). Misfit s lent j) (sym e) (bad-root t.text-tree (not_root (element_named s t.name) x))
      by t (wrong-content x m) = bad-content t.text-tree x m.1 m.2
  fault-applies r k late-16 i h =
      let t = faulted-tree (at over_node_limit k) (omega arith) h in
      nodes-16 (by t)
    where
      by : Treed → OverLimit s lent k
      by t =
          let all = faultless-fits s t.place t.name t.content
          (λ f x. (h f (is_found (in-faults (subst (λ (b : Building). In f b.faults) (sym t.as-tree) x)))).by_number) in
          let o = over-split (over-tree s t.place t.name t.content all k (subst (λ (b : Building). In (at over_node_limit k) b.faults) t.as-tree i)) in
          subst (λ (j : ℕ). OverLimit s lent j) o.3 (over t.text-tree o.1 (limits o.0 o.1.here o.2))
        where
          limits : (i : ℕ) (x : NodeStart) → (max_nodes ≤ 0 + i) ⊎ (max_text_bytes < x.bytes) → (max_nodes ≤ i) ⊎ (max_text_bytes < x.bytes)
          limits i x (inl l) = inl (omega arith)
          limits i x (inr l) = inr l

  first-applies : (f : Refusal) → In f found → First f → JournalApplies limit s lent f.reason f.place
  unfolding First
  first-applies f i h = by (source i)
    where
      foreign-applies : In f [] ⊎ ForeignAt 0 lent f → JournalApplies limit s lent f.reason f.place
      foreign-applies (inl x) = elim x [ ]
      foreign-applies (inr x) =
          subst (λ (g : Refusal). JournalApplies limit s lent g.reason g.place) (sym (x.named ∙ ap (λ (k : ℕ). at bad_byte k) (zero-add x.index))) (byte-3 (x.split, x.foreign))

      broken-means : ((f.reason ≡ bad_nesting) × Misnested lent f.place) ⊎ ((f.reason ≡ over_depth) × TooDeep lent f.place) → JournalApplies limit s lent f.reason f.place
      broken-means (inl x) = subst (λ (r : Reason). JournalApplies limit s lent r f.place) (sym x.0) (nesting-12 x.1)
      broken-means (inr x) = subst (λ (r : Reason). JournalApplies limit s lent r f.place) (sym x.0) (depth-13 x.1)

      unbroken : (o : Option Refusal) → T (is_none o) → o ≡ none
      unbroken none t = refl
      unbroken (some x) t = absurd t

      not-closed : (os : List Open) (rt : Bool) → T (not (is_empty os) || not rt) → os ≡ [] → rt ≡ true → ⊥
      not-closed [] true t e g = t
      not-closed [] false t e g = never (cc)
      not-closed (x ∷ os) rt t e g = never (cc)

      early : In f (ends_early built (length lent)) → JournalApplies limit s lent f.reason f.place
      early x =
          let g = given-in (is_none built.broken && (not (is_empty built.opens) || not built.rooted)) (at bad_nesting (length lent)) f x in
          let c = and_cases (is_none built.broken) (not (is_empty built.opens) || not built.rooted) g.0 in
          let n : 12 ≤ number_of f.reason = subst (λ (r : Refusal). 12 ≤ number_of r.reason) (sym g.1) (omega arith) in
          let t = first-tokens f n h in
          let a = as-tokens t.1 in
          subst (λ (r : Refusal). JournalApplies limit s lent r.reason r.place) (sym g.1)
          (nesting-12 (early-applies s t.1 (ap (λ (b : Building). b.broken) (sym a) ∙ unbroken built.broken c.0)
          (λ p q. not-closed built.opens built.rooted c.1 (ap (λ (b : Building). b.opens) a ∙ p) (ap (λ (b : Building). b.rooted) a ∙ q))))

      by : Source f → JournalApplies limit s lent f.reason f.place
      by (in-length x) = length_found (JournalApplies limit s lent) limit lent (λ k a. length-2 a) f x
      by (in-foreign x) = foreign-applies (foreign-origin s initial lent x)
      by (in-misspelt x) = found_all (JournalApplies limit s lent) misspelt misspellings (λ k j. misspelt-11 (misspelt-applies lent k j)) f x
      by (in-broken e) =
          let t = first-tokens f ((reasons-of s (events_from between 0 lent)).broken-by f e).0 h in
          broken-means (broken-applies s f t.1 (ap (λ (b : Building). b.broken) (sym (as-tokens t.1)) ∙ e))
      by (in-early x) = early x
      by (in-faults x) = fault-applies f.reason f.place ((reasons-of s (events_from between 0 lent)).faulted-by f x) x h

  -- ---- what applies is found, or something that comes first

  abbrev Earlier : Reason → ℕ → Type 0
  Earlier r k = (g : Refusal) × In g found × NoLater g (at r k)

  -- 12 or 13 comes before each later reason
  broken-earlier : (r : Reason) (k : ℕ) (f : Refusal) → 14 ≤ number_of r → built.broken ≡ some f → Earlier r k
  broken-earlier r k f l e =
      let y = ((reasons-of s (events_from between 0 lent)).broken-by f e).1 in
      (f, is_found (in-broken e), no-later-number f r k (omega arith))

  found-itself : (r : Reason) (k : ℕ) → In (at r k) built.faults → Earlier r k
  found-itself r k i = (at r k, is_found (in-faults i), no-later-place r k k (omega arith))

  byte-earlier : (k : ℕ) → ByteApplies lent k → Earlier bad_byte k
  byte-earlier k (p, t) =
      let i = foreign-listed s initial p.before p.here p.after t in (
        at bad_byte k,
        is_found (in-foreign
            (subst (λ (j : ℕ). In (at bad_byte j) foreigns) (zero-add (length p.before) ∙ p.placed)
            (subst (λ (w : List ℕ). In (at bad_byte (0 + length p.before)) (run s initial w).foreign) (sym p.joined) i))),
        no-later-place bad_byte k k (omega arith),
      )

  nesting-earlier : (k : ℕ) → Misnested lent k → Earlier bad_nesting k
  nesting-earlier k x =
      let r = misnested-found s x in
      by r.tokens r.spelt r.found
    where
      open-end : (os : List Open) (rt : Bool) → (os ≡ [] → rt ≡ true → ⊥) → T (not (is_empty os) || not rt)
      open-end [] true h = absurd (h refl refl)
      open-end [] false h = tt
      open-end (o ∷ os) rt h = tt

      by : (ts : List Token) → Tokens lent ts → ((from_tokens s ts).broken ≡ some (at bad_nesting k)) ⊎ (((from_tokens s ts).broken ≡ none) × (k ≡ length lent) × (((from_tokens s ts).opens ≡ []) → ((from_tokens s ts).rooted ≡ true) → ⊥)) → Earlier bad_nesting k
      by ts t (inl e) = (at bad_nesting k, is_found (in-broken (ap (λ (b : Building). b.broken) (as-tokens t) ∙ e)), no-later-place bad_nesting k k (omega arith))
      by ts t (inr e) =
          let a = as-tokens t in
          let b : built.broken ≡ none = ap (λ (c : Building). c.broken) a ∙ e.0 in
          let o : T (not (is_empty built.opens) || not built.rooted) =
          open-end built.opens built.rooted (λ p q. e.2 (ap (λ (c : Building). c.opens) (sym a) ∙ p) (ap (λ (c : Building). c.rooted) (sym a) ∙ q)) in
          let u : T (is_none built.broken && (not (is_empty built.opens) || not built.rooted)) =
          and_intro (is_none built.broken) (not (is_empty built.opens) || not built.rooted) (subst (λ (z : Option Refusal). T (is_none z)) (sym b) tt) o in (
            at bad_nesting (length lent),
            is_found (in-early (in-given (is_none built.broken && (not (is_empty built.opens) || not built.rooted)) u refl)),
            no-later-place bad_nesting (length lent) k (omega (arith, e.1)),
          )

  depth-earlier : (k : ℕ) → TooDeep lent k → Earlier over_depth k
  depth-earlier k x =
      let r = too-deep-found s x in
      by r.tokens r.spelt r.place r.found
    where
      by : (ts : List Token) → Tokens lent ts → (j : ℕ) → ((from_tokens s ts).broken ≡ some (at bad_nesting j)) ⊎ (((from_tokens s ts).broken ≡ some (at over_depth j)) × (j ≤ k)) → Earlier over_depth k
      by ts t j (inl e) = (at bad_nesting j, is_found (in-broken (ap (λ (b : Building). b.broken) (as-tokens t) ∙ e)), no-later-number (at bad_nesting j) over_depth k (omega arith))
      by ts t j (inr e) = (at over_depth j, is_found (in-broken (ap (λ (b : Building). b.broken) (as-tokens t) ∙ e.0)), no-later-place over_depth j k e.1)

  undeclared-earlier : (k : ℕ) → Undeclared s lent k → Earlier undeclared_element k
  undeclared-earlier k (undeclared {t = t} {n = n} us vs x g e) = by built.broken refl
    where
      a : built ≡ from_tokens s (us ++ (t ∷ vs))
      a = as-tokens x

      by : (o : Option Refusal) → built.broken ≡ o → Earlier undeclared_element k
      by none q =
          found-itself undeclared_element k
          (subst (λ (b : Building). In (at undeclared_element k) b.faults) (sym a) (undeclared-listed s us vs g e (ap (λ (b : Building). b.broken) (sym a) ∙ q)))
      by (some f) q = broken-earlier undeclared_element k f (omega arith) q

  in-tree-faults : {g : Refusal} (h : Held) → built ≡ closed_building h → In g h.faults → In g built.faults
  in-tree-faults {g} h a i = subst (λ (b : Building). In g b.faults) (sym a) i

  content-earlier : (k : ℕ) → Misfit s lent k → Earlier bad_content k
  content-earlier k (bad-root {n = n} {c = c} w h) = by (tree-or-broken w)
    where
      named : built ≡ closed_building (tree_held s k n c) → (o : Option ℕ) → element_named s n ≡ o → Earlier bad_content k
      named a none e =
          let i = tree-faulty s k n c the-root (not-declared (subst (λ (o : Option ℕ). T (is_none o)) (sym e) tt)) in
          (at undeclared_element k, is_found (in-faults (in-tree-faults (tree_held s k n c) a i)), no-later-number (at undeclared_element k) bad_content k (omega arith))
      named a (some x) e =
          let t : T (wrong_root [] (element_named s n)) =
          subst (λ (o : Option ℕ). T (wrong_root [] o)) (sym e) (not-intro (eqb x 0) (λ z. h (e ∙ ap (λ (y : ℕ). some y) (eqb→eq x 0 z)))) in
          found-itself bad_content k (in-tree-faults (tree_held s k n c) a (tree-wrong-root s k n c t))

      by : ((f : Refusal) × (built.broken ≡ some f)) ⊎ (built ≡ closed_building (tree_held s k n c)) → Earlier bad_content k
      by (inl x) = broken-earlier bad_content k x.0 (omega arith) x.1
      by (inr a) = named a (element_named s n) refl
  content-earlier k (bad-content {root = j} {e = e} {name = m} {n = n} {content = d} {c = c} w t q h) = by (tree-or-broken w)
    where
      ends : (b : Bool) → fits_at_end (filling_after s (filling_of e (content_at s e)) c) ≡ b → T (not (fits_at_end (filling_after s (filling_for s (element_named s n)) c)))
      ends true z = absurd (h (ends-content s e (content_at s e) c (passed z)))
      ends false z = subst (λ (o : Option ℕ). T (not (fits_at_end (filling_after s (filling_for s o) c)))) (sym q) (rw z tt)

      by : ((f : Refusal) × (built.broken ≡ some f)) ⊎ (built ≡ closed_building (tree_held s j m d)) → Earlier bad_content k
      by (inl x) = broken-earlier bad_content k x.0 (omega arith) x.1
      by (inr a) =
          found-itself bad_content k (in-tree-faults (tree_held s j m d) a (tree-faulty s j m d t (not-fitting (ends (fits_at_end (filling_after s (filling_of e (content_at s e)) c)) refl))))

  limit-earlier : (k : ℕ) → OverLimit s lent k → Earlier over_node_limit k
  limit-earlier k (over {k = j} {i = i} {n = n} {c = c} w p l) = by (tree-or-broken w)
    where
      low : Refusal → Bool
      low f = ltb (number_of f.reason) 16

      bound : (max_nodes ≤ i) ⊎ (max_text_bytes < p.here.bytes) → (max_nodes ≤ 0 + length p.before) ⊎ (max_text_bytes < p.here.bytes)
      bound (inl x) = inl (omega (arith, p.placed))
      bound (inr x) = inr x

      beyond : Over 0 (tree_starts s j n c) k
      beyond = subst (λ (x : List NodeStart). Over 0 x k) (sym p.joined) (split-over 0 p.before p.here p.after (bound l))

      none-low : (T (any_of low (tree_held s j n c).faults) → ⊥) → (f : Refusal) → In f (tree_held s j n c).faults → 16 ≤ number_of f.reason
      none-low h f x = nltb→le (number_of f.reason) 16 (not-intro (low f) (λ y. h (any-in low x y)))

      decide : built ≡ closed_building (tree_held s j n c) → T (any_of low (tree_held s j n c).faults) ⊎ (T (any_of low (tree_held s j n c).faults) → ⊥) → Earlier over_node_limit k
      decide a (inl x) =
          let y = in-any low (tree_held s j n c).faults x in
          (y.0, is_found (in-faults (in-tree-faults (tree_held s j n c) a y.1)), no-later-number y.0 over_node_limit k (ltb→lt (number_of y.0.reason) 16 y.2))
      decide a (inr h) = found-itself over_node_limit k (in-tree-faults (tree_held s j n c) a (tree_over s j n c (faultless-fits s j n c (none-low h)) k beyond))

      by : ((f : Refusal) × (built.broken ≡ some f)) ⊎ (built ≡ closed_building (tree_held s j n c)) → Earlier over_node_limit k
      by (inl x) = broken-earlier over_node_limit k x.0 (omega arith) x.1
      by (inr a) = decide a (decided (any_of low (tree_held s j n c).faults))

  applies-earlier : (r : Reason) (k : ℕ) → JournalApplies limit s lent r k → Earlier r k
  applies-earlier r k (length-2 x) =
      let l = length-listed limit lent k x in
      (at bad_length l.0, is_found (in-length l.1), no-later-place bad_length l.0 k l.2)
  applies-earlier r k (byte-3 x) = byte-earlier k x
  applies-earlier r k (misspelt-11 x) =
      let l = misspelt-least lent k x in
      (at misspelt l.0, is_found (in-misspelt (in_map (at misspelt) l.1)), no-later-place misspelt l.0 k l.2)
  applies-earlier r k (nesting-12 x) = nesting-earlier k x
  applies-earlier r k (depth-13 x) = depth-earlier k x
  applies-earlier r k (undeclared-14 x) = undeclared-earlier k x
  applies-earlier r k (content-15 x) = content-earlier k x
  applies-earlier r k (nodes-16 x) = limit-earlier k x

  -- ---- an accepted text gives the rows of its tree

  nothing-found : found ≡ [] → (f : Refusal) → Source f → ⊥
  nothing-found e f x = elim (subst (λ (l : List Refusal). In f l) e (is_found x)) [ ]

  accepted-tree : found ≡ [] → Treed
  accepted-tree e = free-tree built.broken refl built.opens refl built.rooted refl
    where
      spelt-well : (ks : List ℕ) → misspellings ≡ ks → misspellings ≡ []
      spelt-well [] q = q
      spelt-well (k ∷ ks) q = absurd (nothing-found e (at misspelt k) (in-misspelt (in_map (at misspelt) (subst (λ (z : List ℕ). In k z) (sym q) (here refl)))))

      not-early : (os : List Open) (rt : Bool) → built.broken ≡ none → built.opens ≡ os → built.rooted ≡ rt → T (not (is_empty os) || not rt) → ⊥
      not-early os rt p q u t =
          let v : T (is_none built.broken && (not (is_empty built.opens) || not built.rooted)) = rw (p, q, u) t in
          nothing-found e (at bad_nesting (length lent)) (in-early (in-given (is_none built.broken && (not (is_empty built.opens) || not built.rooted)) v refl))

      free-tree : (o : Option Refusal) → built.broken ≡ o → (os : List Open) → built.opens ≡ os → (rt : Bool) → built.rooted ≡ rt → Treed
      free-tree (some g) p os q rt u = absurd (nothing-found e g (in-broken p))
      free-tree none p [] q true u =
          let t = unmisspelt-tokens lent (spelt-well misspellings refl) in
          closed-tree t.0 t.1 p q u
      free-tree none p [] q false u = absurd (not-early [] false p q u tt)
      free-tree none p (x ∷ os) q rt u = absurd (not-early (x ∷ os) rt p q u tt)

  accepted-fits : (e : found ≡ []) → AllFitTree s (accepted-tree e).place (accepted-tree e).name (accepted-tree e).content
  accepted-fits e =
      let t = accepted-tree e in
      faultless-fits s t.place t.name t.content (λ f x. absurd (nothing-found e f (in-faults (in-tree-faults (tree_held s t.place t.name t.content) t.as-tree x))))

  accepted-rows : (e : found ≡ []) → reverse built.rows ≡ tree_rows s (accepted-tree e).name (accepted-tree e).content
  accepted-rows e =
      let t = accepted-tree e in
      ap (λ (b : Building). reverse b.rows) t.as-tree ∙ tree-rows s t.place t.name t.content (accepted-fits e)

  accepted-gives : found ≡ [] → JournalGives s lent (reverse built.rows)
  accepted-gives e = subst (λ (l : List Row). JournalGives s lent l) (sym (accepted-rows e)) (gives (accepted-tree e).text-tree)

-- Reading a journal means what the conditions say, for every limit, schema and text: it is turned back by the first refusal that
-- applies, or accepted, with the rows of the tree that its tokens spell.
pub journal-judged : (limit : ℕ) (s : Schema) (lent : List ℕ) → Judged (JournalApplies limit s lent) (JournalGives s lent) (read_journal limit s lent)
unfolding First
journal-judged limit s lent =
    subst (Judged (JournalApplies limit s lent) (JournalGives s lent)) (sym (read_as limit s lent))
    (judged-least (JournalApplies limit s lent) (JournalGives s lent) (found limit s lent) (reverse (built limit s lent).rows) (first-applies limit s lent) (applies-earlier limit s lent) (λ e n. accepted-gives limit s lent e))
