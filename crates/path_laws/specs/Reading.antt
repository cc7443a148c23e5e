-- Reading a bundle text means what the conditions of refusals 2, 3, 8, 9 and 10 say.
use Rattle.std.specs.Prelude.{Bool, ◌||◌, ◌⊎◌, ◌≡◌, ℕ, suc, ◌+◌, T, leb, ltb, length}
use mathlib.Core.List.Memᴰ.{append_cases}
use mathlib.Core.List.Memᴰ.{append_left}
use mathlib.Core.List.Memᴰ.{append_right}
use mathlib.Core.List.Memᴰ.{head as here}
use mathlib.Core.List.Memᴰ.{tail as there}
use mathlib.Core.List.{List, [], ◌∷◌, ◌++◌, map, Memᴰ as In}
use Rattle.std.proofs.Common.{inl, inr, ⊎_elim, sym, ap, subst, ◌∙◌, add-zero, arith, leb→le, le→leb, ltb→lt, lt→ltb}
use Rattle.std.proofs.Math.Option.{Option}
use Rattle.std.proofs.Math.Path.{refl}
use Rattle.path_laws.specs.Grammar.Complete.{parse-complete}
use Rattle.path_laws.specs.Grammar.Places.{parse-departs}
use Rattle.path_laws.specs.Grammar.Sound.{parse-sound}
use Rattle.path_spec.specs.Conditions.{Grammatical, TooMuch, paths, steps, path_bytes, condition_count, condition_steps, OverLimit, over, Undeclared, undeclared, BundleApplies, length-2, byte-3, grammar-8, limit-9, undeclared-10, BundleGives, gives}
use Rattle.path_spec.specs.Grammar.{PathRead, BundleText}
use Rattle.path_spec.specs.Machine.{parse}
use Rattle.path_spec.specs.Paths.{WrittenStep, Condition, condition_paths, LocationPath, path_uses, resolved_path}
use Rattle.path_spec.specs.Reading.{passes_condition_limit, passes_limit, limit_refusals, undeclared_places, parsed_refusals, parsed_paths, bundle_refusals, read_bundle}
use Rattle.schema_spec.specs.Declarations.{Use}
use Rattle.schema_spec.specs.Schemas.{Schema, element_named}
use Rattle.text_laws.specs.Departures.{departs-once, departs-not}
use Rattle.text_laws.specs.Lists.{any-in, in-any, in-filter, filter-in, in-gather, gather-in, in_map, map-in, is-none}
use Rattle.text_laws.specs.Order.{Listed, judged-first, judged-once, listed-left, listed-right}
use Rattle.text_laws.specs.Refusals.{in-given, given-in}
use Rattle.text_laws.specs.Tests.{never, or_left, or_right, or_cases}
use Rattle.text_laws.specs.Texts.{split-first, split-later, length_found, length-listed, bytes-found, bytes-listed}
use Rattle.text_spec.specs.Limits.{max_steps, max_alternatives, max_alternative_steps, max_path_bytes, max_paths, max_bundle_bytes}
use Rattle.text_spec.specs.Lists.{any_of, filter_by, gather, is_none}
use Rattle.text_spec.specs.Machines.{Parsed, spells, departs}
use Rattle.text_spec.specs.Refusals.{Reason, Refusal, at, all_at, given, bad_length, bad_byte, bad_path, over_path_limit, undeclared_in_path, Outcome, judged, Judged}
use Rattle.text_spec.specs.Texts.{SplitAt, LengthApplies, ByteApplies, Departs, length_refusals, byte_refusals}

-- a text spells one bundle at most
pub bundle-unique : {text : List ℕ} {ps qs : List PathRead} → BundleText 0 text ps → BundleText 0 text qs → ps ≡ qs
bundle-unique {text} {ps} {qs} b c =
    let e : spells ps ≡ spells qs = sym (parse-complete b) ∙ parse-complete c in
    cc

-- what was found are the places at which one refusal applies
pub record FoundBy (r : Reason) (fs : List Refusal) (Applies : ℕ → Type 0) : Type 0 where
  pub sound : (f : Refusal) → In f fs → (f.reason ≡ r) × Applies f.place
  pub complete : (k : ℕ) → Applies k → In (at r k) fs

all_found : (r : Reason) (ks : List ℕ) {Applies : ℕ → Type 0} → ((k : ℕ) → In k ks → Applies k) → ((k : ℕ) → Applies k → In k ks) → FoundBy r (all_at r ks) Applies
all_found r ks {Applies} s c =
    record {
      sound = λ f i.
          let m = map-in (at r) ks i in
          (ap (λ (g : Refusal). g.reason) m.2, subst Applies (sym (ap (λ (g : Refusal). g.place) m.2)) (s m.0 m.1));
      complete = λ k p. in_map (at r) (c k p);
    }

-- ---- refusal 9
-- what is too much of the brackets of a step
abbrev over_brackets : WrittenStep Use (Condition Use) → Bool
over_brackets q = passes_condition_limit q.condition

over-in-step : (i : ℕ) (p : PathRead) (q : WrittenStep Use (Condition Use)) → In q p.path.steps → T (over_brackets q) → TooMuch i p
over-in-step i p q m t =
    let qs = condition_paths q.condition in
    ⊎_elim (λ h. condition_count q m (ltb→lt max_alternatives (length qs) h))
    (λ h.
    let r = in-any (λ a. ltb max_alternative_steps (length a)) qs h in
    condition_steps q r.0 m r.1 (ltb→lt max_alternative_steps (length r.0) r.2))
    (or_cases (ltb max_alternatives (length qs)) (any_of (λ a. ltb max_alternative_steps (length a)) qs) t)

pub limit-passed : (i : ℕ) (p : PathRead) → T (passes_limit i p) → TooMuch i p
limit-passed i p t =
    ⊎_elim (λ h. paths (leb→le max_paths i h))
    (λ h. ⊎_elim (λ h. steps (ltb→lt max_steps (length p.path.steps) h))
    (λ h. ⊎_elim (λ h. path_bytes (ltb→lt max_path_bytes p.size h))
    (λ h.
    let r = in-any over_brackets p.path.steps h in
    over-in-step i p r.0 r.1 r.2)
    (or_cases (ltb max_path_bytes p.size) (any_of over_brackets p.path.steps) h))
    (or_cases (ltb max_steps (length p.path.steps)) (ltb max_path_bytes p.size || any_of over_brackets p.path.steps) h))
    (or_cases (leb max_paths i) (ltb max_steps (length p.path.steps) || (ltb max_path_bytes p.size || any_of over_brackets p.path.steps)) t)

in-brackets : (i : ℕ) (p : PathRead) (q : WrittenStep Use (Condition Use)) → In q p.path.steps → T (over_brackets q) → T (passes_limit i p)
in-brackets i p q m t =
    or_right (leb max_paths i) (ltb max_steps (length p.path.steps) || (ltb max_path_bytes p.size || any_of over_brackets p.path.steps))
    (or_right (ltb max_steps (length p.path.steps)) (ltb max_path_bytes p.size || any_of over_brackets p.path.steps)
    (or_right (ltb max_path_bytes p.size) (any_of over_brackets p.path.steps) (any-in over_brackets m t)))

pub too-much-passes : {i : ℕ} {p : PathRead} → TooMuch i p → T (passes_limit i p)
too-much-passes {i} {p} (paths l) =
    or_left (leb max_paths i) (ltb max_steps (length p.path.steps) || (ltb max_path_bytes p.size || any_of over_brackets p.path.steps)) (le→leb max_paths i l)
too-much-passes {i} {p} (steps l) =
    or_right (leb max_paths i) (ltb max_steps (length p.path.steps) || (ltb max_path_bytes p.size || any_of over_brackets p.path.steps))
    (or_left (ltb max_steps (length p.path.steps)) (ltb max_path_bytes p.size || any_of over_brackets p.path.steps) (lt→ltb max_steps (length p.path.steps) l))
too-much-passes {i} {p} (path_bytes l) =
    or_right (leb max_paths i) (ltb max_steps (length p.path.steps) || (ltb max_path_bytes p.size || any_of over_brackets p.path.steps))
    (or_right (ltb max_steps (length p.path.steps)) (ltb max_path_bytes p.size || any_of over_brackets p.path.steps)
    (or_left (ltb max_path_bytes p.size) (any_of over_brackets p.path.steps) (lt→ltb max_path_bytes p.size l)))
too-much-passes {i} {p} (condition_count q m l) =
    let qs = condition_paths q.condition in
    in-brackets i p q m (or_left (ltb max_alternatives (length qs)) (any_of (λ a. ltb max_alternative_steps (length a)) qs) (lt→ltb max_alternatives (length qs) l))
too-much-passes {i} {p} (condition_steps q a m n l) =
    let qs = condition_paths q.condition in
    in-brackets i p q m
    (or_right (ltb max_alternatives (length qs)) (any_of (λ a. ltb max_alternative_steps (length a)) qs)
    (any-in (λ a. ltb max_alternative_steps (length a)) n (lt→ltb max_alternative_steps (length a) l)))

-- the paths over a limit, the first with i before it
limits-in : (i : ℕ) (ps : List PathRead) (f : Refusal) → In f (limit_refusals i ps)
    → (j : ℕ) × (s : SplitAt ps j) × TooMuch (i + j) s.here × (f ≡ at over_path_limit s.here.place)
limits-in i [] f m = elim m [ ]
limits-in i (p ∷ ps) f m = by (append_cases (given (passes_limit i p) (at over_path_limit p.place)) m) (limits-in (suc i) ps f)
  where
    Over : Type 0
    Over = (j : ℕ) × (s : SplitAt (p ∷ ps) j) × TooMuch (i + j) s.here × (f ≡ at over_path_limit s.here.place)

    by : In f (given (passes_limit i p) (at over_path_limit p.place)) ⊎ In f (limit_refusals (suc i) ps)
        → (In f (limit_refusals (suc i) ps) → (j : ℕ) × (s : SplitAt ps j) × TooMuch (suc i + j) s.here × (f ≡ at over_path_limit s.here.place)) → Over
    by (inl n) later =
        let g = given-in (passes_limit i p) (at over_path_limit p.place) f n in
        (0, split-first p ps, subst (λ (k : ℕ). TooMuch k p) (omega arith) (limit-passed i p g.0), g.1)
    by (inr n) later =
        let r = later n in
        (suc r.0, split-later p r.1, subst (λ (k : ℕ). TooMuch k r.1.here) (omega arith) r.2, r.3)

in-limits : (i : ℕ) (u : List PathRead) (p : PathRead) (v : List PathRead) → TooMuch (i + length u) p → In (at over_path_limit p.place) (limit_refusals i (u ++ (p ∷ v)))
in-limits i [] p v t =
    append_left (limit_refusals (suc i) v) (in-given (passes_limit i p) (too-much-passes (subst (λ (k : ℕ). TooMuch k p) (add-zero i) t)) refl)
in-limits i (q ∷ u) p v t =
    append_right (given (passes_limit i q) (at over_path_limit q.place)) (in-limits (suc i) u p v (subst (λ (k : ℕ). TooMuch k p) (omega arith) t))

pub limits-found : (ps : List PathRead) → FoundBy over_path_limit (limit_refusals 0 ps) (OverLimit ps)
limits-found ps = record { sound = to; complete = from }
  where
    to : (f : Refusal) → In f (limit_refusals 0 ps) → (f.reason ≡ over_path_limit) × OverLimit ps f.place
    to f m =
        let r = limits-in 0 ps f m in (
          ap (λ (g : Refusal). g.reason) r.3,
          subst (OverLimit ps) (sym (ap (λ (g : Refusal). g.place) r.3)) (over r.1 (subst (λ (k : ℕ). TooMuch k r.1.here) (omega arith) r.2)),
        )

    from : (k : ℕ) → OverLimit ps k → In (at over_path_limit k) (limit_refusals 0 ps)
    from k (over {i = i} s t) =
        subst (λ (l : List PathRead). In (at over_path_limit s.here.place) (limit_refusals 0 l)) (sym s.joined)
        (in-limits 0 s.before s.here s.after (subst (λ (j : ℕ). TooMuch j s.here) (omega (arith, s.placed)) t))

-- ---- refusal 10
pub undeclared-found : (s : Schema) (ps : List PathRead) → FoundBy undeclared_in_path (all_at undeclared_in_path (undeclared_places s ps)) (Undeclared s ps)
undeclared-found s ps = all_found undeclared_in_path (undeclared_places s ps) to from
  where
    is_undeclared : Use → Bool
    is_undeclared u = is_none (element_named s u.name)

    uses_of : PathRead → List Use
    uses_of p = path_uses p.path

    to : (k : ℕ) → In k (undeclared_places s ps) → Undeclared s ps k
    to k m =
        let r = map-in (λ (u : Use). u.place) (filter_by is_undeclared (gather uses_of ps)) m in
        let f = filter-in is_undeclared (gather uses_of ps) r.1 in
        let g = gather-in uses_of ps f.0 in
        subst (Undeclared s ps) (sym r.2) (undeclared g.0 r.0 g.1 g.2 (is-none (element_named s r.0.name) f.1))

    from : (k : ℕ) → Undeclared s ps k → In k (undeclared_places s ps)
    from k (undeclared p u m n e) =
        in_map (λ (u : Use). u.place) (in-filter is_undeclared (in-gather uses_of m n) (subst (λ (o : Option ℕ). T (is_none o)) (sym e) tt))

-- ---- refusal 8
-- what the machine found is where the text departs
pub departs-found : (text : List ℕ) (k : ℕ) → parse text ≡ departs k → FoundBy bad_path (at bad_path k ∷ []) (Departs Grammatical text)
departs-found text k e = record { sound = to; complete = λ j d. here (ap (at bad_path) (departs-once Grammatical d (parse-departs text k e))) }
  where
    to : (f : Refusal) → In f (at bad_path k ∷ []) → (f.reason ≡ bad_path) × Departs Grammatical text f.place
    to f (here g) = (ap (λ (h : Refusal). h.reason) g, subst (Departs Grammatical text) (sym (ap (λ (h : Refusal). h.place) g)) (parse-departs text k e))
    to f (there i) = elim i [ ]

-- ---- the outcome
module _ (s : Schema) (text : List ℕ) where
  -- a refusal that was found applies
  applies-at : {r : Reason} {fs : List Refusal} {P : ℕ → Type 0} → FoundBy r fs P → ((k : ℕ) → P k → BundleApplies s text r k) → (f : Refusal) → In f fs
      → BundleApplies s text f.reason f.place
  applies-at {r} n h f i =
      let p = n.sound f i in
      subst (λ (q : Reason). BundleApplies s text q f.place) (sym p.0) (h f.place p.1)

  -- refusals 2 and 3 before those of the parse
  abbrev with_textual : List Refusal → List Refusal
  with_textual fs = length_refusals max_bundle_bytes text ++ (byte_refusals text ++ fs)

  abbrev Means : Parsed (List PathRead) → Type 0
  Means r = Judged (BundleApplies s text) (BundleGives s text) (judged (with_textual (parsed_refusals s r)) (parsed_paths s r))

  found-sound : (fs : List Refusal) → ((f : Refusal) → In f fs → BundleApplies s text f.reason f.place) → (f : Refusal)
      → In f (with_textual fs) → BundleApplies s text f.reason f.place
  found-sound fs h f i =
      ⊎_elim (length_found (BundleApplies s text) max_bundle_bytes text (λ k p. length-2 p) f)
      (λ j. ⊎_elim (bytes-found (BundleApplies s text) text (λ k p. byte-3 p) f) (h f) (append_cases (byte_refusals text) j))
      (append_cases (length_refusals max_bundle_bytes text) i)

  length-in : (fs : List Refusal) {k : ℕ} → LengthApplies max_bundle_bytes text k → Listed (with_textual fs) bad_length k
  length-in fs {k} p = listed-left (length_refusals max_bundle_bytes text) (byte_refusals text ++ fs) (length-listed max_bundle_bytes text k p)

  byte-in : (fs : List Refusal) {k : ℕ} → ByteApplies text k → Listed (with_textual fs) bad_byte k
  byte-in fs {k} p = listed-right (length_refusals max_bundle_bytes text) (byte_refusals text ++ fs) (listed-left (byte_refusals text) fs (bytes-listed text k p))

  parsed-in : (fs : List Refusal) {r : Reason} {k : ℕ} → In (at r k) fs → Listed (with_textual fs) r k
  parsed-in fs {r} {k} i = (k, append_right (length_refusals max_bundle_bytes text) (append_right (byte_refusals text) i), omega arith)

  departed : (k : ℕ) → parse text ≡ departs k → Means (departs k)
  departed k e =
      judged-first (BundleApplies s text) (BundleGives s text) (with_textual (at bad_path k ∷ [])) []
      (found-sound (at bad_path k ∷ []) (applies-at (departs-found text k e) (λ k p. grammar-8 p))) (λ r j p. complete p)
      (λ free. absurd (free bad_path k (grammar-8 (parse-departs text k e))))
    where
      not-spelt : {ps : List PathRead} {A : Type 0} → BundleText 0 text ps → A
      not-spelt {ps} b =
          let f : departs k ≡ spells ps = sym e ∙ parse-complete b in
          never cc

      complete : {r : Reason} {j : ℕ} → BundleApplies s text r j → Listed (with_textual (at bad_path k ∷ [])) r j
      complete (length-2 p) = length-in (at bad_path k ∷ []) p
      complete (byte-3 p) = byte-in (at bad_path k ∷ []) p
      complete (grammar-8 {k = j} p) = parsed-in (at bad_path k ∷ []) ((departs-found text k e).complete j p)
      complete (limit-9 b o) = not-spelt b
      complete (undeclared-10 b u) = not-spelt b

  spelt : (ps : List PathRead) → parse text ≡ spells ps → Means (spells ps)
  spelt ps e =
      judged-first (BundleApplies s text) (BundleGives s text) (with_textual found) (parsed_paths s (spells ps)) (found-sound found sound) (λ r j p. complete p)
      (λ free. gives bundle)
    where
      bundle : BundleText 0 text ps
      bundle = parse-sound e

      found : List Refusal
      found = limit_refusals 0 ps ++ all_at undeclared_in_path (undeclared_places s ps)

      sound : (f : Refusal) → In f found → BundleApplies s text f.reason f.place
      sound f i =
          ⊎_elim (applies-at (limits-found ps) (λ k p. limit-9 bundle p) f) (applies-at (undeclared-found s ps) (λ k p. undeclared-10 bundle p) f) (append_cases (limit_refusals 0 ps) i)

      complete : {r : Reason} {j : ℕ} → BundleApplies s text r j → Listed (with_textual found) r j
      complete (length-2 p) = length-in found p
      complete (byte-3 p) = byte-in found p
      complete (grammar-8 {k = j} p) = absurd (departs-not Grammatical p (ps, bundle))
      complete (limit-9 {k = j} b o) =
          parsed-in found
          (append_left (all_at undeclared_in_path (undeclared_places s ps)) ((limits-found ps).complete j (subst (λ (qs : List PathRead). OverLimit qs j) (bundle-unique b bundle) o)))
      complete (undeclared-10 {k = j} b u) =
          parsed-in found
          (append_right (limit_refusals 0 ps) ((undeclared-found s ps).complete j (subst (λ (qs : List PathRead). Undeclared s qs j) (bundle-unique b bundle) u)))

  by-parse : (r : Parsed (List PathRead)) → parse text ≡ r → Means r
  by-parse (departs k) e = departed k e
  by-parse (spells ps) e = spelt ps e

  pub bundle-read : Judged (BundleApplies s text) (BundleGives s text) (read_bundle s text)
  unfolding read_bundle bundle_refusals
  bundle-read = by-parse (parse text) refl

-- So the conditions determine the outcome.
gives-once : (s : Schema) (text : List ℕ) (a b : List (LocationPath ℕ)) → BundleGives s text a → BundleGives s text b → a ≡ b
gives-once s text a b (gives c) (gives d) = ap (map (λ (p : PathRead). resolved_path s p.path)) (bundle-unique c d)

pub bundle-read-once : (s : Schema) (text : List ℕ) {o : Outcome (List (LocationPath ℕ))} → Judged (BundleApplies s text) (BundleGives s text) o → o ≡ read_bundle s text
bundle-read-once s text j = judged-once (BundleApplies s text) (BundleGives s text) (gives-once s text) j (bundle-read s text)
