-- Laws of the judgement: each refusal in its order, and acceptance.
use mathlib.Core.List.Memᴰ.{head as here, tail as there}
use mathlib.Core.List.{List, [], ◌∷◌, ◌++◌, map, append-nil, Memᴰ as In}
use Rattle.std.specs.Prelude.{◌≡◌, refl, ℕ, ◌≤◌, ◌<◌, length, Option, Some, None, Result, Ok, Err}
use Rattle.std.proofs.Math.Path.{sym, ap, ap₂, subst}
use Rattle.std.proofs.Common.{◌∙◌, arith}
use Rattle.std.proofs.Math.ListN.{length-map}
use Rattle.bundle_text.specs.declared.notes.Notes.{Notes}
use Rattle.bundle_text.specs.declared.steps.StepRead.{StepRead}
use Rattle.bundle_text.specs.notes.Notes.{no_notes, uncounted}
use Rattle.bundle_text.specs.paths.Readings.{path_noted, first_over, BundleAs, ReadsBundle}
use Rattle.bundle.specs.Judging.{JudgedAs, JudgedUnder, Readable, Spelling}
use Rattle.bundle.specs.columns.Filling.{any_step, paths_with, lost, filled_columns, unless_lost, filled, Room}
use Rattle.bundle.specs.declared.columns.Filled.{Filled}
use Rattle.bundle.specs.laws.Filled.{noted-lines, noted-outer, noted-inner, noted-room, noted-count, noted-shaped, noted-paths}
use Rattle.bundle.specs.laws.Limits.{Few, all-few, over_first, over_none, limits-later}
use Rattle.bundle.specs.laws.Names.{lost_place, lost-none, lost-first}
use Rattle.bundle.specs.laws.Order.{Later, later-none, later-all, later-append, Least, least-all, least-judged}
use Rattle.bundle.specs.laws.Texts.{empty-refused, long-refused, length-right, foreign-refused, none-foreign}
use Rattle.bundle.specs.names_in_tests.Steps.{earliest, earliest_of, lost_cell}
use Rattle.compiled_paths.specs.Steps.{no_step}
use Rattle.compiled_paths.specs.declared.CompiledPaths.{CompiledPaths}
use Rattle.compiled_paths.specs.declared.Step.{Step}
use Rattle.path_spec.specs.Grammar.{PathRead}
use Rattle.path_spec.specs.Machine.{parse}
use Rattle.path_spec.specs.Paths.{resolved_path}
use Rattle.path_spec.specs.Reading.{limit_refusals, undeclared_places, parsed_refusals, parsed_paths, bundle_refusals, read_bundle}
use Rattle.schema_spec.specs.Schemas.{Schema}
use Rattle.text.specs.declared.refusals.Reason.TheVariants.{BadLength, BadByte, BadPath, OverPathLimit, UndeclaredInPath}
use Rattle.text.specs.declared.refusals.Refusal.{Refusal as Turned}
use Rattle.text.specs.lookup.Lookup.{found}
use Rattle.text.specs.refusals.Refusals.{refusal, refusal_in}
use Rattle.text_laws.specs.Refusals.{judged-free}
use Rattle.text_spec.specs.Bytes.{is_foreign}
use Rattle.text_spec.specs.Limits.{max_declarations, max_bundle_bytes}
use Rattle.text_spec.specs.Lists.{first, places_from}
use Rattle.text_spec.specs.Machines.{Parsed, spells, departs}
use Rattle.text_spec.specs.Refusals.{Reason, bad_length, bad_byte, bad_path, over_path_limit, undeclared_in_path, number_of, Refusal, at, all_at, accepted, refused, judged}
use Rattle.text_spec.specs.Texts.{length_refusals, byte_refusals}

-- ---- a refusal under every schema
refused_as : (s : Schema) (text : List ℕ) {f : Turned} {r : Result CompiledPaths Turned} → r ≡ Err f → read_bundle s text ≡ refused (refusal_in f) → JudgedAs s text r
refused_as s text {f} u e = subst (JudgedAs s text) (sym u) (record { outcome = sym e; shaped = tt; counted = tt })

module _ (names : List (List ℕ)) (text : List ℕ) {f : Turned} {r : Result CompiledPaths Turned} (u : r ≡ Err f) where
  refused-under : ((s : Schema) → read_bundle s text ≡ refused (refusal_in f)) → JudgedUnder names text r
  refused-under h = record { under = λ s e. refused_as s text u (h s) }

-- ---- 2 and 3
parsed-later : (r : Reason) → number_of r < number_of bad_path → (s : Schema) (q : Parsed (List PathRead)) → Later r (parsed_refusals s q)
parsed-later r h s (departs k) = later-all r bad_path (k ∷ []) h
parsed-later r h s (spells ps) =
    later-append r (limit_refusals 0 ps) (all_at undeclared_in_path (undeclared_places s ps)) (limits-later r (omega arith) 0 ps)
    (later-all r undeclared_in_path (undeclared_places s ps) (omega arith))

length-first : (s : Schema) (text : List ℕ) → Least bad_length 0 (length_refusals max_bundle_bytes text) → read_bundle s text ≡ refused (at bad_length 0)
unfolding read_bundle bundle_refusals
length-first s text L =
    least-judged (parsed_paths s (parse text)) bad_length 0 (length_refusals max_bundle_bytes text) (byte_refusals text ++ parsed_refusals s (parse text)) L
    (later-append bad_length (byte_refusals text) (parsed_refusals s (parse text)) (later-all bad_length bad_byte (places_from 0 is_foreign text) (omega arith))
    (parsed-later bad_length (omega arith) s (parse text)))

byte-first : (s : Schema) (text : List ℕ) (k : ℕ) → length_refusals max_bundle_bytes text ≡ [] → Least bad_byte k (byte_refusals text) → read_bundle s text ≡ refused (at bad_byte k)
unfolding read_bundle bundle_refusals
byte-first s text k e L =
    ap (λ (fs : List Refusal). judged (fs ++ (byte_refusals text ++ parsed_refusals s (parse text))) (parsed_paths s (parse text))) e
    ∙ least-judged (parsed_paths s (parse text)) bad_byte k (byte_refusals text) (parsed_refusals s (parse text)) L (parsed-later bad_byte (omega arith) s (parse text))

module _ (names : List (List ℕ)) (text : List ℕ) where
  pub judge-empty : length text ≡ 0 → JudgedUnder names text (Err (refusal BadLength 0))
  judge-empty e = refused-under names text refl (λ s. length-first s text (empty-refused max_bundle_bytes text e))

  pub judge-long : max_bundle_bytes < length text → JudgedUnder names text (Err (refusal BadLength 0))
  judge-long h = refused-under names text refl (λ s. length-first s text (long-refused max_bundle_bytes text h))

  module _ (n : length text ≡ 0 → ⊥) (h : length text ≤ max_bundle_bytes) where
    pub judge-foreign : {r : Option ℕ} → found r ≡ first (places_from 0 is_foreign text) → {k : ℕ} → r ≡ Some k → JudgedUnder names text (Err (refusal BadByte k))
    judge-foreign e {k} u = refused-under names text refl (λ s. byte-first s text k (length-right max_bundle_bytes text n h) (foreign-refused text e u))

    pub readable : {r : Option ℕ} → found r ≡ first (places_from 0 is_foreign text) → r ≡ None → Readable text
    readable e u = record { right-length = length-right max_bundle_bytes text n h; right-bytes = none-foreign text e u; some = n; short = h }

-- ---- 8 to 10
module _ {text : List ℕ} (R : Readable text) where
  read-from : (s : Schema) (q : Parsed (List PathRead)) → parse text ≡ q → read_bundle s text ≡ judged (parsed_refusals s q) (parsed_paths s q)
  unfolding read_bundle bundle_refusals
  read-from s q e =
      ap₂ (λ (x y : List Refusal). judged (x ++ (y ++ parsed_refusals s (parse text))) (parsed_paths s (parse text))) R.right-length R.right-bytes
      ∙ ap (λ (p : Parsed (List PathRead)). judged (parsed_refusals s p) (parsed_paths s p)) e

  departs-first : (s : Schema) (j : ℕ) → parse text ≡ departs j → read_bundle s text ≡ refused (at bad_path j)
  departs-first s j e =
      read-from s (departs j) e
      ∙ least-judged [] bad_path j (all_at bad_path (j ∷ [])) [] (least-all bad_path j (j ∷ []) (here refl) (λ x i. only x i)) (later-none bad_path)
    where
      only : (x : ℕ) → In x (j ∷ []) → j ≤ x
      only x (here q) = omega arith
      only x (there i) = elim i [ ]

  limit-first : (s : Schema) (ps : List PathRead) (m : ℕ) → parse text ≡ spells ps → first_over 0 ps ≡ Some m → read_bundle s text ≡ refused (at over_path_limit m)
  limit-first s ps m e f =
      read-from s (spells ps) e
      ∙ least-judged (parsed_paths s (spells ps)) over_path_limit m (limit_refusals 0 ps) (all_at undeclared_in_path (undeclared_places s ps)) (over_first text ps e m f)
      (later-all over_path_limit undeclared_in_path (undeclared_places s ps) (omega arith))

  within-limits : (s : Schema) (ps : List PathRead) → parse text ≡ spells ps → first_over 0 ps ≡ None
      → read_bundle s text ≡ judged (all_at undeclared_in_path (undeclared_places s ps)) (parsed_paths s (spells ps))
  within-limits s ps e f =
      read-from s (spells ps) e
      ∙ ap (λ (x : List Refusal). judged (x ++ all_at undeclared_in_path (undeclared_places s ps)) (parsed_paths s (spells ps))) (over_none text ps e f)

-- ---- the names
module _ {text : List ℕ} {N : Notes} (S : Spelling text N) where
  spelt-few : Few S.lines
  spelt-few = all-few text S.lines S.readable.short S.spelt S.within

  pub judge-room : (names : List ℕ) → length names ≤ max_declarations → Room names N
  judge-room names h = noted-room spelt-few S.ended S.noted names h

  module _ (names : List (List ℕ)) where
    abbrev read : List PathRead
    read = map (path_noted text) S.lines

    lost-is : lost names text N ≡ lost_place names text S.lines
    lost-is =
        ap₂ (λ (x y : List StepRead). earliest (earliest_of None (map (lost_cell names text) x)) (earliest_of None (map (lost_cell names text) y)))
        (noted-outer spelt-few S.ended S.noted) (noted-inner spelt-few S.ended S.noted)

    lost-judged : (k : ℕ) → lost names text N ≡ Some k → JudgedUnder names text (Err (refusal UndeclaredInPath k))
    lost-judged k n = record { under = λ s e. refused_as s text refl (here-lost s e) }
      where
        here-lost : (s : Schema) → names ≡ map (λ x. x.name) s → read_bundle s text ≡ refused (at undeclared_in_path k)
        here-lost s e =
            within-limits S.readable s read S.spelt S.within
            ∙ ap (λ (fs : List Refusal). judged fs (parsed_paths s (spells read))) (sym (append-nil (all_at undeclared_in_path (undeclared_places s read))))
            ∙ least-judged (parsed_paths s (spells read)) undeclared_in_path k (all_at undeclared_in_path (undeclared_places s read)) [] (lost-first names text s e S.lines k (sym lost-is ∙ n)) (later-none undeclared_in_path)

    known-judged : (unwritten : Step) → lost names text N ≡ None → JudgedUnder names text (Ok (paths_with names text N unwritten))
    known-judged unwritten n = record { under = λ s e. accepted-as s e }
      where
        accepted-as : (s : Schema) → names ≡ map (λ x. x.name) s → JudgedAs s text (Ok (paths_with names text N unwritten))
        accepted-as s e =
            let z : read_bundle s text ≡ accepted (map (λ p. resolved_path s p.path) read) =
            within-limits S.readable s read S.spelt S.within
            ∙ judged-free (all_at undeclared_in_path (undeclared_places s read)) (parsed_paths s (spells read)) (ap (all_at undeclared_in_path) (lost-none names text s e S.lines (sym lost-is ∙ n))) in
            let y = noted-paths spelt-few S.ended S.noted names text unwritten s e in
            record {
              outcome = ap accepted y ∙ sym z;
              shaped = noted-shaped spelt-few S.ended S.noted names text unwritten;
              counted =
                  noted-count spelt-few S.ended S.noted
                  ∙ sym (ap length y ∙ length-map read (λ (p : PathRead). resolved_path s p.path) ∙ length-map S.lines (path_noted text));
            }

    -- by what filling them answers
    pub columns-lost : {r : Filled} → r ≡ filled_columns names text N → {k : ℕ} → r.lost ≡ Some k → JudgedUnder names text (Err (refusal UndeclaredInPath k))
    columns-lost e {k} u = lost-judged k (sym (ap (λ (x : Filled). x.lost) e) ∙ u)

    pub columns-known : {r : Filled} → r ≡ filled_columns names text N → r.lost ≡ None → JudgedUnder names text (Ok r.paths)
    columns-known e u =
        subst (λ (c : CompiledPaths). JudgedUnder names text (Ok c)) (sym (ap (λ (x : Filled). x.paths) e)) (known-judged no_step (sym (ap (λ (x : Filled). x.lost) e) ∙ u))

    -- and where they are one answer
    pub judge-lost : {r : Result CompiledPaths ℕ} → r ≡ filled names text N → {k : ℕ} → r ≡ Err k → JudgedUnder names text (Err (refusal UndeclaredInPath k))
    judge-lost {r} e {k} u = go (lost names text N) refl (sym e ∙ u)
      where
        go : (o : Option ℕ) → lost names text N ≡ o → unless_lost names text N o ≡ Err k → JudgedUnder names text (Err (refusal UndeclaredInPath k))
        go None p q = absurd (ok_err q)
          where
            ok_err : {c : CompiledPaths} → ◌≡◌ {A = Result CompiledPaths ℕ} (Ok c) (Err k) → ⊥
            ok_err q = cc
        go (Some j) p q = let z : j ≡ k = cc in subst (λ (i : ℕ). JudgedUnder names text (Err (refusal UndeclaredInPath i))) z (lost-judged j p)

    pub judge-known : {r : Result CompiledPaths ℕ} → r ≡ filled names text N → {c : CompiledPaths} → r ≡ Ok c → JudgedUnder names text (Ok c)
    judge-known {r} e {c} u = go (lost names text N) refl (sym e ∙ u)
      where
        go : (o : Option ℕ) → lost names text N ≡ o → unless_lost names text N o ≡ Ok c → JudgedUnder names text (Ok c)
        go None p q = let z : paths_with names text N any_step ≡ c = cc in subst (λ (x : CompiledPaths). JudgedUnder names text (Ok x)) z (known-judged any_step p)
        go (Some j) p q = absurd (err_ok q)
          where
            err_ok : {x : CompiledPaths} → ◌≡◌ {A = Result CompiledPaths ℕ} (Err j) (Ok x) → ⊥
            err_ok q = cc

-- ---- from reading all paths
module _ {text : List ℕ} {M N : Notes} {o : Result (Option ℕ) ℕ} (readable : Readable text) (fresh : M ≡ no_notes) (B : ReadsBundle text (uncounted M) N o) where
  bundle-as : {a : Result (Option ℕ) ℕ} → o ≡ a → BundleAs text no_notes N a
  bundle-as u = (subst (ReadsBundle text no_notes N) u (subst (λ (K : Notes). ReadsBundle text (uncounted K) N o) fresh B)).says

  pub judge-departs : (names : List (List ℕ)) {j : ℕ} → o ≡ Err j → JudgedUnder names text (Err (refusal BadPath j))
  judge-departs names {j} u = refused-under names text refl (λ s. departs-first readable s j (bundle-as u))

  pub judge-over : (names : List (List ℕ)) {k : ℕ} → o ≡ Ok (Some k) → JudgedUnder names text (Err (refusal OverPathLimit k))
  judge-over names {k} u = let b = bundle-as u in refused-under names text refl (λ s. limit-first readable s (map (path_noted text) b.lines) k b.spelt (sym b.limit))

  pub judge-spelling : o ≡ Ok None → Spelling text N
  judge-spelling u =
      let b = bundle-as u in
      record {
        readable = readable;
        lines = b.lines;
        spelt = b.spelt;
        within = sym b.limit;
        ended = b.ended;
        noted = noted-lines (all-few text b.lines readable.short b.spelt (sym b.limit)) b.noted;
      }
