-- A text departs from a grammar at one place at most, and not at all if it is of the grammar. Where a machine spells what the grammar
-- does, and each state that it reaches can go on to an end, the text departs where the machine stops.
use Rattle.std.specs.Prelude.{false, List, [], ◌∷◌, ◌++◌, ◌≡◌, refl, ℕ, suc, ◌+◌, ◌≤◌, ◌<◌, length, take, drop}
use Rattle.std.proofs.Common.{append_assoc, sym, ap, subst, ◌∙◌, arith, length-append, take-append-drop, take_at, take-take}
use Rattle.std.proofs.Math.Option.{none, some}
use Rattle.text_laws.specs.Machines.{final, final-append, final-keeps, run-spells, Stopped, stops_at, stops-short as ends-short, run-departs, DeadState, dead-final, final-spells}
use Rattle.text_laws.specs.Tests.{never}
use Rattle.text_spec.specs.Machines.{Parsed, spells, departs, Machine, parse}
use Rattle.text_spec.specs.Texts.{Beginning, Departs, at_byte, stops-short}

module _ (Grammatical : List ℕ → Type 0) where
  -- what begins a beginning is one
  beginning-part : (u v : List ℕ) → Beginning Grammatical (u ++ v) → Beginning Grammatical u
  beginning-part u v (w, g) = (v ++ w, subst Grammatical (append_assoc u v w) g)

  pub beginning-take : (j : ℕ) (text : List ℕ) → Beginning Grammatical text → Beginning Grammatical (take j text)
  beginning-take j text b = beginning-part (take j text) (drop j text) (subst (Beginning Grammatical) (sym (take-append-drop j text)) b)

  beginning-earlier : (j k : ℕ) (text : List ℕ) → j ≤ k → Beginning Grammatical (take k text) → Beginning Grammatical (take j text)
  beginning-earlier j k text l b = subst (Beginning Grammatical) (take-take j k text l) (beginning-take j (take k text) b)

  departs-no-later : {text : List ℕ} {j k : ℕ} → Departs Grammatical text j → Departs Grammatical text k → j < k → ⊥
  departs-no-later {text} {j} {k} (at_byte l b n) (at_byte l₂ b₂ n₂) h = n (beginning-earlier (suc j) k text h b₂)
  departs-no-later {text} {j} (at_byte l b n) (stops-short e b₂ n₂) h = n (beginning-take (suc j) text b₂)
  departs-no-later (stops-short e b n) (at_byte l b₂ n₂) h = omega arith
  departs-no-later (stops-short e b n) (stops-short e₂ b₂ n₂) h = omega arith

  pub departs-once : {text : List ℕ} {j k : ℕ} → Departs Grammatical text j → Departs Grammatical text k → j ≡ k
  departs-once {j} {k} d e =
      let x : (j < k → ⊥) = departs-no-later d e in
      let y : (k < j → ⊥) = departs-no-later e d in
      omega arith

  pub departs-not : {text : List ℕ} {k : ℕ} → Departs Grammatical text k → Grammatical text → ⊥
  departs-not {text} {k} (at_byte l b n) g =
      n (drop (suc k) text, subst Grammatical (sym (take-append-drop (suc k) text)) g)
  departs-not (stops-short e b n) g = n g

-- The machine spells just what the grammar says, given as a relation.
pub record Recognises {State A : Type 0} (M : Machine State A) (Text : List ℕ → A → Type 0) : Type 0 where
  pub complete : (text : List ℕ) (a : A) → Text text a → parse M text ≡ spells a
  pub sound : (text : List ℕ) (a : A) → parse M text ≡ spells a → Text text a

-- a text that leads from a state at a place to an end that spells something
pub record Completion {State A : Type 0} (M : Machine State A) (q : State) (k : ℕ) : Type 0 where
  pub rest : List ℕ
  pub result : A
  pub ends : M.ends (final M q rest k) ≡ some result

pub completion-after : {State A : Type 0} {M : Machine State A} {q r : State} {k j : ℕ} (u : List ℕ) → final M q u k ≡ r → j ≡ k + length u → Completion M r j → Completion M q k
completion-after {State} {A} {M} {q} {r} {k} {j} u e p c =
    record {
      rest = u ++ c.rest;
      result = c.result;
      ends = ap M.ends (final-append M q u c.rest k ∙ ap (λ (i : ℕ). final M (final M q u k) c.rest i) (sym p) ∙ ap (λ (s : State). final M s c.rest j) e) ∙ c.ends;
    }

-- each state that is reached has one, unless it is dead
pub record Completable {State A : Type 0} (M : Machine State A) (Reached : State → Type 0) : Type 0 where
  pub starts : Reached M.start
  pub steps : (q : State) (k b : ℕ) → Reached q → Reached (M.step q k b)
  pub completes : (q : State) (k : ℕ) → Reached q → M.is_dead q ≡ false → Completion M q k

module _ {State A : Type 0} {M : Machine State A} {dead : State} {Text : List ℕ → A → Type 0} {Reached : State → Type 0}
    (D : DeadState M dead) (R : Recognises M Text) (C : Completable M Reached) where
  abbrev Grammatical : List ℕ → Type 0
  Grammatical text = (a : A) × Text text a

  live-begins : (u : List ℕ) → M.is_dead (final M M.start u 0) ≡ false → Beginning Grammatical u
  live-begins u e =
      let c = C.completes (final M M.start u 0) (0 + length u) (final-keeps M Reached C.steps M.start u 0 C.starts) e in
      let f : M.ends (final M M.start (u ++ c.rest) 0) ≡ some c.result = ap M.ends (final-append M M.start u c.rest 0) ∙ c.ends in
      (c.rest, (c.result, R.sound (u ++ c.rest) c.result (final-spells D M.start (u ++ c.rest) 0 f)))

  dead-begins-nothing : (u : List ℕ) → final M M.start u 0 ≡ dead → Beginning Grammatical u → ⊥
  dead-begins-nothing u e (v, (a, g)) =
      let f : M.ends (final M M.start (u ++ v) 0) ≡ some a = run-spells M M.start (u ++ v) 0 (R.complete (u ++ v) a g) in
      let h : M.ends (final M M.start (u ++ v) 0) ≡ none =
      ap M.ends (final-append M M.start u v 0 ∙ ap (λ (q : State). final M q v (0 + length u)) e ∙ dead-final D v (0 + length u)) ∙ D.silent in
      never (cc)

  -- Where a text is turned back by the machine it departs from the grammar, ..
  pub parse-departs : (text : List ℕ) (k : ℕ) → parse M text ≡ departs k → Departs Grammatical text k
  parse-departs text k e = place (run-departs M M.start text 0 k D.begins e)
    where
      place : Stopped M M.start text 0 k → Departs Grammatical text k
      place (stops_at u b v j p l d) =
          let t : take k text ≡ u = ap (take k) j ∙ take_at u (b ∷ v) k (omega arith) in
          let t' : take (suc k) text ≡ u ++ (b ∷ []) =
          ap (take (suc k)) (j ∙ sym (append_assoc u (b ∷ []) v)) ∙ take_at (u ++ (b ∷ [])) v (suc k) (omega (arith, length-append u (b ∷ []))) in
          let s : final M M.start (u ++ (b ∷ [])) 0 ≡ dead =
          final-append M M.start u (b ∷ []) 0 ∙ ap (λ (i : ℕ). M.step (final M M.start u 0) i b) (sym p) ∙ D.only (M.step (final M M.start u 0) k b) d in
          at_byte (omega (arith, ap length j, length-append u (b ∷ v))) (rw t (live-begins u l)) (λ g. dead-begins-nothing (u ++ (b ∷ [])) s (rw t' at g))
      place (ends-short p l d) =
          stops-short (omega arith) (live-begins text l) (λ g.
          let f : parse M text ≡ spells g.0 = R.complete text g.0 g.1 in
          let h : departs k ≡ spells g.0 = sym e ∙ f in
          never (cc))

  -- .. and where it departs it is turned back.
  pub departs-parse : (text : List ℕ) (k : ℕ) → Departs Grammatical text k → parse M text ≡ departs k
  departs-parse text k d = by (parse M text) refl
    where
      by : (x : Parsed A) → parse M text ≡ x → x ≡ departs k
      by (spells a) e = absurd (departs-not Grammatical d (a, R.sound text a e))
      by (departs j) e = ap {B = Parsed A} departs (departs-once Grammatical (parse-departs text j e) d)
