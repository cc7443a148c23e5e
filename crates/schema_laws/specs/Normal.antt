-- The normal form of a schema text: it leads the machine where the text does, and is its own normal form.
use Rattle.std.specs.Prelude.{Bool, true, false, cond, not, ◌&&◌, ◌||◌, ◌⊎◌, ◌≡◌, refl, ℕ, zero, suc, ◌≤◌, T, eqb, ltb, length}
use mathlib.Core.List.Memᴰ.{cases_cons}
use mathlib.Core.List.Memᴰ.{head as here}
use mathlib.Core.List.Memᴰ.{tail as there}
use mathlib.Core.List.{List, [], ◌∷◌, Memᴰ as In}
use Rattle.std.proofs.Common.{inl, inr, ⊎_elim, sym, ap, subst, ◌∙◌, arith, eqb→eq}
use Rattle.schema_laws.specs.Places.{goes, astray}
use Rattle.schema_laws.specs.Runs.{by-test}
use Rattle.schema_spec.specs.Declarations.{Use, Declaration, empty_keyword, pcdata_keyword, Separator, unparted, by_bar, by_comma}
use Rattle.schema_spec.specs.Machine.{Frame, fresh, holding, Opening, Head, State, dead, between, in_keyword, after_keyword, before_name, in_name, before_content, in_empty, after_open, in_pcdata, after_pcdata, expecting, in_use, closed, past, after_content, declared, closing, join, separated, following, indicating, beginning, headed, matching, step}
use Rattle.schema_spec.specs.Models.{Particle, named, Content, empty, children}
use Rattle.schema_spec.specs.Records.{normal_from, normal}
use Rattle.text_laws.specs.Bytes.{each-blank}
use Rattle.text_laws.specs.Tests.{or_left, or_cases, and_cases, not-elim, decided, cond-true, cond-false}
use Rattle.text_spec.specs.Bytes.{is_blank, starts_name, continues_name}
use Rattle.text_spec.specs.Limits.{max_name_bytes, max_groups}
use Rattle.text_spec.specs.Lists.{all_of}

-- where no blank is due, it does not matter whether the byte before was one
pub no_run : (r s : Bool) (bs : List ℕ) → normal_from zero r bs ≡ normal_from zero s bs
no_run r s [] = refl
no_run r s (b ∷ bs) = refl

-- what is written of one byte, by its kind
module _ (b : ℕ) (bs : List ℕ) where
  pub blank-dropped : (r : Bool) → T (is_blank b) → normal_from zero r (b ∷ bs) ≡ normal_from zero true bs
  blank-dropped r t = cond-true (is_blank b) _ _ t

  pub byte-kept : (r : Bool) → (T (is_blank b) → ⊥) → (b ≡ 0x3C → ⊥) → normal_from zero r (b ∷ bs) ≡ b ∷ normal_from zero false bs
  byte-kept r n m = cond-false (is_blank b) _ _ n ∙ cond-false (eqb b 0x3C) _ _ (λ t. m (eqb→eq b 0x3C t))

  opening-kept : (r : Bool) → b ≡ 0x3C → normal_from zero r (b ∷ bs) ≡ b ∷ normal_from 2 false bs
  opening-kept r e = subst (λ (c : ℕ). normal_from zero r (c ∷ bs) ≡ c ∷ normal_from 2 false bs) (sym e) refl

  pub run-dropped : (d : ℕ) → T (is_blank b) → normal_from (suc d) true (b ∷ bs) ≡ normal_from (suc d) true bs
  run-dropped d t = cond-true (is_blank b) _ _ t

  pub run_ends : (d : ℕ) → (T (is_blank b) → ⊥) → normal_from (suc d) true (b ∷ bs) ≡ b ∷ normal_from (suc d) false bs
  run_ends d n = cond-false (is_blank b) _ _ n

  pub blank-written : (d : ℕ) → T (is_blank b) → normal_from (suc d) false (b ∷ bs) ≡ 0x20 ∷ normal_from d true bs
  blank-written d t = cond-true (is_blank b) _ _ t

  pub byte-before : (d : ℕ) → (T (is_blank b) → ⊥) → normal_from (suc d) false (b ∷ bs) ≡ b ∷ normal_from (suc d) false bs
  byte-before d n = cond-false (is_blank b) _ _ n

-- a normal form is its own
abbrev Kept : ℕ → Bool → List ℕ → Type 0
Kept d r bs = normal_from d r (normal_from d r bs) ≡ normal_from d r bs

by_written : (d : ℕ) (r : Bool) {u v : List ℕ} → u ≡ v → normal_from d r v ≡ v → normal_from d r u ≡ u
by_written d r e f = ap (normal_from d r) e ∙ (f ∙ sym e)

normal-keeps : (d : ℕ) (r : Bool) (bs : List ℕ) → Kept d r bs
normal-keeps d r [] = refl
normal-keeps zero r (b ∷ bs) = pick (decided (is_blank b)) (decided (eqb b 0x3C)) (normal-keeps zero true bs) (normal-keeps 2 false bs) (normal-keeps zero false bs)
  where
    pick : T (is_blank b) ⊎ (T (is_blank b) → ⊥) → T (eqb b 0x3C) ⊎ (T (eqb b 0x3C) → ⊥) → Kept zero true bs → Kept 2 false bs → Kept zero false bs → Kept zero r (b ∷ bs)
    pick (inl t) c x y z = by_written zero r (blank-dropped b bs r t) (no_run r true (normal_from zero true bs) ∙ x)
    pick (inr n) (inl t) x y z =
        let e = eqb→eq b 0x3C t in
        by_written zero r (opening-kept b bs r e) (opening-kept b (normal_from 2 false bs) r e ∙ ap {B = List ℕ} (λ l. b ∷ l) y)
    pick (inr n) (inr m) x y z =
        let m' : b ≡ 0x3C → ⊥ = λ e. m (subst (λ (c : ℕ). T (eqb c 0x3C)) (sym e) tt) in
        by_written zero r (byte-kept b bs r n m') (byte-kept b (normal_from zero false bs) r n m' ∙ ap {B = List ℕ} (λ l. b ∷ l) z)
normal-keeps (suc d) true (b ∷ bs) = pick (decided (is_blank b)) (normal-keeps (suc d) true bs) (normal-keeps (suc d) false bs)
  where
    pick : T (is_blank b) ⊎ (T (is_blank b) → ⊥) → Kept (suc d) true bs → Kept (suc d) false bs → Kept (suc d) true (b ∷ bs)
    pick (inl t) x y = by_written (suc d) true (run-dropped b bs d t) x
    pick (inr n) x y = by_written (suc d) true (run_ends b bs d n) (run_ends b (normal_from (suc d) false bs) d n ∙ ap {B = List ℕ} (λ l. b ∷ l) y)
normal-keeps (suc d) false (b ∷ bs) = pick (decided (is_blank b)) (normal-keeps d true bs) (normal-keeps (suc d) false bs)
  where
    pick : T (is_blank b) ⊎ (T (is_blank b) → ⊥) → Kept d true bs → Kept (suc d) false bs → Kept (suc d) false (b ∷ bs)
    pick (inl t) x y = by_written (suc d) false (blank-written b bs d t) (ap {B = List ℕ} (λ l. 0x20 ∷ l) x)
    pick (inr n) x y = by_written (suc d) false (byte-before b bs d n) (byte-before b (normal_from (suc d) false bs) d n ∙ ap {B = List ℕ} (λ l. b ∷ l) y)

-- the bytes of a keyword: no blank and no `<`
abbrev plain : List ℕ → Bool
plain w = all_of (λ b. not (is_blank b) && not (eqb b 0x3C)) w

-- no blank is due in these states
abbrev Free : State → Type 0
Free dead = Unit
Free (between ds) = Unit
Free (in_keyword w o) = ⊥
Free (after_keyword o) = ⊥
Free (before_name o) = ⊥
Free (in_name j n o) = ⊥
Free (before_content h) = Unit
Free (in_empty w h) = T (plain w)
Free (after_open h) = Unit
Free (in_pcdata w h) = T (plain w)
Free (after_pcdata h) = Unit
Free (expecting f fs h) = Unit
Free (in_use j n f fs h) = Unit
Free (closed p fs h) = Unit
Free (past p fs h) = Unit
Free (after_content c h) = Unit

-- `Follows d r q q'`: where the text has led to q and its normal form so far to q', with d blanks due and r whether the byte before was
-- one. The two states are the same, or a blank that was left out has only closed off what q' can still go on with.
data Follows : ℕ → Bool → State → State → Type 0 where
  lost : {d : ℕ} {r : Bool} {q : State} → Follows d r dead q
  in-keyword : {w : List ℕ} {o : Opening} → T (plain w) → Follows 2 false (in_keyword w o) (in_keyword w o)
  after-keyword : {o : Opening} → Follows 2 false (after_keyword o) (after_keyword o)
  before-name : {o : Opening} → Follows 1 true (before_name o) (before_name o)
  in-name : {j : ℕ} {n : List ℕ} {o : Opening} → Follows 1 false (in_name j n o) (in_name j n o)
  free : {r : Bool} {q : State} → Free q → Follows 0 r q q
  after-use : {r : Bool} {j : ℕ} {n : List ℕ} {f : Frame} {fs : List Frame} {h : Head} → Follows 0 r (past (named (record { place = j; name = n })) (f ∷ fs) h) (in_use j n f fs h)
  after-group : {r : Bool} {p : Particle Use} {f : Frame} {fs : List Frame} {h : Head} → Follows 0 r (past p (f ∷ fs) h) (closed p (f ∷ fs) h)
  after-last-group : {r : Bool} {p : Particle Use} {h : Head} → Follows 0 r (after_content (children p) h) (closed p [] h)
  after_last : {r : Bool} {p : Particle Use} {h : Head} → Follows 0 r (after_content (children p) h) (past p [] h)

-- after one byte more the normal form follows still
data Next (d : ℕ) (r : Bool) (q' : State) (b : ℕ) (q : State) : Type 0 where
  onward : (e : ℕ) (s : Bool) (p : State) → Follows e s q p → ((bs : List ℕ) → goes q' (normal_from d r (b ∷ bs)) ≡ goes p (normal_from e s bs)) → Next d r q' b q

-- where no blank is due: a blank is left out, `<` opens a declaration, and every other byte is kept
next-free : (r : Bool) (q' : State) (b : ℕ) (q : State) → (T (is_blank b) → Follows 0 true q q') → (b ≡ 0x3C → Follows 2 false q (step q' 0 b))
    → ((T (is_blank b) → ⊥) → (b ≡ 0x3C → ⊥) → Follows 0 false q (step q' 0 b)) → Next 0 r q' b q
next-free r q' b q x y z = pick (decided (is_blank b)) (decided (eqb b 0x3C))
  where
    pick : T (is_blank b) ⊎ (T (is_blank b) → ⊥) → T (eqb b 0x3C) ⊎ (T (eqb b 0x3C) → ⊥) → Next 0 r q' b q
    pick (inl t) c = onward 0 true q' (x t) (λ bs. ap (goes q') (blank-dropped b bs r t))
    pick (inr n) (inl t) =
        let e = eqb→eq b 0x3C t in
        onward 2 false (step q' 0 b) (y e) (λ bs. ap (goes q') (opening-kept b bs r e))
    pick (inr n) (inr m) =
        let m' : b ≡ 0x3C → ⊥ = λ e. m (subst (λ (c : ℕ). T (eqb c 0x3C)) (sym e) tt) in
        onward 0 false (step q' 0 b) (z n m') (λ bs. ap (goes q') (byte-kept b bs r n m'))

-- where a blank is due: one is written as a space, or the run of blanks goes on or ends
next-due : (d : ℕ) (q' : State) (b : ℕ) (q : State) → (T (is_blank b) → Follows d true q (step q' 0 0x20)) → ((T (is_blank b) → ⊥) → Follows (suc d) false q (step q' 0 b))
    → Next (suc d) false q' b q
next-due d q' b q x y = pick (decided (is_blank b))
  where
    pick : T (is_blank b) ⊎ (T (is_blank b) → ⊥) → Next (suc d) false q' b q
    pick (inl t) = onward d true (step q' 0 0x20) (x t) (λ bs. ap (goes q') (blank-written b bs d t))
    pick (inr n) = onward (suc d) false (step q' 0 b) (y n) (λ bs. ap (goes q') (byte-before b bs d n))

next-run : (d : ℕ) (q' : State) (b : ℕ) (q : State) → (T (is_blank b) → Follows (suc d) true q q') → ((T (is_blank b) → ⊥) → Follows (suc d) false q (step q' 0 b))
    → Next (suc d) true q' b q
next-run d q' b q x y = pick (decided (is_blank b))
  where
    pick : T (is_blank b) ⊎ (T (is_blank b) → ⊥) → Next (suc d) true q' b q
    pick (inl t) = onward (suc d) true q' (x t) (λ bs. ap (goes q') (run-dropped b bs d t))
    pick (inr n) = onward (suc d) false (step q' 0 b) (y n) (λ bs. ap (goes q') (run_ends b bs d n))

next-lost : (d : ℕ) (r : Bool) (q' : State) (b : ℕ) → Next d r q' b dead
next-lost zero r q' b = next-free r q' b dead (λ t. lost) (λ e. lost) (λ n m. lost)
next-lost (suc d) true q' b = next-run d q' b dead (λ t. lost) (λ n. lost)
next-lost (suc d) false q' b = next-due d q' b dead (λ t. lost) (λ n. lost)

-- a property of a choice whose test fails
by-fail : (P : State → Type 0) (b : Bool) (x y : State) → (T b → ⊥) → P y → P (cond b x y)
by-fail P true x y n h = absurd (n tt)
by-fail P false x y n h = h

-- the rest of a keyword: plain itself, and no blank or `<` goes on with it
by-plain : (P : State → Type 0) (w : List ℕ) (b : ℕ) (whole : State) (part : List ℕ → State) → T (plain w) → P dead → P whole → ((v : List ℕ) → T (plain v) → P (part v))
    → P (matching w b whole part)
by-plain P [] b whole part t d h k = d
by-plain P (c ∷ []) b whole part t d h k = by-test P (eqb b c) whole dead (λ u. h) d
by-plain P (c ∷ (x ∷ w)) b whole part t d h k =
    by-test P (eqb b c) (part (x ∷ w)) dead (λ u. k (x ∷ w) (and_cases (not (is_blank c) && not (eqb c 0x3C)) (plain (x ∷ w)) t).1) d

no-keyword : (w : List ℕ) (b : ℕ) (whole : State) (part : List ℕ → State) → T (plain w) → T (is_blank b || eqb b 0x3C) → matching w b whole part ≡ dead
no-keyword [] b whole part t u = refl
no-keyword (c ∷ w) b whole part t u = pick w
  where
    differs : T (eqb b c) → ⊥
    differs e =
        let p = (and_cases (not (is_blank c) && not (eqb c 0x3C)) (plain w) t).0 in
        let k = and_cases (not (is_blank c)) (not (eqb c 0x3C)) p in
        let v = subst (λ (x : ℕ). T (is_blank x || eqb x 0x3C)) (eqb→eq b c e) u in
        ⊎_elim (not-elim (is_blank c) k.0) (not-elim (eqb c 0x3C) k.1) (or_cases (is_blank c) (eqb c 0x3C) v)

    pick : (v : List ℕ) → matching (c ∷ v) b whole part ≡ dead
    pick [] = cond-false (eqb b c) whole dead differs
    pick (x ∷ v) = cond-false (eqb b c) (part (x ∷ v)) dead differs

-- no blank becomes due by a byte that is no blank and opens no declaration
free-closing : (c : Content Use) (h : Head) (b : ℕ) → Free (closing c h b)
free-closing c h b = by-test Free (is_blank b) _ _ (λ t. tt) (by-test Free (eqb b 0x3E) _ _ (λ t. tt) tt)

free-separated : (s : Separator) (f : Frame) (p : Particle Use) (fs : List Frame) (h : Head) → Free (separated s f p fs h)
free-separated s fresh p fs h = tt
free-separated by_bar (holding by_bar q) p fs h = tt
free-separated by_comma (holding by_comma q) p fs h = tt
free-separated by_bar (holding by_comma q) p fs h = tt
free-separated by_comma (holding by_bar q) p fs h = tt
free-separated by_bar (holding unparted q) p fs h = tt
free-separated by_comma (holding unparted q) p fs h = tt
free-separated unparted (holding s q) p fs h = tt

free-following : (p : Particle Use) (fs : List Frame) (h : Head) (b : ℕ) → Free (following p fs h b)
free-following p [] h b = free-closing (children p) h b
free-following p (f ∷ fs) h b =
    by-test Free (is_blank b) _ _ (λ t. tt)
    (by-test Free (eqb b 0x29) _ _ (λ t. tt)
    (by-test Free (eqb b 0x7C) _ _ (λ t. free-separated by_bar f p fs h) (by-test Free (eqb b 0x2C) _ _ (λ t. free-separated by_comma f p fs h) tt)))

free-indicating : (p : Particle Use) (fs : List Frame) (h : Head) (b : ℕ) → Free (indicating p fs h b)
free-indicating p fs h b =
    by-test Free (eqb b 0x3F) _ _ (λ t. tt) (by-test Free (eqb b 0x2A) _ _ (λ t. tt) (by-test Free (eqb b 0x2B) _ _ (λ t. tt) (free-following p fs h b)))

free-beginning : (f : Frame) (fs : List Frame) (h : Head) (k b : ℕ) → Free (beginning f fs h k b)
free-beginning f fs h k b =
    by-test Free (is_blank b) _ _ (λ t. tt)
    (by-test Free (starts_name b) _ _ (λ t. tt) (by-test Free (eqb b 0x28 && ltb (suc (length fs)) max_groups) _ _ (λ t. tt) tt))

free_step : (q : State) (b : ℕ) → (b ≡ 0x3C → ⊥) → Free q → Free (step q 0 b)
unfolding step
free_step dead b m g = tt
free_step (between ds) b m g = by-test Free (is_blank b) _ _ (λ t. tt) (by-fail Free (eqb b 0x3C) _ _ (λ t. m (eqb→eq b 0x3C t)) tt)
free_step (before_content h) b m g =
    by-test Free (is_blank b) _ _ (λ t. tt)
    (by-test Free (eqb b 0x28) _ _ (λ t. tt) (by-plain Free empty_keyword b dead (λ w. in_empty w h) tt tt tt (λ v t. t)))
free_step (in_empty w h) b m g = by-plain Free w b (after_content empty h) (λ v. in_empty v h) g tt tt (λ v t. t)
free_step (after_open h) b m g =
    by-test Free (is_blank b) _ _ (λ t. tt)
    (by-test Free (eqb b 0x23) _ _ (λ t. by-plain Free pcdata_keyword b dead (λ w. in_pcdata w h) tt tt tt (λ v t. t)) (free-beginning fresh [] h 0 b))
free_step (in_pcdata w h) b m g = by-plain Free w b (after_pcdata h) (λ v. in_pcdata v h) g tt tt (λ v t. t)
free_step (after_pcdata h) b m g = by-test Free (is_blank b) _ _ (λ t. tt) (by-test Free (eqb b 0x29) _ _ (λ t. tt) tt)
free_step (expecting f fs h) b m g = free-beginning f fs h 0 b
free_step (in_use j n f fs h) b m g =
    by-test Free (continues_name b) _ _ (λ t. by-test Free (ltb (length n) max_name_bytes) _ _ (λ u. tt) tt)
    (free-indicating (named (record { place = j; name = n })) (f ∷ fs) h b)
free_step (closed p fs h) b m g = free-indicating p fs h b
free_step (past p fs h) b m g = free-following p fs h b
free_step (after_content c h) b m g = free-closing c h b
free_step (in_keyword w o) b m g = absurd g
free_step (after_keyword o) b m g = absurd g
free_step (before_name o) b m g = absurd g
free_step (in_name j n o) b m g = absurd g

-- a state in which no blank is due, but for one between declarations: `<` is not taken
next-same : (r : Bool) (q : State) (b : ℕ) → Free q → (T (is_blank b) → Follows 0 true (step q 0 b) q) → step q 0 0x3C ≡ dead → Next 0 r q b (step q 0 b)
next-same r q b g x e =
    next-free r q b (step q 0 b) x
    (λ i. subst (λ (c : ℕ). Follows 2 false (step q 0 c) (step q 0 b)) (sym i) (subst (λ (z : State). Follows 2 false z (step q 0 b)) (sym e) lost))
    (λ n m. free (free_step q b m g))

-- blanks after which the state is the same
stays : (q : State) → Free q → step q 0 32 ≡ q → step q 0 9 ≡ q → step q 0 10 ≡ q → (b : ℕ) → T (is_blank b) → Follows 0 true (step q 0 b) q
stays q g x y z b t = subst (λ (p : State). Follows 0 true p q) (sym (each-blank (λ c. step q 0 c ≡ q) x y z b t)) (free g)

next-after : (q : State) (r : Bool) (b : ℕ) → Free q → Next 0 r q b (step q 0 b)
unfolding step
next-after dead r b g = next-lost 0 r dead b
next-after (between ds) r b g =
    next-free r (between ds) b (step (between ds) 0 b) (stays (between ds) tt refl refl refl b)
    (λ i. subst (λ (c : ℕ). Follows 2 false (step (between ds) 0 c) (step (between ds) 0 c)) (sym i) (in-keyword tt))
    (λ n m. free (free_step (between ds) b m tt))
next-after (before_content h) r b g = next-same r (before_content h) b g (stays (before_content h) g refl refl refl b) refl
next-after (in_empty w h) r b g =
    next-same r (in_empty w h) b g
    (λ t. subst (λ (z : State). Follows 0 true z (in_empty w h)) (sym (no-keyword w b (after_content empty h) (λ v. in_empty v h) g (or_left (is_blank b) (eqb b 0x3C) t))) lost)
    (no-keyword w 0x3C (after_content empty h) (λ v. in_empty v h) g tt)
next-after (after_open h) r b g = next-same r (after_open h) b g (stays (after_open h) g refl refl refl b) refl
next-after (in_pcdata w h) r b g =
    next-same r (in_pcdata w h) b g
    (λ t. subst (λ (z : State). Follows 0 true z (in_pcdata w h)) (sym (no-keyword w b (after_pcdata h) (λ v. in_pcdata v h) g (or_left (is_blank b) (eqb b 0x3C) t))) lost)
    (no-keyword w 0x3C (after_pcdata h) (λ v. in_pcdata v h) g tt)
next-after (after_pcdata h) r b g = next-same r (after_pcdata h) b g (stays (after_pcdata h) g refl refl refl b) refl
next-after (expecting f fs h) r b g = next-same r (expecting f fs h) b g (stays (expecting f fs h) g refl refl refl b) refl
next-after (in_use j n f fs h) r b g =
    next-same r (in_use j n f fs h) b g
    (each-blank (λ c. Follows 0 true (step (in_use j n f fs h) 0 c) (in_use j n f fs h)) after-use after-use after-use b) refl
next-after (closed p [] h) r b g =
    next-same r (closed p [] h) b g
    (each-blank (λ c. Follows 0 true (step (closed p [] h) 0 c) (closed p [] h)) after-last-group after-last-group after-last-group b) refl
next-after (closed p (f ∷ fs) h) r b g =
    next-same r (closed p (f ∷ fs) h) b g
    (each-blank (λ c. Follows 0 true (step (closed p (f ∷ fs) h) 0 c) (closed p (f ∷ fs) h)) after-group after-group after-group b) refl
next-after (past p [] h) r b g =
    next-same r (past p [] h) b g (each-blank (λ c. Follows 0 true (step (past p [] h) 0 c) (past p [] h)) after_last after_last after_last b) refl
next-after (past p (f ∷ fs) h) r b g = next-same r (past p (f ∷ fs) h) b g (stays (past p (f ∷ fs) h) g refl refl refl b) refl
next-after (after_content c h) r b g = next-same r (after_content c h) b g (stays (after_content c h) g refl refl refl b) refl
next-after (in_keyword w o) r b g = absurd g
next-after (after_keyword o) r b g = absurd g
next-after (before_name o) r b g = absurd g
next-after (in_name j n o) r b g = absurd g

-- a byte after a particle, no blank: what it leads to
by-following : (P : ℕ → State → Type 0) (p : Particle Use) (f : Frame) (fs : List Frame) (h : Head) (b : ℕ) → (T (is_blank b) → ⊥) → P 0x29 (closed (join f p) fs h)
    → P 0x7C (separated by_bar f p fs h) → P 0x2C (separated by_comma f p fs h) → P b dead → P b (following p (f ∷ fs) h b)
by-following P p f fs h b n x y z d =
    by-fail (P b) (is_blank b) _ _ n
    (by-test (P b) (eqb b 0x29) _ _ (λ t. subst (λ (c : ℕ). P c (closed (join f p) fs h)) (sym (eqb→eq b 0x29 t)) x)
    (by-test (P b) (eqb b 0x7C) _ _ (λ t. subst (λ (c : ℕ). P c (separated by_bar f p fs h)) (sym (eqb→eq b 0x7C t)) y)
    (by-test (P b) (eqb b 0x2C) _ _ (λ t. subst (λ (c : ℕ). P c (separated by_comma f p fs h)) (sym (eqb→eq b 0x2C t)) z) d)))

by-closing : (P : ℕ → State → Type 0) (c : Content Use) (h : Head) (b : ℕ) → (T (is_blank b) → ⊥) → P 0x3E (between (declared c h ∷ h.opening.done)) → P b dead → P b (closing c h b)
by-closing P c h b n x d =
    by-fail (P b) (is_blank b) _ _ n
    (by-test (P b) (eqb b 0x3E) _ _ (λ t. subst (λ (z : ℕ). P z (between (declared c h ∷ h.opening.done))) (sym (eqb→eq b 0x3E t)) x) d)

next : {d : ℕ} {r : Bool} {q q' : State} → Follows d r q q' → (b : ℕ) → Next d r q' b (step q 0 b)
unfolding step
next {q' = q'} (lost {d = d} {r = r}) b = next-lost d r q' b
next (in-keyword {w = w} {o = o} g) b =
    next-due 1 (in_keyword w o) b (step (in_keyword w o) 0 b)
    (λ t. subst (λ (z : State). Follows 1 true z (step (in_keyword w o) 0 0x20)) (sym (no-keyword w b (after_keyword o) (λ v. in_keyword v o) g (or_left (is_blank b) (eqb b 0x3C) t))) lost)
    (λ n. by-plain (λ z. Follows 2 false z z) w b (after_keyword o) (λ v. in_keyword v o) g lost after-keyword (λ v t. in-keyword t))
next (after-keyword {o = o}) b =
    next-due 1 (after_keyword o) b (step (after_keyword o) 0 b)
    (each-blank (λ c. Follows 1 true (step (after_keyword o) 0 c) (before_name o)) before-name before-name before-name b)
    (λ n. by-fail (λ z. Follows 2 false z z) (is_blank b) _ _ n lost)
next (before-name {o = o}) b =
    next-run 0 (before_name o) b (step (before_name o) 0 b)
    (each-blank (λ c. Follows 1 true (step (before_name o) 0 c) (before_name o)) before-name before-name before-name b)
    (λ n. by-fail (λ z. Follows 1 false z z) (is_blank b) _ _ n (by-test (λ z. Follows 1 false z z) (starts_name b) _ _ (λ t. in-name) lost))
next (in-name {j = j} {n = m} {o = o}) b =
    next-due 0 (in_name j m o) b (step (in_name j m o) 0 b)
    (each-blank (λ c. Follows 0 true (step (in_name j m o) 0 c) (before_content (headed j m o))) (free tt) (free tt) (free tt) b)
    (λ n. by-test (λ z. Follows 1 false z z) (continues_name b) _ _ (λ t. by-test (λ z. Follows 1 false z z) (ltb (length m) max_name_bytes) _ _ (λ u. in-name) lost)
    (by-fail (λ z. Follows 1 false z z) (is_blank b) _ _ n lost))
next (free {r = r} {q = q} g) b = next-after q r b g
next (after-use {r = r} {j = j} {n = m} {f = f} {fs = fs} {h = h}) b =
    let p : Particle Use = named (record { place = j; name = m }) in
    next-free r (in_use j m f fs h) b (step (past p (f ∷ fs) h) 0 b)
    (each-blank (λ c. Follows 0 true (step (past p (f ∷ fs) h) 0 c) (in_use j m f fs h)) after-use after-use after-use b)
    (λ i. subst (λ (c : ℕ). Follows 2 false (step (past p (f ∷ fs) h) 0 c) (step (in_use j m f fs h) 0 b)) (sym i) lost)
    (λ n k. by-following (λ c z. Follows 0 false z (step (in_use j m f fs h) 0 c)) p f fs h b n (free tt) (free (free-separated by_bar f p fs h)) (free (free-separated by_comma f p fs h)) lost)
next (after-group {r = r} {p = p} {f = f} {fs = fs} {h = h}) b =
    next-free r (closed p (f ∷ fs) h) b (step (past p (f ∷ fs) h) 0 b)
    (each-blank (λ c. Follows 0 true (step (past p (f ∷ fs) h) 0 c) (closed p (f ∷ fs) h)) after-group after-group after-group b)
    (λ i. subst (λ (c : ℕ). Follows 2 false (step (past p (f ∷ fs) h) 0 c) (step (closed p (f ∷ fs) h) 0 b)) (sym i) lost)
    (λ n k. by-following (λ c z. Follows 0 false z (step (closed p (f ∷ fs) h) 0 c)) p f fs h b n (free tt) (free (free-separated by_bar f p fs h)) (free (free-separated by_comma f p fs h)) lost)
next (after-last-group {r = r} {p = p} {h = h}) b =
    next-free r (closed p [] h) b (step (after_content (children p) h) 0 b)
    (each-blank (λ c. Follows 0 true (step (after_content (children p) h) 0 c) (closed p [] h)) after-last-group after-last-group after-last-group b)
    (λ i. subst (λ (c : ℕ). Follows 2 false (step (after_content (children p) h) 0 c) (step (closed p [] h) 0 b)) (sym i) lost)
    (λ n k. by-closing (λ c z. Follows 0 false z (step (closed p [] h) 0 c)) (children p) h b n (free tt) lost)
next (after_last {r = r} {p = p} {h = h}) b =
    next-free r (past p [] h) b (step (after_content (children p) h) 0 b)
    (each-blank (λ c. Follows 0 true (step (after_content (children p) h) 0 c) (past p [] h)) after_last after_last after_last b)
    (λ i. subst (λ (c : ℕ). Follows 2 false (step (after_content (children p) h) 0 c) (step (past p [] h) 0 b)) (sym i) lost)
    (λ n k. by-closing (λ c z. Follows 0 false z (step (past p [] h) 0 c)) (children p) h b n (free tt) lost)

-- at the end of a text
follows-end : {d : ℕ} {r : Bool} {q q' : State} {ds : List Declaration} → Follows d r q q' → q ≡ between ds → q' ≡ between ds
follows-end lost e = astray dead refl e
follows-end (in-keyword {w = w} {o = o} g) e = astray (in_keyword w o) refl e
follows-end (after-keyword {o = o}) e = astray (after_keyword o) refl e
follows-end (before-name {o = o}) e = astray (before_name o) refl e
follows-end (in-name {j = j} {n = n} {o = o}) e = astray (in_name j n o) refl e
follows-end (free g) e = e
follows-end (after-use {j = j} {n = n} {f = f} {fs = fs} {h = h}) e = astray (past (named (record { place = j; name = n })) (f ∷ fs) h) refl e
follows-end (after-group {p = p} {f = f} {fs = fs} {h = h}) e = astray (past p (f ∷ fs) h) refl e
follows-end (after-last-group {p = p} {h = h}) e = astray (after_content (children p) h) refl e
follows-end (after_last {p = p} {h = h}) e = astray (after_content (children p) h) refl e

follows-goes : {d : ℕ} {r : Bool} {q q' : State} {ds : List Declaration} → Follows d r q q' → (bs : List ℕ) → goes q bs ≡ between ds → goes q' (normal_from d r bs) ≡ between ds
follows-goes f [] e = follows-end f e
follows-goes {d = d} {ds = ds} f (b ∷ bs) e = elim (next f b) [ onward c s p g h ↦ h bs ∙ follows-goes {d = c} g bs e ]

-- the normal form leads where the text does
pub normal-goes : (text : List ℕ) {ds : List Declaration} → goes (between []) text ≡ between ds → goes (between []) (normal text) ≡ between ds
unfolding normal
normal-goes text e = follows-goes (free tt) text e

pub normal-twice : (text : List ℕ) → normal (normal text) ≡ normal text
unfolding normal
normal-twice text = normal-keeps 0 false text

-- a byte is left out, kept, or written as a space
data Written (d : ℕ) (r : Bool) (b : ℕ) (bs : List ℕ) : Type 0 where
  left_out : (e : ℕ) (s : Bool) → normal_from d r (b ∷ bs) ≡ normal_from e s bs → Written d r b bs
  put : (c e : ℕ) (s : Bool) → (c ≡ b) ⊎ (c ≡ 0x20) → normal_from d r (b ∷ bs) ≡ c ∷ normal_from e s bs → Written d r b bs

written : (d : ℕ) (r : Bool) (b : ℕ) (bs : List ℕ) → Written d r b bs
written zero r b bs = pick (decided (is_blank b)) (decided (eqb b 0x3C))
  where
    pick : T (is_blank b) ⊎ (T (is_blank b) → ⊥) → T (eqb b 0x3C) ⊎ (T (eqb b 0x3C) → ⊥) → Written zero r b bs
    pick (inl t) c = left_out 0 true (blank-dropped b bs r t)
    pick (inr n) (inl t) = put b 2 false (inl refl) (opening-kept b bs r (eqb→eq b 0x3C t))
    pick (inr n) (inr m) = put b 0 false (inl refl) (byte-kept b bs r n (λ e. m (subst (λ (c : ℕ). T (eqb c 0x3C)) (sym e) tt)))
written (suc d) true b bs =
    ⊎_elim (λ t. left_out (suc d) true (run-dropped b bs d t)) (λ n. put b (suc d) false (inl refl) (run_ends b bs d n)) (decided (is_blank b))
written (suc d) false b bs =
    ⊎_elim (λ t. put 0x20 d true (inr refl) (blank-written b bs d t)) (λ n. put b (suc d) false (inl refl) (byte-before b bs d n)) (decided (is_blank b))

-- the bytes of a normal form are those of the text, and spaces
byte-from : (d : ℕ) (r : Bool) (bs : List ℕ) {x : ℕ} → In x (normal_from d r bs) → In x bs ⊎ (x ≡ 0x20)
byte-from d r [] i = elim i [ ]
byte-from d r (b ∷ bs) {x} i =
    elim (written d r b bs) [ left_out e s h ↦ later (byte-from e s bs (subst (In x) h i)) | put c e s k h ↦ first c e s k (cases_cons (subst (In x) h i)) (λ j. byte-from e s bs j) ]
  where
    later : In x bs ⊎ (x ≡ 0x20) → In x (b ∷ bs) ⊎ (x ≡ 0x20)
    later (inl j) = inl (there j)
    later (inr q) = inr q

    first : (c e : ℕ) (s : Bool) → (c ≡ b) ⊎ (c ≡ 0x20) → (x ≡ c) ⊎ In x (normal_from e s bs) → (In x (normal_from e s bs) → In x bs ⊎ (x ≡ 0x20)) → In x (b ∷ bs) ⊎ (x ≡ 0x20)
    first c e s (inl p) (inl q) h = inl (here (q ∙ p))
    first c e s (inr p) (inl q) h = inr (q ∙ p)
    first c e s k (inr j) h = later (h j)

pub normal-byte : (text : List ℕ) {x : ℕ} → In x (normal text) → In x text ⊎ (x ≡ 0x20)
unfolding normal
normal-byte text i = byte-from 0 false text i

-- a normal form is not longer than the text
length_from : (d : ℕ) (r : Bool) (bs : List ℕ) → length (normal_from d r bs) ≤ length bs
length_from d r [] = omega arith
length_from d r (b ∷ bs) =
    elim (written d r b bs) [ left_out e s h ↦ shorter (normal_from e s bs) (ap length h) (length_from e s bs) | put c e s k h ↦ longer-by-one (normal_from e s bs) (ap length h) (length_from e s bs) ]
  where
    shorter : (u : List ℕ) → length (normal_from d r (b ∷ bs)) ≡ length u → length u ≤ length bs → length (normal_from d r (b ∷ bs)) ≤ suc (length bs)
    shorter u e l = omega arith

    longer-by-one : (u : List ℕ) → length (normal_from d r (b ∷ bs)) ≡ suc (length u) → length u ≤ length bs → length (normal_from d r (b ∷ bs)) ≤ suc (length bs)
    longer-by-one u e l = omega arith

pub normal-length : (text : List ℕ) → length (normal text) ≤ length text
unfolding normal
normal-length text = length_from 0 false text
