-- Laws of judging a text from a place on, for any machine: a byte, blanks, a keyword, a name. What stands in the text is said by its
-- places alone, so that a reader of any grammar cites them.
use Rattle.std.specs.Prelude.{Bool, true, false, cond, ◌≡◌, refl, ℕ, zero, suc, ◌+◌, ◌-◌, ◌≤◌, ◌<◌, T, eqb, ltb, length, drop}
use mathlib.Core.List.{List, [], ◌∷◌, ◌++◌, append_assoc, append-nil}
use Rattle.std.proofs.Math.Option.{Option, none}
use Rattle.std.proofs.Common.{sym, ◌∙◌, add-zero, add-one, arith, ltb-true, ltb-false, lt-ltb, le-ltb, eq-eqb, ne_eqb, drop_of_length-le, length-append, drop-cons}
use Rattle.std.proofs.Math.Path.{ap}
use Rattle.std.proofs.Math.Dec.{eqb_refl}
use Rattle.text_laws.specs.Machines.{final}
use Rattle.text_laws.specs.Tests.{true_of, and_cases, cond-true, cond_yes, cond_no}
use Rattle.text_spec.specs.Bytes.{is_blank, continues_name}
use Rattle.text_spec.specs.Limits.{max_name_bytes}
use Rattle.text_spec.specs.Lists.{all_of}
use Rattle.text_spec.specs.Machines.{departs, Machine, spelt, at_end, run, from, matching, longer}
use Rattle.text_spec.specs.Scans.{byte_at, Each, Stops, Begins, name_in, name_at}

-- ---- the name at a place
module _ (s : List ℕ) (i : ℕ) where
  pub name-cons : i < length s → continues_name (byte_at s i) ≡ true → name_at s i ≡ byte_at s i ∷ name_at s (i + 1)
  name-cons h e = ap name_in (drop-cons s i 0 h) ∙ cond_yes (byte_at s i ∷ name_in (drop (suc i) s)) [] e ∙ rw (add-one i)

  pub name-stops : Stops continues_name s i → name_at s i ≡ []
  name-stops e = go (ltb i (length s)) refl
    where
      go : (t : Bool) → ltb i (length s) ≡ t → name_at s i ≡ []
      go true g = let h : i < length s = ltb-true i (length s) g in ap name_in (drop-cons s i 0 h) ∙ cond_no (byte_at s i ∷ name_in (drop (suc i) s)) [] (e h)
      go false g = ap name_in (drop_of_length-le s (ltb-false i (length s) g))

module _ {State A : Type 0} (M : Machine State A) where
  -- ---- a byte
  module _ (s : List ℕ) (i : ℕ) where
    from_byte : (q : State) → i < length s
        → from M q s i ≡ cond (M.is_dead (M.step q i (byte_at s i))) (departs i) (from M (M.step q i (byte_at s i)) s (i + 1))
    unfolding run
    from_byte q h = ap (λ (l : List ℕ). run M q l i) (drop-cons s i 0 h) ∙ rw (add-one i)

    from_step : (q r : State) → i < length s → M.step q i (byte_at s i) ≡ r → from M q s i ≡ cond (M.is_dead r) (departs i) (from M r s (i + 1))
    from_step q r h e = from_byte q h ∙ ap (λ (t : State). cond (M.is_dead t) (departs i) (from M t s (i + 1))) e

    pub step-at : (q r : State) → i < length s → M.step q i (byte_at s i) ≡ r → M.is_dead r ≡ false → from M q s i ≡ from M r s (i + 1)
    step-at q r h e l = from_step q r h e ∙ cond_no (departs i) (from M r s (i + 1)) l

    pub dead-at : (q r : State) → i < length s → M.step q i (byte_at s i) ≡ r → M.is_dead r ≡ true → from M q s i ≡ departs i
    dead-at q r h e l = from_step q r h e ∙ cond_yes (departs i) (from M r s (i + 1)) l

    pub same_at : (p q : State) → i < length s → M.step p i (byte_at s i) ≡ M.step q i (byte_at s i) → from M p s i ≡ from M q s i
    same_at p q h e = from_step p (M.step q i (byte_at s i)) h e ∙ sym (from_byte q h)

    pub at-end : (q : State) → length s ≤ i → from M q s i ≡ at_end M q i
    unfolding run
    at-end q h = ap (λ (l : List ℕ). run M q l i) (drop_of_length-le s h)

    -- at the end of a text that stops short, or at a byte that leaves the machine dead
    pub departs-at : (q r : State) → M.ends q ≡ none → M.is_dead r ≡ true → (i < length s → M.step q i (byte_at s i) ≡ r) → from M q s i ≡ departs i
    departs-at q r n l e = go (ltb i (length s)) refl
      where
        go : (t : Bool) → ltb i (length s) ≡ t → from M q s i ≡ departs i
        go true g = let h : i < length s = ltb-true i (length s) g in dead-at q r h (e h) l
        go false g = at-end q (ltb-false i (length s) g) ∙ ap (λ (o : Option A). spelt o i) n

  -- ---- blanks, in a state that they leave as it is
  module _ (s : List ℕ) (q : State) (live : M.is_dead q ≡ false) (stays : (k b : ℕ) → is_blank b ≡ true → M.step q k b ≡ q) where
    blanks-on : (n i : ℕ) → i + n ≤ length s → Each is_blank s i (i + n) → from M q s i ≡ from M q s (i + n)
    blanks-on zero i h all = rw add-zero
    blanks-on (suc n) i h all =
        let e : i + 1 + n ≡ i + suc n = omega arith in
        step-at s i q q (omega arith) (stays i (byte_at s i) (all i (omega arith) (omega arith))) live
        ∙ blanks-on n (i + 1) (omega arith) (λ k l g. all k (omega arith) (omega arith)) ∙ ap (from M q s) e

    pub blanks-same : (i j : ℕ) → i ≤ j → j ≤ length s → Each is_blank s i j → from M q s i ≡ from M q s j
    blanks-same i j l h all =
        let e : i + (j - i) ≡ j = omega arith in
        blanks-on (j - i) i (omega arith) (λ k a b. all k a (omega arith)) ∙ ap (from M q s) e

-- ---- blanks of which one is due: q asks for the first, which stands at `at`, and r leaves further ones as they are
pub record Spacing {State A : Type 0} (M : Machine State A) (dead q r : State) (s : List ℕ) (at : ℕ) : Type 0 where
  pub dies : M.is_dead dead ≡ true
  pub live : M.is_dead r ≡ false
  pub stays : (k b : ℕ) → is_blank b ≡ true → M.step r k b ≡ r
  pub ends : M.ends q ≡ none
  pub goes : at < length s → M.step q at (byte_at s at) ≡ cond (is_blank (byte_at s at)) r dead

module _ {State A : Type 0} {M : Machine State A} {dead q r : State} {s : List ℕ} {at : ℕ} (S : Spacing M dead q r s at) where
  pub space-same : (j : ℕ) → at < j → j ≤ length s → Each is_blank s at j → from M q s at ≡ from M r s j
  space-same j l h all =
      step-at M s at q r (omega arith) (S.goes (omega arith) ∙ cond_yes r dead (all at (omega arith) l)) S.live
      ∙ blanks-same M s r S.live S.stays (at + 1) j (omega arith) h (λ k a b. all k (omega arith) b)

  pub space-departs : Stops is_blank s at → from M q s at ≡ departs at
  space-departs stop = departs-at M s at q dead S.ends S.dies (λ h. S.goes h ∙ cond_no r dead (stop h))

-- ---- keywords: the states `part w`, in which w is still due, and the state after all of it
pub record Keyword {State A : Type 0} (M : Machine State A) (dead whole : State) (part : List ℕ → State) : Type 0 where
  pub dies : M.is_dead dead ≡ true
  pub live : M.is_dead whole ≡ false
  pub lives : (w : List ℕ) → M.is_dead (part w) ≡ false
  pub goes : (w : List ℕ) (k b : ℕ) → M.step (part w) k b ≡ matching dead w b whole part
  pub ends : (w : List ℕ) → M.ends (part w) ≡ none

-- the state in which w is due
abbrev pub due : {State : Type 0} → State → (List ℕ → State) → List ℕ → State
due whole part [] = whole
due whole part (c ∷ w) = part (c ∷ w)

module _ {State A : Type 0} {M : Machine State A} {dead whole : State} {part : List ℕ → State} (K : Keyword M dead whole part) where
  matching-due : (c : ℕ) (w : List ℕ) (b : ℕ) → matching dead (c ∷ w) b whole part ≡ cond (eqb b c) (due whole part w) dead
  matching-due c [] b = refl
  matching-due c (d ∷ w) b = refl

  due-live : (w : List ℕ) → M.is_dead (due whole part w) ≡ false
  due-live [] = K.live
  due-live (c ∷ w) = K.lives (c ∷ w)

  -- the bytes of a keyword lead to the state after it
  pub keyword-final : (w : List ℕ) (k : ℕ) → final M (due whole part w) w k ≡ whole
  keyword-final [] k = refl
  keyword-final (c ∷ w) k =
      ap (λ (q : State). final M q w (suc k)) (K.goes (c ∷ w) k c ∙ matching-due c w c ∙ cond-true (eqb c c) (due whole part w) dead (eqb_refl c)) ∙ keyword-final w (suc k)

  -- the byte i of the text s, and the byte n of the keyword w
  module _ (w s : List ℕ) (n i : ℕ) (more : n < length w) where
    opened : due whole part (drop n w) ≡ part (byte_at w n ∷ drop (suc n) w)
    opened = ap (due whole part) (drop-cons w n 0 more)

    due-step : M.step (due whole part (drop n w)) i (byte_at s i) ≡ cond (eqb (byte_at s i) (byte_at w n)) (due whole part (drop (suc n) w)) dead
    due-step =
        ap (λ (q : State). M.step q i (byte_at s i)) opened ∙ K.goes (byte_at w n ∷ drop (suc n) w) i (byte_at s i) ∙ matching-due (byte_at w n) (drop (suc n) w) (byte_at s i)

    due-on : i < length s → byte_at s i ≡ byte_at w n → from M (due whole part (drop n w)) s i ≡ from M (due whole part (drop (suc n) w)) s (i + 1)
    due-on h e =
        step-at M s i (due whole part (drop n w)) (due whole part (drop (suc n) w)) h
        (due-step ∙ cond_yes (due whole part (drop (suc n) w)) dead (eq-eqb (byte_at s i) (byte_at w n) e)) (due-live (drop (suc n) w))

    due-departs : (i < length s → byte_at s i ≡ byte_at w n → ⊥) → from M (due whole part (drop n w)) s i ≡ departs i
    due-departs e =
        departs-at M s i (due whole part (drop n w)) dead (ap M.ends opened ∙ K.ends (byte_at w n ∷ drop (suc n) w)) K.dies
        (λ h. due-step ∙ cond_no (due whole part (drop (suc n) w)) dead (ne_eqb (byte_at s i) (byte_at w n) (e h)))

  module _ (w s : List ℕ) (at : ℕ) where
    keyword-on : (n : ℕ) → n ≤ length w → Begins w s at n → from M (due whole part w) s at ≡ from M (due whole part (drop n w)) s (at + n)
    keyword-on zero h b = rw add-zero
    keyword-on (suc n) h b =
        let f = b.fits in
        let e : at + n + 1 ≡ at + suc n = omega arith in
        keyword-on n (omega arith) (record { fits = omega arith; same = λ k l. b.same k (omega arith) })
        ∙ due-on w s n (at + n) (omega arith) (omega arith) (b.same n (omega arith)) ∙ ap (from M (due whole part (drop (suc n) w)) s) e

    -- all of a keyword
    pub keyword-spelt : (j : ℕ) → j ≡ at + length w → Begins w s at (length w) → from M (due whole part w) s at ≡ from M whole s j
    keyword-spelt j e b =
        let l : length w ≤ length w = omega arith in
        keyword-on (length w) l b ∙ ap (λ (v : List ℕ). from M (due whole part v) s (at + length w)) (drop_of_length-le w l) ∙ ap (from M whole s) (sym e)

    -- its first n bytes, and then the end of the text or another byte
    pub keyword-departs : (n j : ℕ) → j ≡ at + n → n < length w → Begins w s at n → (j < length s → byte_at s j ≡ byte_at w n → ⊥)
        → from M (due whole part w) s at ≡ departs j
    keyword-departs n j e l b d =
        keyword-on n (omega arith) b ∙ ap (from M (due whole part (drop n w)) s) (sym e) ∙ due-departs w s n j l d

-- ---- names: the states `q n`, in which n has been read of a name
pub record Naming {State A : Type 0} (M : Machine State A) (dead : State) (q : List ℕ → State) : Type 0 where
  pub dies : M.is_dead dead ≡ true
  pub lives : (n : List ℕ) → M.is_dead (q n) ≡ false
  pub goes : (n : List ℕ) (k b : ℕ) → continues_name b ≡ true → M.step (q n) k b ≡ longer dead n b q

module _ {State A : Type 0} {M : Machine State A} {dead : State} {q : List ℕ → State} (N : Naming M dead q) where
  longer-step : (n : List ℕ) (k b : ℕ) → continues_name b ≡ true → length n < max_name_bytes → M.step (q n) k b ≡ q (n ++ (b ∷ []))
  longer-step n k b e l = N.goes n k b e ∙ cond_yes (q (n ++ (b ∷ []))) dead (lt-ltb (length n) max_name_bytes l)

  -- the rest of a name
  pub name-final : (n m : List ℕ) (k : ℕ) → T (all_of continues_name m) → length n + length m ≤ max_name_bytes → final M (q n) m k ≡ q (n ++ m)
  name-final n [] k t l = ap q (sym (append-nil n))
  name-final n (b ∷ m) k t l =
      let c = and_cases (continues_name b) (all_of continues_name m) t in
      ap (λ (r : State). final M r m (suc k)) (longer-step n k b (true_of (continues_name b) c.0) (omega arith))
      ∙ name-final (n ++ (b ∷ [])) m (suc k) c.1 (omega (arith, length-append n (b ∷ []))) ∙ ap q (append_assoc n (b ∷ []) m)

module _ {State A : Type 0} {M : Machine State A} {dead : State} {q : List ℕ → State} (N : Naming M dead q) (s : List ℕ) where
  -- what n more bytes from i on add to a name of which m has been read
  record Read (m : List ℕ) (i n : ℕ) : Type 0 where
    bytes : List ℕ
    many : length bytes ≡ n
    name : name_at s i ≡ bytes ++ name_at s (i + n)
    same : from M (q m) s i ≡ from M (q (m ++ bytes)) s (i + n)

  name-on : (m : List ℕ) (n i : ℕ) → i + n ≤ length s → Each continues_name s i (i + n) → length m + n ≤ max_name_bytes → Read m i n
  name-on m zero i h all l =
      record { bytes = []; many = refl; name = rw add-zero; same = rw (add-zero, append-nil) }
  name-on m (suc n) i h all l =
      let b = byte_at s i in
      let c : continues_name b ≡ true = all i (omega arith) (omega arith) in
      let r = name-on (m ++ (b ∷ [])) n (i + 1) (omega arith) (λ k x y. all k (omega arith) (omega arith)) (omega (arith, length-append m (b ∷ []))) in
      let e : i + 1 + n ≡ i + suc n = omega arith in
      record {
        bytes = b ∷ r.bytes;
        many = ap suc r.many;
        name = name-cons s i (omega arith) c ∙ ap (λ (v : List ℕ). b ∷ v) (r.name ∙ ap (λ (k : ℕ). r.bytes ++ name_at s k) e);
        same =
            step-at M s i (q m) (q (m ++ (b ∷ []))) (omega arith) (longer-step N m i b c (omega arith)) (N.lives (m ++ (b ∷ [])))
            ∙ r.same ∙ ap (from M (q (m ++ (b ∷ []) ++ r.bytes)) s) e ∙ ap (λ (v : List ℕ). from M (q v) s (i + suc n)) (append_assoc m (b ∷ []) r.bytes);
      }

  -- the name at j, whose first byte has been read
  module _ (j e : ℕ) where
    pub name-spelt : j < e → e ≤ length s → e ≤ j + max_name_bytes → Each continues_name s j e → Stops continues_name s e
        → from M (q (byte_at s j ∷ [])) s (j + 1) ≡ from M (q (name_at s j)) s e
    name-spelt l h m all stop =
        let r = name-on (byte_at s j ∷ []) (e - (j + 1)) (j + 1) (omega arith) (λ k x y. all k (omega arith) (omega arith)) (omega arith) in
        let f : j + 1 + (e - (j + 1)) ≡ e = omega arith in
        let g : name_at s j ≡ byte_at s j ∷ r.bytes =
        name-cons s j (omega arith) (all j (omega arith) (omega arith))
        ∙ ap (λ (v : List ℕ). byte_at s j ∷ v) (r.name ∙ ap (λ (k : ℕ). r.bytes ++ name_at s k) f ∙ ap (λ (v : List ℕ). r.bytes ++ v) (name-stops s e stop) ∙ append-nil r.bytes) in
        r.same ∙ ap (from M (q (byte_at s j ∷ r.bytes)) s) f ∙ ap (λ (v : List ℕ). from M (q v) s e) (sym g)

    -- one byte too many
    pub name-too-long : e ≡ j + max_name_bytes → e < length s → Each continues_name s j (e + 1) → from M (q (byte_at s j ∷ [])) s (j + 1) ≡ departs e
    name-too-long g h all =
        let r = name-on (byte_at s j ∷ []) (e - (j + 1)) (j + 1) (omega arith) (λ k x y. all k (omega arith) (omega arith)) (omega arith) in
        let m = r.many in
        let f : j + 1 + (e - (j + 1)) ≡ e = omega arith in
        r.same ∙ ap (from M (q (byte_at s j ∷ r.bytes)) s) f
        ∙ dead-at M s e (q (byte_at s j ∷ r.bytes)) dead h
        (N.goes (byte_at s j ∷ r.bytes) e (byte_at s e) (all e (omega arith) (omega arith))
        ∙ cond_no (q (byte_at s j ∷ r.bytes ++ (byte_at s e ∷ []))) dead (le-ltb (length (byte_at s j ∷ r.bytes)) max_name_bytes (omega arith))) N.dies
