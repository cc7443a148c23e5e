-- Marks on a particle's names are sets of positions: the marks' end and their next marks are those that the sets of first, last and
-- following positions give.
use Rattle.std.specs.Prelude.{Bool, true, false, ◌&&◌, ◌||◌, ◌++◌, ◌≡◌, refl, ℕ, ◌+◌, ◌≤◌, ◌<◌, eqb, get_or}
use Rattle.std.proofs.Math.Bool.{and-false, or-false}
use Rattle.std.proofs.Common.{sym, ap, ap₂, ◌∙◌, add-zero, add_assoc, arith, get_or-append-add}
use Rattle.std.proofs.Math.Dec.{eqb_refl}
use Rattle.std.proofs.Math.ListN.{get_or-append}
use Rattle.models.specs.PositionLaws.{size-uses, not_first, not-next}
use Rattle.models.specs.Positions.{size, may_be_absent, is_first, is_last, is_next}
use Rattle.schema_spec.specs.Models.{Particle, named, sequence, choice, repeated, uses, Position, position, unmarked, nullable, final, shift}
use Rattle.text_laws.specs.Searches.{any-cong, any-only, any_none, any-and, any-or}
use Rattle.text_laws.specs.Tests.{true_of}
use Rattle.text_spec.specs.Lists.{any_below}

-- the particle with a mark on each position that is in a set
abbrev pub marked : ℕ → Particle ℕ → (ℕ → Bool) → Particle Position
marked k (named a) s = named (position (s k) a)
marked k (sequence p q) s = sequence (marked k p s) (marked (k + size p) q s)
marked k (choice p q) s = choice (marked k p s) (marked (k + size p) q s)
marked k (repeated m n p) s = repeated m n (marked k p s)

-- sets that agree on the particle's positions mark it alike
pub marked-cong : (k : ℕ) (p : Particle ℕ) (s t : ℕ → Bool) → ((i : ℕ) → k ≤ i → i < k + size p → s i ≡ t i) → marked k p s ≡ marked k p t
marked-cong k (named a) s t h = ap (λ (b : Bool). named (position b a)) (h k (omega arith) (omega arith))
marked-cong k (sequence p q) s t h =
    ap₂ sequence (marked-cong k p s t (λ i l u. h i l (omega arith))) (marked-cong (k + size p) q s t (λ i l u. h i (omega arith) (omega arith)))
marked-cong k (choice p q) s t h =
    ap₂ choice (marked-cong k p s t (λ i l u. h i l (omega arith))) (marked-cong (k + size p) q s t (λ i l u. h i (omega arith) (omega arith)))
marked-cong k (repeated m n p) s t h = ap (repeated m n) (marked-cong k p s t h)

-- no mark at all
pub marked-none : (k : ℕ) (p : Particle ℕ) → unmarked p ≡ marked k p (λ i. false)
marked-none k (named a) = refl
marked-none k (sequence p q) = ap₂ sequence (marked-none k p) (marked-none (k + size p) q)
marked-none k (choice p q) = ap₂ choice (marked-none k p) (marked-none (k + size p) q)
marked-none k (repeated m n p) = ap (repeated m n) (marked-none k p)

pub nullable-marked : (k : ℕ) (p : Particle ℕ) (s : ℕ → Bool) → nullable (marked k p s) ≡ may_be_absent p
nullable-marked k (named a) s = refl
nullable-marked k (sequence p q) s = ap₂ ◌&&◌ (nullable-marked k p s) (nullable-marked (k + size p) q s)
nullable-marked k (choice p q) s = ap₂ ◌||◌ (nullable-marked k p s) (nullable-marked (k + size p) q s)
nullable-marked k (repeated m n p) s = ap (λ (b : Bool). n || b) (nullable-marked k p s)

-- The sets' laws hold for any bound n on the positions.
module _ (n : ℕ) where
  -- some position of a set may be the last
  abbrev pub ends : ℕ → Particle ℕ → (ℕ → Bool) → Bool
  ends k p s = any_below n (λ i. s i && is_last k p i)

  either : (f g h : ℕ → Bool) → any_below n (λ i. f i && (g i || h i)) ≡ (any_below n (λ i. f i && g i) || any_below n (λ i. f i && h i))
  either f g h = any-cong n (λ i. f i && (g i || h i)) (λ i. (f i && g i) || (f i && h i)) (λ i l. apart (f i) (g i) (h i)) ∙ any-or n (λ i. f i && g i) (λ i. f i && h i)
    where
      apart : (a b c : Bool) → (a && (b || c)) ≡ ((a && b) || (a && c))
      apart true b c = refl
      apart false b c = refl

  factor : (f g : ℕ → Bool) (c : Bool) → any_below n (λ i. f i && (g i && c)) ≡ (any_below n (λ i. f i && g i) && c)
  factor f g c = any-cong n (λ i. f i && (g i && c)) (λ i. (f i && g i) && c) (λ i l. apart (f i) (g i)) ∙ any-and n (λ i. f i && g i) c
    where
      apart : (a b : Bool) → (a && (b && c)) ≡ ((a && b) && c)
      apart true b = refl
      apart false b = refl

  none : (f : ℕ → Bool) → any_below n (λ i. f i && false) ≡ false
  none f = any-cong n (λ i. f i && false) (λ i. false) (λ i l. and-false (f i)) ∙ any_none n

  pub final-marked : (k : ℕ) (p : Particle ℕ) (s : ℕ → Bool) → k + size p ≤ n → final (marked k p s) ≡ ends k p s
  final-marked k (named a) s h = sym (any-only n k s (omega arith))
  final-marked k (sequence p q) s h =
      ap₂ ◌||◌ (final-marked (k + size p) q s (omega arith)) (ap₂ ◌&&◌ (final-marked k p s (omega arith)) (nullable-marked (k + size p) q s))
      ∙ exchange (ends (k + size p) q s) (ends k p s && may_be_absent q)
      ∙ sym (either s (λ i. is_last k p i && may_be_absent q) (is_last (k + size p) q) ∙ ap (λ (b : Bool). b || ends (k + size p) q s) (factor s (is_last k p) (may_be_absent q)))
    where
      exchange : (a b : Bool) → (a || b) ≡ (b || a)
      exchange true true = refl
      exchange true false = refl
      exchange false true = refl
      exchange false false = refl
  final-marked k (choice p q) s h =
      ap₂ ◌||◌ (final-marked k p s (omega arith)) (final-marked (k + size p) q s (omega arith)) ∙ sym (either s (is_last k p) (is_last (k + size p) q))
  final-marked k (repeated m o p) s h = final-marked k p s h

  -- position j follows some position of a set
  abbrev pub follows : ℕ → Particle ℕ → (ℕ → Bool) → ℕ → Bool
  follows k p s j = any_below n (λ i. s i && is_next k p i j)

  -- the positions after the child a, from the set s, or from the beginning too if `begins` says so; label gives each position's element
  abbrev pub after : Bool → (ℕ → ℕ) → ℕ → Particle ℕ → (ℕ → Bool) → ℕ → ℕ → Bool
  after begins label k p s a j = eqb a (label j) && ((begins && is_first k p j) || follows k p s j)

-- label gives the element of each position of the particle
abbrev pub Labelled : (ℕ → ℕ) → ℕ → Particle ℕ → Type 0
Labelled label k (named a) = label k ≡ a
Labelled label k (sequence p q) = Labelled label k p × Labelled label (k + size p) q
Labelled label k (choice p q) = Labelled label k p × Labelled label (k + size p) q
Labelled label k (repeated m n p) = Labelled label k p

-- How the parts of a test change places, by cases.
at_name : (b e : Bool) → (b && e) ≡ (e && ((b && true) || false))
at_name true true = refl
at_name true false = refl
at_name false true = refl
at_name false false = refl

at-sequence : (b n f x y : Bool) → (((x || (b && n)) && f) || y) ≡ ((b && (n && f)) || (y || (x && f)))
at-sequence true true true true y = refl
at-sequence true false true true true = refl
at-sequence true false true true false = refl
at-sequence false n true true true = refl
at-sequence false n true true false = refl
at-sequence true true false true true = refl
at-sequence true false false true true = refl
at-sequence false n false true true = refl
at-sequence true true false true false = refl
at-sequence true false false true false = refl
at-sequence false n false true false = refl
at-sequence true true true false y = refl
at-sequence true true false false true = refl
at-sequence true true false false false = refl
at-sequence true false f false true = refl
at-sequence true false f false false = refl
at-sequence false n f false true = refl
at-sequence false n f false false = refl

at-repeated : (b m f x y : Bool) → (((b || (m && x)) && f) || y) ≡ ((b && f) || (y || (m && (x && f))))
at-repeated true m true x y = refl
at-repeated true m false x true = refl
at-repeated true true false true false = refl
at-repeated true true false false false = refl
at-repeated true false false x false = refl
at-repeated false true true true true = refl
at-repeated false true true true false = refl
at-repeated false true false true true = refl
at-repeated false true false true false = refl
at-repeated false true f false true = refl
at-repeated false true f false false = refl
at-repeated false false f x true = refl
at-repeated false false f x false = refl

-- one child more: the next marks are the positions after it
module _ (n : ℕ) (label : ℕ → ℕ) (a : ℕ) where
  module _ (begins : Bool) (k : ℕ) (p q : Particle ℕ) (s : ℕ → Bool) (j : ℕ) where
    -- a position of the first of two particles in a row, and one of the second
    in-first : (k ≤ j) × (j < k + size p) → after n begins label k p s a j ≡ after n begins label k (sequence p q) s a j
    in-first within =
        let far : (k + size p ≤ j) × (j < k + size p + size q) → ⊥ = λ r. omega arith in
        let f : is_first (k + size p) q j ≡ false = not_first (k + size p) q j far in
        ap₂ (λ (x y : Bool). eqb a (label j) && ((begins && x) || y))
        (sym (ap (λ (x : Bool). is_first k p j || (may_be_absent p && x)) f ∙ ap (λ (x : Bool). is_first k p j || x) (and-false (may_be_absent p)) ∙ or-false (is_first k p j)))
        (any-cong n (λ i. s i && is_next k p i j) (λ i. s i && (is_next k p i j || (is_next (k + size p) q i j || (is_last k p i && is_first (k + size p) q j)))) (λ i l.
        ap (λ (x : Bool). s i && x)
        (sym (ap₂ (λ (x y : Bool). is_next k p i j || (x || (is_last k p i && y))) (not-next (k + size p) q j far i) f
        ∙ ap (λ (x : Bool). is_next k p i j || x) (and-false (is_last k p i)) ∙ or-false (is_next k p i j)))))

    in-second : (k + size p ≤ j) × (j < k + size p + size q)
        → after n (ends n k p s || (begins && may_be_absent p)) label (k + size p) q s a j ≡ after n begins label k (sequence p q) s a j
    in-second within =
        let far : (k ≤ j) × (j < k + size p) → ⊥ = λ r. omega arith in
        let f : is_first k p j ≡ false = not_first k p j far in
        ap (λ (x : Bool). eqb a (label j) && x)
        (at-sequence begins (may_be_absent p) (is_first (k + size p) q j) (ends n k p s) (follows n (k + size p) q s j)
        ∙ ap₂ (λ (x y : Bool). (begins && (x || (may_be_absent p && is_first (k + size p) q j))) || y) (sym f)
        (sym (any-cong n (λ i. s i && (is_next k p i j || (is_next (k + size p) q i j || (is_last k p i && is_first (k + size p) q j)))) (λ i. s i && (is_next (k + size p) q i j || (is_last k p i && is_first (k + size p) q j))) (λ i l.
        ap (λ (x : Bool). s i && (x || (is_next (k + size p) q i j || (is_last k p i && is_first (k + size p) q j)))) (not-next k p j far i))
        ∙ either n s (λ i. is_next (k + size p) q i j) (λ i. is_last k p i && is_first (k + size p) q j)
        ∙ ap (λ (x : Bool). follows n (k + size p) q s j || x) (factor n s (is_last k p) (is_first (k + size p) q j)))))

    -- a position of the first of two alternatives, and one of the second
    in_left : (k ≤ j) × (j < k + size p) → after n begins label k p s a j ≡ after n begins label k (choice p q) s a j
    in_left within =
        let far : (k + size p ≤ j) × (j < k + size p + size q) → ⊥ = λ r. omega arith in
        ap₂ (λ (x y : Bool). eqb a (label j) && ((begins && x) || y))
        (sym (ap (λ (x : Bool). is_first k p j || x) (not_first (k + size p) q j far) ∙ or-false (is_first k p j)))
        (any-cong n (λ i. s i && is_next k p i j) (λ i. s i && (is_next k p i j || is_next (k + size p) q i j)) (λ i l.
        ap (λ (x : Bool). s i && x) (sym (ap (λ (x : Bool). is_next k p i j || x) (not-next (k + size p) q j far i) ∙ or-false (is_next k p i j)))))

    in_right : (k + size p ≤ j) × (j < k + size p + size q) → after n begins label (k + size p) q s a j ≡ after n begins label k (choice p q) s a j
    in_right within =
        let far : (k ≤ j) × (j < k + size p) → ⊥ = λ r. omega arith in
        ap₂ (λ (x y : Bool). eqb a (label j) && ((begins && x) || y)) (sym (ap (λ (x : Bool). x || is_first (k + size p) q j) (not_first k p j far)))
        (any-cong n (λ i. s i && is_next (k + size p) q i j) (λ i. s i && (is_next k p i j || is_next (k + size p) q i j)) (λ i l.
        ap (λ (x : Bool). s i && (x || is_next (k + size p) q i j)) (sym (not-next k p j far i))))

  -- a position of a particle that may repeat
  in-repeated : (begins m o : Bool) (k : ℕ) (p : Particle ℕ) (s : ℕ → Bool) (j : ℕ)
      → after n (begins || (m && ends n k p s)) label k p s a j ≡ after n begins label k (repeated m o p) s a j
  in-repeated begins m o k p s j =
      ap (λ (x : Bool). eqb a (label j) && x)
      (at-repeated begins m (is_first k p j) (ends n k p s) (follows n k p s j)
      ∙ ap (λ (x : Bool). (begins && is_first k p j) || x)
      (sym (either n s (λ i. is_next k p i j) (λ i. m && (is_last k p i && is_first k p j)) ∙ ap (λ (x : Bool). follows n k p s j || x) (may m))))
    where
      may : (r : Bool) → any_below n (λ i. s i && (r && (is_last k p i && is_first k p j))) ≡ (r && (ends n k p s && is_first k p j))
      may true = factor n s (is_last k p) (is_first k p j)
      may false = none n s

  pub shift-marked : (begins : Bool) (k : ℕ) (p : Particle ℕ) (s : ℕ → Bool) → k + size p ≤ n → Labelled label k p
      → shift begins (marked k p s) a ≡ marked k p (after n begins label k p s a)
  shift-marked begins k (named x) s h l =
      ap (λ (b : Bool). named (position b x))
      (ap (λ (y : ℕ). begins && eqb a y) (sym l) ∙ at_name begins (eqb a (label k))
      ∙ sym (ap₂ (λ (u v : Bool). eqb a (label k) && ((begins && u) || v)) (true_of (eqb k k) (eqb_refl k)) (none n s)))
  shift-marked begins k (sequence p q) s h (l, r) =
      ap₂ sequence (shift-marked begins k p s (omega arith) l ∙ marked-cong k p (after n begins label k p s a) (after n begins label k (sequence p q) s a) (λ j u v. in-first begins k p q s j (u, v)))
      (ap (λ (b : Bool). shift b (marked (k + size p) q s) a) (ap₂ (λ (x y : Bool). x || (begins && y)) (final-marked n k p s (omega arith)) (nullable-marked k p s))
      ∙ shift-marked (ends n k p s || (begins && may_be_absent p)) (k + size p) q s (omega arith) r
      ∙ marked-cong (k + size p) q (after n (ends n k p s || (begins && may_be_absent p)) label (k + size p) q s a) (after n begins label k (sequence p q) s a) (λ j u v. in-second begins k p q s j (u, v)))
  shift-marked begins k (choice p q) s h (l, r) =
      ap₂ choice (shift-marked begins k p s (omega arith) l ∙ marked-cong k p (after n begins label k p s a) (after n begins label k (choice p q) s a) (λ j u v. in_left begins k p q s j (u, v)))
      (shift-marked begins (k + size p) q s (omega arith) r
      ∙ marked-cong (k + size p) q (after n begins label (k + size p) q s a) (after n begins label k (choice p q) s a) (λ j u v. in_right begins k p q s j (u, v)))
  shift-marked begins k (repeated m o p) s h l =
      ap (repeated m o)
      (ap (λ (b : Bool). shift (begins || (m && b)) (marked k p s) a) (final-marked n k p s h)
      ∙ shift-marked (begins || (m && ends n k p s)) k p s h l
      ∙ marked-cong k p (after n (begins || (m && ends n k p s)) label k p s a) (after n begins label k (repeated m o p) s a) (λ j u v. in-repeated begins m o k p s j))

-- the list of a particle's names gives the element of each position
module _ (label : ℕ → ℕ) where
  -- two lists of names in a row
  module _ (k : ℕ) (p q : Particle ℕ) (h : (i : ℕ) → i < size p + size q → label (k + i) ≡ get_or (uses p ++ uses q) i 0) where
    of-first : (i : ℕ) → i < size p → label (k + i) ≡ get_or (uses p) i 0
    of-first i l =
        let e = size-uses p in
        h i (omega arith) ∙ get_or-append (uses p) (uses q) 0 i (omega arith)

    of-second : (i : ℕ) → i < size q → label (k + size p + i) ≡ get_or (uses q) i 0
    of-second i l =
        ap label (add_assoc k (size p) i) ∙ h (size p + i) (omega arith) ∙ ap (λ (m : ℕ). get_or (uses p ++ uses q) (m + i) 0) (sym (size-uses p))
        ∙ get_or-append-add (uses p) (uses q) i 0

  pub labels : (k : ℕ) (p : Particle ℕ) → ((i : ℕ) → i < size p → label (k + i) ≡ get_or (uses p) i 0) → Labelled label k p
  labels k (named x) h = ap label (sym (add-zero k)) ∙ h 0 (omega arith)
  labels k (sequence p q) h = (labels k p (of-first k p q h), labels (k + size p) q (of-second k p q h))
  labels k (choice p q) h = (labels k p (of-first k p q h), labels (k + size p) q (of-second k p q h))
  labels k (repeated m n p) h = labels k p h
