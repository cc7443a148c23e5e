-- Laws of reading an axis: the rest of one axis, what two have in common, the first byte, the byte after `p`.
use mathlib.Core.Bool.{Bool, true, false, cond}
use mathlib.Core.List.{List, [], ◌∷◌, ◌++◌}
use mathlib.Core.Option.{Option, none}
use mathlib.Core.Path.{◌≡◌, refl, sym, ap, subst, ◌∙◌}
use Prim.Native.Nat.{ℕ, ◌+◌, ◌≤◌, ◌<◌}
use native.Mathlib.Omega.{arith}
use borrow.Author.Tests.{ne_eqb}
use lib.Dec.{eqb}
use lib.ListN.{length}
use Rattle.std.specs.Prelude.{Result, Ok, Err}
use Rattle.bundle_text.specs.axes.Readings.{single, double, parent_or_preceding, AxisAs, ReadsAxis}
use Rattle.compiled_paths.specs.Steps.{written_axis}
use Rattle.compiled_paths.specs.declared.Axis.{Axis}
use Rattle.compiled_paths.specs.declared.Axis.TheVariants.{SelfNode, Child, Descendant, DescendantOrSelf, Parent, Ancestor, AncestorOrSelf, Following, FollowingSibling, Preceding, PrecedingSibling}
use Rattle.path_spec.specs.Grammar.{PathRead}
use Rattle.path_spec.specs.Machine.{Choice, Context, State, dead, in_axis, before_test, is_dead, axis_by, begin_step, step, ends, bundle_machine}
use Rattle.path_spec.specs.Paths.{WrittenAxis}
use Rattle.text.specs.scanning.OutcomeLaws.{spelt-end, spelt-past, spelt-fail}
use Rattle.text.specs.scanning.Outcomes.{Spelt}
use Rattle.text_laws.specs.Scans.{step-at, dead-at, at-end, Keyword, due}
use Rattle.text_spec.specs.Lists.{bytes}
use Rattle.text_spec.specs.Machines.{spelt, from, matching}
use Rattle.text_spec.specs.Scans.{byte_at}

-- ---- one axis
module _ (a : WrittenAxis) (x : Context) where
  abbrev rest-due : List ℕ → State
  rest-due w = in_axis (record { axis = a; rest = w } ∷ []) x

  rest_goes : (w : List ℕ) (k b : ℕ) → step (rest-due w) k b ≡ matching dead w b (before_test a x) rest-due
  unfolding step
  rest_goes [] k b = refl
  rest_goes (c ∷ []) k b = pick (eqb b c)
    where
      pick : (t : Bool) → axis_by (cond t (record { axis = a; rest = [] } ∷ []) []) x ≡ cond t (before_test a x) dead
      pick true = refl
      pick false = refl
  rest_goes (c ∷ d ∷ w) k b = pick (eqb b c)
    where
      pick : (t : Bool) → axis_by (cond t (record { axis = a; rest = d ∷ w } ∷ []) []) x ≡ cond t (rest-due (d ∷ w)) dead
      pick true = refl
      pick false = refl

  rest-keyword : Keyword bundle_machine dead (before_test a x) rest-due
  rest-keyword = record { dies = refl; live = refl; lives = λ w. refl; goes = rest_goes; ends = λ w. refl }

due-rest : (a : WrittenAxis) (x : Context) (w : List ℕ) → 0 < length w → due (before_test a x) (rest-due a x) w ≡ rest-due a x w
due-rest a x [] h = absurd (omega arith)
due-rest a x (c ∷ w) h = refl

module _ (a : Axis) {w s : List ℕ} {at : ℕ} {r : Result ℕ ℕ} (W : Spelt w s at r) (some : 0 < length w) where
  spelt-later : {j : ℕ} → r ≡ Ok j → at < j
  spelt-later u = let e = (subst (Spelt w s at) u W).says.0 in omega arith

  rest_from : (x : Context) → from bundle_machine (single a w x) s at ≡ from bundle_machine (due (before_test (written_axis a) x) (rest-due (written_axis a) x) w) s at
  rest_from x = ap (λ (q : State). from bundle_machine q s at) (sym (due-rest (written_axis a) x w some))

  pub rest-past : {j : ℕ} → r ≡ Ok j → ReadsAxis (single a w) s at (Ok (a, j))
  rest-past {j} u =
      record { says = (spelt-later u, (spelt-end W u).1, λ x. rest_from x ∙ spelt-past W (rest-keyword (written_axis a) x) u) }

  pub rest-fail : {j : ℕ} → r ≡ Err j → ReadsAxis (single a w) s at (Err j)
  rest-fail u = record { says = λ x. rest_from x ∙ spelt-fail W (rest-keyword (written_axis a) x) u }

-- ---- a reading that starts earlier
later-as : (before after : Context → State) (s : List ℕ) (at i : ℕ) → at ≤ i → ((x : Context) → from bundle_machine (before x) s at ≡ from bundle_machine (after x) s i) → (r : Result (Axis × ℕ) ℕ)
    → AxisAs after s i r → AxisAs before s at r
later-as before after s at i l to (Ok r) R =
    let g = R.0 in
    (omega arith, R.1, λ x. to x ∙ R.2 x)
later-as before after s at i l to (Err j) R = λ x. to x ∙ R x

axis-later : (before after : Context → State) (s : List ℕ) (at i : ℕ) → at ≤ i → ((x : Context) → from bundle_machine (before x) s at ≡ from bundle_machine (after x) s i) → {r : Result (Axis × ℕ) ℕ}
    → ReadsAxis after s i r → ReadsAxis before s at r
axis-later before after s at i l to {r} R = record { says = later-as before after s at i l to r R.says }

-- ---- what two axes have in common
module _ (a b : Axis) (e : List ℕ) (x : Context) where
  abbrev both-due : List ℕ → State
  both-due [] = in_axis [] x
  both-due (c ∷ w) = double a b (c ∷ w) e x

  both-lives : (w : List ℕ) → is_dead (both-due w) ≡ false
  both-lives [] = refl
  both-lives (c ∷ w) = refl

  both_ends : (w : List ℕ) → ends (both-due w) ≡ none
  both_ends [] = refl
  both_ends (c ∷ w) = refl

  -- the two, by whether the byte that comes is that of both
  abbrev two : List ℕ → Bool → List Choice
  two w t =
      let p : Choice = record { axis = written_axis a; rest = w ++ bytes "::" } in
      let q : Choice = record { axis = written_axis b; rest = w ++ (0x2D ∷ e) } in
      cond t (p ∷ cond t (q ∷ []) []) (cond t (q ∷ []) [])

  both-goes : (w : List ℕ) (k v : ℕ) → step (both-due w) k v ≡ matching dead w v (double a b [] e x) both-due
  unfolding step
  both-goes [] k v = refl
  both-goes (c ∷ []) k v = pick (eqb v c)
    where
      pick : (t : Bool) → axis_by (two [] t) x ≡ cond t (double a b [] e x) dead
      pick true = refl
      pick false = refl
  both-goes (c ∷ d ∷ w) k v = pick (eqb v c)
    where
      pick : (t : Bool) → axis_by (two (d ∷ w) t) x ≡ cond t (double a b (d ∷ w) e x) dead
      pick true = refl
      pick false = refl

  both-keyword : Keyword bundle_machine dead (double a b [] e x) both-due
  both-keyword = record { dies = refl; live = refl; lives = both-lives; goes = both-goes; ends = both_ends }

due-both : (a b : Axis) (e : List ℕ) (x : Context) (w : List ℕ) → 0 < length w → due (double a b [] e x) (both-due a b e x) w ≡ double a b w e x
due-both a b e x [] h = absurd (omega arith)
due-both a b e x (c ∷ w) h = refl

module _ (a b : Axis) (e : List ℕ) {w s : List ℕ} {at : ℕ} {r : Result ℕ ℕ} (W : Spelt w s at r) (some : 0 < length w) where
  both-from : (x : Context) → from bundle_machine (double a b w e x) s at ≡ from bundle_machine (due (double a b [] e x) (both-due a b e x) w) s at
  both-from x = ap (λ (q : State). from bundle_machine q s at) (sym (due-both a b e x w some))

  pub both-past : {j : ℕ} → r ≡ Ok j → {o : Result (Axis × ℕ) ℕ} → ReadsAxis (double a b [] e) s j o → ReadsAxis (double a b w e) s at o
  both-past {j} u R = axis-later (double a b w e) (double a b [] e) s at j (spelt-end W u).0 (λ x. both-from x ∙ spelt-past W (both-keyword a b e x) u) R

  pub both-fail : {j : ℕ} → r ≡ Err j → ReadsAxis (double a b w e) s at (Err j)
  both-fail u = record { says = λ x. both-from x ∙ spelt-fail W (both-keyword a b e x) u }

-- ---- where they part
-- after the hyphen, the rest of an axis that adds the node itself, and of one that keeps to siblings
abbrev pub or_self : List ℕ
or_self = bytes "or-self::"

abbrev pub sibling : List ℕ
sibling = bytes "sibling::"

pub axis-end : (before : Context → State) (s : List ℕ) (at : ℕ) → ((x : Context) → ends (before x) ≡ none) → length s ≤ at → ReadsAxis before s at (Err at)
axis-end before s at silent l = record { says = λ x. at-end bundle_machine s at (before x) l ∙ ap (λ (o : Option (List PathRead)). spelt o at) (silent x) }

module _ (s : List ℕ) (at : ℕ) (l : at < length s) where
  -- by a byte that leads on
  byte-later : (before after : Context → State) (b : ℕ) → byte_at s at ≡ b → ((x : Context) → step (before x) at b ≡ after x) → ((x : Context) → is_dead (after x) ≡ false) → {r : Result (Axis × ℕ) ℕ}
      → ReadsAxis after s (at + 1) r → ReadsAxis before s at r
  byte-later before after b e to live R =
      axis-later before after s at (at + 1) (omega arith)
      (λ x. step-at bundle_machine s at (before x) (after x) l (ap (λ (c : ℕ). step (before x) at c) e ∙ to x) (live x)) R

  byte-not : (before : Context → State) → ((x : Context) → step (before x) at (byte_at s at) ≡ dead) → ReadsAxis before s at (Err at)
  byte-not before to = record { says = λ x. dead-at bundle_machine s at (before x) dead l (to x) refl }

  module _ (a b : Axis) (e : List ℕ) where
    pub ending-not : (byte_at s at ≡ 0x3A → ⊥) → (byte_at s at ≡ 0x2D → ⊥) → ReadsAxis (double a b [] e) s at (Err at)
    unfolding step
    ending-not c h = byte-not (double a b [] e) (λ x. rw (ne_eqb (byte_at s at) 0x3A c, ne_eqb (byte_at s at) 0x2D h))

    pub ending-colon : byte_at s at ≡ 0x3A → {r : Result (Axis × ℕ) ℕ} → ReadsAxis (single a (bytes ":")) s (at + 1) r → ReadsAxis (double a b [] e) s at r
    unfolding step
    ending-colon c R = byte-later (double a b [] e) (single a (bytes ":")) 0x3A c (λ x. refl) (λ x. refl) R

    pub ending-hyphen : byte_at s at ≡ 0x2D → 0 < length e → {r : Result (Axis × ℕ) ℕ} → ReadsAxis (single b e) s (at + 1) r → ReadsAxis (double a b [] e) s at r
    unfolding step
    ending-hyphen h some R = byte-later (double a b [] e) (single b e) 0x2D h (λ x. hyphen e some x) (λ x. refl) R
      where
        hyphen : (w : List ℕ) → 0 < length w → (x : Context) → step (double a b [] w x) at 0x2D ≡ single b w x
        hyphen [] l x = absurd (omega arith)
        hyphen (c ∷ w) l x = refl

  -- ---- the first byte
  pub first-child : byte_at s at ≡ 0x63 → {r : Result (Axis × ℕ) ℕ} → ReadsAxis (single Child (bytes "hild::")) s (at + 1) r → ReadsAxis begin_step s at r
  unfolding step
  first-child e R = byte-later begin_step (single Child (bytes "hild::")) 0x63 e (λ x. refl) (λ x. refl) R

  pub first-self : byte_at s at ≡ 0x73 → {r : Result (Axis × ℕ) ℕ} → ReadsAxis (single SelfNode (bytes "elf::")) s (at + 1) r → ReadsAxis begin_step s at r
  unfolding step
  first-self e R = byte-later begin_step (single SelfNode (bytes "elf::")) 0x73 e (λ x. refl) (λ x. refl) R

  pub first-descendant : byte_at s at ≡ 0x64 → {r : Result (Axis × ℕ) ℕ} → ReadsAxis (double Descendant DescendantOrSelf (bytes "escendant") or_self) s (at + 1) r → ReadsAxis begin_step s at r
  unfolding step
  first-descendant e R = byte-later begin_step (double Descendant DescendantOrSelf (bytes "escendant") or_self) 0x64 e (λ x. refl) (λ x. refl) R

  pub first-ancestor : byte_at s at ≡ 0x61 → {r : Result (Axis × ℕ) ℕ} → ReadsAxis (double Ancestor AncestorOrSelf (bytes "ncestor") or_self) s (at + 1) r → ReadsAxis begin_step s at r
  unfolding step
  first-ancestor e R = byte-later begin_step (double Ancestor AncestorOrSelf (bytes "ncestor") or_self) 0x61 e (λ x. refl) (λ x. refl) R

  pub first-following : byte_at s at ≡ 0x66 → {r : Result (Axis × ℕ) ℕ} → ReadsAxis (double Following FollowingSibling (bytes "ollowing") sibling) s (at + 1) r → ReadsAxis begin_step s at r
  unfolding step
  first-following e R = byte-later begin_step (double Following FollowingSibling (bytes "ollowing") sibling) 0x66 e (λ x. refl) (λ x. refl) R

  pub first-p : byte_at s at ≡ 0x70 → {r : Result (Axis × ℕ) ℕ} → ReadsAxis parent_or_preceding s (at + 1) r → ReadsAxis begin_step s at r
  unfolding step
  first-p e R = byte-later begin_step parent_or_preceding 0x70 e (λ x. refl) (λ x. refl) R

  pub first-not : (byte_at s at ≡ 0x63 → ⊥) → (byte_at s at ≡ 0x64 → ⊥) → (byte_at s at ≡ 0x61 → ⊥) → (byte_at s at ≡ 0x70 → ⊥) → (byte_at s at ≡ 0x73 → ⊥) → (byte_at s at ≡ 0x66 → ⊥)
      → ReadsAxis begin_step s at (Err at)
  unfolding step
  first-not c d a p f g =
      byte-not begin_step
      (λ x. rw (ne_eqb (byte_at s at) 0x63 c, ne_eqb (byte_at s at) 0x64 d, ne_eqb (byte_at s at) 0x61 a, ne_eqb (byte_at s at) 0x70 p, ne_eqb (byte_at s at) 0x73 f, ne_eqb (byte_at s at) 0x66 g))

  -- ---- the byte after `p`
  pub after-p-parent : byte_at s at ≡ 0x61 → {r : Result (Axis × ℕ) ℕ} → ReadsAxis (single Parent (bytes "rent::")) s (at + 1) r → ReadsAxis parent_or_preceding s at r
  unfolding step
  after-p-parent e R = byte-later parent_or_preceding (single Parent (bytes "rent::")) 0x61 e (λ x. refl) (λ x. refl) R

  pub after-p-preceding : byte_at s at ≡ 0x72 → {r : Result (Axis × ℕ) ℕ} → ReadsAxis (double Preceding PrecedingSibling (bytes "eceding") sibling) s (at + 1) r → ReadsAxis parent_or_preceding s at r
  unfolding step
  after-p-preceding e R = byte-later parent_or_preceding (double Preceding PrecedingSibling (bytes "eceding") sibling) 0x72 e (λ x. refl) (λ x. refl) R

  pub after-p-not : (byte_at s at ≡ 0x61 → ⊥) → (byte_at s at ≡ 0x72 → ⊥) → ReadsAxis parent_or_preceding s at (Err at)
  unfolding step
  after-p-not a r = byte-not parent_or_preceding (λ x. rw (ne_eqb (byte_at s at) 0x61 a, ne_eqb (byte_at s at) 0x72 r))
