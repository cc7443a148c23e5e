-- An array of unsigned numbers in a memory slot: typed, taken apart into its elements, made whole or room again; an element taken out, put back or overwritten.
use mathlib.Core.List.{List, [], ◌∷◌, map, map-id}
use Rattle.std.specs.Prelude.{◌≡◌, T as Holds, length, get_or, replicate, set}
use Rattle.std.proofs.Math.Path.{refl}
use Rattle.std.proofs.Common.{sym, ap, subst, lt→ltb}
use Prim.Native.Nat.{ℕ, zero, suc, ◌<◌, ◌^◌}
use base.Fraction.{full_share}
use seplogic.Ra.Ura.{Ura}
use Rattle.std.proofs.lemmas.List.{length-replicate}
use base.Fml.{fat, froom, fsep}
use base.Logic.{ent, sep, via}
use denote.Array.{Array, array_val, each, Array-Tells, Array-Typed, Array-Makes}
use denote.ArrayMemory.{Array-apart, Array-whole}
use denote.Index.{row, place, others, elem_out, elem_back, elem_put}
use denote.Laws.{Is, shows}
use denote.Memory.{cell_at, mem, part_at, part_of, shares}
use denote.Plain.{UInt, uint_Lawful, uint_Makes, uint_Tells, uint_vals}
use denote.Shadow.{shadow}
use denote.Steps.{owned, peeks}
use mir.Syntax.{Ty, Width, ty_int, ty_array, int, repeat}
use mir.Val.{Val, WT, has_ty, bits, vint}
use prog.Wp.{Env, write}
use types.Logic.{Logic}
use types.Kit.{Item, Goal, Seq, Step, step, ‵, raw, mean, ⋆, nth, del, put, pull, fill, ◌$◌, ◌∵◌, !, qed, by, move, drop, use1, check, assume, rewrite, fsplit, fjoin, fpick, fpack, feq_i, frame}
use types.Part.{rep}
use types.Run.{Writes, Rv, lit, forget}
use types.Share.{arr_parts}

-- n zeros, and the machine value of any numbers. They stay shut, so that no count of cells is computed
unfoldable pub zeros : ℕ → List ℕ
zeros n = replicate n 0

unfoldable pub numbers_val : Width → List ℕ → Val
numbers_val w xs = array_val (map (vint w) xs)

abbrev pub slot_ty : Width → ℕ → Ty
slot_ty w n = ty_array (ty_int w) n

-- n numbers of the width
abbrev pub Numbers : Width → ℕ → List ℕ → Type 0
Numbers w n xs = Is (Array (UInt w) n) xs (numbers_val w xs ∷ [])

pub length-zeros : (n : ℕ) → length (zeros n) ≡ n
unfolding zeros
length-zeros n = length-replicate n 0

each-zero : (w : Width) → 0 < 2 ^ bits w → (n : ℕ) → shadow (each ℕ (UInt w).own_val (replicate n 0) (map (vint w) (replicate n 0)))
each-zero w l zero = tt
each-zero w l (suc n) = ((refl, l), each-zero w l n)

pub zeros-are : (w : Width) (n : ℕ) → 0 < 2 ^ bits w → Numbers w n (zeros n)
unfolding zeros numbers_val
zeros-are w n l = (map (vint w) (replicate n 0), ((refl, length-replicate n 0), each-zero w l n))

map-zeros : (w : Width) (n : ℕ) → replicate {A = Val} n (vint w 0) ≡ map (vint w) (replicate n 0)
map-zeros w zero = refl
map-zeros w (suc n) = ap (λ (vs : List Val). vint w 0 ∷ vs) (map-zeros w n)

zeros-value : (w : Width) (n : ℕ) → array_val (replicate n (vint w 0)) ≡ numbers_val w (zeros n)
unfolding zeros numbers_val
zeros-value w n = ap array_val (map-zeros w n)

pub numbers-long : (w : Width) (n : ℕ) (xs : List ℕ) → Numbers w n xs → length xs ≡ n
numbers-long w n xs is = is.1.0.1

-- the numbers of values that hold them are these values
numbers-told : (w : Width) (n : ℕ) (xs : List ℕ) (vs : List Val) → Is (Array (UInt w) n) xs vs → vs ≡ numbers_val w xs ∷ []
unfolding numbers_val
numbers-told w n xs vs is = Array-Tells (UInt w) (uint_vals w) (uint_Tells w) n xs vs is

-- what a struct knows of its field
pub field-numbers : (w : Width) (n : ℕ) (xs : List ℕ) (vs : List Val) → Is (Array (UInt w) n) (map (λ x. x) xs) vs → Numbers w n xs
field-numbers w n xs vs is = subst (Is (Array (UInt w) n) xs) (numbers-told w n xs vs same) same
  where
    same : Is (Array (UInt w) n) xs vs
    same = subst (λ (ys : List ℕ). Is (Array (UInt w) n) ys vs) (map-id xs) is

-- and what it is to know of it
pub numbers-field : (w : Width) (n : ℕ) (xs : List ℕ) → Numbers w n xs → Numbers w n (map (λ x. x) xs)
numbers-field w n xs is = subst (Numbers w n) (sym (map-id xs)) is

module _ {M : Type 1} {𝓤 : Ura M} (𝓛 : Logic 𝓤) (w : Width) (n : ℕ) where
  pub numbers-typed : (xs : List ℕ) → Numbers w n xs → Holds (has_ty (slot_ty w n) (numbers_val w xs)) × WT (numbers_val w xs)
  numbers-typed xs is = (Array-Typed (UInt w) (uint_Lawful 𝓛 w).typed n xs (numbers_val w xs ∷ []) is).0

module _ {M : Type 1} {𝓤 : Ura M} {𝓛 : Logic 𝓤} {K : Type 0} {Γ : List (Item 𝓤)} where
  open 𝓛 use {H}

  pub repeat-zeros : K → {E : Env 𝓤 H} {w : Width} (n : ℕ) → 0 < 2 ^ bits w → Rv K 𝓛 Γ E (repeat (int w 0) n) (numbers_val w (zeros n))
  repeat-zeros t {E} {w} n l = subst (Rv K 𝓛 Γ E (repeat (int w 0) n)) (zeros-value w n) (rep t n (lit t (lt→ltb 0 (2 ^ bits w) l)))

  -- entry n is the slot's elements: one of them is overwritten
  pub store-elem : K → (n : ℕ) (w : Width) (xs : List ℕ) (k y : ℕ) {b o : ℕ} → nth 𝓛 n Γ ≡ ‵ (row (UInt w) full_share xs b 0) → o ≡ place (mem (UInt w)).size 0 k → k < length xs → y < 2 ^ bits w
      → Writes K 𝓛 Γ (ty_int w) b o (vint w y) (put 𝓛 n (‵ (row (UInt w) full_share (set xs k y) b 0)) Γ)
  store-elem t n w xs k y {b} {o} e at-k l f = subst (λ (p : ℕ). Writes K 𝓛 Γ (ty_int w) b p (vint w y) (put 𝓛 n (‵ (row (UInt w) full_share (set xs k y) b 0)) Γ)) (sym at-k) (record {
    go = λ P h. via 𝓤 (sep 𝓤 (mean 𝓛 (nth 𝓛 n Γ)) (⋆ 𝓛 (del 𝓛 n Γ))) (pull 𝓛 n Γ)
        (subst (λ (j : Item 𝓤). ent 𝓤 (sep 𝓤 (mean 𝓛 j) (⋆ 𝓛 (del 𝓛 n Γ))) (write 𝓤 H (ty_int w) b (place (mem (UInt w)).size 0 k) (vint w y) P)) (sym e)
        (qed 𝓛 (‵ (row (UInt w) full_share xs b 0) ∷ raw (⋆ 𝓛 (del 𝓛 n Γ)) ∷ []) ∵
        elem_out ! (UInt w) (Is (UInt w)) (shows 𝓛 (UInt w)) (uint_vals w) (uint_Tells w) full_share xs k 0 b 0 l (λ _.
        -- [the element; what it owns; the others; the rest]
        move ! (1 ∷ []) $ drop ! $ forget ! 0 refl $ check ! ((uint_Lawful 𝓛 w).typed y (vint w y ∷ []) (refl, f)).0 $ frame ! $ assume ! (‵ (fat full_share (ty_int w) b (place (mem (UInt w)).size 0 k) (vint w y))) $
        owned ! (UInt w) (Is (UInt w)) (uint_Makes 𝓛 w) y (vint w y ∷ []) (refl, f) $ move ! (1 ∷ 0 ∷ []) $ elem_put ! (UInt w) full_share xs k y (vint w y ∷ []) b 0 l $
        by ! (via 𝓤 (⋆ 𝓛 (put 𝓛 n (‵ (row (UInt w) full_share (set xs k y) b 0)) Γ)) (fill 𝓛 n (‵ (row (UInt w) full_share (set xs k y) b 0)) Γ) h))));
  })

  module _ {G : Goal 𝓤 H} where
    -- a slot's value is its elements
    pub slot_apart : K → (w : Width) (n : ℕ) (xs : List ℕ) {b : ℕ} → Numbers w n xs → Step K 𝓛 (‵ (row (UInt w) full_share xs b 0) ∷ Γ) G (‵ (fat full_share (slot_ty w n) b 0 (numbers_val w xs)) ∷ Γ) G
    unfolding part_of
    slot_apart t w n xs {b} is = step (λ s.
        owned t (Array (UInt w) n) (Is (Array (UInt w) n)) (Array-Makes 𝓛 (UInt w) (uint_Makes 𝓛 w) n) xs (numbers_val w xs ∷ []) is $ move t (1 ∷ 0 ∷ []) $ fjoin t $
        fpack t (List Val) (λ vs. fsep (cell_at full_share (Array (UInt w) n).mir vs b 0) ((Array (UInt w) n).own_val xs vs)) (numbers_val w xs ∷ []) $
        use1 𝓛 (‵ ((arr_parts (shares (UInt w)) n).part full_share xs b 0)) (Array-apart 𝓛 (UInt w) full_share tt n xs b 0) $ fsplit t $ drop t $ s)

    -- a slot's elements are its one value
    pub slot_whole : K → (w : Width) (n : ℕ) (xs : List ℕ) {b : ℕ} → length xs ≡ n → (Numbers w n xs → Seq K 𝓛 (‵ (fat full_share (slot_ty w n) b 0 (numbers_val w xs)) ∷ Γ) G) → Seq K 𝓛 (‵ (row (UInt w) full_share xs b 0) ∷ Γ) G
    unfolding part_of
    slot_whole t w n xs {b} e k =
        feq_i t ℕ (length xs) n e $ fjoin t $ use1 𝓛 (‵ (part_at (Array (UInt w) n) full_share xs b 0)) (Array-whole 𝓛 (UInt w) full_share n xs b 0) $ fpick t (λ vs. fsplit t $ move t (1 ∷ []) $
        peeks t (Array (UInt w) n) (Is (Array (UInt w) n)) (shows 𝓛 (Array (UInt w) n)) xs vs (λ is. drop t $
        rewrite t 0 (λ (us : List Val). ‵ (cell_at full_share (Array (UInt w) n).mir us b 0)) (numbers-told w n xs vs is) refl $ k (subst (Is (Array (UInt w) n) xs) (numbers-told w n xs vs is) is)))

    -- and they are room
    pub slot-room : K → (w : Width) (n : ℕ) (xs : List ℕ) {b : ℕ} → length xs ≡ n → Step K 𝓛 (‵ (froom (slot_ty w n) b 0) ∷ Γ) G (‵ (row (UInt w) full_share xs b 0) ∷ Γ) G
    slot-room t w n xs {b} e = step (λ s. slot_whole t w n xs e (λ _. forget t 0 refl $ s))

    -- one number is taken out, read, and put back
    pub number-out : K → (w : Width) (xs : List ℕ) (i l : ℕ) → i < length xs
        → (Is (UInt w) (get_or xs i 0) (vint w (get_or xs i 0) ∷ [])
        → Seq K 𝓛 (‵ (cell_at full_share (ty_int w ∷ []) (vint w (get_or xs i 0) ∷ []) l (place (mem (UInt w)).size 0 i)) ∷ ‵ ((UInt w).own_val (get_or xs i 0) (vint w (get_or xs i 0) ∷ [])) ∷ ‵ (others (shares (UInt w)) full_share xs i l 0) ∷ Γ) G)
        → Seq K 𝓛 (‵ (row (UInt w) full_share xs l 0) ∷ Γ) G
    number-out t w xs i l h next = elem_out t (UInt w) (Is (UInt w)) (shows 𝓛 (UInt w)) (uint_vals w) (uint_Tells w) full_share xs i 0 l 0 h next

    pub number-back : K → (w : Width) (xs : List ℕ) (i l : ℕ) → i < length xs
        → Step K 𝓛 (‵ (row (UInt w) full_share xs l 0) ∷ Γ) G
        (‵ (cell_at full_share (ty_int w ∷ []) (vint w (get_or xs i 0) ∷ []) l (place (mem (UInt w)).size 0 i)) ∷ ‵ ((UInt w).own_val (get_or xs i 0) (vint w (get_or xs i 0) ∷ [])) ∷ ‵ (others (shares (UInt w)) full_share xs i l 0) ∷ Γ) G
    number-back t w xs i l h = elem_back t (UInt w) full_share xs i 0 (vint w (get_or xs i 0) ∷ []) l 0 h
