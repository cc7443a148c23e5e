-- Text in lent cells from a place on, and numbers in decimal.
use Rattle.std.specs.Prelude.{Bool, true, false, cond, List, [], ◌∷◌, ◌++◌, ◌≡◌, refl, ℕ, zero, suc, ◌+◌, ◌*◌, ◌/◌, ◌%◌, ◌≤◌, ◌<◌, ltb, length, get_or, set, take, drop}
use Rattle.std.proofs.Common.{sym, ap, ap₂, ◌∙◌, add-one, arith, lt-ltb, le-ltb, ltb-true, ltb-false, length-append, length-take-le, take-suc, take_all}
use Rattle.std.proofs.lemmas.List.Edits.{sets, sets-eq}
use Rattle.std.proofs.lemmas.Slice.{put_mid-paste}
use borrow.Rule.Slice.PartMut.{put_mid}
use Rattle.std.proofs.Math.Seq.{length-sets}
use Rattle.library_spec.specs.Listing.{decimal_in, decimal}
use Rattle.text_laws.specs.Cells.{sets-append}

-- the bytes stand in the cells from `at` on, and n is the cell past them
pub record WrittenAt (was : List ℕ) (at : ℕ) (xs : List ℕ) (n : ℕ) (out : List ℕ) : Type 0 where
  pub after : n ≡ at + length xs
  pub cells : out ≡ sets was at xs

-- ---- how many digits suffice
-- the least number that takes more digits than one, and so many more
abbrev tens : ℕ → ℕ
tens zero = 10
tens (suc d) = 10 * tens d

small-digit : (d n : ℕ) → n < 10 → decimal_in (suc d) n ≡ (48 + n) ∷ []
small-digit d n l = ap (λ (b : Bool). cond b ((48 + n) ∷ []) (decimal_in d (n / 10) ++ ((48 + (n % 10)) ∷ []))) (lt-ltb n 10 l)

more-digits : (d n : ℕ) → 10 ≤ n → decimal_in (suc d) n ≡ decimal_in d (n / 10) ++ ((48 + (n % 10)) ∷ [])
more-digits d n l = ap (λ (b : Bool). cond b ((48 + n) ∷ []) (decimal_in d (n / 10) ++ ((48 + (n % 10)) ∷ []))) (le-ltb n 10 l)

enough-digits : (d n : ℕ) → n < tens d → decimal_in (suc d) n ≡ decimal_in (suc (suc d)) n
enough-digits zero n l = small-digit 0 n l ∙ sym (small-digit 1 n l)
enough-digits (suc d) n l = by (ltb n 10) refl (λ h. enough-digits d (n / 10) (omega arith))
  where
    by : (b : Bool) → ltb n 10 ≡ b → (10 ≤ n → decimal_in (suc d) (n / 10) ≡ decimal_in (suc (suc d)) (n / 10)) → decimal_in (suc (suc d)) n ≡ decimal_in (suc (suc (suc d))) n
    by true e more = small-digit (suc d) n (ltb-true n 10 e) ∙ sym (small-digit (suc (suc d)) n (ltb-true n 10 e))
    by false e more =
        let h = ltb-false n 10 e in
        more-digits (suc d) n h ∙ ap (λ (xs : List ℕ). xs ++ ((48 + (n % 10)) ∷ [])) (more h) ∙ sym (more-digits (suc (suc d)) n h)

-- ---- a number of 64 bits
pub decimal_digit : (n : ℕ) → n < 10 → decimal n ≡ (48 + n) ∷ []
decimal_digit n l = small-digit 19 n l

pub decimal-more : (n : ℕ) → n < 18446744073709551616 → 10 ≤ n → decimal n ≡ decimal (n / 10) ++ ((48 + (n % 10)) ∷ [])
decimal-more n l h = more-digits 19 n h ∙ ap (λ (xs : List ℕ). xs ++ ((48 + (n % 10)) ∷ [])) (enough-digits 18 (n / 10) (omega arith))

module _ (was : List ℕ) (at n : ℕ) where
  -- one digit
  module _ (l : n < 10) where
    digit-length : length (decimal n) ≡ 1
    digit-length = ap length (decimal_digit n l)

    pub digit_room : (size : ℕ) → at + length (decimal n) ≤ size → at < size
    digit_room size h = omega (arith, digit-length)

    pub digit-written : WrittenAt was at (decimal n) (at + 1) (set was at (48 + n))
    digit-written = record { after = omega (arith, digit-length); cells = ap (sets was at) (sym (decimal_digit n l)) }

  -- a last digit behind the others
  module _ (low : n < 18446744073709551616) (h : 10 ≤ n) where
    more-length : length (decimal n) ≡ length (decimal (n / 10)) + 1
    more-length = ap length (decimal-more n low h) ∙ length-append (decimal (n / 10)) ((48 + (n % 10)) ∷ [])

    pub more-fits : (size : ℕ) → at + length (decimal n) ≤ size → at + length (decimal (n / 10)) ≤ size
    more-fits size l = omega (arith, more-length)

    module _ (end : ℕ) (mid : List ℕ) (w : WrittenAt was at (decimal (n / 10)) end mid) where
      pub more_room : at + length (decimal n) ≤ length was → end < length mid
      more_room l = omega (arith, more-length, w.after, ap length w.cells, length-sets was at (decimal (n / 10)))

      pub more-written : WrittenAt was at (decimal n) (end + 1) (set mid end (48 + (n % 10)))
      more-written =
          record {
            after = omega (arith, more-length, w.after);
            cells =
                ap₂ (λ (o : List ℕ) (k : ℕ). set o k (48 + (n % 10))) w.cells w.after
                ∙ sym (sets-append was at (decimal (n / 10)) ((48 + (n % 10)) ∷ [])) ∙ ap (sets was at) (sym (decimal-more n low h));
          }

-- ---- a text copied into a part of the cells, from `at` up to the cell past it
pub copied-at : (was xs ys : List ℕ) (at k : ℕ) → ys ≡ xs → k ≡ length xs → at + length xs ≤ length was → WrittenAt was at xs (at + length xs) (put_mid at k was ys)
copied-at was xs ys at k e q h =
    record { after = refl; cells = put_mid-paste at k was ys xs (length xs) e (sym q) refl ∙ ap (λ (l : List ℕ). take at was ++ l ++ drop (at + length xs) was) (take_all (length xs) xs (omega arith)) ∙ sym (sets-eq xs was at h) }

-- ---- a text copied cell by cell: i bytes of it are
pub record Copying (text was : List ℕ) (at i : ℕ) (out : List ℕ) : Type 0 where
  pub within : i ≤ length text
  pub long : length out ≡ length was
  pub copied : out ≡ sets was at (take i text)

pub copying-next : (text was : List ℕ) (at i : ℕ) (out : List ℕ) → Copying text was at i out → i < length text
    → Copying text was at (i + 1) (set out (at + i) (get_or text i 0))
copying-next text was at i out w l =
    let place : length (take i text) ≡ i = length-take-le i text w.within in
    let wrote : set out (at + i) (get_or text i 0) ≡ sets was at (take (i + 1) text) =
    ap₂ (λ (o : List ℕ) (k : ℕ). set o (at + k) (get_or text i 0)) w.copied (sym place)
    ∙ sym (sets-append was at (take i text) (get_or text i 0 ∷ []))
    ∙ ap (sets was at) (sym (ap (λ (k : ℕ). take k text) (add-one i) ∙ take-suc text i 0 l)) in
    record { within = omega arith; long = ap length wrote ∙ length-sets was at (take (i + 1) text); copied = wrote }

pub copying-all : (text was : List ℕ) (at i : ℕ) (out : List ℕ) → Copying text was at i out → length text ≤ i → WrittenAt was at text (at + i) out
copying-all text was at i out w l = record { after = omega (arith, w.within); cells = w.copied ∙ ap (sets was at) (take_all i text l) }

-- ---- one text behind another
pub written_then : {was mid out : List ℕ} {at n m : ℕ} {xs ys : List ℕ} → WrittenAt was at xs n mid → WrittenAt mid n ys m out → WrittenAt was at (xs ++ ys) m out
written_then {was} {mid} {out} {at} {n} {m} {xs} {ys} v w =
    record {
      after = omega (arith, v.after, w.after, length-append xs ys);
      cells = w.cells ∙ ap₂ (λ (o : List ℕ) (k : ℕ). sets o k ys) v.cells v.after ∙ sym (sets-append was at xs ys);
    }

pub written-length : {was out : List ℕ} {at n : ℕ} {xs : List ℕ} → WrittenAt was at xs n out → length out ≡ length was
written-length {was} {out} {at} {n} {xs} w = ap length w.cells ∙ length-sets was at xs

digits-short : (d n : ℕ) → length (decimal_in d n) ≤ d
digits-short zero n = omega arith
digits-short (suc d) n = by (ltb n 10) (digits-short d (n / 10))
  where
    by : (b : Bool) → length (decimal_in d (n / 10)) ≤ d → length (cond b ((48 + n) ∷ []) (decimal_in d (n / 10) ++ ((48 + (n % 10)) ∷ []))) ≤ suc d
    by true h = omega arith
    by false h = omega (arith, length-append (decimal_in d (n / 10)) ((48 + (n % 10)) ∷ []))

pub decimal-short : (n : ℕ) → length (decimal n) ≤ 20
decimal-short n = digits-short 20 n
