-- The parts of the lines of a listing, and the room that they take: a word and a number, a chain of tags; the line of a refusal.
use Rattle.std.specs.Prelude.{List, [], ◌++◌, ◌≡◌, refl, ℕ, ◌+◌, ◌-◌, ◌≤◌, length, take, drop}
use Rattle.std.proofs.Common.{append-nil, append_assoc, sym, ap, ap₂, subst, ◌∙◌, arith, length-drop, take_all, drop-drop, length-take-le}
use Rattle.std.proofs.lemmas.List.Edits.{sets, sets-eq}
use Rattle.std.proofs.Math.Seq.{drop-length}
use Rattle.cells.specs.written_text.Written.{WrittenAt, written_then, written-length, decimal-short}
use Rattle.chains.specs.tags.Chains.{chain_at, chain_size, NamesAt, SizePass, ChainPass, Chained, chain_length}
use Rattle.library_spec.specs.Listing.{decimal, line_feed, refused_line}
use Rattle.text.specs.declared.refusals.Refusal as program
use Rattle.text.specs.refusals.Refusals.{reason_in, refusal_in}
use Rattle.text_spec.specs.Lists.{bytes}
use Rattle.text_spec.specs.Refusals.{Refusal, number_of}

-- ---- a word and a number behind it
pub record NumberAt (was : List ℕ) (at : ℕ) (word : List ℕ) (n r : ℕ) (out : List ℕ) : Type 0 where
  pub written : WrittenAt was at (word ++ decimal n) r out
  pub low : r ≤ at + length word + 20
  pub long : length out ≡ length was

pub number-room : (was : List ℕ) (at : ℕ) (word : List ℕ) (n past : ℕ) (mid : List ℕ) → at + length word + 20 ≤ length was → WrittenAt was at word past mid
    → past + length (decimal n) ≤ length mid
number-room was at word n past mid h w = omega (arith, w.after, written-length w, decimal-short n)

pub number_put : (was : List ℕ) (at : ℕ) (word : List ℕ) (n past r : ℕ) (mid out : List ℕ) → WrittenAt was at word past mid → WrittenAt mid past (decimal n) r out
    → NumberAt was at word n r out
number_put was at word n past r mid out v w =
    record {
      written = written_then v w;
      low = omega (arith, v.after, w.after, decimal-short n);
      long = written-length w ∙ written-length v;
    }

-- ---- a refusal
-- "refused N at P"
abbrev pub refusal : ℕ → ℕ → List ℕ
refusal number place = bytes "refused " ++ (decimal number ++ (bytes " at " ++ (decimal place ++ line_feed)))

pub refusal-line : (f : Refusal) → refused_line f ≡ refusal (number_of f.reason) f.place
unfolding refused_line
refusal-line f = refl

-- the words and numbers of a line, joined
module _ (a x b y c : List ℕ) where
  joined-3 : (a ++ x) ++ ((b ++ y) ++ c) ≡ a ++ (x ++ (b ++ (y ++ c)))
  joined-3 = append_assoc a x ((b ++ y) ++ c) ∙ ap (λ (l : List ℕ). a ++ (x ++ l)) (append_assoc b y c)

pub refusal-written : {w₀ w₁ w₂ w₃ : List ℕ} {a b d x y : ℕ} → NumberAt w₀ 0 (bytes "refused ") x a w₁ → NumberAt w₁ a (bytes " at ") y b w₂
    → WrittenAt w₂ b line_feed d w₃ → WrittenAt w₀ 0 (refusal x y) d w₃
refusal-written {w₀ = w₀} {w₃ = w₃} {d = d} {x = x} {y = y} p q s =
    subst (λ (l : List ℕ). WrittenAt w₀ 0 l d w₃) (joined-3 (bytes "refused ") (decimal x) (bytes " at ") (decimal y) line_feed)
    (written_then p.written (written_then q.written s))

-- the same of a refusal of the program
pub refused-line-written : {was out : List ℕ} {n x : ℕ} (f : program.Refusal) → x ≡ number_of (reason_in f.reason) → WrittenAt was 0 (refusal x f.place) n out
    → WrittenAt was 0 (refused_line (refusal_in f)) n out
refused-line-written {was = was} {out = out} {n = n} {x = x} f e w =
    subst (λ (l : List ℕ). WrittenAt was 0 l n out) (ap (λ (k : ℕ). refusal k f.place) e ∙ sym (refusal-line (refusal_in f))) w

-- and from its three parts
pub refused-written : {w₀ w₁ w₂ w₃ : List ℕ} {a b d x : ℕ} (f : program.Refusal) → x ≡ number_of (reason_in f.reason) → NumberAt w₀ 0 (bytes "refused ") x a w₁ → NumberAt w₁ a (bytes " at ") f.place b w₂
    → WrittenAt w₂ b line_feed d w₃ → WrittenAt w₀ 0 (refused_line (refusal_in f)) d w₃
refused-written f e p q s = refused-line-written f e (refusal-written p q s)

-- ---- a chain of tags
-- the chain's room from a place on
pub record TagsPass (text starts sizes codes ps : List ℕ) (row : ℕ) (out : List ℕ) (at : ℕ) : Type 0 where
  pub named : NamesAt text starts sizes
  pub table : SizePass sizes codes ps row
  pub room : at + chain_size sizes codes ps row ≤ length out

-- bytes set in what a list has from a place on are set in the list
part-sets : (a : ℕ) (xs ys : List ℕ) → a + length ys ≤ length xs
    → take a xs ++ (sets (take (length xs - a) (drop a xs)) 0 ys ++ drop (length xs - a) (drop a xs)) ≡ sets xs a ys
part-sets a xs ys h =
    let long = length-drop a xs in
    let all : take (length xs - a) (drop a xs) ≡ drop a xs = take_all (length xs - a) (drop a xs) (omega arith) in
    let none : drop (length xs - a) (drop a xs) ≡ [] = ap (λ (n : ℕ). drop n (drop a xs)) (sym long) ∙ drop-length (drop a xs) in
    let near : 0 + length ys ≡ length ys = omega arith in
    ap₂ (λ (m p : List ℕ). take a xs ++ (sets m 0 ys ++ p)) all none
    ∙ ap (λ (l : List ℕ). take a xs ++ l)
    (append-nil (sets (drop a xs) 0 ys) ∙ sets-eq ys (drop a xs) 0 (omega arith) ∙ ap (λ (n : ℕ). ys ++ drop n (drop a xs)) near ∙ ap (λ (l : List ℕ). ys ++ l) (drop-drop (length ys) a xs))
    ∙ sym (append_assoc (take a xs) ys (drop (a + length ys) xs)) ∙ sym (sets-eq ys xs a h)

module _ (text starts sizes codes ps : List ℕ) (row : ℕ) (was : List ℕ) (at : ℕ) (h : TagsPass text starts sizes codes ps row was at) where
  abbrev chain : List ℕ
  chain = chain_at text starts sizes codes ps row

  pub tags-pass : ChainPass text starts sizes codes ps row (take (length was - at) (drop at was))
  tags-pass =
      record {
        named = h.named;
        table = h.table;
        room = omega (arith, h.room, length-drop at was, length-take-le (length was - at) (drop at was) (omega (arith, length-drop at was)));
      }

  module _ (n : ℕ) (out : List ℕ) (w : Chained text starts sizes codes ps row (take (length was - at) (drop at was)) n out) where
    tags-size : n ≡ chain_size sizes codes ps row
    tags-size = w.counted ∙ chain_length text starts sizes codes ps h.named row

    pub tags-low : at + n ≤ length was
    tags-low = omega (arith, tags-size, h.room)

    pub tags-written : WrittenAt was at chain (at + n) (take at was ++ (out ++ drop (length was - at) (drop at was)))
    tags-written =
        record {
          after = omega (arith, w.counted);
          cells =
              ap (λ (l : List ℕ). take at was ++ (l ++ drop (length was - at) (drop at was))) w.written
              ∙ part-sets at was chain (omega (arith, w.counted, tags-low));
        }
