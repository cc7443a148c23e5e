-- The line of a selected node by its numbers and its chain, and the room that it takes.
use Rattle.std.specs.Prelude.{List, ◌++◌, ℕ, ◌+◌, ◌≤◌, length}
use Rattle.std.proofs.Common.{append_assoc, subst, arith}
use Rattle.cells.specs.written_text.Written.{WrittenAt, written_then, written-length, decimal-short}
use Rattle.chains.specs.tags.Chains.{chain_at, chain_size, NamesAt, SizePass, chain_length}
use Rattle.library_spec.specs.Listing.{decimal, line_feed}
use Rattle.listing_text.specs.parts.Parts.{NumberAt, TagsPass}
use Rattle.text_spec.specs.Lists.{bytes}

-- number, place in the bundle, chain
abbrev pub line_of : ℕ → ℕ → List ℕ → List ℕ
line_of number place chain = decimal number ++ (bytes " " ++ (decimal place ++ (bytes " " ++ (chain ++ line_feed))))

-- room for two numbers, two blanks, the chain and the line feed
pub record LinePass (text starts sizes codes ps : List ℕ) (row : ℕ) (out : List ℕ) : Type 0 where
  pub named : NamesAt text starts sizes
  pub table : SizePass sizes codes ps row
  pub room : 43 + chain_size sizes codes ps row ≤ length out

-- ---- the parts of a line, one after the other
module _ (text starts sizes codes ps : List ℕ) (row : ℕ) (w₀ : List ℕ) (h : LinePass text starts sizes codes ps row w₀) (number place : ℕ) where
  pub first-room : 0 + length (decimal number) ≤ length w₀
  first-room = omega (arith, h.room, decimal-short number)

  module _ (a : ℕ) (w₁ : List ℕ) (p : WrittenAt w₀ 0 (decimal number) a w₁) where
    pub second-room : a + 1 + 20 ≤ length w₁
    second-room = omega (arith, h.room, p.after, written-length p, decimal-short number)

    module _ (b : ℕ) (w₂ : List ℕ) (q : NumberAt w₁ a (bytes " ") place b w₂) where
      pub third-room : b + 1 ≤ length w₂
      third-room = omega (arith, h.room, p.after, written-length p, decimal-short number, q.low, q.long)

      module _ (c : ℕ) (w₃ : List ℕ) (r : WrittenAt w₂ b (bytes " ") c w₃) where
        fourth-room : c + chain_size sizes codes ps row + 1 ≤ length w₃
        fourth-room = omega (arith, h.room, p.after, written-length p, decimal-short number, q.low, q.long, r.after, written-length r)

        pub fourth-pass : TagsPass text starts sizes codes ps row w₃ c
        fourth-pass = record { named = h.named; table = h.table; room = omega (arith, fourth-room) }

        module _ (d : ℕ) (w₄ : List ℕ) (t : WrittenAt w₃ c (chain_at text starts sizes codes ps row) d w₄) where
          pub fifth-room : d + 1 ≤ length w₄
          fifth-room = omega (arith, fourth-room, t.after, written-length t, chain_length text starts sizes codes ps h.named row)

          pub line-written : (e : ℕ) (w₅ : List ℕ) → WrittenAt w₄ d line_feed e w₅ → WrittenAt w₀ 0 (line_of number place (chain_at text starts sizes codes ps row)) e w₅
          line-written e w₅ u =
              subst (λ (l : List ℕ). WrittenAt w₀ 0 (decimal number ++ l) e w₅)
              (append_assoc (bytes " ") (decimal place) (bytes " " ++ (chain_at text starts sizes codes ps row ++ line_feed)))
              (written_then p (written_then q.written (written_then r (written_then t u))))
