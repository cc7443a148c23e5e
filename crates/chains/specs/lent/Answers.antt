-- A chain answered in lent cells: its bytes and then zeros, or refusal 18 and zeros alone.
use Rattle.std.specs.Prelude.{Bool, true, false, List, [], ◌++◌, ◌≡◌, ℕ, ◌+◌, ◌≤◌, ◌<◌, Ok, Err, length, get_or, drop}
use Rattle.std.proofs.Common.{sym, ap, ◌∙◌, arith, lt-ltb, le-ltb}
use Rattle.std.proofs.Math.ListN.{get_or-append}
use Rattle.std.proofs.lemmas.List.Edits.{sets, sets-eq}
use Rattle.std.proofs.Math.Seq.{length-sets}
use Rattle.cells.specs.lent.Appended.{Appended, appended-cleared}
use Rattle.cells.specs.lent.Cells.{Cleared}
use Rattle.cells.specs.verdicts.Verdicts.{verdict, in_bytes, AnsweredBytes}
use Rattle.chains.specs.tags.Chains.{chain_at, chain_size, NamesAt, Chained, chain_length}
use Rattle.text.specs.declared.refusals.Reason.TheVariants.{TooFewCells}
use Rattle.text.specs.refusals.Refusals.{refusal}
use Rattle.text_spec.specs.Calls.{in_room, cells_after}
use Rattle.text_spec.specs.Cells.{padded, too_small}

-- bytes noted from the first cell on
appended-sets : (was w : List ℕ) → length w ≤ length was → Appended was 0 w (length w) (sets was 0 w)
appended-sets was w l =
    record {
      long = length-sets was 0 w;
      count = omega arith;
      kept = λ k b. absurd (omega arith);
      cells = λ k b h.
          ap (λ (o : List ℕ). get_or o (0 + k) 0) (sets-eq w was 0 (omega arith))
          ∙ ap (λ (i : ℕ). get_or (w ++ drop (0 + length w) was) i 0) (nothing-before k) ∙ get_or-append w (drop (0 + length w) was) 0 k b;
    }
  where
    nothing-before : (k : ℕ) → 0 + k ≡ k
    nothing-before k = omega arith

module _ (chain was out : List ℕ) where
  answered-18 : length was < length chain → out ≡ padded (length was) [] → AnsweredBytes (in_bytes (length was) chain) (length was) (Err (refusal TooFewCells 0)) out
  answered-18 l c =
      let short : too_small (length was) chain ≡ true = lt-ltb (length was) (length chain) l in
      record {
        answer = sym (ap (λ (b : Bool). verdict (in_room b chain)) short);
        cells = c ∙ sym (ap (λ (b : Bool). cells_after (length was) (λ w. w) (in_room b chain)) short);
      }

  answered-chain : (mid : List ℕ) (n : ℕ) → length chain ≤ length was → n ≡ length chain → mid ≡ sets was 0 chain → Cleared mid n out
      → AnsweredBytes (in_bytes (length was) chain) (length was) (Ok n) out
  answered-chain mid n l e m c =
      let room : too_small (length was) chain ≡ false = le-ltb (length was) (length chain) l in
      let noted : Appended was 0 chain n mid = rw (e, m) (appended-sets was chain l) in
      record {
        answer = ap Ok e ∙ sym (ap (λ (b : Bool). verdict (in_room b chain)) room);
        cells = appended-cleared was mid out chain n noted c ∙ sym (ap (λ (b : Bool). cells_after (length was) (λ w. w) (in_room b chain)) room);
      }

-- the same by the measured size of the chain of a row
module _ (text starts sizes codes ps : List ℕ) (row k : ℕ) (named : NamesAt text starts sizes) (measured : k ≡ chain_size sizes codes ps row) (was out : List ℕ) where
  abbrev chain : List ℕ
  chain = chain_at text starts sizes codes ps row

  pub answered-short : length was < k → out ≡ padded (length was) [] → AnsweredBytes (in_bytes (length was) chain) (length was) (Err (refusal TooFewCells 0)) out
  answered-short l c = answered-18 chain was out (omega (arith, chain_length text starts sizes codes ps named row)) c

  pub answered-whole : (mid : List ℕ) (n : ℕ) → k ≤ length was → Chained text starts sizes codes ps row was n mid → Cleared mid n out
      → AnsweredBytes (in_bytes (length was) chain) (length was) (Ok n) out
  answered-whole mid n l w c =
      answered-chain chain was out mid n (omega (arith, chain_length text starts sizes codes ps named row)) w.counted w.written c
