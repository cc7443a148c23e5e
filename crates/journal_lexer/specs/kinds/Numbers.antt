-- Kinds of bytes by numbers: the lexer's step with tests on the number, and what the enum makes of it.
use Rattle.std.specs.Prelude.{Bool, cond, ◌&&◌, List, [], ◌∷◌, map, ◌≡◌, ℕ, zero, suc, ◌-◌, ◌≤◌, eqb, leb, ltb, drop, Option}
use Rattle.std.proofs.Math.Option.{none}
use Rattle.std.proofs.Common.{sym, ap, ◌∙◌, arith, ne_eqb, le-ltb}
use Rattle.std.proofs.Math.Path.{refl}
use Rattle.journal_lexer.specs.declared.kinds.ByteKind.{ByteKind}
use Rattle.journal_lexer.specs.declared.kinds.ByteKind.TheVariants.{Letter, Digit, Blank, Other, Slash, Greater, Less, Ampersand, Bracket, Foreign}
use Rattle.journal_lexer.specs.kinds.Kinds.{continues_name_kind, lex_by}
use Rattle.journal_lexer.specs.kinds.Laws.{is_letter_kind, is_blank_kind, is_slash, is_greater, is_less, is_ampersand, is_bracket, is_foreign_kind, noted-cases, between-cases, run-cases, opened-cases, tag-cases, end-tag-cases, slash-cases, ending-cases}
use Rattle.journal_lexer.specs.state.Places.{noted_by, first_noted}
use Rattle.text_spec.specs.Machines.{longer}
use Rattle.token_spec.specs.Lexer.{Run, run, Mode, between, in_data, in_entity, opened, in_name, after_name, after_slash, ending, in_end_name, after_end_name, stopped, starts, empties, ends, runs, Lexed, goes, tells, solid_by, tails_with, entity_byte}
use Rattle.token_spec.specs.Tokens.{entities}

-- ---- kinds by their numbers
abbrev pub letter : ℕ
letter = 0

abbrev pub digit : ℕ
digit = 1

abbrev pub blank : ℕ
blank = 2

abbrev pub other : ℕ
other = 3

abbrev pub slash : ℕ
slash = 4

abbrev pub greater : ℕ
greater = 5

abbrev pub less : ℕ
less = 6

abbrev pub ampersand : ℕ
ampersand = 7

abbrev pub bracket : ℕ
bracket = 8

abbrev pub foreign : ℕ
foreign = 9

abbrev pub number_of : ByteKind → ℕ
number_of Letter = letter
number_of Digit = digit
number_of Blank = blank
number_of Other = other
number_of Slash = slash
number_of Greater = greater
number_of Less = less
number_of Ampersand = ampersand
number_of Bracket = bracket
number_of Foreign = foreign

-- The definition's `lex`, told by the number c of the kind of the byte b at the place k.
abbrev pub data_by_number : Run → ℕ → ℕ → ℕ → Mode
data_by_number r brackets k c =
    cond (eqb c blank) (in_data r 0)
    (cond (eqb c ampersand) (in_entity (map (drop 1) entities) k (solid_by r k))
    (cond (eqb c bracket) (in_data (solid_by r k) (suc brackets))
    (cond (eqb c greater && leb 2 brackets) (stopped (k - 2)) (in_data (solid_by r k) 0))))

abbrev pub tag_by_number : ℕ → List ℕ → ℕ → Lexed
tag_by_number at n c =
    cond (eqb c blank) (goes (after_name at n))
    (cond (eqb c greater) (tells between (starts n at)) (cond (eqb c slash) (goes (after_slash at n)) (goes (stopped at))))

abbrev pub end_tag_by_number : ℕ → List ℕ → ℕ → Lexed
end_tag_by_number at n c = cond (eqb c blank) (goes (after_end_name at n)) (cond (eqb c greater) (tells between (ends n at)) (goes (stopped at)))

unfoldable pub lex_by_number : Mode → ℕ → ℕ → ℕ → Lexed
lex_by_number between k c b = cond (eqb c less) (goes (opened k)) (goes (data_by_number (run k none 0) 0 k c))
lex_by_number (in_data r brackets) k c b = cond (eqb c less) (tells (opened k) (runs r (k - r.start))) (goes (data_by_number r brackets k c))
lex_by_number (in_entity rests at r) k c b = goes (entity_byte (tails_with b rests) at k r)
lex_by_number (opened at) k c b = cond (eqb c slash) (goes (ending at)) (cond (eqb c letter) (goes (in_name at (b ∷ []))) (goes (stopped at)))
lex_by_number (in_name at n) k c b = cond (ltb c blank) (goes (longer (stopped at) n b (in_name at))) (tag_by_number at n c)
lex_by_number (after_name at n) k c b = tag_by_number at n c
lex_by_number (after_slash at n) k c b = cond (eqb c greater) (tells between (empties n at)) (goes (stopped at))
lex_by_number (ending at) k c b = cond (eqb c letter) (goes (in_end_name at (b ∷ []))) (goes (stopped at))
lex_by_number (in_end_name at n) k c b = cond (ltb c blank) (goes (longer (stopped at) n b (in_end_name at))) (end_tag_by_number at n c)
lex_by_number (after_end_name at n) k c b = end_tag_by_number at n c
lex_by_number (stopped at) k c b = goes (stopped at)

-- the first foreign byte, after a byte of the kind of this number at the place k
abbrev pub noted_by_number : ℕ → Option ℕ → ℕ → Option ℕ
noted_by_number c x k = cond (eqb c foreign) (first_noted x k) x

-- ---- the enum: past the last number a kind reads as any other byte
unfoldable pub kind_in : ℕ → ByteKind
kind_in n =
    cond (eqb n 0) Letter
    (cond (eqb n 1) Digit
    (cond (eqb n 2) Blank
    (cond (eqb n 4) Slash
    (cond (eqb n 5) Greater
    (cond (eqb n 6) Less
    (cond (eqb n 7) Ampersand
    (cond (eqb n 8) Bracket
    (cond (eqb n 9) Foreign Other))))))))

pub kind-numbered : (c : ByteKind) → kind_in (number_of c) ≡ c
unfolding kind_in
kind-numbered Letter = refl
kind-numbered Digit = refl
kind-numbered Blank = refl
kind-numbered Other = refl
kind-numbered Slash = refl
kind-numbered Greater = refl
kind-numbered Less = refl
kind-numbered Ampersand = refl
kind-numbered Bracket = refl
kind-numbered Foreign = refl

pub kinds-past : (n : ℕ) → 10 ≤ n → kind_in n ≡ Other
unfolding kind_in
kinds-past n h =
    rw (
      ne_eqb n 0 (λ e. omega arith),
      ne_eqb n 1 (λ e. omega arith),
      ne_eqb n 2 (λ e. omega arith),
      ne_eqb n 4 (λ e. omega arith),
      ne_eqb n 5 (λ e. omega arith),
      ne_eqb n 6 (λ e. omega arith),
      ne_eqb n 7 (λ e. omega arith),
      ne_eqb n 8 (λ e. omega arith),
      ne_eqb n 9 (λ e. omega arith),
    )
    refl

-- a test on numbers that is one on kinds
by-numbers : (f : ℕ → Bool) (g : ByteKind → Bool) → f 0 ≡ g Letter → f 1 ≡ g Digit → f 2 ≡ g Blank → f 3 ≡ g Other → f 4 ≡ g Slash → f 5 ≡ g Greater → f 6 ≡ g Less
    → f 7 ≡ g Ampersand → f 8 ≡ g Bracket → f 9 ≡ g Foreign
    → ((n : ℕ) → 10 ≤ n → f n ≡ g Other) → (n : ℕ) → f n ≡ g (kind_in n)
unfolding kind_in
by-numbers f g a0 a1 a2 a3 a4 a5 a6 a7 a8 a9 more zero = a0
by-numbers f g a0 a1 a2 a3 a4 a5 a6 a7 a8 a9 more (suc zero) = a1
by-numbers f g a0 a1 a2 a3 a4 a5 a6 a7 a8 a9 more (suc (suc zero)) = a2
by-numbers f g a0 a1 a2 a3 a4 a5 a6 a7 a8 a9 more (suc (suc (suc zero))) = a3
by-numbers f g a0 a1 a2 a3 a4 a5 a6 a7 a8 a9 more (suc (suc (suc (suc zero)))) = a4
by-numbers f g a0 a1 a2 a3 a4 a5 a6 a7 a8 a9 more (suc (suc (suc (suc (suc zero))))) = a5
by-numbers f g a0 a1 a2 a3 a4 a5 a6 a7 a8 a9 more (suc (suc (suc (suc (suc (suc zero)))))) = a6
by-numbers f g a0 a1 a2 a3 a4 a5 a6 a7 a8 a9 more (suc (suc (suc (suc (suc (suc (suc zero))))))) = a7
by-numbers f g a0 a1 a2 a3 a4 a5 a6 a7 a8 a9 more (suc (suc (suc (suc (suc (suc (suc (suc zero)))))))) = a8
by-numbers f g a0 a1 a2 a3 a4 a5 a6 a7 a8 a9 more (suc (suc (suc (suc (suc (suc (suc (suc (suc zero))))))))) = a9
by-numbers f g a0 a1 a2 a3 a4 a5 a6 a7 a8 a9 more (suc (suc (suc (suc (suc (suc (suc (suc (suc (suc n)))))))))) =
    more _ (omega arith) ∙ ap g (sym (kinds-past (suc (suc (suc (suc (suc (suc (suc (suc (suc (suc n)))))))))) (omega arith)))

-- the step by a number is the step by a kind, and so is what is noted of a foreign byte
pub record KindReads (c : ℕ) (kind : ByteKind) : Type 0 where
  pub steps : (m : Mode) (k b : ℕ) → lex_by_number m k c b ≡ lex_by m k kind b
  pub notes : (x : Option ℕ) (k : ℕ) → noted_by_number c x k ≡ noted_by kind x k

module _ (c : ℕ) where
  blank-number : eqb c 2 ≡ is_blank_kind (kind_in c)
  blank-number = by-numbers (λ n. eqb n 2) is_blank_kind refl refl refl refl refl refl refl refl refl refl (λ n h. ne_eqb n 2 (λ e. omega arith)) c

  slash-number : eqb c 4 ≡ is_slash (kind_in c)
  slash-number = by-numbers (λ n. eqb n 4) is_slash refl refl refl refl refl refl refl refl refl refl (λ n h. ne_eqb n 4 (λ e. omega arith)) c

  greater-number : eqb c 5 ≡ is_greater (kind_in c)
  greater-number = by-numbers (λ n. eqb n 5) is_greater refl refl refl refl refl refl refl refl refl refl (λ n h. ne_eqb n 5 (λ e. omega arith)) c

  less-number : eqb c 6 ≡ is_less (kind_in c)
  less-number = by-numbers (λ n. eqb n 6) is_less refl refl refl refl refl refl refl refl refl refl (λ n h. ne_eqb n 6 (λ e. omega arith)) c

  ampersand-number : eqb c 7 ≡ is_ampersand (kind_in c)
  ampersand-number = by-numbers (λ n. eqb n 7) is_ampersand refl refl refl refl refl refl refl refl refl refl (λ n h. ne_eqb n 7 (λ e. omega arith)) c

  bracket-number : eqb c 8 ≡ is_bracket (kind_in c)
  bracket-number = by-numbers (λ n. eqb n 8) is_bracket refl refl refl refl refl refl refl refl refl refl (λ n h. ne_eqb n 8 (λ e. omega arith)) c

  letter-number : eqb c 0 ≡ is_letter_kind (kind_in c)
  letter-number = by-numbers (λ n. eqb n 0) is_letter_kind refl refl refl refl refl refl refl refl refl refl (λ n h. ne_eqb n 0 (λ e. omega arith)) c

  foreign-number : eqb c 9 ≡ is_foreign_kind (kind_in c)
  foreign-number = by-numbers (λ n. eqb n 9) is_foreign_kind refl refl refl refl refl refl refl refl refl refl (λ n h. ne_eqb n 9 (λ e. omega arith)) c

  name-number : ltb c 2 ≡ continues_name_kind (kind_in c)
  name-number = by-numbers (λ n. ltb n 2) continues_name_kind refl refl refl refl refl refl refl refl refl refl (λ n h. le-ltb n 2 (omega arith)) c

  -- the step by the number is the step by its kind
  pub lex-number : (m : Mode) (k b : ℕ) → lex_by_number m k c b ≡ lex_by m k (kind_in c) b
  unfolding lex_by_number lex_by
  lex-number between k b = rw (less-number, blank-number, ampersand-number, bracket-number, greater-number) (between-cases k (kind_in c))
  lex-number (in_data r n) k b = rw (less-number, blank-number, ampersand-number, bracket-number, greater-number) (run-cases k r n (kind_in c))
  lex-number (in_entity rests at r) k b = refl
  lex-number (opened at) k b = rw (slash-number, letter-number) (opened-cases at (kind_in c) b)
  lex-number (in_name at n) k b = rw (name-number, blank-number, greater-number, slash-number) (rw (tag-cases at n (kind_in c)))
  lex-number (after_name at n) k b = rw (blank-number, greater-number, slash-number) (tag-cases at n (kind_in c))
  lex-number (after_slash at n) k b = rw (greater-number) (slash-cases at n (kind_in c))
  lex-number (ending at) k b = rw (letter-number) (ending-cases at (kind_in c) b)
  lex-number (in_end_name at n) k b = rw (name-number, blank-number, greater-number) (rw (end-tag-cases at n (kind_in c)))
  lex-number (after_end_name at n) k b = rw (blank-number, greater-number) (end-tag-cases at n (kind_in c))
  lex-number (stopped at) k b = refl

  pub noted-number : (x : Option ℕ) (k : ℕ) → noted_by_number c x k ≡ noted_by (kind_in c) x k
  noted-number x k = rw foreign-number (sym (noted-cases k (kind_in c) x))

  pub kind-reads : KindReads c (kind_in c)
  kind-reads = record { steps = lex-number; notes = noted-number }
