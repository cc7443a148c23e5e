-- A byte's kind tells what the lexer does with it.
use Rattle.std.specs.Prelude.{Bool, true, false, cond, not, ◌&&◌, ◌||◌, List, [], ◌∷◌, map, ◌≡◌, ℕ, zero, suc, ◌+◌, ◌-◌, ◌≤◌, ◌<◌, T, eqb, leb, drop}
use Rattle.std.proofs.Math.Option.{none}
use Rattle.std.proofs.Math.Logic.{⊎_elim}
use Rattle.std.proofs.Math.Path.{refl}
use Rattle.std.proofs.Common.{subst, eq-or-lt_of_le, arith}
use Rattle.std.specs.Prelude.{Option}
use Rattle.journal_lexer.specs.declared.kinds.ByteKind.{ByteKind}
use Rattle.journal_lexer.specs.declared.kinds.ByteKind.TheVariants.{Letter, Blank, Slash, Greater, Less, Ampersand, Bracket, Foreign}
use Rattle.journal_lexer.specs.kinds.Kinds.{continues_name_kind, kind_of, tag_by, end_tag_by, lex_by, between_by, run_by, opened_by, slash_by, ending_by}
use Rattle.journal_lexer.specs.state.Places.{noted_by, first_noted}
use Rattle.text_laws.specs.Tests.{and_cases, or_cases, not-elim, passed}
use Rattle.text_spec.specs.Bytes.{is_between, is_blank, is_foreign, starts_name, continues_name}
use Rattle.token_spec.specs.Lexer.{Run, run, Mode, between, in_data, in_entity, opened, in_name, after_name, after_slash, ending, in_end_name, after_end_name, stopped, starts, empties, ends, runs, goes, tells, solid_by, lex}
use Rattle.token_spec.specs.Tokens.{entities}

equal_tests : Bool → Bool → Bool
equal_tests true b = b
equal_tests false b = not b

equal-tests : (a b : Bool) → T (equal_tests a b) → a ≡ b
unfolding equal_tests
equal-tests true true t = refl
equal-tests true false t = absurd t
equal-tests false true t = absurd t
equal-tests false false t = refl

-- f holds at n numbers from l on
each : (ℕ → Bool) → ℕ → ℕ → Bool
each f l zero = true
each f l (suc n) = f l && each f (suc l) n

each_at : (f : ℕ → Bool) (l n b : ℕ) → T (each f l n) → l ≤ b → b < l + n → T (f b)
unfolding each
each_at f l zero b t lo hi = absurd (omega arith)
each_at f l (suc n) b t lo hi =
    let p = and_cases (f l) (each f (suc l) n) t in
    ⊎_elim (λ e. subst (λ (x : ℕ). T (f x)) e p.0) (λ lt. each_at f (suc l) n b p.1 lt (omega arith)) (eq-or-lt_of_le lo)

-- a test on bytes that is one on kinds, computed over all 256
by-kinds : (f : ℕ → Bool) (g : ByteKind → Bool) → T (each (λ b. equal_tests (f b) (g (kind_of b))) 0 256) → (b : ℕ) → b < 256 → f b ≡ g (kind_of b)
by-kinds f g t b h = equal-tests (f b) (g (kind_of b)) (each_at (λ b. equal_tests (f b) (g (kind_of b))) 0 256 b t (omega arith) (omega arith))

-- ---- tests on the kind
abbrev pub is_letter_kind : ByteKind → Bool
is_letter_kind Letter = true
is_letter_kind c = false

abbrev pub is_blank_kind : ByteKind → Bool
is_blank_kind Blank = true
is_blank_kind c = false

abbrev pub is_slash : ByteKind → Bool
is_slash Slash = true
is_slash c = false

abbrev pub is_greater : ByteKind → Bool
is_greater Greater = true
is_greater c = false

abbrev pub is_less : ByteKind → Bool
is_less Less = true
is_less c = false

abbrev pub is_ampersand : ByteKind → Bool
is_ampersand Ampersand = true
is_ampersand c = false

abbrev pub is_bracket : ByteKind → Bool
is_bracket Bracket = true
is_bracket c = false

abbrev pub is_foreign_kind : ByteKind → Bool
is_foreign_kind Foreign = true
is_foreign_kind c = false

module _ (b : ℕ) (h : b < 256) where
  blank-kind : is_blank b ≡ is_blank_kind (kind_of b)
  unfolding kind_of equal_tests each
  blank-kind = by-kinds is_blank is_blank_kind tt b h

  slash-kind : eqb b 0x2F ≡ is_slash (kind_of b)
  unfolding kind_of equal_tests each
  slash-kind = by-kinds (λ b. eqb b 0x2F) is_slash tt b h

  greater-kind : eqb b 0x3E ≡ is_greater (kind_of b)
  unfolding kind_of equal_tests each
  greater-kind = by-kinds (λ b. eqb b 0x3E) is_greater tt b h

  less-kind : eqb b 0x3C ≡ is_less (kind_of b)
  unfolding kind_of equal_tests each
  less-kind = by-kinds (λ b. eqb b 0x3C) is_less tt b h

  ampersand-kind : eqb b 0x26 ≡ is_ampersand (kind_of b)
  unfolding kind_of equal_tests each
  ampersand-kind = by-kinds (λ b. eqb b 0x26) is_ampersand tt b h

  bracket-kind : eqb b 0x5D ≡ is_bracket (kind_of b)
  unfolding kind_of equal_tests each
  bracket-kind = by-kinds (λ b. eqb b 0x5D) is_bracket tt b h

  letter-kind : starts_name b ≡ is_letter_kind (kind_of b)
  unfolding kind_of equal_tests each
  letter-kind = by-kinds starts_name is_letter_kind tt b h

  pub name-kind : continues_name b ≡ continues_name_kind (kind_of b)
  unfolding kind_of equal_tests each
  name-kind = by-kinds continues_name continues_name_kind tt b h

  pub foreign-kind : is_foreign b ≡ is_foreign_kind (kind_of b)
  unfolding kind_of equal_tests each
  foreign-kind = by-kinds is_foreign is_foreign_kind tt b h

  -- a byte of a name is not 0
  pub name-filled : continues_name_kind (kind_of b) ≡ true → T (is_between 1 255 b)
  unfolding kind_of each
  name-filled e =
      ⊎_elim (λ t. absurd (not-elim (continues_name_kind (kind_of b)) t (passed e))) (λ t. t)
      (or_cases (not (continues_name_kind (kind_of b))) (is_between 1 255 b)
      (each_at (λ x. not (continues_name_kind (kind_of x)) || is_between 1 255 x) 0 256 b tt (omega arith) (omega arith)))

-- ---- the lexer's step by the kind
module _ (k : ℕ) where
  pub noted-cases : (c : ByteKind) (x : Option ℕ) → noted_by c x k ≡ cond (is_foreign_kind c) (first_noted x k) x
  noted-cases Foreign x = refl
  noted-cases c x = refl

  abbrev pub data_cases : Run → ℕ → ByteKind → Mode
  data_cases r n c =
      cond (is_blank_kind c) (in_data r 0)
      (cond (is_ampersand c) (in_entity (map (drop 1) entities) k (solid_by r k))
      (cond (is_bracket c) (in_data (solid_by r k) (suc n)) (cond (is_greater c && leb 2 n) (stopped (k - 2)) (in_data (solid_by r k) 0))))

  pub between-cases : (c : ByteKind) → cond (is_less c) (goes (opened k)) (goes (data_cases (run k none 0) 0 c)) ≡ between_by k c
  between-cases Less = refl
  between-cases c = refl

  pub run-cases : (r : Run) (n : ℕ) (c : ByteKind) → cond (is_less c) (tells (opened k) (runs r (k - r.start))) (goes (data_cases r n c)) ≡ run_by r n k c
  run-cases r n Less = refl
  run-cases r n c = refl

module _ (at : ℕ) where
  pub opened-cases : (c : ByteKind) (b : ℕ)
      → cond (is_slash c) (goes (ending at)) (cond (is_letter_kind c) (goes (in_name at (b ∷ []))) (goes (stopped at))) ≡ opened_by at c b
  opened-cases Slash b = refl
  opened-cases c b = refl

  pub tag-cases : (n : List ℕ) (c : ByteKind)
      → cond (is_blank_kind c) (goes (after_name at n))
      (cond (is_greater c) (tells between (starts n at)) (cond (is_slash c) (goes (after_slash at n)) (goes (stopped at)))) ≡ tag_by at n c
  tag-cases n Blank = refl
  tag-cases n c = refl

  pub end-tag-cases : (n : List ℕ) (c : ByteKind)
      → cond (is_blank_kind c) (goes (after_end_name at n)) (cond (is_greater c) (tells between (ends n at)) (goes (stopped at))) ≡ end_tag_by at n c
  end-tag-cases n Blank = refl
  end-tag-cases n c = refl

  pub slash-cases : (n : List ℕ) (c : ByteKind) → cond (is_greater c) (tells between (empties n at)) (goes (stopped at)) ≡ slash_by at n c
  slash-cases n Greater = refl
  slash-cases n c = refl

  pub ending-cases : (c : ByteKind) (b : ℕ) → cond (is_letter_kind c) (goes (in_end_name at (b ∷ []))) (goes (stopped at)) ≡ ending_by at c b
  ending-cases Letter b = refl
  ending-cases c b = refl

module _ (b : ℕ) (h : b < 256) where
  pub noted-kind : (x : Option ℕ) (k : ℕ) → noted_by (kind_of b) x k ≡ cond (is_foreign b) (first_noted x k) x
  noted-kind x k = rw (foreign-kind b h) (noted-cases k (kind_of b) x)

  pub lex-kind : (m : Mode) (k : ℕ) → lex m k b ≡ lex_by m k (kind_of b) b
  unfolding lex lex_by
  lex-kind between k = rw (less-kind b h, blank-kind b h, ampersand-kind b h, bracket-kind b h, greater-kind b h) (between-cases k (kind_of b))
  lex-kind (in_data r n) k = rw (less-kind b h, blank-kind b h, ampersand-kind b h, bracket-kind b h, greater-kind b h) (run-cases k r n (kind_of b))
  lex-kind (in_entity rests at r) k = refl
  lex-kind (opened at) k = rw (slash-kind b h, letter-kind b h) (opened-cases at (kind_of b) b)
  lex-kind (in_name at n) k = rw (name-kind b h, blank-kind b h, greater-kind b h, slash-kind b h) (rw (tag-cases at n (kind_of b)))
  lex-kind (after_name at n) k = rw (blank-kind b h, greater-kind b h, slash-kind b h) (tag-cases at n (kind_of b))
  lex-kind (after_slash at n) k = rw (greater-kind b h) (slash-cases at n (kind_of b))
  lex-kind (ending at) k = rw (letter-kind b h) (ending-cases at (kind_of b) b)
  lex-kind (in_end_name at n) k = rw (name-kind b h, blank-kind b h, greater-kind b h) (rw (end-tag-cases at n (kind_of b)))
  lex-kind (after_end_name at n) k = rw (blank-kind b h, greater-kind b h) (end-tag-cases at n (kind_of b))
  lex-kind (stopped at) k = refl
