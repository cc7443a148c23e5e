-- Laws of the relation between the code's state and the definition's modes: one byte more, by the ways in which a byte function ends.
use Rattle.std.specs.Prelude.{◌⊎◌, ◌≡◌, refl, ℕ}
use Rattle.std.proofs.Common.{inl, inr, sym, ap, subst, ◌∙◌}
use Rattle.journal_lexer.specs.declared.kinds.ByteKind.{ByteKind}
use Rattle.journal_lexer.specs.declared.kinds.ByteKind.TheVariants.{Foreign}
use Rattle.journal_lexer.specs.declared.state.Event.{Event as CodeEvent}
use Rattle.journal_lexer.specs.declared.state.Event.TheVariants.{Quiet}
use Rattle.journal_lexer.specs.declared.state.Lex.{Lex}
use Rattle.journal_lexer.specs.declared.state.Mode.{Mode as CodeMode}
use Rattle.journal_lexer.specs.declared.state.Mode.TheVariants.{Between, Opened, Stopped}
use Rattle.journal_lexer.specs.declared.state.Places.{Places}
use Rattle.journal_lexer.specs.kinds.Kinds.{lex_by}
use Rattle.journal_lexer.specs.kinds.Laws.{lex-kind, noted-kind}
use Rattle.journal_lexer.specs.state.Places.{with_foreign, not-foreign, lent-next, lent-same}
use Rattle.journal_lexer.specs.state.Relation.{MeansAs, TellsEvent, first_foreign, Handed, Meant, Steps, stepped}
use Rattle.token_spec.specs.Lexer.{Mode, stopped, Lexed, goes}

-- a result that is known
pub meant-as : {l : Lex} {p : Places} {b : ℕ} {r s : Lex} {q t : Places} {x : Lexed} → r ≡ s → q ≡ t → Meant l p b s t x → Meant l p b r q x
meant-as {l} {p} {b} {r} {s} {q} {t} {x} e f m =
    subst (λ (y : Lex). Meant l p b y q x) (sym e) (subst (λ (z : Places). Meant l p b s z x) (sym f) m)

pub meant-of : {l : Lex} {p : Places} {b : ℕ} {r : Lex} {q : Places} {x y : Lexed} → x ≡ y → Meant l p b r q y → Meant l p b r q x
meant-of {l} {p} {b} {r} {q} e m = subst (λ (z : Lexed). Meant l p b r q z) (sym e) m

-- a mode that is known
pub steps-in : {l : Lex} {p : Places} {b : ℕ} {r : Lex} {q : Places} {x y : CodeMode} → x ≡ y → Steps y l p b r q → Steps x l p b r q
steps-in {l} {p} {b} {r} {q} e s = subst (λ (z : CodeMode). Steps z l p b r q) (sym e) s

module _ {l : Lex} {p : Places} {b : ℕ} {c : ByteKind} (h : Handed l p b c) where
  -- by the byte's kind
  pub steps-by : {r : Lex} {q : Places} (mode : CodeMode) → ((m : Mode) → MeansAs mode l p m → Meant l p b r q (lex_by m l.place c b))
      → Steps mode l p b r q
  steps-by mode f = record { meant = λ m w. meant-of (lex-kind b h.byte m l.place ∙ rw (← h.kind)) (f m w) }

  -- where the definition's mode is known
  pub leads : {r : Lex} {q : Places} {m n : Mode} → m ≡ n → Meant l p b r q (lex_by n l.place c b) → Meant l p b r q (lex_by m l.place c b)
  leads {m = m} {n = n} e g = meant-of (ap (λ (z : Mode). lex_by z l.place c b) e) g

  -- the first foreign byte, where the places changed in other fields and the byte was noted
  pub foreign-noted : (q : Places) → q.foreign_at ≡ p.foreign_at → (with_foreign c q l.place).foreign_at ≡ first_foreign p.foreign_at b l.place
  foreign-noted q e = rw (e, h.kind) (noted-kind b h.byte p.foreign_at l.place)

  -- where the byte is not foreign
  pub foreign-same : (q : Places) → (c ≡ Foreign → ⊥) → q.foreign_at ≡ p.foreign_at → q.foreign_at ≡ first_foreign p.foreign_at b l.place
  foreign-same q n e = e ∙ ap (λ (q : Places). q.foreign_at) (sym (not-foreign c p l.place n)) ∙ foreign-noted p refl

  -- one byte more in a mode, without an event, where the byte may be foreign
  pub goes-noted : (mode : CodeMode) (m : Mode) → MeansAs mode l (with_foreign c p l.place) m
      → Meant l p b (stepped mode Quiet l) (with_foreign c p l.place) (goes m)
  goes-noted mode m w =
      record { place = refl; mode = w; event = refl; silent = inl refl; foreign = foreign-noted p refl; lent = lent-next (lent-same _ refl h.lent) }

  -- where it is not foreign
  pub goes-plain : (mode : CodeMode) (m : Mode) → (c ≡ Foreign → ⊥) → MeansAs mode l p m → Meant l p b (stepped mode Quiet l) p (goes m)
  goes-plain mode m n w = record { place = refl; mode = w; event = refl; silent = inl refl; foreign = foreign-same p n refl; lent = lent-next h.lent }

  -- the last byte of a token
  pub tells-plain : (mode : CodeMode) (event : CodeEvent) (x : Lexed) → (c ≡ Foreign → ⊥) → MeansAs mode l p x.mode
      → TellsEvent (stepped mode event l) p x.event → (mode ≡ Between) ⊎ (mode ≡ Opened) → Meant l p b (stepped mode event l) p x
  tells-plain mode event x n w t s = record { place = refl; mode = w; event = t; silent = inr s; foreign = foreign-same p n refl; lent = lent-next h.lent }

  -- where nothing can follow
  pub stops : {r : Lex} {q : Places} → r ≡ stepped Stopped Quiet l → q ≡ with_foreign c p l.place → Meant l p b r q (goes (stopped p.at))
  stops e f = meant-as e f (goes-noted Stopped (stopped p.at) refl)
