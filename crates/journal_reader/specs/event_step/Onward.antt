-- What reading on up to an event leaves of the lexer's state.
use Rattle.std.specs.Prelude.{List, ◌≡◌, refl, ℕ, ◌≤◌, ◌<◌, length}
use Rattle.std.proofs.Common.{inl, inr, ap, subst, ◌∙◌}
use Rattle.journal_lexer.specs.data_loops.Modes.{DataMode}
use Rattle.journal_lexer.specs.declared.kinds.ByteKind.{ByteKind}
use Rattle.journal_lexer.specs.declared.state.Event.TheVariants.{Quiet}
use Rattle.journal_lexer.specs.declared.state.Lex.{Lex}
use Rattle.journal_lexer.specs.declared.state.Mode.{Mode as CodeMode}
use Rattle.journal_lexer.specs.declared.state.Mode.TheVariants.{Between, Blanks, Solid, AfterBracket, AfterBrackets, InEntity, Opened, InName, AfterName, AfterSlash, Ending, InEndName, AfterEndName, Stopped}
use Rattle.journal_lexer.specs.declared.state.Places.{Places}
use Rattle.journal_lexer.specs.loop_laws.Advance.{foreign_below, Stands, Valid, Ready, either, Progress, moved, stayed, Advance}
use Rattle.journal_lexer.specs.run_laws.Passes.{stays}
use Rattle.journal_lexer.specs.state.Places.{Lent}
use Rattle.journal_lexer.specs.state.Relation.{MeansMode, with_event}
use Rattle.journal_lexer.specs.tag_loops.Modes.{TagMode}
use Rattle.token_spec.specs.Lexer.{Mode, quiet}

-- from l and p to r and q the lexer has gone as the definition goes, by one byte at least and with one event at most
pub record Onward (text : List ℕ) (l : Lex) (p : Places) (r : Lex) (q : Places) : Type 0 where
  pub inside : r.place ≤ length text
  pub lent : Lent r.place q
  pub valid : Valid r q
  pub further : l.place < r.place
  pub stands : (m : Mode) → MeansMode l p m → p.foreign_at ≡ foreign_below text l.place → Stands text l.place m r q

-- every mode is one that a loop reads in
every-mode : (mode : CodeMode) → either DataMode TagMode mode
every-mode Between = inl (inl refl)
every-mode Blanks = inl (inr (inl refl))
every-mode Solid = inl (inr (inr (inl refl)))
every-mode InEntity = inl (inr (inr (inr refl)))
every-mode Opened = inr (inl refl)
every-mode Ending = inr (inr (inl refl))
every-mode InName = inr (inr (inr (inl refl)))
every-mode InEndName = inr (inr (inr (inr (inl refl))))
every-mode AfterBracket = inr (inr (inr (inr (inr tt))))
every-mode AfterBrackets = inr (inr (inr (inr (inr tt))))
every-mode AfterName = inr (inr (inr (inr (inr tt))))
every-mode AfterSlash = inr (inr (inr (inr (inr tt))))
every-mode AfterEndName = inr (inr (inr (inr (inr tt))))
every-mode Stopped = inr (inr (inr (inr (inr tt))))

pub further-all : {text : List ℕ} {l r : Lex} → Progress (either DataMode TagMode) text l r → l.place < length text → l.place < r.place
further-all (moved a) h = a
further-all {l = l} (stayed e n) h = absurd (n h (every-mode l.mode))

-- where there is an event, a byte was read
pub further-event : {f : CodeMode → Type 0} {text : List ℕ} {l r : Lex} → Progress f text l r → l.event ≡ Quiet → (r.event ≡ Quiet → ⊥) → l.place < r.place
further-event (moved a) z x = a
further-event (stayed e n) z x = absurd (x (ap (λ (y : Lex). y.event) e ∙ z))

module _ (l s : Lex) (e : s ≡ with_event Quiet l) where
  pub quiet-event : s.event ≡ Quiet
  quiet-event = ap (λ (y : Lex). y.event) e

  quiet-place : s.place ≡ l.place
  quiet-place = ap (λ (y : Lex). y.place) e

  pub quiet-more : {n : ℕ} → l.place < n → s.place < n
  quiet-more h = rw quiet-place h

  pub quiet-ready : {text : List ℕ} {kinds : List ByteKind} {p : Places} → Ready text kinds l p → Ready text kinds s p
  quiet-ready h =
      rw e
      (record {
        table = h.table;
        short = h.short;
        inside = h.inside;
        lent = h.lent;
        valid = record { mode = h.valid.mode; means = h.valid.means };
      })

  pub onward : {f : CodeMode → Type 0} {text : List ℕ} {p q : Places} {r : Lex} → Advance f text s p r q → s.place < r.place → Onward text l p r q
  onward {text = text} {p = p} {r = r} a h =
      record {
        inside = a.inside;
        lent = a.lent;
        valid = a.valid;
        further = subst (λ (k : ℕ). k < r.place) quiet-place h;
        stands = λ m w f. a.stands l.place m (here m w f);
      }
    where
      here : (m : Mode) → MeansMode l p m → p.foreign_at ≡ foreign_below text l.place → Stands text l.place m s p
      here m w f = rw e (record { mode = m; event = quiet; way = stays; means = w; told = refl; silent = inl refl; foreign = f })
