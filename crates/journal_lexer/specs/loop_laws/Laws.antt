-- Laws of loops: none, one byte more, one loop after the other.
use Rattle.std.specs.Prelude.{List, ◌⊎◌, ◌≡◌, refl, length}
use Rattle.std.proofs.Common.{inl, inr, ◌∙◌, arith}
use Rattle.std.proofs.Math.Path.{sym, ap, subst}
use Prim.Native.Nat.{ℕ, suc, ◌+◌, ◌-◌, ◌<◌}
use Rattle.std.proofs.Math.Numerals.{add-one}
use Rattle.std.specs.Prelude.{Option}
use Rattle.journal_lexer.specs.declared.kinds.ByteKind.{ByteKind}
use Rattle.journal_lexer.specs.declared.state.Event.{Event as CodeEvent}
use Rattle.journal_lexer.specs.declared.state.Event.TheVariants.{Quiet}
use Rattle.journal_lexer.specs.declared.state.Lex.{Lex}
use Rattle.journal_lexer.specs.declared.state.Mode.{Mode as CodeMode}
use Rattle.journal_lexer.specs.declared.state.Places.{Places}
use Rattle.journal_lexer.specs.loop_laws.Advance.{foreign_below, Stands, Ready, Lasting, never, either, Progress, moved, stayed, Advance, Looked, byte_at, kind_at}
use Rattle.journal_lexer.specs.run_laws.Passes.{Passes, reads}
use Rattle.journal_lexer.specs.state.Relation.{TellsEvent, Tells, Silent, first_foreign, Handed, Steps}
use Rattle.token_spec.specs.Lexer.{Mode, Event, quiet, lex}

pub looked-handed : {text : List ℕ} {kinds : List ByteKind} {l : Lex} {p : Places} → Looked text kinds l p
    → Handed l p (byte_at text l) (kind_at text kinds l)
looked-handed {text} {kinds} {l} {p} h =
    record {
      room = omega (arith, h.more, h.ready.short);
      lent = h.ready.lent;
      byte = h.byte;
      kind = h.ready.table.kind (byte_at text l) h.byte;
    }

quiet_told : (l : Lex) (p : Places) (e : Event) → l.event ≡ Quiet → TellsEvent l p e → e ≡ quiet
quiet_told l p e z t = subst (λ (x : CodeEvent). Tells x l.name p e) z t

-- ---- the state after a loop
pub ready-after : {f : CodeMode → Type 0} {text : List ℕ} {kinds : List ByteKind} {l r : Lex} {p q : Places} → Ready text kinds l p
    → Advance f text l p r q → Ready text kinds r q
ready-after h g = record { table = h.table; short = h.short; inside = g.inside; lent = g.lent; valid = g.valid }

-- ---- no byte
pub advance-none : {f : CodeMode → Type 0} {text : List ℕ} {kinds : List ByteKind} {l : Lex} {p : Places} → Ready text kinds l p
    → (l.place < length text → f l.mode → ⊥) → Advance f text l p l p
advance-none h n = record { inside = h.inside; lent = h.lent; valid = h.valid; stands = λ k m a. a; progress = stayed refl n }

-- ---- one byte, where the lexer has no event
module _ {text : List ℕ} {kinds : List ByteKind} {l r : Lex} {p q : Places} (h : Looked text kinds l p) (s : Steps l.mode l p (byte_at text l) r q) where
  next-stands : l.event ≡ Quiet → (k : ℕ) (m : Mode) → Stands text k m l p → Stands text k m r q
  unfolding foreign_below
  next-stands z k m a =
      let g = s.meant a.mode a.means in
      let x = lex a.mode l.place (byte_at text l) in
      let i : suc l.place ≡ r.place = sym (g.place ∙ add-one l.place) in
      let w : Passes text k m l.place a.mode quiet =
      subst (λ (y : Event). Passes text k m l.place a.mode y) (quiet_told l p a.event z a.told) a.way
      in
      record {
        mode = x.mode;
        event = x.event;
        way = subst (λ (j : ℕ). Passes text k m j x.mode x.event) i (reads w h.more refl);
        means = g.mode;
        told = g.event;
        silent = g.silent;
        foreign = g.foreign ∙ ap (λ (y : Option ℕ). first_foreign y (byte_at text l) l.place) a.foreign ∙ ap (foreign_below text) i;
      }

  -- the place is one more
  next_place : r.place ≡ l.place + 1
  next_place = (s.meant h.ready.valid.mode h.ready.valid.means).place

  next-advance : (f : CodeMode → Type 0) → ((k : ℕ) (m : Mode) → Stands text k m l p → Stands text k m r q) → Advance f text l p r q
  next-advance f t =
      let g = s.meant h.ready.valid.mode h.ready.valid.means in
      record {
        inside = omega (arith, h.more, next_place);
        lent = g.lent;
        valid = record { mode = (lex h.ready.valid.mode l.place (byte_at text l)).mode; means = g.mode };
        stands = t;
        progress = moved (omega (arith, next_place));
      }

  -- the measure of a loop falls
  pub next-falls : length text - r.place < length text - l.place
  next-falls = omega (arith, h.more, next_place)

  -- where the event is dealt with
  pub next-quiet : (f : CodeMode → Type 0) → l.event ≡ Quiet → Advance f text l p r q
  next-quiet f z = next-advance f (next-stands z)

  -- in a mode that no event ends in
  pub next-within : (f : CodeMode → Type 0) → Lasting l.mode → Advance f text l p r q
  next-within f n = next-advance f (λ k m a. next-stands (pick a.silent) k m a)
    where
      pick : Silent l → l.event ≡ Quiet
      pick (inl e) = e
      pick (inr (inl e)) = absurd (n.not_between e)
      pick (inr (inr e)) = absurd (n.not_opened e)

-- ---- one loop after the other
progress-then : {f g : CodeMode → Type 0} {text : List ℕ} {l s r : Lex} → Progress f text l s → Progress g text s r → Progress (either f g) text l r
progress-then (moved a) (moved b) = moved (omega arith)
progress-then (moved a) (stayed e n) = moved (rw e a)
progress-then (stayed e n) (moved b) = moved (rw e at b)
progress-then {f} {g} {text} {l} {s} {r} (stayed e n) (stayed d o) = stayed (d ∙ e) neither
  where
    neither : l.place < length text → f l.mode ⊎ g l.mode → ⊥
    neither h (inl x) = n h x
    neither h (inr x) = o (subst (λ (y : Lex). y.place < length text) (sym e) h) (subst (λ (y : Lex). g y.mode) (sym e) x)

pub advance-then : {f g : CodeMode → Type 0} {text : List ℕ} {l s r : Lex} {p o q : Places} → Advance f text l p s o → Advance g text s o r q
    → Advance (either f g) text l p r q
advance-then a b =
    record {
      inside = b.inside;
      lent = b.lent;
      valid = b.valid;
      stands = λ k m x. b.stands k m (a.stands k m x);
      progress = progress-then a.progress b.progress;
    }

-- a loop as far as some of its modes are concerned
pub advance-of : {f g : CodeMode → Type 0} {text : List ℕ} {l r : Lex} {p q : Places} → ((m : CodeMode) → f m → g m) → Advance g text l p r q
    → Advance f text l p r q
advance-of {f} {g} {text} {l} {r} w c = record { inside = c.inside; lent = c.lent; valid = c.valid; stands = c.stands; progress = pick c.progress }
  where
    pick : Progress g text l r → Progress f text l r
    pick (moved m) = moved m
    pick (stayed e n) = stayed e (λ h x. n h (w l.mode x))

-- two loops as far as the first is concerned, and as far as the second is
pub advance-first : {f g : CodeMode → Type 0} {text : List ℕ} {l s r : Lex} {p o q : Places} → Advance f text l p s o → Advance g text s o r q
    → Advance f text l p r q
advance-first a b = advance-of (λ m x. inl x) (advance-then a b)

pub advance-last : {f g : CodeMode → Type 0} {text : List ℕ} {l s r : Lex} {p o q : Places} → Advance f text l p s o → Advance g text s o r q
    → Advance g text l p r q
advance-last a b = advance-of (λ m x. inr x) (advance-then a b)

-- a turn of a loop, and its end
pub advance-more : {text : List ℕ} {kinds : List ByteKind} {l s r : Lex} {p o q : Places} → Looked text kinds s o → Steps s.mode s o (byte_at text s) r q
    → Lasting s.mode → Advance never text l p s o → Advance never text l p r q
advance-more h s n a = advance-first a (next-within h s never n)

pub advance-end : {f : CodeMode → Type 0} {text : List ℕ} {l s : Lex} {p q : Places} → Advance never text l p s q
    → (s.place < length text → f s.mode → ⊥) → Advance f text l p s q
advance-end {f} {text} {l} {s} a n =
    record { inside = a.inside; lent = a.lent; valid = a.valid; stands = a.stands; progress = pick a.progress }
  where
    pick : Progress never text l s → Progress f text l s
    pick (moved m) = moved m
    pick (stayed e o) =
        stayed e
        (λ h x. n (subst (λ (y : Lex). y.place < length text) (sym e) h) (subst (λ (y : Lex). f y.mode) (sym e) x))
