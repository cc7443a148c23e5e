-- What the functions over the bytes of one mode are asked for: one byte, a turn of a loop, the end of a loop.
use Rattle.std.specs.Prelude.{List, ◌≡◌, ℕ, ◌-◌, ◌≤◌, ◌<◌, length, get_or}
use Rattle.std.proofs.Common.{sym, subst, arith}
use Rattle.journal_lexer.specs.declared.kinds.ByteKind.{ByteKind}
use Rattle.journal_lexer.specs.declared.state.Event.TheVariants.{Quiet}
use Rattle.journal_lexer.specs.declared.state.Lex.{Lex}
use Rattle.journal_lexer.specs.declared.state.Mode.{Mode as CodeMode}
use Rattle.journal_lexer.specs.declared.state.Places.{Places}
use Rattle.journal_lexer.specs.loop_laws.Advance.{Ready, Lasting, never, only, Progress, moved, stayed, Advance, Looked, byte_at, kind_at}
use Rattle.journal_lexer.specs.loop_laws.Laws.{looked-handed, ready-after, advance-none, advance-then, advance-more, advance-end, next-falls, next-quiet}
use Rattle.journal_lexer.specs.state.Laws.{steps-in}
use Rattle.journal_lexer.specs.state.Relation.{Handed, Steps}

-- ---- one byte
pub byte-none : {f : CodeMode → Type 0} {text : List ℕ} {kinds : List ByteKind} {l : Lex} {p : Places} → Ready text kinds l p → length text ≤ l.place
    → Advance f text l p l p
byte-none h n = advance-none h (λ m x. absurd (omega arith))

module _ {text : List ℕ} {kinds : List ByteKind} {l : Lex} {p : Places} (h : Ready text kinds l p) (more : l.place < length text)
    (byte : get_or text l.place 0 < 256) where
  looked : Looked text kinds l p
  looked = record { ready = h; more = more; byte = byte }

  pub byte-handed : Handed l p (byte_at text l) (kind_at text kinds l)
  byte-handed = looked-handed looked

  pub byte-quiet : {f : CodeMode → Type 0} {r : Lex} {q : Places} {x : CodeMode} → l.event ≡ Quiet → l.mode ≡ x → Steps x l p (byte_at text l) r q
      → Advance f text l p r q
  byte-quiet z e s = next-quiet looked (steps-in e s) _ z

-- ---- a loop
-- from its start, l and p, to s and o
abbrev pub Turn : List ℕ → List ByteKind → Lex → Places → Lex → Places → Type 0
Turn text kinds l p s o = Ready text kinds l p × Advance never text l p s o

pub turn-first : {text : List ℕ} {kinds : List ByteKind} {l : Lex} {p : Places} → Ready text kinds l p → Turn text kinds l p l p
turn-first h = (h, advance-none h (λ m x. x))

module _ {text : List ℕ} {kinds : List ByteKind} {l s : Lex} {p o : Places} (h : Turn text kinds l p s o) where
  -- the end of the text
  pub turn-over : {f : CodeMode → Type 0} → length text ≤ s.place → Advance f text l p s o
  turn-over n = advance-end h.1 (λ m x. absurd (omega arith))

  module _ (more : s.place < length text) (byte : get_or text s.place 0 < 256) where
    seen : Looked text kinds s o
    seen = looked (ready-after h.0 h.1) more byte

    pub turn-handed : Handed s o (byte_at text s) (kind_at text kinds s)
    turn-handed = looked-handed seen

    module _ {r : Lex} {q : Places} where
      pub turn-falls : Steps s.mode s o (byte_at text s) r q → length text - r.place < length text - s.place
      turn-falls k = next-falls seen k

      pub turn-next : Lasting s.mode → Steps s.mode s o (byte_at text s) r q → Turn text kinds l p r q
      turn-next n k = (h.0, advance-more seen k n h.1)

      -- in the mode x
      module _ {x : CodeMode} (is : s.mode ≡ x) (k : Steps x s o (byte_at text s) r q) where
        pub mode-falls : length text - r.place < length text - s.place
        mode-falls = turn-falls (steps-in is k)

        pub mode-next : Lasting x → Turn text kinds l p r q
        mode-next n = turn-next (subst Lasting (sym is) n) (steps-in is k)

  -- two loops in turn, the first of which is in its mode x, so that the place moves
  module _ {e r : Lex} {n q : Places} {g : CodeMode → Type 0} (more : s.place < length text) (x : CodeMode) (is : s.mode ≡ x) (a : Advance (only x) text s o e n)
      (b : Advance g text e n r q) where
    moves : s.place < r.place
    moves = first a.progress b.progress
      where
        first : Progress (only x) text s e → Progress g text e r → s.place < r.place
        first (moved m) (moved k) = omega arith
        first (moved m) (stayed d z) = rw d m
        first (stayed d z) k = absurd (z more is)

    pub loops-fall : length text - r.place < length text - s.place
    loops-fall = omega (arith, moves, b.inside)

    pub loops-next : Turn text kinds l p r q
    loops-next =
        let c = advance-then h.1 (advance-then a b) in
        (h.0, record { inside = c.inside; lent = c.lent; valid = c.valid; stands = c.stands; progress = beyond h.1.progress })
      where
        beyond : Progress never text l s → Progress never text l r
        beyond (moved m) = moved (omega (arith, moves))
        beyond (stayed d z) = moved (subst (λ (y : Lex). y.place < r.place) d moves)
