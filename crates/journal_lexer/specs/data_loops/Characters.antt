-- Characters passed in a run that has a byte that is not a blank, plain bytes and whole entities: they move the place and what is saved, and nothing else.
use Rattle.std.specs.Prelude.{true, List, ◌∷◌, ◌++◌, ◌≡◌, refl, ℕ, suc, ◌+◌, ◌-◌, ◌≤◌, ◌<◌, length, get_or, slice_index_or, drop, Option, Some, None}
use Rattle.std.proofs.Common.{inl, sym, ap, ap₂, subst, ◌∙◌, add-one, arith, drop-cons}
use Rattle.journal_lexer.specs.character_data.Laws.{plain-same, solid-plain}
use Rattle.journal_lexer.specs.data_loops.Bytes.{over-bytes, no-foreign, entity-passes-three}
use Rattle.journal_lexer.specs.declared.kinds.ByteKind.{ByteKind}
use Rattle.journal_lexer.specs.declared.kinds.ByteKind.TheVariants.{Letter}
use Rattle.journal_lexer.specs.declared.state.Event.{Event as CodeEvent}
use Rattle.journal_lexer.specs.declared.state.Event.TheVariants.{Quiet}
use Rattle.journal_lexer.specs.declared.state.Lex.{Lex}
use Rattle.journal_lexer.specs.declared.state.Mode.{Mode as CodeMode}
use Rattle.journal_lexer.specs.declared.state.Mode.TheVariants.{Solid}
use Rattle.journal_lexer.specs.declared.state.Places.{Places}
use Rattle.journal_lexer.specs.declared.whole_entities.Character.{Character}
use Rattle.journal_lexer.specs.kinds.Kinds.{is_plain_kind}
use Rattle.journal_lexer.specs.loop_laws.Advance.{foreign_below, Stands, Ready, Lasting, never, moved, Advance, Looked}
use Rattle.journal_lexer.specs.loop_laws.Laws.{looked-handed, ready-after, advance-none, advance-first, advance-more}
use Rattle.journal_lexer.specs.run_laws.Passes.{Passes}
use Rattle.journal_lexer.specs.state.Laws.{steps-in}
use Rattle.journal_lexer.specs.state.Places.{run_of, HasSolid, solid-stays}
use Rattle.journal_lexer.specs.state.Relation.{Means, MeansMode, Tells, stepped}
use Rattle.journal_lexer.specs.whole_entities.Entities.{begins_at, EntityAt, begun, none-begun, whole_split, whole-inside}
use Rattle.token_laws.specs.Characters.{for-entity}
use Rattle.token_laws.specs.Passes.{entity-passes}
use Rattle.token_spec.specs.Characters.{EntityFor}
use Rattle.token_spec.specs.Lexer.{Run, Mode, in_data, Event, quiet, mode_after, saved_by}

-- ---- definitions
-- the state at another place
abbrev pub moved_to : ℕ → Lex → Lex
moved_to k l = record l { place = k }

-- the lent places with so much saved
abbrev pub saving : Places → ℕ → Places
saving p n = record p { saved = n }

-- the bytes from a place up to another are plain; there may be more of them
pub data PlainBytes (text : List ℕ) (kinds : List ByteKind) (from : ℕ) : ℕ → Type 0 where
  none : {next : ℕ} → next ≡ from → PlainBytes text kinds from next
  more : {next : ℕ} (at : ℕ) → PlainBytes text kinds from at → at < length text → get_or text at 0 < 256
      → is_plain_kind (slice_index_or kinds (get_or text at 0) Letter) ≡ true → next ≡ at + 1 → PlainBytes text kinds from next

-- where the entity ends that stands at a place; none need be passed, since the loops over single bytes read what is left
pub data EntityEnd (text : List ℕ) (at : ℕ) (r : Option ℕ) : Type 0 where
  entity : {c : ℕ} (u : List ℕ) → EntityFor (0x26 ∷ u) c → at < length text → get_or text at 0 ≡ 0x26 → begins_at text (at + 1) u ≡ true → r ≡ Some (at + 1 + length u)
      → EntityEnd text at r
  none : r ≡ None → EntityEnd text at r

-- how far the characters from l and p on are passed, up to an entity or to a byte that is no character
pub record RunSoFar (text : List ℕ) (kinds : List ByteKind) (l : Lex) (p : Places) (at saved : ℕ) : Type 0 where
  pub ready : Ready text kinds l p
  pub mode : l.mode ≡ Solid
  pub event : l.event ≡ Quiet
  pub advance : Advance never text l p (moved_to at l) (saving p saved)

solid-lasts : {m : CodeMode} → m ≡ Solid → Lasting m
solid-lasts e = record { not_between = λ z. (cc); not_opened = λ z. (cc) }

-- ---- one character more
module _ {text : List ℕ} {kinds : List ByteKind} {l : Lex} {p : Places} {at : ℕ} (saved : ℕ) (h : Ready text kinds l p) (mode : l.mode ≡ Solid) (event : l.event ≡ Quiet)
    (a : Advance never text l p (moved_to at l) (saving p saved)) where
  byte_more : at < length text → get_or text at 0 < 256 → is_plain_kind (slice_index_or kinds (get_or text at 0) Letter) ≡ true
      → Advance never text l p (moved_to (at + 1) l) (saving p saved)
  byte_more inside small plain =
      let seen : Looked text kinds (moved_to at l) (saving p saved) = record { ready = ready-after h a; more = inside; byte = small } in
      let handed = looked-handed seen in
      let same : moved_to (at + 1) l ≡ stepped Solid Quiet (moved_to at l) = rw (mode, event) in
      advance-more seen (steps-in mode (solid-plain handed (plain-same handed plain same))) (solid-lasts mode) a

  in-solid : (q : Places) (k : ℕ) (x : Mode) → MeansMode (moved_to k l) q x → (x ≡ in_data (run_of q) 0) × HasSolid q
  in-solid q k x w = subst (λ (z : CodeMode). Means z l.name l.count l.rest q x) mode w

  solid-means : (q : Places) (k : ℕ) → HasSolid q → MeansMode (moved_to k l) q (in_data (run_of q) 0)
  solid-means q k has = subst (λ (z : CodeMode). Means z l.name l.count l.rest q (in_data (run_of q) 0)) (sym mode) (refl, has)

  module _ {c : ℕ} (u : List ℕ) (f : EntityFor (0x26 ∷ u) c) (inside : at < length text) (ampersand : get_or text at 0 ≡ 0x26) (begins : begins_at text (at + 1) u ≡ true) where
    abbrev was : Places
    was = saving p saved

    abbrev after : Places
    after = saving p (saved + length u)

    abbrev next : ℕ
    next = at + 1 + length u

    split : drop at text ≡ (0x26 ∷ u) ++ drop next text
    split =
        drop-cons text at 0 inside ∙ ap₂ (λ (x i : ℕ). x ∷ drop i text) ampersand (sym (add-one at))
        ∙ ap (λ (w : List ℕ). 0x26 ∷ w) (whole_split text (at + 1) u begins)

    one_less : suc (length u) - 1 ≡ length u
    one_less = omega arith

    reached : HasSolid was → mode_after (in_data (run_of was) 0) at (0x26 ∷ u) ≡ in_data (run_of after) 0
    reached has =
        (entity-passes (run_of was) 0 at (for-entity f)).mode
        ∙ ap₂ (λ (r : Run) (n : ℕ). in_data (saved_by r n) 0) (solid-stays was at has) one_less

    long : at + suc (length u) ≡ next
    long = omega arith

    way : {k : ℕ} {m : Mode} → HasSolid was → Passes text k m at (in_data (run_of was) 0) quiet → Passes text k m next (in_data (run_of after) 0) quiet
    way {k} {m} has w =
        subst (λ (i : ℕ). Passes text k m i (in_data (run_of after) 0) quiet) long
        (subst (λ (x : Mode). Passes text k m (at + suc (length u)) x quiet) (reached has)
        (over-bytes (0x26 ∷ u) (drop next text) at (in_data (run_of was) 0) split (entity-passes (run_of was) 0 at (for-entity f)).events w))

    on : (k : ℕ) (m : Mode) → Stands text k m (moved_to at l) was → Stands text k m (moved_to next l) after
    on k m x =
        let here = in-solid was at x.mode x.means in
        let z : x.event ≡ quiet = subst (λ (i : CodeEvent). Tells i l.name was x.event) event x.told in
        record {
          mode = in_data (run_of after) 0;
          event = quiet;
          way =
              way here.1
              (subst (λ (e : Event). Passes text k m at (in_data (run_of was) 0) e) z (subst (λ (y : Mode). Passes text k m at y x.event) here.0 x.way));
          means = solid-means after next here.1;
          told = subst (λ (i : CodeEvent). Tells i l.name after quiet) (sym event) refl;
          silent = inl event;
          foreign = x.foreign ∙ sym (ap (foreign_below text) (sym long) ∙ no-foreign text (0x26 ∷ u) (drop next text) at split (entity-passes-three f));
        }

    entity-more : Advance never text l p (moved_to next l) after
    entity-more =
        advance-first {g = never} a
        (record {
          inside = whole-inside text (at + 1) u begins f;
          lent = record { few = omega (arith, a.lent.few) };
          valid =
              (let here = in-solid was at a.valid.mode a.valid.means in
              record { mode = in_data (run_of after) 0; means = solid-means after next here.1 });
          stands = on;
          progress = moved (omega arith);
        })

-- ---- turns
module _ {text : List ℕ} {kinds : List ByteKind} {l : Lex} {p : Places} (saved : ℕ) (h : Ready text kinds l p) (mode : l.mode ≡ Solid) (event : l.event ≡ Quiet) where
  bytes-more : {from next : ℕ} → Advance never text l p (moved_to from l) (saving p saved) → PlainBytes text kinds from next
      → Advance never text l p (moved_to next l) (saving p saved)
  bytes-more a (PlainBytes.none e) = subst (λ (k : ℕ). Advance never text l p (moved_to k l) (saving p saved)) (sym e) a
  bytes-more a (more at b inside small plain e) =
      subst (λ (k : ℕ). Advance never text l p (moved_to k l) (saving p saved)) (sym e) (byte_more saved h mode event (bytes-more a b) inside small plain)

-- no entity is passed yet
pub passed_first : {text : List ℕ} {kinds : List ByteKind} {l : Lex} {p : Places} {at : ℕ} → Ready text kinds l p → l.mode ≡ Solid → l.event ≡ Quiet
    → PlainBytes text kinds l.place at → RunSoFar text kinds l p at p.saved
passed_first {p = p} h m e b = record { ready = h; mode = m; event = e; advance = bytes-more p.saved h m e (advance-none h (λ z x. x)) b }

module _ {text : List ℕ} {kinds : List ByteKind} {l : Lex} {p : Places} {at saved : ℕ} (h : RunSoFar text kinds l p at saved) where
  -- so much is saved, of what was read
  pub passed-saved : saved ≤ at
  passed-saved = h.advance.lent.few

  pub passed-inside : at ≤ length text
  passed-inside = h.advance.inside

  module _ {next : ℕ} (end : EntityEnd text at (Some next)) where
    pub end-past : at < next
    end-past = by end
      where
        by : EntityEnd text at (Some next) → at < next
        by (entity u f inside b begins e) =
            let d : next ≡ at + 1 + length u = cc in
            omega arith
        by (EntityEnd.none e) = absurd (cc)

    pub end-inside : next ≤ length text
    end-inside = by end
      where
        by : EntityEnd text at (Some next) → next ≤ length text
        by (entity u f inside b begins e) =
            let d : next ≡ at + 1 + length u = cc in
            omega (arith, whole-inside text (at + 1) u begins f)
        by (EntityEnd.none e) = absurd (cc)

    entity-passed : Advance never text l p (moved_to next l) (saving p (saved + (next - at - 1)))
    entity-passed = by end
      where
        by : EntityEnd text at (Some next) → Advance never text l p (moved_to next l) (saving p (saved + (next - at - 1)))
        by (entity u f inside b begins e) =
            let d : next ≡ at + 1 + length u = cc in
            let s : saved + length u ≡ saved + (next - at - 1) = omega arith in
            subst (λ (k : ℕ). Advance never text l p (moved_to next l) (saving p k)) s
            (subst (λ (k : ℕ). Advance never text l p (moved_to k l) (saving p (saved + length u))) (sym d)
            (entity-more saved h.ready h.mode h.event h.advance u f inside b begins))
        by (EntityEnd.none e) = absurd (cc)

    -- an entity, and the plain bytes after it
    pub passed-again : {to : ℕ} → PlainBytes text kinds next to → RunSoFar text kinds l p to (saved + (next - at - 1))
    passed-again b =
        record {
          ready = h.ready;
          mode = h.mode;
          event = h.event;
          advance = bytes-more (saved + (next - at - 1)) h.ready h.mode h.event entity-passed b;
        }

  pub passed-advance : {r : Lex} → r ≡ moved_to at l → Advance never text l p r (saving p saved)
  passed-advance e = subst (λ (x : Lex). Advance never text l p x (saving p saved)) (sym e) h.advance

pub plain-after : {text : List ℕ} {kinds : List ByteKind} {from next : ℕ} → PlainBytes text kinds from next → from ≤ next
plain-after (PlainBytes.none e) = omega arith
plain-after (more at b inside small plain e) = omega (arith, plain-after b)

-- ---- where an entity ends
pub entity-end : {text : List ℕ} {at : ℕ} {c : Character} → at < length text → get_or text at 0 ≡ 0x26 → EntityAt text (at + 1) (Some c)
    → EntityEnd text at (Some c.next)
entity-end {at = at} {c = c} inside b (begun u x f begins e) =
    let d : c ≡ record { byte = x; next = at + 1 + length u } = cc in
    entity u f inside b begins (ap (λ (y : Character). Some y.next) d)
entity-end inside b (none-begun longer x y e) = absurd (cc)
