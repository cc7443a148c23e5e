-- An entity passed at once after its `&`: it moves the place and what is saved, and the run goes on.
use Rattle.std.specs.Prelude.{true, List, [], ◌∷◌, ◌≡◌, length, drop, Some}
use Rattle.std.proofs.Common.{inl, sym, subst, ◌∙◌}
use Rattle.std.proofs.Math.Path.{refl, ap}
use Prim.Native.Nat.{ℕ, suc, ◌+◌, ◌-◌, ◌≤◌}
use native.Mathlib.Omega.{arith}
use Rattle.journal_lexer.specs.data_loops.Bytes.{over-bytes, no-foreign, passes_three}
use Rattle.journal_lexer.specs.declared.entities.EntityRest.{EntityRest}
use Rattle.journal_lexer.specs.declared.entities.EntityRest.TheVariants.{All}
use Rattle.journal_lexer.specs.declared.kinds.ByteKind.{ByteKind}
use Rattle.journal_lexer.specs.declared.state.Event.{Event as CodeEvent}
use Rattle.journal_lexer.specs.declared.state.Event.TheVariants.{Quiet}
use Rattle.journal_lexer.specs.declared.state.Lex.{Lex}
use Rattle.journal_lexer.specs.declared.state.Mode.{Mode as CodeMode}
use Rattle.journal_lexer.specs.declared.state.Mode.TheVariants.{Solid, InEntity}
use Rattle.journal_lexer.specs.declared.state.Places.{Places}
use Rattle.journal_lexer.specs.declared.whole_entities.Character.{Character}
use Rattle.journal_lexer.specs.entities.Rests.{rests_of}
use Rattle.journal_lexer.specs.loop_laws.Advance.{Stands, Ready, never, moved, Advance}
use Rattle.journal_lexer.specs.run_laws.Passes.{Passes}
use Rattle.journal_lexer.specs.state.Places.{run_of, HasSolid, Lent, with_saved, saved-run, lent-saved}
use Rattle.journal_lexer.specs.state.Relation.{Means, MeansMode, Tells}
use Rattle.journal_lexer.specs.whole_entities.Entities.{begins_at, EntityAt, begun, none-begun, entity-filled, whole_split, whole-inside}
use Rattle.text_spec.specs.Lists.{all_of}
use Rattle.token_laws.specs.Passes.{events_over}
use Rattle.token_spec.specs.Characters.{EntityFor, lt, gt, amp, apos, quot}
use Rattle.token_spec.specs.Lexer.{Run, Mode, in_data, in_entity, Event, quiet, lex, mode_after, saved_by}

-- the state past an entity
abbrev pub past_entity : ℕ → Lex → Lex
past_entity k l = record l { place = k; mode = Solid; event = Quiet }

-- the bytes after the `&`
module _ (at k : ℕ) (r : Run) where
  abbrev saving : ℕ → Mode
  saving n = in_data (saved_by r n) 0

  rest-mode : {u : List ℕ} {c : ℕ} → EntityFor (0x26 ∷ u) c → mode_after (in_entity (rests_of All) at r) k u ≡ saving (k + length u - 1 - at)
  unfolding mode_after lex
  rest-mode lt = ap saving (let e : suc (suc k) - at ≡ k + 3 - 1 - at = omega arith in e)
  rest-mode gt = ap saving (let e : suc (suc k) - at ≡ k + 3 - 1 - at = omega arith in e)
  rest-mode amp = ap saving (let e : suc (suc (suc k)) - at ≡ k + 4 - 1 - at = omega arith in e)
  rest-mode apos = ap saving (let e : suc (suc (suc (suc k))) - at ≡ k + 5 - 1 - at = omega arith in e)
  rest-mode quot = ap saving (let e : suc (suc (suc (suc k))) - at ≡ k + 5 - 1 - at = omega arith in e)

  rest-events : {u : List ℕ} {c : ℕ} → EntityFor (0x26 ∷ u) c → events_over (in_entity (rests_of All) at r) k u ≡ []
  unfolding events_over lex
  rest-events lt = refl
  rest-events gt = refl
  rest-events amp = refl
  rest-events apos = refl
  rest-events quot = refl

-- none of them fails 3
rest-passes-three : {u : List ℕ} {c : ℕ} → EntityFor (0x26 ∷ u) c → all_of passes_three u ≡ true
rest-passes-three lt = refl
rest-passes-three gt = refl
rest-passes-three amp = refl
rest-passes-three apos = refl
rest-passes-three quot = refl

lent-grown : (k n : ℕ) {p : Places} → Lent k p → k ≤ n → Lent n p
lent-grown k n h l = record { few = omega (arith, h.few) }

-- an entity whose `&` alone is read
module _ {text : List ℕ} {kinds : List ByteKind} {l : Lex} {p : Places} (h : Ready text kinds l p) (mode : l.mode ≡ InEntity) (event : l.event ≡ Quiet)
    (all : l.rest ≡ All) where
  in-entity : (x : Mode) → MeansMode l p x → (x ≡ in_entity (rests_of All) p.at (run_of p)) × HasSolid p × (p.saved ≤ p.at)
  in-entity x w =
      let g = subst (λ (n : CodeMode). Means n l.name l.count l.rest p x) mode w in
      (subst (λ (n : EntityRest). x ≡ in_entity (rests_of n) p.at (run_of p)) all g.0, g.1, g.3)

  module _ {c : ℕ} (u : List ℕ) (f : EntityFor (0x26 ∷ u) c) (begins : begins_at text l.place u ≡ true) where
    abbrev next : ℕ
    next = l.place + length u

    abbrev after : Places
    after = with_saved p (next - 1)

    inside : next ≤ length text
    inside = whole-inside text l.place u begins f

    filled : 1 ≤ length u
    filled = entity-filled f

    reached : p.saved ≤ p.at → mode_after (in_entity (rests_of All) p.at (run_of p)) l.place u ≡ in_data (run_of after) 0
    reached few = rest-mode p.at l.place (run_of p) f ∙ ap (λ (r : Run). in_data r 0) (sym (saved-run p (next - 1) few))

    on : (k : ℕ) (m : Mode) → Stands text k m l p → Stands text k m (past_entity next l) after
    on k m x =
        let here = in-entity x.mode x.means in
        let z : x.event ≡ quiet = subst (λ (i : CodeEvent). Tells i l.name p x.event) event x.told in
        let way : Passes text k m l.place (in_entity (rests_of All) p.at (run_of p)) quiet =
        subst (λ (e : Event). Passes text k m l.place (in_entity (rests_of All) p.at (run_of p)) e) z
        (subst (λ (y : Mode). Passes text k m l.place y x.event) here.0 x.way)
        in
        record {
          mode = in_data (run_of after) 0;
          event = quiet;
          way =
              subst (λ (y : Mode). Passes text k m next y quiet) (reached here.2)
              (over-bytes u (drop next text) l.place (in_entity (rests_of All) p.at (run_of p)) (whole_split text l.place u begins)
              (rest-events p.at l.place (run_of p) f) way);
          means = (refl, here.1);
          told = refl;
          silent = inl refl;
          foreign =
              x.foreign
              ∙ sym (no-foreign text u (drop next text) l.place (whole_split text l.place u begins) (rest-passes-three f));
        }

    whole-passed : {r : Lex} → r ≡ past_entity next l → Advance never text l p r after
    whole-passed {r} e =
        let here = in-entity h.valid.mode h.valid.means in
        subst (λ (x : Lex). Advance never text l p x after) (sym e)
        (record {
          inside = inside;
          lent = lent-grown (next - 1) next (lent-saved {p = p} here.2 (record { few = omega (arith, h.lent.few, filled) })) (omega arith);
          valid = record { mode = in_data (run_of after) 0; means = (refl, here.1) };
          stands = on;
          progress = moved (omega (arith, filled));
        })

  -- by what stands after the `&`
  module _ {c : Character} (a : EntityAt text l.place (Some c)) where
    pub whole-bounds : (1 ≤ c.next) × (c.next ≤ length text)
    whole-bounds = by a
      where
        by : EntityAt text l.place (Some c) → (1 ≤ c.next) × (c.next ≤ length text)
        by (begun u x f begins e) =
            let d : c ≡ record { byte = x; next = l.place + length u } = cc in
            let n : c.next ≡ l.place + length u = ap (λ (y : Character). y.next) d in
            (omega (arith, n, filled u f begins), omega (arith, n, inside u f begins))
        by (none-begun longer x y e) = absurd (cc)

    pub whole-advance : {r : Lex} {q : Places} → r ≡ past_entity c.next l → q ≡ with_saved p (c.next - 1) → Advance never text l p r q
    whole-advance {r} {q} d g = by a
      where
        by : EntityAt text l.place (Some c) → Advance never text l p r q
        by (begun u x f begins e) =
            let i : c ≡ record { byte = x; next = l.place + length u } = cc in
            let n : c.next ≡ l.place + length u = ap (λ (y : Character). y.next) i in
            subst (λ (x : Places). Advance never text l p r x) (sym (g ∙ ap (λ (k : ℕ). with_saved p (k - 1)) n))
            (whole-passed u f begins (d ∙ ap (λ (k : ℕ). past_entity k l) n))
        by (none-begun longer x y e) = absurd (cc)
