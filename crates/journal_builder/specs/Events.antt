-- Events of the lexer, and the laws of an event: nothing is judged once nesting is broken, and an empty tag is a start tag and its end.
use Rattle.std.specs.Prelude.{Bool, true, false, cond, List, ◌≡◌, refl, ℕ, ◌≤◌, leb, None}
use Rattle.std.proofs.Common.{sym, ap, subst, ◌∙◌, arith}
use Rattle.journal_builder.specs.build_state.State.{judged_from, Built, Rows, Leaves, SafeStep, step}
use Rattle.journal_builder.specs.declared.build_state.Build.{Build}
use Rattle.journal_builder.specs.declared.build_state.BuildStep.{BuildStep}
use Rattle.journal_builder.specs.declared.journal_schema.JournalSchema.{JournalSchema}
use Rattle.journal_builder.specs.declared.open_levels.Level.{Level}
use Rattle.journal_builder.specs.journal_schema.Schemas.{ModelEnds, SchemaOf}
use Rattle.journal_builder.specs.laws.Ends.{end_none, end-keeps-rows}
use Rattle.journal_builder.specs.laws.Starts.{is_innermost}
use Rattle.journal_builder.specs.laws.StateLaws.{leaves_kept, leaves-as, rows_as}
use Rattle.journal_lexer.specs.declared.state.Event.{Event as CodeEvent}
use Rattle.journal_lexer.specs.declared.state.Event.TheVariants.{Quiet, Starts, Empties, Ends, Runs}
use Rattle.journal_spec.specs.Builder.{Building, on_end, on_unbroken, on_event}
use Rattle.schema_spec.specs.Schemas.{Schema}
use Rattle.table_spec.specs.Rows.{Row}
use Rattle.text.specs.declared.name_words.Name.{Name}
use Rattle.text.specs.name_words.Words.{Spells}
use Rattle.text_spec.specs.Limits.{max_depth}
use Rattle.text_spec.specs.Lists.{is_none}
use Rattle.token_spec.specs.Lexer.{Event, starts, empties, ends}

-- a start tag or an empty tag; a tag, by its event
abbrev pub start_event : Bool → List ℕ → ℕ → Event
start_event true n k = empties n k
start_event false n k = starts n k

abbrev pub tag_event : CodeEvent → List ℕ → ℕ → Event
tag_event Ends n k = ends n k
tag_event Empties n k = empties n k
tag_event Starts n k = starts n k
tag_event Quiet n k = starts n k
tag_event Runs n k = starts n k

abbrev pub is_empties : CodeEvent → Bool
is_empties Empties = true
is_empties event = false

pub start-tag : (event : CodeEvent) (t : Bool) (n : List ℕ) (k : ℕ) → (event ≡ Ends → ⊥) → t ≡ is_empties event → tag_event event n k ≡ start_event t n k
start-tag Ends t n k x q = absurd (x refl)
start-tag Empties t n k x q = rw q refl
start-tag Starts t n k x q = rw q refl
start-tag Quiet t n k x q = rw q refl
start-tag Runs t n k x q = rw q refl

-- ---- once nesting is broken
pub judged-unbroken : {s : Schema} {levels : List Level} {m : Build} {b : Building} {t : Bool} → Built s levels m b → t ≡ leb judged_from m.fault → t ≡ true → is_none b.broken ≡ true
judged-unbroken w e t = w.judged ∙ sym e ∙ t

pub event-judged : (s : Schema) (e : Event) (b : Building) → is_none b.broken ≡ true → on_event s e b ≡ on_unbroken s e b
unfolding on_event
event-judged s e b h = ap (λ (t : Bool). cond t (on_unbroken s e b) b) h

pub event-broken : {s : Schema} {levels : List Level} {m : Build} {b : Building} {t : Bool} (e : Event) → Built s levels m b → t ≡ leb judged_from m.fault → t ≡ false
    → Leaves s levels m b (step m None) (on_event s e b)
unfolding on_event
event-broken {s} {levels} {m} {b} {t} e w f h =
    leaves-as refl (ap (λ (y : Bool). cond y (on_unbroken s e b) b) (w.judged ∙ sym f ∙ h)) (leaves_kept {x = step m None} refl refl w)

pub kept-safe : {m : Build} → m.depth ≤ max_depth → SafeStep m (step m None)
kept-safe w = record { shallow = w; counted = omega arith }

-- ---- an empty tag
-- its element ends at once, if nesting is not broken
abbrev pub closed_after : List ℕ → ℕ → Building → Building
closed_after n k c = cond (is_none c.broken) (on_end n k c) c

module _ (s : Schema) (levels : List Level) (m : Build) (b c : Building) (x y : BuildStep) (n : List ℕ) (k : ℕ) (w : Leaves s levels m b x c) where
  pub empty-closed : (deep : x.build.depth ≡ 0 → ⊥) → is_none c.broken ≡ true → is_innermost c.opens n ≡ true → y.row ≡ x.row
      → Built s levels y.build (on_end n k c) → Leaves s levels m b y (closed_after n k c)
  empty-closed deep u named f v =
      leaves-as refl (ap (λ (t : Bool). cond t (on_end n k c) c) u)
      (record {
        built = v;
        rows = λ z.
            subst (λ (rows : List Row). Rows m.count y b.rows rows) (sym (end-keeps-rows n k c))
            (rows_as f (w.rows (end_none s c levels x.build w.built n k u named deep y.build v z)));
      })

  pub empty-broken : is_none c.broken ≡ false → Leaves s levels m b x (closed_after n k c)
  empty-broken u = leaves-as refl (ap (λ (t : Bool). cond t (on_end n k c) c) u) w

-- ---- an end tag begins no row
pub ends-safe : {m r : Build} → m.depth ≤ max_depth → r.depth ≤ m.depth → r.count ≡ m.count → SafeStep m (step r None)
ends-safe w d e = record { shallow = omega arith; counted = omega arith }

pub ends-leaves : {s : Schema} {levels : List Level} {m r : Build} {b : Building} {e : Event} (n : List ℕ) (k : ℕ) → is_none b.broken ≡ true → e ≡ ends n k
    → Built s levels r (on_end n k b) → Leaves s levels m b (step r None) (on_event s e b)
ends-leaves {s} {levels} {m} {r} {b} {e} n k u f v =
    leaves-as refl (event-judged s e b u ∙ ap (λ (y : Event). on_unbroken s y b) f) (leaves_kept {x = step r None} refl (end-keeps-rows n k b) v)

-- ---- tags, as contracts say it
-- the element that an empty tag has begun is closed at once
abbrev pub ClosesBegun : JournalSchema → List Level → BuildStep → BuildStep → Type 0
ClosesBegun t levels begun r =
    (s : Schema) (m : Build) (b c : Building) (n : List ℕ) (k : ℕ) → ModelEnds s t → (is_none c.broken ≡ true → is_innermost c.opens n ≡ true)
    → Leaves s levels m b begun c → Leaves s levels m b r (closed_after n k c)

-- a start tag where nesting is not broken, and any tag
abbrev pub StartBy : (List ℕ → Event) → JournalSchema → List Level → Build → Name → List Level → BuildStep → Type 0
StartBy event t levels m name after r =
    (s : Schema) (b : Building) (n : List ℕ) → SchemaOf s t → Spells name n → is_none b.broken ≡ true → Built s levels m b → Leaves s after m b r (on_unbroken s (event n) b)

abbrev pub TagBy : (List ℕ → Event) → JournalSchema → List Level → Build → Name → List Level → BuildStep → Type 0
TagBy event t levels m name after r =
    (s : Schema) (b : Building) (n : List ℕ) → SchemaOf s t → Spells name n → Built s levels m b → Leaves s after m b r (on_event s (event n) b)
