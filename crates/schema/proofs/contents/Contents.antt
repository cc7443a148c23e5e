-- Laws of reading contents.
use mathlib.Core.Bool.{Bool, true, false}
use mathlib.Core.List.{List, []}
use mathlib.Core.Path.{◌≡◌, refl, sym, ap, subst, ◌∙◌}
use Rattle.std.specs.Prelude.{Result, Ok, Err}
use Prim.Native.Nat.{ℕ, ◌+◌, ◌-◌, ◌≤◌, ◌<◌}
use native.Mathlib.Omega.{arith}
use borrow.Author.Tests.{ltb-true, ltb-false, ne_eqb}
use lib.Dec.{ltb}
use lib.ListN.{length}
use Rattle.models.specs.declared.Content.{Content as Contents}
use Rattle.models.specs.declared.Content.TheVariants.{Empty, Pcdata, Children}
use Rattle.schema_spec.specs.Declarations.{Use}
use Rattle.schema_spec.specs.Machine.{fresh, Head, State, dead, before_content, in_empty, after_open, in_pcdata, after_pcdata, after_content, expecting, past, beginning, step, schema_machine, from}
use Rattle.schema_spec.specs.Models.{Particle, Content, empty, pcdata, children, uses_in}
use Rattle.schema.specs.contents.Contents.{ReadsPcdata, ContentBuilt, built-empty, built-pcdata, built-children, ContentAs, ReadsContent, ended}
use Rattle.schema.specs.declared.contents.ContentEnd.{ContentEnd}
use Rattle.schema.specs.declared.parsing.Parser.{Parser}
use Rattle.schema.specs.declared.particles.Part.{Part}
use Rattle.schema.specs.particles.Automata.{Built}
use Rattle.schema.specs.particles.ReadingLaws.{noted-none, noted-as, reading-from, reading-to, kept-same, kept-then, part-read, indicated-reading}
use Rattle.schema.specs.particles.Readings.{Fails, Kept, AroundAt, ReadsGroup, at-closed, PartIndicated}
use Rattle.text.specs.scanning.OutcomeLaws.{skipped-same, spelt-end, spelt-past, spelt-fail}
use Rattle.text.specs.scanning.Outcomes.{Skipped, Spelt}
use Rattle.text_laws.specs.Scans.{step-at, dead-at, same_at, at-end, Keyword}
use Rattle.text_laws.specs.Tests.{cond_yes, cond_no}
use Rattle.text_spec.specs.Bytes.{is_blank}
use Rattle.text_spec.specs.Lists.{bytes}
use Rattle.text_spec.specs.Scans.{byte_at}

-- ---- `(#PCDATA)`
pcdata-keyword : (h : Head) → Keyword schema_machine dead (after_pcdata h) (λ w. in_pcdata w h)
unfolding step
pcdata-keyword h = record { dies = refl; live = refl; lives = λ w. refl; goes = λ w k b. refl; ends = λ w. refl }

module _ (h : Head) (k b : ℕ) where
  after-pcdata-blank : is_blank b ≡ true → step (after_pcdata h) k b ≡ after_pcdata h
  unfolding step
  after-pcdata-blank e = cond_yes (after_pcdata h) _ e

  after-pcdata-close : b ≡ 0x29 → step (after_pcdata h) k b ≡ after_content pcdata h
  unfolding step
  after-pcdata-close e = ap (λ (x : ℕ). step (after_pcdata h) k x) e

  after-pcdata-not : is_blank b ≡ false → (b ≡ 0x29 → ⊥) → step (after_pcdata h) k b ≡ dead
  unfolding step
  after-pcdata-not e g = cond_no (after_pcdata h) _ e ∙ cond_no (after_content pcdata h) dead (ne_eqb b 0x29 g)

module _ {s : List ℕ} {at : ℕ} {r : Result ℕ ℕ} (W : Spelt (bytes "PCDATA") s at r) where
  pub pcdata-fails : {j : ℕ} → r ≡ Err j → ReadsPcdata s at (Err j)
  pcdata-fails u = record { says = λ h. spelt-fail W (pcdata-keyword h) u }

  module _ {j i : ℕ} (u : r ≡ Ok j) (K : Skipped s j i) where
    pcdata-to : (h : Head) → from (in_pcdata (bytes "PCDATA") h) s at ≡ from (after_pcdata h) s i
    pcdata-to h = spelt-past W (pcdata-keyword h) u ∙ skipped-same schema_machine K (after_pcdata h) refl (after-pcdata-blank h)

    pub pcdata-end : length s ≤ i → ReadsPcdata s at (Err i)
    pcdata-end l = record { says = λ h. pcdata-to h ∙ at-end schema_machine s i (after_pcdata h) l }

    pub pcdata-close : i < length s → byte_at s i ≡ 0x29 → ReadsPcdata s at (Ok (i + 1))
    pcdata-close l e =
        let a = (spelt-end W u).0 in
        let b = K.low in
        record { says = (omega arith, omega arith, λ h. pcdata-to h ∙ step-at schema_machine s i (after_pcdata h) (after_content pcdata h) l (after-pcdata-close h i (byte_at s i) e) refl) }

    pub pcdata-not : i < length s → (byte_at s i ≡ 0x29 → ⊥) → ReadsPcdata s at (Err i)
    pcdata-not l e = record { says = λ h. pcdata-to h ∙ dead-at schema_machine s i (after_pcdata h) dead l (after-pcdata-not h i (byte_at s i) (K.stop l) e) refl }

-- ---- a content without names, of which the start and the end are known
module _ {before : Head → State} {at j : ℕ} (old : Parser) (c : Content Use) (k : Contents) (none : uses_in c ≡ []) (made : ContentBuilt old.predecessors.now old.predecessors.now c k) (l : old.count ≤ at) where
  nameless-content : at < j → j ≤ length old.text.now → ((h : Head) → from (before h) old.text.now at ≡ from (after_content c h) old.text.now j)
      → ReadsContent before after_content at old old (Ok (record { at = j; content = k }))
  nameless-content f g same =
      let h : at ≤ j = omega arith in
      record { kept = kept-same; says = record { high = g; few = omega arith; tree = c; noted = noted-as (noted-none h) refl (sym none); made = made; same = same } }

-- ---- models
module _ (h : Head) (k b : ℕ) where
  open-blank : is_blank b ≡ true → step (after_open h) k b ≡ after_open h
  unfolding step
  open-blank e = cond_yes (after_open h) _ e

  open-hash : b ≡ 0x23 → step (after_open h) k b ≡ in_pcdata (bytes "PCDATA") h
  unfolding step
  open-hash e = ap (λ (x : ℕ). step (after_open h) k x) e

  open-other : is_blank b ≡ false → (b ≡ 0x23 → ⊥) → step (after_open h) k b ≡ step (expecting fresh [] h) k b
  unfolding step
  open-other e g = cond_no (after_open h) _ e ∙ cond_no _ (beginning fresh [] h k b) (ne_eqb b 0x23 g)

-- after a model's indicator the content is complete
past-step : (p : Particle Use) (h : Head) (k b : ℕ) → step (past p [] h) k b ≡ step (after_content (children p) h) k b
unfolding step
past-step p h k b = refl

past-content : (s : List ℕ) (i : ℕ) (p : Particle Use) (h : Head) → from (past p [] h) s i ≡ from (after_content (children p) h) s i
past-content s i p h = go (ltb i (length s)) refl
  where
    go : (t : Bool) → ltb i (length s) ≡ t → from (past p [] h) s i ≡ from (after_content (children p) h) s i
    go true e = same_at schema_machine s i (past p [] h) (after_content (children p) h) (ltb-true i (length s) e) (past-step p h i (byte_at s i))
    go false e =
        at-end schema_machine s i (past p [] h) (ltb-false i (length s) e) ∙ sym (at-end schema_machine s i (after_content (children p) h) (ltb-false i (length s) e))

module _ (old : Parser) {at i : ℕ} (K : Skipped old.text.now at i) where
  abbrev s : List ℕ
  s = old.text.now

  open-to : (h : Head) → from (after_open h) s at ≡ from (after_open h) s i
  open-to h = skipped-same schema_machine K (after_open h) refl (open-blank h)

  pub model-end : length s ≤ i → Fails after_open s at i
  model-end l h = open-to h ∙ at-end schema_machine s i (after_open h) l

  module _ (l : i < length s) where
    module _ (e : byte_at s i ≡ 0x23) where
      into-pcdata : (h : Head) → from (after_open h) s at ≡ from (in_pcdata (bytes "PCDATA") h) s (i + 1)
      into-pcdata h = open-to h ∙ step-at schema_machine s i (after_open h) (in_pcdata (bytes "PCDATA") h) l (open-hash h i (byte_at s i) e) refl

      pub model-pcdata : {j : ℕ} → old.count ≤ at → ReadsPcdata s (i + 1) (Ok j)
          → ReadsContent after_open after_content at old old (Ok (record { at = j; content = Pcdata }))
      model-pcdata m P =
          let a = P.says.0 in
          let b = K.low in
          nameless-content old pcdata Pcdata refl (built-pcdata refl) m (omega arith) P.says.1 (λ h. into-pcdata h ∙ P.says.2 h)

      pub model-pcdata-fails : {j : ℕ} → ReadsPcdata s (i + 1) (Err j) → Fails after_open s at j
      model-pcdata-fails P h = into-pcdata h ∙ P.says h

    -- the model's positions are counted from here on
    abbrev begun : Parser
    begun = record old { start = old.count }

    module _ {mid : Parser} {r : Result Part ℕ} (e : byte_at s i ≡ 0x23 → ⊥) (G : ReadsGroup i 0 begun mid r) where
      pub model-kept : Kept old mid
      model-kept = record { text = G.kept.text; uses = G.kept.uses; predecessors = G.kept.predecessors; uses-size = G.kept.uses-size; predecessors-size = G.kept.predecessors-size }

      abbrev alone : Head → AroundAt 0
      alone h = (record { frames = []; head = h }, refl)

      into-group : (h : Head) → from (after_open h) s at ≡ from (expecting fresh [] h) s i
      into-group h = open-to h ∙ same_at schema_machine s i (after_open h) (expecting fresh [] h) l (open-other h i (byte_at s i) (K.stop l) e)

      pub model-fails : {j : ℕ} → r ≡ Err j → Fails after_open s at j
      model-fails u h = into-group h ∙ part-read G u (alone h)

      pub model-high : (p : Part) → r ≡ Ok p → p.at ≤ length mid.text.now
      model-high p u = subst (λ (l : List ℕ). p.at ≤ length l) (sym G.kept.text) (part-read G u).high

      pub model-reads : {p y : Part} {new : Parser} → r ≡ Ok p → PartIndicated p mid new y
          → ReadsContent after_open after_content at old new (Ok (record { at = y.at; content = Children y.ends }))
      model-reads {p} {y} {new} u Q =
          let R = indicated-reading mid (reading-from (part-read G u) at after_open alone K.low into-group) (λ h. (alone h).0) G.kept.text Q (λ h. at-closed) in
          let z : old.count - old.count ≡ 0 = omega arith in
          record {
            kept = kept-then model-kept Q.only.kept;
            says =
                reading-to R after_content uses_in (λ c. ContentBuilt old.predecessors.now new.predecessors.now c (Children y.ends)) y.at new.count (omega arith) R.high refl (children R.tree) refl
                (built-children (subst (λ (m : ℕ). Built m old.predecessors.now new.predecessors.now R.tree y.ends) z R.made)) (past-content s y.at R.tree);
          }

-- ---- contents
empty-keyword : (h : Head) → Keyword schema_machine dead (after_content empty h) (λ w. in_empty w h)
unfolding step
empty-keyword h = record { dies = refl; live = refl; lives = λ w. refl; goes = λ w k b. refl; ends = λ w. refl }

module _ (h : Head) (k b : ℕ) where
  content-opens : b ≡ 0x28 → step (before_content h) k b ≡ after_open h
  unfolding step
  content-opens e = ap (λ (x : ℕ). step (before_content h) k x) e

  content-keyword : b ≡ 0x45 → step (before_content h) k b ≡ in_empty (bytes "MPTY") h
  unfolding step
  content-keyword e = ap (λ (x : ℕ). step (before_content h) k x) e

  content-dead : is_blank b ≡ false → (b ≡ 0x28 → ⊥) → (b ≡ 0x45 → ⊥) → step (before_content h) k b ≡ dead
  unfolding step
  content-dead e f g = cond_no (before_content h) _ e ∙ cond_no (after_open h) _ (ne_eqb b 0x28 f) ∙ cond_no (in_empty (bytes "MPTY") h) dead (ne_eqb b 0x45 g)

module _ (old : Parser) (at : ℕ) where
  abbrev text : List ℕ
  text = old.text.now

  pub content-end : length text ≤ at → Fails before_content text at at
  content-end l h = at-end schema_machine text at (before_content h) l

  module _ (l : at < length text) where
    pub content-model : {new : Parser} {r : Result ContentEnd ℕ} → byte_at text at ≡ 0x28 → ReadsContent after_open after_content (at + 1) old new r
        → ReadsContent before_content after_content at old new r
    content-model {new} {r} e C = record { kept = C.kept; says = go r C.says }
      where
        into : (h : Head) → from (before_content h) text at ≡ from (after_open h) text (at + 1)
        into h = step-at schema_machine text at (before_content h) (after_open h) l (content-opens h at (byte_at text at) e) refl

        go : (r : Result ContentEnd ℕ) → ContentAs after_open after_content (at + 1) old new r → ContentAs before_content after_content at old new r
        go (Ok p) R = reading-from R at before_content (λ h. h) (omega arith) into
        go (Err j) F = λ h. into h ∙ F h

    module _ (e : byte_at text at ≡ 0x45) where
      into-empty : (h : Head) → from (before_content h) text at ≡ from (in_empty (bytes "MPTY") h) text (at + 1)
      into-empty h = step-at schema_machine text at (before_content h) (in_empty (bytes "MPTY") h) l (content-keyword h at (byte_at text at) e) refl

      pub content-empty : {j : ℕ} → old.count ≤ at → Spelt (bytes "MPTY") text (at + 1) (Ok j)
          → ReadsContent before_content after_content at old old (Ok (record { at = j; content = Empty }))
      content-empty m W =
          let f = spelt-end W refl in
          let b = f.0 in
          nameless-content old empty Empty refl (built-empty refl) m (omega arith) f.1 (λ h. into-empty h ∙ spelt-past W (empty-keyword h) refl)

      pub content-empty-fails : {j : ℕ} → Spelt (bytes "MPTY") text (at + 1) (Err j) → Fails before_content text at j
      content-empty-fails W h = into-empty h ∙ spelt-fail W (empty-keyword h) refl

    pub content-not : is_blank (byte_at text at) ≡ false → (byte_at text at ≡ 0x28 → ⊥) → (byte_at text at ≡ 0x45 → ⊥) → Fails before_content text at at
    content-not d e f h = dead-at schema_machine text at (before_content h) dead l (content-dead h at (byte_at text at) d e f) refl

-- ---- the end of a declaration
module _ (c : Content Use) (h : Head) (k b : ℕ) where
  complete-blank : is_blank b ≡ true → step (after_content c h) k b ≡ after_content c h
  unfolding step
  complete-blank e = cond_yes (after_content c h) _ e

  complete-close : b ≡ 0x3E → step (after_content c h) k b ≡ ended c h
  unfolding step
  complete-close e = ap (λ (x : ℕ). step (after_content c h) k x) e

  complete-not : is_blank b ≡ false → (b ≡ 0x3E → ⊥) → step (after_content c h) k b ≡ dead
  unfolding step
  complete-not e g = cond_no (after_content c h) _ e ∙ cond_no (ended c h) dead (ne_eqb b 0x3E g)

module _ {at : ℕ} {old new : Parser} {r : Result ContentEnd ℕ} (C : ReadsContent before_content after_content at old new r) where
  read : {a : Result ContentEnd ℕ} → r ≡ a → ContentAs before_content after_content at old new a
  read u = (subst (ReadsContent before_content after_content at old new) u C).says

  pub body-fails : {j : ℕ} → r ≡ Err j → ReadsContent before_content ended at old new (Err j)
  body-fails u = record { kept = C.kept; says = read u }

  module _ {p : ContentEnd} (u : r ≡ Ok p) where
    pub content-high : p.at ≤ length new.text.now
    content-high = subst (λ (l : List ℕ). p.at ≤ length l) (sym C.kept.text) (read u).high

    abbrev text-read : List ℕ
    text-read = old.text.now

    module _ {i : ℕ} (K : Skipped new.text.now p.at i) where
      skipped : Skipped text-read p.at i
      skipped = subst (λ (l : List ℕ). Skipped l p.at i) C.kept.text K

      complete-to : (h : Head) → from (before_content h) text-read at ≡ from (after_content (read u).tree h) text-read i
      complete-to h = (read u).same h ∙ skipped-same schema_machine skipped (after_content (read u).tree h) refl (complete-blank (read u).tree h)

      -- the text's end, and a byte of it
      ends : length new.text.now ≤ i → length text-read ≤ i
      ends l = subst (λ (t : List ℕ). length t ≤ i) C.kept.text l

      stands : i < length new.text.now → i < length text-read
      stands l = subst (λ (t : List ℕ). i < length t) C.kept.text l

      byte-same : byte_at new.text.now i ≡ byte_at text-read i
      byte-same = ap (λ (t : List ℕ). byte_at t i) C.kept.text

      pub body_end : length new.text.now ≤ i → ReadsContent before_content ended at old new (Err i)
      body_end l = record { kept = C.kept; says = λ h. complete-to h ∙ at-end schema_machine text-read i (after_content (read u).tree h) (ends l) }

      pub body-close : i < length new.text.now → byte_at new.text.now i ≡ 0x3E → ReadsContent before_content ended at old new (Ok (record { at = i + 1; content = p.content }))
      body-close l e =
          let a = skipped.low in
          let b = stands l in
          record {
            kept = C.kept;
            says =
                reading-to (read u) ended uses_in (λ c. ContentBuilt old.predecessors.now new.predecessors.now c p.content) (i + 1) new.count (omega arith) (omega arith) refl (read u).tree refl (read u).made
                (λ h. skipped-same schema_machine skipped (after_content (read u).tree h) refl (complete-blank (read u).tree h)
                ∙ step-at schema_machine text-read i (after_content (read u).tree h) (ended (read u).tree h) b (complete-close (read u).tree h i (byte_at text-read i) (sym byte-same ∙ e)) refl);
          }

      pub body-not : i < length new.text.now → (byte_at new.text.now i ≡ 0x3E → ⊥) → ReadsContent before_content ended at old new (Err i)
      body-not l e =
          record {
            kept = C.kept;
            says = λ h.
                complete-to h
                ∙ dead-at schema_machine text-read i (after_content (read u).tree h) dead (stands l)
                (complete-not (read u).tree h i (byte_at text-read i) (skipped.stop (stands l)) (λ z. e (byte-same ∙ z))) refl;
          }
