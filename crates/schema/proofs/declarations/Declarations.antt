-- Laws of reading declarations: the keyword, the name, the whole.
use mathlib.Core.Bool.{true, false}
use mathlib.Core.List.{List, [], ◌∷◌}
use mathlib.Core.Path.{◌≡◌, refl, ap, subst, ◌∙◌}
use Rattle.std.specs.Prelude.{Result, Ok, Err}
use Prim.Native.Nat.{ℕ, ◌+◌, ◌≤◌, ◌<◌}
use native.Mathlib.Omega.{arith}
use borrow.Author.Tests.{ne_eqb}
use lib.ListN.{length}
use Rattle.schema_spec.specs.Declarations.{Declaration}
use Rattle.schema_spec.specs.Machine.{Opening, Head, State, dead, between, in_keyword, after_keyword, before_name, in_name, before_content, headed, step, schema_machine, from}
use Rattle.schema_spec.specs.Models.{uses_in}
use Rattle.schema.specs.contents.Contents.{PassesAs, Passes, ContentBuilt, ContentAs, ReadsContent, ended}
use Rattle.schema.specs.declarations.Declarations.{ReadsKeyword, ReadsDeclaredName, Declared}
use Rattle.schema.specs.declared.contents.ContentEnd.{ContentEnd}
use Rattle.schema.specs.declared.parsing.Parser.{Parser}
use Rattle.schema.specs.particles.ReadingLaws.{noted-wider, noted-low}
use Rattle.schema.specs.particles.Readings.{use_at, Reading, Fails}
use Rattle.text.specs.scanning.OutcomeLaws.{spaced-end, spaced-past, spaced-fail, spelt-end, spelt-past, spelt-fail, named_end, named_past, named-fail}
use Rattle.text.specs.scanning.Outcomes.{NoBlank, Spaced, Spelt, Named}
use Rattle.text_laws.specs.Scans.{step-at, dead-at, at-end, Spacing, Keyword, Naming}
use Rattle.text_laws.specs.Tests.{cond_yes, cond_no}
use Rattle.text_spec.specs.Bytes.{is_blank, starts_name, continues_name}
use Rattle.text_spec.specs.Lists.{bytes}
use Rattle.text_spec.specs.Scans.{byte_at, Stops, name_at}

-- what an answer says
module _ {X : Type 0} {before after : X → State} {End : ℕ → Type 0} {s : List ℕ} {at : ℕ} {r : Result ℕ ℕ} (P : Passes before after End s at r) where
  passes : {a : Result ℕ ℕ} → r ≡ a → PassesAs before after End s at a
  passes u = (subst (Passes before after End s at) u P).says

-- ---- the keyword
element-keyword : (o : Opening) → Keyword schema_machine dead (after_keyword o) (λ w. in_keyword w o)
unfolding step
element-keyword o = record { dies = refl; live = refl; lives = λ w. refl; goes = λ w k b. refl; ends = λ w. refl }

name-spacing : (s : List ℕ) (at : ℕ) (o : Opening) → Spacing schema_machine dead (after_keyword o) (before_name o) s at
unfolding step
name-spacing s at o = record { dies = refl; live = refl; stays = λ k b e. cond_yes (before_name o) _ e; ends = refl; goes = λ l. refl }

module _ (k b : ℕ) (ds : List Declaration) where
  between-opens : b ≡ 0x3C → step (between ds) k b ≡ in_keyword (bytes "!ELEMENT") (record { place = k; done = ds })
  unfolding step
  between-opens e = ap (λ (x : ℕ). step (between ds) k x) e

  between-dead : is_blank b ≡ false → (b ≡ 0x3C → ⊥) → step (between ds) k b ≡ dead
  unfolding step
  between-dead e g = cond_no (between ds) _ e ∙ cond_no (in_keyword (bytes "!ELEMENT") (record { place = k; done = ds })) dead (ne_eqb b 0x3C g)

module _ (s : List ℕ) (at : ℕ) (l : at < length s) where
  pub keyword-not : is_blank (byte_at s at) ≡ false → (byte_at s at ≡ 0x3C → ⊥) → Fails between s at at
  keyword-not e g ds = dead-at schema_machine s at (between ds) dead l (between-dead at (byte_at s at) ds e g) refl

  module _ {r : Result ℕ ℕ} (e : byte_at s at ≡ 0x3C) (W : Spelt (bytes "!ELEMENT") s (at + 1) r) where
    abbrev opening : List Declaration → Opening
    opening ds = record { place = at; done = ds }

    into-keyword : (ds : List Declaration) → from (between ds) s at ≡ from (in_keyword (bytes "!ELEMENT") (opening ds)) s (at + 1)
    into-keyword ds = step-at schema_machine s at (between ds) (in_keyword (bytes "!ELEMENT") (opening ds)) l (between-opens at (byte_at s at) ds e) refl

    pub keyword-fails : {j : ℕ} → r ≡ Err j → Fails between s at j
    keyword-fails u ds = into-keyword ds ∙ spelt-fail W (element-keyword (opening ds)) u

    pub keyword-reads : {j : ℕ} {q : Result ℕ ℕ} → r ≡ Ok j → Spaced s j q → ReadsKeyword s at q
    keyword-reads {j} {q} u S = record { says = go q refl }
      where
        to_space : (ds : List Declaration) → from (between ds) s at ≡ from (after_keyword (opening ds)) s j
        to_space ds = into-keyword ds ∙ spelt-past W (element-keyword (opening ds)) u

        go : (a : Result ℕ ℕ) → q ≡ a → PassesAs between (λ ds. before_name (opening ds)) (λ j. (j ≤ length s) × NoBlank s j) s at a
        go (Ok i) v =
            let f = spaced-end S v in
            let a = (spelt-end W u).0 in
            let b = f.0 in
            (omega arith, (f.1, f.2), λ ds. to_space ds ∙ spaced-past S (name-spacing s j (opening ds)) v)
        go (Err i) v = λ ds. to_space ds ∙ spaced-fail S (name-spacing s j (opening ds)) v

-- ---- the declared name
declared-naming : (j : ℕ) (o : Opening) → Naming schema_machine dead (λ n. in_name j n o)
unfolding step
declared-naming j o = record { dies = refl; lives = λ n. refl; goes = λ n k b e. cond_yes _ _ e }

content-spacing : (s : List ℕ) (at j : ℕ) (n : List ℕ) (o : Opening) → Stops continues_name s at → Spacing schema_machine dead (in_name j n o) (before_content (headed j n o)) s at
unfolding step
content-spacing s at j n o e =
    record { dies = refl; live = refl; stays = λ k b f. cond_yes (before_content (headed j n o)) _ f; ends = refl; goes = λ l. cond_no _ _ (e l) }

module _ (o : Opening) (k b : ℕ) where
  name-begins : is_blank b ≡ false → starts_name b ≡ true → step (before_name o) k b ≡ in_name k (b ∷ []) o
  unfolding step
  name-begins e g = cond_no (before_name o) _ e ∙ cond_yes (in_name k (b ∷ []) o) dead g

  name-dead : is_blank b ≡ false → starts_name b ≡ false → step (before_name o) k b ≡ dead
  unfolding step
  name-dead e g = cond_no (before_name o) _ e ∙ cond_no (in_name k (b ∷ []) o) dead g

module _ (s : List ℕ) (i : ℕ) where
  pub name-end : length s ≤ i → Fails before_name s i i
  name-end l o = at-end schema_machine s i (before_name o) l

  module _ (l : i < length s) (e : is_blank (byte_at s i) ≡ false) where
    pub name-not : starts_name (byte_at s i) ≡ false → Fails before_name s i i
    name-not g o = dead-at schema_machine s i (before_name o) dead l (name-dead o i (byte_at s i) e g) refl

    module _ {r : Result ℕ ℕ} (g : starts_name (byte_at s i) ≡ true) (N : Named s i r) where
      into-name : (o : Opening) → from (before_name o) s i ≡ from (in_name i (byte_at s i ∷ []) o) s (i + 1)
      into-name o = step-at schema_machine s i (before_name o) (in_name i (byte_at s i ∷ []) o) l (name-begins o i (byte_at s i) e g) refl

      pub name-fails : {j : ℕ} → r ≡ Err j → Fails before_name s i j
      name-fails u o = into-name o ∙ named-fail N (declared-naming i o) u

      pub name-reads : {j : ℕ} {q : Result ℕ ℕ} → r ≡ Ok j → Spaced s j q → ReadsDeclaredName s i q
      name-reads {j} {q} u S = record { says = go q refl }
        where
          to_space : (o : Opening) → from (before_name o) s i ≡ from (in_name i (name_at s i) o) s j
          to_space o = into-name o ∙ named_past N (declared-naming i o) u

          spacing : (o : Opening) → Spacing schema_machine dead (in_name i (name_at s i) o) (before_content (headed i (name_at s i) o)) s j
          spacing o = content-spacing s j i (name_at s i) o (named_end N u).2

          go : (a : Result ℕ ℕ) → q ≡ a → PassesAs before_name (λ o. before_content (headed i (name_at s i) o)) (λ j. (j ≤ length s) × NoBlank s j) s i a
          go (Ok k) v =
              let f = spaced-end S v in
              let a = (named_end N u).0 in
              let b = f.0 in
              (omega arith, (f.1, f.2), λ o. to_space o ∙ spaced-past S (spacing o) v)
          go (Err k) v = λ o. to_space o ∙ spaced-fail S (spacing o) v

-- ---- a whole declaration
module _ {s : List ℕ} {at : ℕ} {r : Result ℕ ℕ} (W : ReadsKeyword s at r) where
  pub declaration-fails : {j : ℕ} → r ≡ Err j → Fails between s at j
  declaration-fails u = passes W u

  module _ {i : ℕ} (u : r ≡ Ok i) where
    pub name-known : (at < i) × (i ≤ length s) × NoBlank s i
    name-known = let k = passes W u in (k.0, k.1.0, k.1.1)

    module _ {q : Result ℕ ℕ} (H : ReadsDeclaredName s i q) where
      pub declaration-name-fails : {j : ℕ} → q ≡ Err j → Fails between s at j
      declaration-name-fails v ds = (passes W u).2 ds ∙ passes H v (record { place = at; done = ds })

      module _ {j : ℕ} (v : q ≡ Ok j) where
        pub content-known : (i < j) × (j ≤ length s) × NoBlank s j
        content-known = let k = passes H v in (k.0, k.1.0, k.1.1)

        abbrev head : List Declaration → Head
        head ds = record { opening = record { place = at; done = ds }; name = use_at s i }

        to-content : (ds : List Declaration) → from (between ds) s at ≡ from (before_content (head ds)) s j
        to-content ds = (passes W u).2 ds ∙ (passes H v).2 (record { place = at; done = ds })

        module _ (old : Parser) (h : old.text.now ≡ s) {new : Parser} {c : Result ContentEnd ℕ} (C : ReadsContent before_content ended j old new c) where
          content : {a : Result ContentEnd ℕ} → c ≡ a → ContentAs before_content ended j old new a
          content w = (subst (ReadsContent before_content ended j old new) w C).says

          pub declaration-content-fails : {k : ℕ} → c ≡ Err k → Fails between s at k
          declaration-content-fails {k} w ds = to-content ds ∙ subst (λ (l : List ℕ). Fails before_content l j k) h (content w) (head ds)

          pub declaration-reads : {p : ContentEnd} → c ≡ Ok p
              → Declared s at old.count old.uses.now new.uses.now old.predecessors.now new.predecessors.now (Ok (record { at = p.at; name = i; n = new.count; content = p.content }))
          declaration-reads {p} w =
              let R : Reading before_content ended uses_in (λ c. ContentBuilt old.predecessors.now new.predecessors.now c p.content) s j old.count old.uses.now new.uses.now p.at new.count =
              subst (λ (l : List ℕ). Reading before_content ended uses_in (λ c. ContentBuilt old.predecessors.now new.predecessors.now c p.content) l j old.count old.uses.now new.uses.now p.at new.count) h (content w) in
              let a = name-known.0 in
              let b = content-known.0 in
              let d = noted-low R.noted in
              record {
                says =
                    record {
                      high = R.high;
                      few = R.few;
                      low = omega arith;
                      named = omega arith;
                      content = R.tree;
                      noted = noted-wider R.noted at p.at (omega arith) (omega arith);
                      built = R.made;
                      same = λ ds. to-content ds ∙ R.same (head ds);
                    };
              }
