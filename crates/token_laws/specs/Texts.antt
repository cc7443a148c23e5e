-- Bytes are one journal text exactly if the lexer says how many characters they stand for, and it says how many.
use Rattle.std.specs.Prelude.{false, cond, ◌&&◌, List, [], ◌∷◌, ◌++◌, ◌⊎◌, ◌≡◌, refl, ℕ, suc, ◌+◌, ◌-◌, ◌≤◌, eqb, leb, ltb, length}
use Rattle.std.proofs.Common.{append-nil, inl, inr, sym, ap, subst, ◌∙◌, arith, eqb→eq}
use Rattle.std.proofs.Math.Option.{none, some}
use Rattle.text_laws.specs.Tests.{false_of, never}
use Rattle.text_spec.specs.Bytes.{is_blank, starts_name, continues_name}
use Rattle.text_spec.specs.Limits.{max_name_bytes}
use Rattle.text_spec.specs.Lists.{any_of, is_empty}
use Rattle.text_spec.specs.Machines.{longer}
use Rattle.token_laws.specs.Characters.{decode-decodes, decodes-once, decode-filled, decode-shorter, saved-length}
use Rattle.token_laws.specs.Events.{cond_both}
use Rattle.token_laws.specs.Passes.{mode-append, run-passes, solid_from, tag_rest}
use Rattle.token_laws.specs.Spellings.{unmisspelt-tokens}
use Rattle.token_spec.specs.Characters.{decode, saved_in}
use Rattle.token_spec.specs.Lexer.{Run, run, Mode, between, in_data, in_entity, opened, in_name, after_name, after_slash, ending, in_end_name, after_end_name, stopped, Lexed, tails_with, data_byte, entity_byte, tag_byte, end_tag_byte, lex, mode_after, misspelt_at}
use Rattle.token_spec.specs.Texts.{OneText, run_size, decoded_size}
use Rattle.token_spec.specs.Tokens.{Token, start_tag, empty_tag, end_tag, characters, spell, Spelt, characters-spelt, TagNext, no-token, start-next, empty-next, end-next, AllSpelt, none as all_none, tag, data-then}

-- ---- a run that begins later is not the first

-- the run that is open, if there is one, began at this place or later
abbrev pub BegunFrom : ℕ → Mode → Type 0
BegunFrom j between = Unit {0}
BegunFrom j (in_data r brackets) = j ≤ r.start
BegunFrom j (in_entity rests at r) = j ≤ r.start
BegunFrom j (opened at) = Unit {0}
BegunFrom j (in_name at n) = Unit {0}
BegunFrom j (after_name at n) = Unit {0}
BegunFrom j (after_slash at n) = Unit {0}
BegunFrom j (ending at) = Unit {0}
BegunFrom j (in_end_name at n) = Unit {0}
BegunFrom j (after_end_name at n) = Unit {0}
BegunFrom j (stopped at) = Unit {0}

module _ (j k b : ℕ) (past : j ≤ k) where
  abbrev Begun : Lexed → Type 0
  Begun l = BegunFrom j l.mode

  data-begun : (r : Run) (brackets : ℕ) → j ≤ r.start → BegunFrom j (data_byte r brackets k b)
  data-begun r brackets h =
      cond_both (BegunFrom j) (is_blank b) _ _ h
      (cond_both (BegunFrom j) (eqb b 0x26) _ _ h
      (cond_both (BegunFrom j) (eqb b 0x5D) _ _ h (cond_both (BegunFrom j) (eqb b 0x3E && leb 2 brackets) _ _ tt h)))

  entity-begun : (rests : List (List ℕ)) (at : ℕ) (r : Run) → j ≤ r.start → BegunFrom j (entity_byte rests at k r)
  entity-begun rests at r h = cond_both (BegunFrom j) (is_empty rests) _ _ tt (cond_both (BegunFrom j) (any_of is_empty rests) _ _ h h)

  tag-begun : (at : ℕ) (n : List ℕ) → Begun (tag_byte at n b)
  tag-begun at n = cond_both Begun (is_blank b) _ _ tt (cond_both Begun (eqb b 0x3E) _ _ tt (cond_both Begun (eqb b 0x2F) _ _ tt tt))

  end-tag-begun : (at : ℕ) (n : List ℕ) → Begun (end_tag_byte at n b)
  end-tag-begun at n = cond_both Begun (is_blank b) _ _ tt (cond_both Begun (eqb b 0x3E) _ _ tt tt)

  longer-begun : (n : List ℕ) (at : ℕ) (part : List ℕ → Mode) → BegunFrom j (part (n ++ (b ∷ []))) → BegunFrom j (longer (stopped at) n b part)
  longer-begun n at part h = cond_both (BegunFrom j) (ltb (length n) max_name_bytes) _ _ h tt

  byte-begun : (m : Mode) → BegunFrom j m → Begun (lex m k b)
  unfolding lex
  byte-begun between h = cond_both Begun (eqb b 0x3C) _ _ tt (data-begun (run k none 0) 0 past)
  byte-begun (in_data r brackets) h = cond_both Begun (eqb b 0x3C) _ _ tt (data-begun r brackets h)
  byte-begun (in_entity rests at r) h = entity-begun (tails_with b rests) at r h
  byte-begun (opened at) h = cond_both Begun (eqb b 0x2F) _ _ tt (cond_both Begun (starts_name b) _ _ tt tt)
  byte-begun (in_name at n) h = cond_both Begun (continues_name b) _ _ (longer-begun n at (in_name at) tt) (tag-begun at n)
  byte-begun (after_name at n) h = tag-begun at n
  byte-begun (after_slash at n) h = cond_both Begun (eqb b 0x3E) _ _ tt tt
  byte-begun (ending at) h = cond_both Begun (starts_name b) _ _ tt tt
  byte-begun (in_end_name at n) h = cond_both Begun (continues_name b) _ _ (longer-begun n at (in_end_name at) tt) (end-tag-begun at n)
  byte-begun (after_end_name at n) h = end-tag-begun at n
  byte-begun (stopped at) h = tt

pub begun-after : (j k : ℕ) (m : Mode) (bs : List ℕ) → j ≤ k → BegunFrom j m → BegunFrom j (mode_after m k bs)
unfolding mode_after
begun-after j k m [] h g = g
begun-after j k m (b ∷ bs) h g = begun-after j (suc k) (lex m k b).mode bs (omega arith) (byte-begun j k b h m g)

later-no-size : (size : ℕ) (r : Run) → 1 ≤ r.start → cond (eqb r.start 0) (some (size - r.saved)) none ≡ none
later-no-size size r h =
    let e : eqb r.start 0 ≡ false = false_of (eqb r.start 0) (λ t. let z : r.start ≡ 0 = eqb→eq r.start 0 t in omega arith) in
    rw e

-- where no run is open that began with the first byte, the bytes are not one text
pub begun-no-size : (size : ℕ) (m : Mode) → BegunFrom 1 m → run_size size m ≡ none
begun-no-size size between h = refl
begun-no-size size (in_data r brackets) h = later-no-size size r h
begun-no-size size (in_entity rests at r) h = refl
begun-no-size size (opened at) h = refl
begun-no-size size (in_name at n) h = refl
begun-no-size size (after_name at n) h = refl
begun-no-size size (after_slash at n) h = refl
begun-no-size size (ending at) h = refl
begun-no-size size (in_end_name at n) h = refl
begun-no-size size (after_end_name at n) h = refl
begun-no-size size (stopped at) h = refl

-- a tag parts what follows from the first byte
tag-parts : {ts : List Token} (r : Run) (c k : ℕ) → TagNext ts → (ts ≡ []) ⊎ BegunFrom 1 (mode_after (in_data r c) k (spell ts))
unfolding mode_after lex
tag-parts r c k no-token = inl refl
tag-parts r c k (start-next {n = n} {a = a} {ts = ts}) = inr (begun-after 1 (suc k) (opened k) (tag_rest (start_tag n a) ++ spell ts) (omega arith) tt)
tag-parts r c k (empty-next {n = n} {a = a} {ts = ts}) = inr (begun-after 1 (suc k) (opened k) (tag_rest (empty_tag n a) ++ spell ts) (omega arith) tt)
tag-parts r c k (end-next {n = n} {a = a} {ts = ts}) = inr (begun-after 1 (suc k) (opened k) (tag_rest (end_tag n a) ++ spell ts) (omega arith) tt)

tag-leads : {t : Token} (ts : List Token) → TagNext (t ∷ []) → BegunFrom 1 (mode_after between 0 (spell (t ∷ ts)))
unfolding mode_after lex
tag-leads ts (start-next {n = n} {a = a}) = begun-after 1 1 (opened 0) (tag_rest (start_tag n a) ++ spell ts) (omega arith) tt
tag-leads ts (empty-next {n = n} {a = a}) = begun-after 1 1 (opened 0) (tag_rest (empty_tag n a) ++ spell ts) (omega arith) tt
tag-leads ts (end-next {n = n} {a = a}) = begun-after 1 1 (opened 0) (tag_rest (end_tag n a) ++ spell ts) (omega arith) tt

-- ---- theorems

sized-run : (size n : ℕ) (m : Mode) → run_size size m ≡ some n → misspelt_at m ≡ []
sized-run size n between e = never (cc)
sized-run size n (in_data r brackets) e = refl
sized-run size n (in_entity rests at r) e = never (cc)
sized-run size n (opened at) e = never (cc)
sized-run size n (in_name at w) e = never (cc)
sized-run size n (after_name at w) e = never (cc)
sized-run size n (after_slash at w) e = never (cc)
sized-run size n (ending at) e = never (cc)
sized-run size n (in_end_name at w) e = never (cc)
sized-run size n (after_end_name at w) e = never (cc)
sized-run size n (stopped at) e = never (cc)

not-begun : (size n : ℕ) (m : Mode) → run_size size m ≡ some n → BegunFrom 1 m → ⊥
not-begun size n m e h =
    let f : run_size size m ≡ none = begun-no-size size m h in
    never (cc)

-- One text has a size, the number of its characters.
pub text-sized : {w v : List ℕ} → OneText w v → decoded_size w ≡ some (length v)
unfolding decoded_size
text-sized {w} {v} t = by t.spelt (ap length (decodes-once t.stands))
  where
    by : {u : List ℕ} → Spelt (characters u) → length v ≡ length (decode u) → decoded_size u ≡ some (length v)
    by (characters-spelt {b = b} {w = u} p h) e =
        let q = run-passes 0 b u p h in
        let s : length (decode (b ∷ u)) + saved_in (b ∷ u) ≡ length (b ∷ u) = saved-length (b ∷ u) in
        let d : length (b ∷ u) - saved_in (b ∷ u) ≡ length v = omega arith in
        ap (run_size (length (b ∷ u))) q.1.mode ∙ ap some d

-- What has a size is one text.
pub sized-spelt : (w : List ℕ) (n : ℕ) → decoded_size w ≡ some n → Spelt (characters w)
unfolding decoded_size mode_after
sized-spelt w n e =
    let t = unmisspelt-tokens w (sized-run (length w) n (mode_after between 0 w) e) in
    by t.1.spelt t.1.joined
  where
    first : (u : List ℕ) → w ≡ u → BegunFrom 1 (mode_after between 0 u) → ⊥
    first u f h = not-begun (length w) n (mode_after between 0 w) e (subst (λ (x : List ℕ). BegunFrom 1 (mode_after between 0 x)) (sym f) h)

    by : {ts : List Token} → AllSpelt ts → w ≡ spell ts → Spelt (characters w)
    by all_none f = absurd (first [] f tt)
    by (tag {t = t} {ts = ts} s h a) f = absurd (first (spell (t ∷ ts)) f (tag-leads ts s))
    by (data-then {ts = ts} (characters-spelt {b = b} {w = u} p h) s a) f =
        let q = run-passes 0 b u p h in
        last (tag-parts (run 0 (solid_from 0 (b ∷ u)) (saved_in (b ∷ u))) q.0 (0 + length (b ∷ u)) s)
      where
        last : (ts ≡ []) ⊎ BegunFrom 1 (mode_after (in_data (run 0 (solid_from 0 (b ∷ u)) (saved_in (b ∷ u))) (run-passes 0 b u p h).0) (0 + length (b ∷ u)) (spell ts)) → Spelt (characters w)
        last (inl z) = subst (λ (x : List ℕ). Spelt (characters x)) (sym (f ∙ ap (λ (x : List Token). (b ∷ u) ++ spell x) z ∙ append-nil (b ∷ u))) (characters-spelt p h)
        last (inr z) =
            absurd (first ((b ∷ u) ++ spell ts) f
            (subst (BegunFrom 1) (sym (mode-append between 0 (b ∷ u) (spell ts) ∙ ap (λ (m : Mode). mode_after m (0 + length (b ∷ u)) (spell ts)) (run-passes 0 b u p h).1.mode)) z))

pub spelt-text : {w : List ℕ} → Spelt (characters w) → OneText w (decode w)
spelt-text (characters-spelt p h) = record { spelt = characters-spelt p h; stands = decode-decodes p }

-- and its characters are so many.
pub sized-text : (w : List ℕ) (n : ℕ) → decoded_size w ≡ some n → OneText w (decode w) × (length (decode w) ≡ n)
sized-text w n e =
    let t = spelt-text (sized-spelt w n e) in
    let f : decoded_size w ≡ some (length (decode w)) = text-sized t in
    (t, cc)

pub spelt-filled : {w : List ℕ} → Spelt (characters w) → 1 ≤ length w
spelt-filled (characters-spelt p h) = omega arith

-- A text has one character at least, and no more than it has bytes.
pub text-bounds : {w v : List ℕ} → OneText w v → (1 ≤ length v) × (length v ≤ length w)
text-bounds {w} {v} t =
    let e : length v ≡ length (decode w) = ap length (decodes-once t.stands) in
    let f : 1 ≤ length (decode w) = decode-filled w (spelt-filled t.spelt) in
    let s : length (decode w) ≤ length w = decode-shorter w in
    (omega arith, omega arith)
