-- What is found against a journal, as one key: the outcome is told by the least key of all findings.
use Rattle.std.specs.Prelude.{Bool, true, false, not, ◌&&◌, ◌||◌, List, [], ◌∷◌, ◌++◌, reverse, ◌≡◌, refl, ℕ, zero, suc, min, ◌/◌, ◌%◌, ◌≤◌, ◌<◌, ltb, length, get_or, take}
use Rattle.std.proofs.Math.Option.{Option, none, some}
use Rattle.std.proofs.Common.{sym, ap, ◌∙◌, arith, le-ltb}
use Rattle.journal_laws.specs.Judging.{journal-judged}
use Rattle.journal_spec.specs.Builder.{Building, on_event}
use Rattle.journal_spec.specs.Conditions as conditions
use Rattle.journal_spec.specs.Conditions.{JournalApplies, JournalGives}
use Rattle.journal_spec.specs.Reading.{Machine, initial, step, run, ended, ends_early, machine_refusals, read_journal}
use Rattle.schema_spec.specs.Schemas.{Schema}
use Rattle.text.specs.fault_keys.KeyLaws.{least-append, least-bound, placed-append, placed-given, FirstBy, no-refusal, refusal, first-by-key}
use Rattle.text.specs.fault_keys.Keys.{no_key, place_limit, least_key, noted_key, Placed}
use Rattle.text_laws.specs.Texts.{over-length}
use Rattle.text_spec.specs.Lists.{is_empty, is_none, list_of}
use Rattle.text_spec.specs.Refusals.{Refusal, Outcome, accepted, refused, by_first, first_of, at, all_at, given, number_of, bad_length, misspelt, bad_nesting}
use Rattle.token_spec.specs.Lexer.{misspelt_at}

-- ---- 2 comes first
pub read-empty : (limit : ℕ) (s : Schema) → read_journal limit s [] ≡ refused (at bad_length 0)
unfolding read_journal run on_event first_of
read-empty limit s = refl

pub read-over : (limit : ℕ) (s : Schema) (text : List ℕ) → limit < length text → read_journal limit s text ≡ refused (at bad_length 0)
read-over limit s text l =
    over-length (JournalApplies limit s text) (JournalGives s text) limit text (λ k x. elim x [ ]) (λ k x. conditions.length-2 x) l (journal-judged limit s text)

-- ---- the outcome by a key
-- accepted, or refused by the refusal that the key tells
pub data KeyTells {A : Type 0} (key : ℕ) (a : A) : Outcome A → Type 0 where
  accepts : key ≡ no_key → KeyTells key a (accepted a)
  refuses : {f : Refusal} → key / place_limit ≡ number_of f.reason → key % place_limit ≡ f.place → key < no_key → KeyTells key a (refused f)

told-by : {A : Type 0} (key : ℕ) (a : A) (o : Option Refusal) → FirstBy key o → KeyTells key a (by_first o a)
told-by key a none (no-refusal e) = accepts e
told-by key a (some f) (refusal n p l) = refuses n p l

-- an element is open at the end, or there was no root
abbrev pub is_early : Building → Bool
is_early b = is_none b.broken && (not (is_empty b.opens) || not b.rooted)

-- the least key of all findings of a machine and of what is built at the end: 3, 11, 12 at the end, and what the builder found
abbrev pub findings_key : Machine → Building → ℕ
findings_key m c =
    min (least_key m.foreign)
    (min (least_key (all_at misspelt (misspelt_at m.mode))) (noted_key (is_early c) 12 m.place (least_key (list_of c.broken ++ c.faults))))

-- every place of them is one of a text
pub record FindingsPlaced (m : Machine) (c : Building) : Type 0 where
  pub foreign : Placed m.foreign
  pub tags : Placed (all_at misspelt (misspelt_at m.mode))
  pub end : m.place < place_limit
  pub built : Placed (list_of c.broken ++ c.faults)

module _ (m : Machine) (c : Building) where
  early-key : least_key (list_of c.broken ++ (ends_early c m.place ++ c.faults))
      ≡ noted_key (is_early c) 12 m.place (least_key (list_of c.broken ++ c.faults))
  early-key = pick (is_early c)
    where
      pick : (t : Bool) → least_key (list_of c.broken ++ (given t (at bad_nesting m.place) ++ c.faults))
          ≡ noted_key t 12 m.place (least_key (list_of c.broken ++ c.faults))
      pick true =
          omega (
            arith,
            least-append (list_of c.broken) (at bad_nesting m.place ∷ c.faults),
            least-append (list_of c.broken) c.faults,
            least-bound (list_of c.broken),
            least-bound c.faults,
          )
      pick false = refl

  key-is : least_key (machine_refusals m c) ≡ findings_key m c
  key-is =
      let rest = list_of c.broken ++ (ends_early c m.place ++ c.faults) in
      least-append m.foreign (all_at misspelt (misspelt_at m.mode) ++ rest)
      ∙ ap (min (least_key m.foreign))
      (least-append (all_at misspelt (misspelt_at m.mode)) rest ∙ ap (min (least_key (all_at misspelt (misspelt_at m.mode)))) early-key)

  placed-all : FindingsPlaced m c → Placed (machine_refusals m c)
  placed-all p =
      placed-append m.foreign (all_at misspelt (misspelt_at m.mode) ++ (list_of c.broken ++ (ends_early c m.place ++ c.faults))) p.foreign
      (placed-append (all_at misspelt (misspelt_at m.mode)) (list_of c.broken ++ (ends_early c m.place ++ c.faults)) p.tags
      (placed-append (list_of c.broken) (ends_early c m.place ++ c.faults) (placed-left (list_of c.broken) c.faults p.built)
      (placed-given (is_early c) bad_nesting m.place c.faults p.end (placed-right (list_of c.broken) c.faults p.built))))
    where
      placed-left : (fs gs : List Refusal) → Placed (fs ++ gs) → Placed fs
      placed-left [] gs q = tt
      placed-left (f ∷ fs) gs q = (q.0, placed-left fs gs q.1)

      placed-right : (fs gs : List Refusal) → Placed (fs ++ gs) → Placed gs
      placed-right [] gs q = q
      placed-right (f ∷ fs) gs q = placed-right fs gs q.1

-- A journal within its limit: the outcome is what the least key tells.
pub read_told : (limit : ℕ) (s : Schema) (text : List ℕ) (key : ℕ) → 1 ≤ length text → length text ≤ limit
    → FindingsPlaced (run s initial text) (ended s (run s initial text)) → key ≡ findings_key (run s initial text) (ended s (run s initial text))
    → KeyTells key (reverse (ended s (run s initial text)).rows) (read_journal limit s text)
unfolding read_journal
read_told limit s text key filled within placed k =
    let m = run s initial text in
    let c = ended s m in
    rw (not-over text filled within)
    (told-by key (reverse c.rows) (first_of (machine_refusals m c))
    (first-by-key (machine_refusals m c) key (placed-all m c placed) (k ∙ sym (key-is m c))))
  where
    not-over : (t : List ℕ) → 1 ≤ length t → length t ≤ limit → (is_empty t || ltb limit (length t)) ≡ false
    not-over [] h l = absurd (omega arith)
    not-over (y ∷ t) h l = le-ltb limit (length (y ∷ t)) l

-- ---- one byte more of a run from the start
pub run-next : (s : Schema) (m : Machine) (text : List ℕ) (k : ℕ) → k < length text → run s m (take (suc k) text) ≡ step s (run s m (take k text)) (get_or text k 0)
unfolding run
run-next s m [] k h = absurd (omega arith)
run-next s m (y ∷ t) zero h = refl
run-next s m (y ∷ t) (suc k) h = run-next s (step s m y) t k (omega arith)
