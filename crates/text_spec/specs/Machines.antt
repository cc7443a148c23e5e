-- Recognisers that read a text a byte at a time: a text spells something, or departs from the grammar at the first byte after which
-- no text could go on.
use Rattle.std.specs.Prelude.{Bool, cond, List, [], ◌∷◌, ◌++◌, ℕ, suc, eqb, ltb, length, drop}
use Rattle.std.proofs.Math.Option.{Option, none, some}
use Rattle.text_spec.specs.Limits.{max_name_bytes}

-- what a text spells, or the place at which it departs from the grammar
pub data Parsed (A : Type 0) : Type 0 where
  spells : A → Parsed A
  departs : ℕ → Parsed A

pub record Machine (State A : Type 0) : Type 0 where
  pub start : State
  -- no text goes on from here
  pub is_dead : State → Bool
  -- the state after the byte b at the place k: `step q k b`
  pub step : State → ℕ → ℕ → State
  -- what a text spells that ends here
  pub ends : State → Option A

-- the text ends at k
abbrev pub spelt : {A : Type 0} → Option A → ℕ → Parsed A
spelt none k = departs k
spelt (some a) k = spells a

module _ {State A : Type 0} where
  -- "its length if it stops short"
  abbrev pub at_end : Machine State A → State → ℕ → Parsed A
  at_end M q k = spelt (M.ends q) k

  -- the text from the place k on: "the first byte after which no .. text could go on"
  unfoldable pub run : Machine State A → State → List ℕ → ℕ → Parsed A
  run M q [] k = at_end M q k
  run M q (b ∷ bs) k =
      let r = M.step q k b in
      cond (M.is_dead r) (departs k) (run M r bs (suc k))

  abbrev pub parse : Machine State A → List ℕ → Parsed A
  parse M text = run M M.start text 0

  -- judging the text s from the place i on
  abbrev pub from : Machine State A → State → List ℕ → ℕ → Parsed A
  from M q s i = run M q (drop i s) i

-- What machines share, with the state from which no text goes on.
module _ {State : Type 0} (dead : State) where
  -- the byte b where the rest w of a keyword is due: `part v` is the state in which v is still to come, `whole` that after all of it
  abbrev pub matching : List ℕ → ℕ → State → (List ℕ → State) → State
  matching [] b whole part = dead
  matching (c ∷ []) b whole part = cond (eqb b c) whole dead
  matching (c ∷ d ∷ w) b whole part = cond (eqb b c) (part (d ∷ w)) dead

  -- the byte b after the bytes n of a name: `part m` is the state in which m has been read
  abbrev pub longer : List ℕ → ℕ → (List ℕ → State) → State
  longer n b part = cond (ltb (length n) max_name_bytes) (part (n ++ (b ∷ []))) dead
