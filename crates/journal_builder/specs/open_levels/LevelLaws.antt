-- Laws of the levels: one more, the innermost refilled.
use Rattle.std.specs.Prelude.{List, [], ◌∷◌, ◌≡◌, refl, ℕ, suc, ◌<◌, length, set}
use Rattle.std.proofs.Common.{sym, subst, arith, get_or-set_same, get_or-set_other}
use Rattle.journal_builder.specs.declared.fillings.Filling.{Filling}
use Rattle.journal_builder.specs.declared.open_levels.Level.{Level}
use Rattle.journal_builder.specs.fillings.Fillings.{FillingOf}
use Rattle.journal_builder.specs.open_levels.Levels.{level_at, with_filling, Stored, LevelOf, Opened}
use Rattle.journal_spec.specs.Builder.{Filling as Contained, Open, refill}
use Rattle.schema_spec.specs.Schemas.{Schema}

pub store-stores : (t : List Level) (d : ℕ) (v : Level) → d < length t → Stored t d v (set t d v)
store-stores t d v h = record { new = get_or-set_same t d v _ h; kept = λ i l. get_or-set_other t d i v _ (λ e. omega arith) }

module _ (s : Schema) where
  -- what is stored above does not touch the levels below
  pub opened-kept : (t u : List Level) (d : ℕ) → ((i : ℕ) → i < d → level_at u i ≡ level_at t i) → (os : List Open) → length os < d → Opened s t os → Opened s u os
  opened-kept t u d k [] h w = tt
  opened-kept t u d k (o ∷ os) h w = (subst (λ (v : Level). LevelOf s v o) (sym (k (suc (length os)) h)) w.0, opened-kept t u d k os (omega arith) w.1)

  -- one element more
  pub opened-more : (t u : List Level) (d : ℕ) (v : Level) (o : Open) (os : List Open) → d ≡ suc (length os) → Stored t d v u → LevelOf s v o → Opened s t os → Opened s u (o ∷ os)
  opened-more t u d v o os e st l w =
      (subst (λ (k : ℕ). LevelOf s (level_at u k) o) e (subst (λ (x : Level). LevelOf s x o) (sym st.new) l), opened-kept t u d st.kept os (omega arith) w)

  -- the innermost element's content becomes another
  pub opened-refilled : (t u : List Level) (d : ℕ) (f : Filling) (g : Contained → Contained) (os : List Open) → d ≡ length os → Stored t d (with_filling (level_at t d) f) u
      → ((o : Open) (rest : List Open) → os ≡ o ∷ rest → FillingOf s f (g o.filling)) → Opened s t os → Opened s u (refill g os)
  opened-refilled t u d f g [] e st h w = tt
  opened-refilled t u d f g (o ∷ os) e st h w =
      opened-more t u d (with_filling (level_at t d) f) (record { name = o.name; place = o.place; row = o.row; filling = g o.filling }) os e st
      (let l = subst (λ (k : ℕ). LevelOf s (level_at t k) o) (sym e) w.0 in
      record { name = l.name; place = l.place; placed = l.placed; row = l.row; filling = h o os refl }) w.1
