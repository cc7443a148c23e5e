-- Laws of what was read: places in rising order, names noted in cells, a reading that starts earlier or ends later.
use Rattle.std.specs.Prelude.{List, [], ◌∷◌, ◌++◌, ◌≡◌, refl, ℕ, suc, ◌+◌, ◌≤◌, length, Result}
use Rattle.std.proofs.lemmas.List.{map-append, length-map}
use Rattle.std.proofs.Common.{sym, ap, ap₂, subst, ◌∙◌, add-zero, arith, length-append}
use Rattle.std.proofs.lemmas.List.Edits.{sets}
use Rattle.schema_spec.specs.Declarations.{Use, Indicator, once, optional, any, one_or_more, indicated}
use Rattle.schema_spec.specs.Machine.{State, past, from}
use Rattle.schema_spec.specs.Models.{Particle, uses}
use Rattle.schema.specs.declared.parsing.Parser.{Parser}
use Rattle.schema.specs.declared.particles.Part.{Part}
use Rattle.schema.specs.particles.Automata.{Built, Repeated}
use Rattle.schema.specs.particles.Readings.{use_at, Between, Noted, Reading, Kept, PartAs, ReadsPart, Around, Ended, indicator_at, Indicated, PartIndicated}
use Rattle.text_laws.specs.Cells.{sets-append}

-- ---- places in rising order
pub between-low : (low high : ℕ) (ps : List ℕ) → Between low high ps → low ≤ high
between-low low high [] b = b
between-low low high (p ∷ ps) b = let z = between-low (suc p) high ps b.1 in let y = b.0 in omega arith

pub between-from : (low low' high : ℕ) (ps : List ℕ) → low' ≤ low → Between low high ps → Between low' high ps
between-from low low' high [] h b = omega arith
between-from low low' high (p ∷ ps) h b = (let y = b.0 in omega arith, b.1)

pub between-to : (low high high' : ℕ) (ps : List ℕ) → high ≤ high' → Between low high ps → Between low high' ps
between-to low high high' [] h b = omega arith
between-to low high high' (p ∷ ps) h b = (b.0, between-to (suc p) high high' ps h b.1)

pub between_join : (low mid high : ℕ) (ps qs : List ℕ) → Between low mid ps → Between mid high qs → Between low high (ps ++ qs)
between_join low mid high [] qs b c = between-from mid low high qs b c
between_join low mid high (p ∷ ps) qs b c = (b.0, between_join (suc p) mid high ps qs b.1 c)

-- ---- names noted in cells
module _ {s : List ℕ} {at n : ℕ} {o : List ℕ} where
  pub noted-none : {end : ℕ} → at ≤ end → Noted s at n o o end n []
  noted-none h = record { places = []; names = refl; rise = h; counted = sym (add-zero n); wrote = refl }

  pub noted_more : {o' o'' : List ℕ} {i c j d : ℕ} {us vs : List Use} → Noted s at n o o' i c us → Noted s i c o' o'' j d vs → Noted s at n o o'' j d (us ++ vs)
  noted_more {o'} {o''} {i} {c} {j} {d} M N =
      record {
        places = M.places ++ N.places;
        names = ap₂ (λ (x y : List Use). x ++ y) M.names N.names ∙ sym (map-append (use_at s) M.places N.places);
        rise = between_join at i j M.places N.places M.rise N.rise;
        counted = let a = M.counted in let b = N.counted in let l = length-append M.places N.places in omega arith;
        wrote = N.wrote ∙ ap₂ (λ (x : List ℕ) (k : ℕ). sets x k N.places) M.wrote M.counted ∙ sym (sets-append o n M.places N.places);
      }

  module _ {o' : List ℕ} {i c : ℕ} {us : List Use} (M : Noted s at n o o' i c us) where
    pub noted-wider : (at' i' : ℕ) → at' ≤ at → i ≤ i' → Noted s at' n o o' i' c us
    noted-wider at' i' l h =
        record { places = M.places; names = M.names; rise = between-from at at' i' M.places l (between-to at i i' M.places h M.rise); counted = M.counted; wrote = M.wrote }

    pub noted-as : {d : ℕ} {vs : List Use} → c ≡ d → us ≡ vs → Noted s at n o o' i d vs
    noted-as {d} {vs} e f = record { places = M.places; names = sym f ∙ M.names; rise = M.rise; counted = sym e ∙ M.counted; wrote = M.wrote }

    -- as many are counted as are noted
    pub noted-length : c ≡ n + length us
    noted-length = M.counted ∙ ap (λ (m : ℕ). n + m) (sym (ap length M.names ∙ length-map M.places (use_at s)))

    pub noted-low : at ≤ i
    noted-low = between-low at i M.places M.rise

-- ---- a reading that starts earlier
module _ {X Y T : Type 0} {before : X → State} {after : T → X → State} {names : T → List Use} {Made : T → Type 0} {s : List ℕ} {i n : ℕ} {o o' : List ℕ} {end count : ℕ}
    (R : Reading before after names Made s i n o o' end count) (at : ℕ) (before' : Y → State) (g : Y → X) where
  pub reading-from : at ≤ i → ((y : Y) → from (before' y) s at ≡ from (before (g y)) s i) → Reading before' (λ t y. after t (g y)) names Made s at n o o' end count
  reading-from l to =
      record { high = R.high; few = R.few; tree = R.tree; noted = noted-wider R.noted at end l (omega arith); made = R.made; same = λ y. to y ∙ R.same (g y) }

-- ---- one that ends later, as another tree
module _ {X T U : Type 0} {before : X → State} {after : T → X → State} {names : T → List Use} {Made : T → Type 0} {s : List ℕ} {at n : ℕ} {o o' : List ℕ} {end count : ℕ}
    (R : Reading before after names Made s at n o o' end count) (after' : U → X → State) (names' : U → List Use) (Made' : U → Type 0) (end' count' : ℕ) where
  pub reading-to : end ≤ end' → end' ≤ length s → count' ≡ count → (u : U) → names' u ≡ names R.tree → Made' u
      → ((x : X) → from (after R.tree x) s end ≡ from (after' u x) s end') → Reading before after' names' Made' s at n o o' end' count'
  reading-to l h e u f m to =
      let a = R.few in
      record { high = h; few = omega arith; tree = u; noted = noted-as (noted-wider R.noted at end' (omega arith) l) (sym e) (sym f); made = m; same = λ x. R.same x ∙ to x }

-- ---- a parser that goes on
pub kept-same : {p : Parser} → Kept p p
kept-same = record { text = refl; uses = refl; predecessors = refl; uses-size = refl; predecessors-size = refl }

pub kept-then : {old mid new : Parser} → Kept old mid → Kept mid new → Kept old new
kept-then a b =
    record {
      text = b.text ∙ a.text;
      uses = b.uses ∙ a.uses;
      predecessors = b.predecessors ∙ a.predecessors;
      uses-size = b.uses-size ∙ a.uses-size;
      predecessors-size = b.predecessors-size ∙ a.predecessors-size;
    }

-- ---- what an answer says
module _ {X : Type 0} {before : X → State} {after : Particle Use → X → State} {at : ℕ} {old new : Parser} {r : Result Part ℕ} where
  pub part-read : ReadsPart before after at old new r → {a : Result Part ℕ} → r ≡ a → PartAs before after at old new a
  part-read R u = (subst (ReadsPart before after at old new) u R).says

-- ---- a particle and its indicator
indicated-uses : (o : Indicator) (p : Particle Use) → uses (indicated o p) ≡ uses p
indicated-uses once p = refl
indicated-uses optional p = refl
indicated-uses any p = refl
indicated-uses one_or_more p = refl

module _ {X : Type 0} {before : X → State} {after : Particle Use → X → State} {s : List ℕ} {at n k : ℕ} {o t : List ℕ} {p : Part} (mid : Parser)
    (R : Reading before after uses (λ a. Built k t mid.predecessors.now a p.ends) s at n o mid.uses.now p.at mid.count) (around : X → Around) where
  pub indicated-reading : {y : Part} {new : Parser} → mid.text.now ≡ s → PartIndicated p mid new y → ((x : X) → Ended s p.at (after R.tree x) R.tree (around x))
      → Reading before (λ a x. past a (around x).frames (around x).head) uses (λ a. Built k t new.predecessors.now a y.ends) s at n o new.uses.now y.at new.count
  indicated-reading {y} {new} e Q ended =
      let by = indicator_at s p.at in
      let I = subst (λ (l : List ℕ). Indicated l p.at y.at) e Q.by in
      let A = subst (λ (l : List ℕ). Repeated (indicator_at l p.at) p.ends mid.predecessors.now new.predecessors.now y.ends) e Q.repeated in
      subst (λ (l : List ℕ). Reading before (λ a x. past a (around x).frames (around x).head) uses (λ a. Built k t new.predecessors.now a y.ends) s at n o l y.at new.count) (sym Q.only.uses)
      (reading-to R (λ a x. past a (around x).frames (around x).head) uses (λ a. Built k t new.predecessors.now a y.ends) y.at new.count I.low I.high Q.only.count
      (indicated by R.tree) (indicated-uses by R.tree) (A.built k t R.tree R.made) (λ x. I.same (after R.tree x) R.tree (around x) (ended x)))
