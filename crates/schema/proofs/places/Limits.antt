-- Laws of reading all declarations: the places that pass a limit, and the places of names that the lent cells hold.
use mathlib.Core.Bool.{Bool, true, false, cond}
use mathlib.Core.List.Memᴰ
use mathlib.Core.List.Memᴰ.{head as here}
use mathlib.Core.List.Memᴰ.{tail as there}
use mathlib.Core.List.{List, [], ◌∷◌, ◌++◌, map, map-append, reverse, reverse-cons, append-nil, append_assoc, Memᴰ as In}
use mathlib.Core.Logic.{◌⊎◌, inl, inr}
use mathlib.Core.Path.{◌≡◌, refl, sym, ap, ap₂, subst, ◌∙◌}
use Rattle.std.specs.Prelude.{Option, Some, None, Result, Ok, Err}
use Prim.Native.Nat.{ℕ, zero, suc, ◌+◌, ◌*◌, ◌-◌, ◌≤◌, ◌<◌}
use native.Mathlib.Numerals.{add-one}
use native.Mathlib.Omega.{arith}
use borrow.Author.Tests.{ltb-true, ltb-false, leb-true, leb-false}
use lib.Dec.{leb, ltb}
use lib.ListN.{length, drop, take, get_or, set, length-append, length-set, length-reverse, drop_of_length-le}
use lib.Seq.{sets, sets-eq, length-sets, take-suc-set, take_at, drop_at, drop-cons, drop-nil, length-take-le, get_or-set_same, get_or-set_other, drop-set-lt, drop-drop}
use Rattle.std.specs.Option.{option_or}
use Rattle.schema_laws.specs.Lists.{in-nothing as none_in}
use Rattle.schema_spec.specs.Declarations.{Use, Declaration}
use Rattle.schema_spec.specs.Machine.{between, schema_machine, at_end, from, parse}
use Rattle.schema_spec.specs.Reading.{limit_places, uses_of}
use Rattle.schema.specs.declaration_limits.Limits.{over_limit}
use Rattle.schema.specs.declarations.DeclarationLaws.{between-skipped}
use Rattle.schema.specs.declarations.Declarations.{DeclarationRead, Declared}
use Rattle.schema.specs.declared.declarations.DeclarationEnd.{DeclarationEnd}
use Rattle.schema.specs.particles.ReadingLaws.{between-from, between-to, between_join}
use Rattle.schema.specs.particles.Readings.{use_at, Between}
use Rattle.schema.specs.places.PlaceLaws.{places-back, between-least, head-least}
use Rattle.schema.specs.places.Whole.{WithinLimits, Limits, UpTo, AllSpelt}
use Rattle.text.specs.scanning.Outcomes.{Skipped}
use Rattle.text_laws.specs.Lists.{memberless}
use Rattle.text_laws.specs.Scans.{at-end}
use Rattle.text_spec.specs.Limits.{max_declarations, max_model_names}
use Rattle.text_spec.specs.Lists.{gather}
use Rattle.text_spec.specs.Machines.{spells, departs}

-- ---- lists
module _ {A : Type 0} where
  module _ (f : A → ℕ) where
    drop-left : (k : ℕ) (xs ys : List A) {x : ℕ} → In x (map f (drop k xs)) → In x (map f (drop k (xs ++ ys)))
    drop-left zero xs ys {x} i = subst (λ (l : List ℕ). In x l) (sym (map-append f xs ys)) (Memᴰ.append_left (map f ys) i)
    drop-left (suc k) [] ys i = absurd (none_in refl i)
    drop-left (suc k) (z ∷ xs) ys i = drop-left k xs ys i

    drop-last : (k : ℕ) (xs : List A) (e : A) {x : ℕ} → In x (map f (drop k (xs ++ (e ∷ [])))) → In x (map f (drop k xs)) ⊎ ((k ≤ length xs) × (x ≡ f e))
    drop-last zero [] e (here q) = inr (omega arith, q)
    drop-last zero [] e (there i) = absurd (none_in refl i)
    drop-last zero (z ∷ xs) e (here q) = inl (here q)
    drop-last zero (z ∷ xs) e {x} (there i) = later (drop-last zero xs e i)
      where
        later : In x (map f xs) ⊎ ((0 ≤ length xs) × (x ≡ f e)) → In x (f z ∷ map f xs) ⊎ ((0 ≤ suc (length xs)) × (x ≡ f e))
        later (inl j) = inl (there j)
        later (inr q) = inr (omega arith, q.1)
    drop-last (suc k) [] e i = absurd (none_in (ap (map f) (drop-nil k)) i)
    drop-last (suc k) (z ∷ xs) e {x} i = later (drop-last k xs e i)
      where
        later : In x (map f (drop k xs)) ⊎ ((k ≤ length xs) × (x ≡ f e)) → In x (map f (drop k xs)) ⊎ ((suc k ≤ suc (length xs)) × (x ≡ f e))
        later (inl j) = inl j
        later (inr q) = inr (let z = q.0 in omega arith, q.1)

module _ {A B : Type 0} (f : A → List B) where
  gather-last : (xs : List A) (e : A) → gather f (xs ++ (e ∷ [])) ≡ gather f xs ++ f e
  gather-last [] e = append-nil (f e)
  gather-last (x ∷ xs) e = ap (λ (l : List B). f x ++ l) (gather-last xs e) ∙ sym (append_assoc (f x) (gather f xs) (f e))

drop-map : {A B : Type 0} (f : A → B) (k : ℕ) (xs : List A) → drop k (map f xs) ≡ map f (drop k xs)
drop-map f zero xs = refl
drop-map f (suc k) [] = refl
drop-map f (suc k) (x ∷ xs) = drop-map f k xs

-- ---- places in rising order
between-drop : (low high k : ℕ) (ps : List ℕ) → Between low high ps → Between low high (drop k ps)
between-drop low high zero ps b = b
between-drop low high (suc k) [] b = b
between-drop low high (suc k) (p ∷ ps) b = let y = b.0 in between-drop low high k ps (between-from (suc p) low high ps (omega arith) b.1)

-- ---- one more declaration
abbrev extra : Declaration → List ℕ
extra e = map (λ u. u.place) (drop max_model_names (uses_of e))

module _ (ds : List Declaration) (e : Declaration) {x : ℕ} where
  limit-left : In x (limit_places ds) → In x (limit_places (ds ++ (e ∷ [])))
  limit-left i = go (Memᴰ.append_cases (map (λ d. d.place) (drop max_declarations ds)) i)
    where
      go : In x (map (λ d. d.place) (drop max_declarations ds)) ⊎ In x (gather extra ds) → In x (limit_places (ds ++ (e ∷ [])))
      go (inl j) = Memᴰ.append_left (gather extra (ds ++ (e ∷ []))) (drop-left (λ d. d.place) max_declarations ds (e ∷ []) j)
      go (inr j) =
          Memᴰ.append_right (map (λ d. d.place) (drop max_declarations (ds ++ (e ∷ []))))
          (subst (λ (l : List ℕ). In x l) (sym (gather-last extra ds e)) (Memᴰ.append_left (extra e) j))

  limit-extra : In x (extra e) → In x (limit_places (ds ++ (e ∷ [])))
  limit-extra j =
      Memᴰ.append_right (map (λ d. d.place) (drop max_declarations (ds ++ (e ∷ []))))
      (subst (λ (l : List ℕ). In x l) (sym (gather-last extra ds e)) (Memᴰ.append_right (gather extra ds) j))

  limit-cases : In x (limit_places (ds ++ (e ∷ []))) → In x (limit_places ds) ⊎ (((max_declarations ≤ length ds) × (x ≡ e.place)) ⊎ In x (extra e))
  limit-cases i = go (Memᴰ.append_cases (map (λ d. d.place) (drop max_declarations (ds ++ (e ∷ [])))) i)
    where
      first : In x (map (λ d. d.place) (drop max_declarations ds)) ⊎ ((max_declarations ≤ length ds) × (x ≡ e.place)) → In x (limit_places ds) ⊎ (((max_declarations ≤ length ds) × (x ≡ e.place)) ⊎ In x (extra e))
      first (inl j) = inl (Memᴰ.append_left (gather extra ds) j)
      first (inr q) = inr (inl q)

      second : In x (gather extra ds) ⊎ In x (extra e) → In x (limit_places ds) ⊎ (((max_declarations ≤ length ds) × (x ≡ e.place)) ⊎ In x (extra e))
      second (inl j) = inl (Memᴰ.append_right (map (λ d. d.place) (drop max_declarations ds)) j)
      second (inr j) = inr (inr j)

      go : In x (map (λ d. d.place) (drop max_declarations (ds ++ (e ∷ [])))) ⊎ In x (gather extra (ds ++ (e ∷ []))) → In x (limit_places ds) ⊎ (((max_declarations ≤ length ds) × (x ≡ e.place)) ⊎ In x (extra e))
      go (inl j) = first (drop-last (λ d. d.place) max_declarations ds e j)
      go (inr j) = second (Memᴰ.append_cases (gather extra ds) (subst (λ (l : List ℕ). In x l) (gather-last extra ds e) j))

limit-place : (ds : List Declaration) (e : Declaration) → length ds ≡ max_declarations → In e.place (limit_places (ds ++ (e ∷ [])))
limit-place ds e h =
    Memᴰ.append_left (gather extra (ds ++ (e ∷ [])))
    (subst (λ (l : List Declaration). In e.place (map (λ d. d.place) l)) (sym (drop_at ds (e ∷ []) max_declarations h)) (here refl))

-- ---- what the cells hold
sets-front : (l vs : List ℕ) (n : ℕ) → n + length vs ≤ length l → (take n l ++ vs) ++ drop (n + length vs) l ≡ sets l n vs
sets-front l vs n h = sym (sets-eq vs l n h)

front_length : (l vs : List ℕ) (n : ℕ) → n + length vs ≤ length l → length (take n l ++ vs) ≡ n + length vs
front_length l vs n h = length-append (take n l) vs ∙ ap (λ (k : ℕ). k + length vs) (length-take-le n l (omega arith))

take-sets : (l vs : List ℕ) (n : ℕ) → n + length vs ≤ length l → take (n + length vs) (sets l n vs) ≡ take n l ++ vs
take-sets l vs n h = ap (take (n + length vs)) (sym (sets-front l vs n h)) ∙ take_at (take n l ++ vs) (drop (n + length vs) l) (n + length vs) (front_length l vs n h)

-- stores from n on leave what is before, and each is seen in its place
get_d-before : (l vs : List ℕ) (n k : ℕ) → k < n → get_or (sets l n vs) k 0 ≡ get_or l k 0
get_d-before l [] n k h = refl
get_d-before l (v ∷ vs) n k h = get_d-before (set l n v) vs (suc n) k (omega arith) ∙ get_or-set_other l n k v 0 (λ e. absurd (omega arith))

get_d_sets : (l vs : List ℕ) (n k : ℕ) → k < length vs → n + k < length l → get_or (sets l n vs) (n + k) 0 ≡ get_or vs k 0
get_d_sets l [] n k h g = absurd (omega arith)
get_d_sets l (v ∷ vs) n zero h g =
    let e : n + 0 ≡ n = omega arith in
    ap (λ (j : ℕ). get_or (sets (set l n v) (suc n) vs) j 0) e ∙ get_d-before (set l n v) vs (suc n) n (omega arith) ∙ get_or-set_same l n v 0 (omega arith)
get_d_sets l (v ∷ vs) n (suc k) h g =
    let e : n + suc k ≡ suc n + k = omega arith in
    let w = length-set l n v in
    ap (λ (j : ℕ). get_or (sets (set l n v) (suc n) vs) j 0) e ∙ get_d_sets (set l n v) vs (suc n) k (omega arith) (omega arith)

-- ---- the limits after one more declaration
module _ {s : List ℕ} (ds : List Declaration) {d n i : ℕ} (names : List ℕ) {uses uses' before after : List ℕ} (count : length ds ≡ d) (room : length names ≡ max_declarations) (room-uses : length uses ≡ max_declarations * max_model_names + 1) (l : i < length s) {p : DeclarationEnd} (R : DeclarationRead s i n uses uses' before after p) {j : ℕ} (far : p.at ≤ j) where
  abbrev pub declared-now : Declaration
  declared-now = record { place = i; name = use_at s p.name; content = R.content }

  extra-places : extra declared-now ≡ drop max_model_names R.noted.places
  extra-places =
      ap (λ (us : List Use). map (λ u. u.place) (drop max_model_names us)) R.noted.names
      ∙ ap (map (λ u. u.place)) (drop-map (use_at s) max_model_names R.noted.places) ∙ places-back s (drop max_model_names R.noted.places)

  extra-rise : Between i p.at (extra declared-now)
  extra-rise = subst (λ (ps : List ℕ). Between i p.at ps) (sym extra-places) (between-drop i p.at max_model_names R.noted.places R.noted.rise)

  extra-low : {x : ℕ} → In x (extra declared-now) → i ≤ x
  extra-low h = (between-least i p.at (extra declared-now) extra-rise h).0

  -- once a limit is passed, what follows passes none earlier
  still-passed : {over : ℕ} → Limits s ds d n (Some over) i names uses → (d' n' : ℕ) (names' uses'' : List ℕ) → Limits s (ds ++ (declared-now ∷ [])) d' n' (Some over) j names' uses''
  still-passed {over} L d' n' names' uses'' =
      let q = R.low in
      let r = R.named in
      let b = L.1 in
      (L.0, omega arith, limit-left ds declared-now L.2, λ x h. go x (limit-cases ds declared-now h))
    where
      go : (x : ℕ) → In x (limit_places ds) ⊎ (((max_declarations ≤ length ds) × (x ≡ i)) ⊎ In x (extra declared-now)) → over ≤ x
      go x (inl h) = L.3 x h
      go x (inr (inl q)) = let z = q.1 in let b = L.1 in omega arith
      go x (inr (inr h)) = let z = extra-low h in let b = L.1 in omega arith

  module _ (kept : WithinLimits s ds d n i names uses) where
    -- the 33rd declaration
    declaration-passes : max_declarations ≤ d → (d' n' : ℕ) (names' uses'' : List ℕ) → Limits s (ds ++ (declared-now ∷ [])) d' n' (Some i) j names' uses''
    declaration-passes h d' n' names' uses'' =
        let q = R.low in
        let r = R.named in
        let t = kept.some in
        (l, omega arith, limit-place ds declared-now (omega arith), λ x m. go x (limit-cases ds declared-now m))
      where
        go : (x : ℕ) → In x (limit_places ds) ⊎ (((max_declarations ≤ length ds) × (x ≡ i)) ⊎ In x (extra declared-now)) → i ≤ x
        go x (inl h) = absurd (none_in kept.free h)
        go x (inr (inl q)) = let z = q.1 in omega arith
        go x (inr (inr h)) = extra-low h

    module _ (small : d < max_declarations) where
      -- the 65th name
      name-passes : max_model_names < p.n - n → (d' n' : ℕ) (names' uses'' : List ℕ) → Limits s (ds ++ (declared-now ∷ [])) d' n' (Some (get_or uses' (n + max_model_names) 0)) j names' uses''
      name-passes h d' n' names' uses'' = subst (λ (k : Option ℕ). Limits s (ds ++ (declared-now ∷ [])) d' n' k j names' uses'') (sym (ap Some at-cell)) holds
        where
          ps : List ℕ
          ps = R.noted.places

          many : max_model_names < length ps
          many = let z = R.noted.counted in omega arith

          x : ℕ
          x = get_or ps max_model_names 0

          at-cell : get_or uses' (n + max_model_names) 0 ≡ x
          at-cell = let z = kept.small in ap (λ (c : List ℕ). get_or c (n + max_model_names) 0) R.noted.wrote ∙ get_d_sets uses ps n max_model_names many (omega arith)

          parts : extra declared-now ≡ x ∷ drop (suc max_model_names) ps
          parts = extra-places ∙ drop-cons ps max_model_names 0 many

          first : In x (extra declared-now)
          first = subst (λ (l : List ℕ). In x l) (sym parts) (here refl)

          rise : Between i p.at (x ∷ drop (suc max_model_names) ps)
          rise = subst (λ (l : List ℕ). Between i p.at l) parts extra-rise

          go : (y : ℕ) → In y (limit_places ds) ⊎ (((max_declarations ≤ length ds) × (y ≡ i)) ⊎ In y (extra declared-now)) → x ≤ y
          go y (inl h) = absurd (none_in kept.free h)
          go y (inr (inl q)) = let z = q.0 in absurd (omega arith)
          go y (inr (inr h)) = head-least i p.at x (drop (suc max_model_names) ps) rise (subst (λ (l : List ℕ). In y l) parts h)

          holds : Limits s (ds ++ (declared-now ∷ [])) d' n' (Some x) j names' uses''
          holds =
              let b = between-least i p.at (extra declared-now) extra-rise first in
              let c = R.high in
              (omega (arith, b.1), omega (arith, b.1), limit-extra ds declared-now first, λ y m. go y (limit-cases ds declared-now m))

      -- neither
      still-within : p.n - n ≤ max_model_names → {names' : List ℕ} → names' ≡ set names d p.name → WithinLimits s (ds ++ (declared-now ∷ [])) (d + 1) p.n j names' uses'
      still-within h {names'} w =
          record {
            free = memberless (limit_places (ds ++ (declared-now ∷ []))) (λ x m. none x (limit-cases ds declared-now m));
            some = omega arith;
            small = let z = kept.small in omega arith;
            declared-at =
                map-append (λ e. e.name) ds (declared-now ∷ []) ∙ ap (λ (us : List Use). us ++ (use_at s p.name ∷ [])) kept.declared-at
                ∙ sym (map-append (use_at s) (take d names) (p.name ∷ [])) ∙ ap (map (use_at s)) (sym names-now);
            used-at =
                gather-last uses_of ds declared-now ∙ ap₂ (λ (us vs : List Use). us ++ vs) kept.used-at R.noted.names
                ∙ sym (map-append (use_at s) (take n uses) ps) ∙ ap (map (use_at s)) (sym uses-now);
            declared-rise = subst (λ (l : List ℕ). Between 0 j l) (sym names-now) (between_join 0 i j (take d names) (p.name ∷ []) kept.declared-rise (R.low, let z = R.named in omega arith));
            used-rise = subst (λ (l : List ℕ). Between 0 j l) (sym uses-now) (between_join 0 i j (take n uses) ps kept.used-rise (between-to i p.at j ps far R.noted.rise));
          }
        where
          ps : List ℕ
          ps = R.noted.places

          few : length ps ≤ max_model_names
          few = let z = R.noted.counted in omega arith

          none : (x : ℕ) → In x (limit_places ds) ⊎ (((max_declarations ≤ length ds) × (x ≡ i)) ⊎ In x (extra declared-now)) → ⊥
          none x (inl h) = none_in kept.free h
          none x (inr (inl q)) = let z = q.0 in omega arith
          none x (inr (inr h)) = none_in (extra-places ∙ drop_of_length-le ps few) h

          names-now : take (d + 1) names' ≡ take d names ++ (p.name ∷ [])
          names-now = ap₂ take (add-one d) w ∙ take-suc-set names d p.name (omega arith)

          uses-now : take p.n uses' ≡ take n uses ++ ps
          uses-now = let z = kept.small in ap₂ take R.noted.counted R.noted.wrote ∙ take-sets uses ps n (omega arith)

  pub limits-next : (over : Option ℕ) {names' : List ℕ} → names' ≡ set names d p.name
      → Limits s ds d n over i names uses → Limits s (ds ++ (declared-now ∷ [])) (d + 1) p.n (option_or over (over_limit d i n p.n uses')) j names' uses'
  limits-next (Some over) {names'} w L = still-passed L (d + 1) p.n names' uses'
  limits-next None {names'} w kept = go (leb max_declarations d) refl (ltb max_model_names (p.n - n)) refl
    where
      go : (a : Bool) → leb max_declarations d ≡ a → (b : Bool) → ltb max_model_names (p.n - n) ≡ b
          → Limits s (ds ++ (declared-now ∷ [])) (d + 1) p.n (cond a (Some i) (cond b (Some (get_or uses' (n + max_model_names) 0)) None)) j names' uses'
      go true f b g = declaration-passes kept (leb-true max_declarations d f) (d + 1) p.n names' uses'
      go false f true g = name-passes kept (leb-false max_declarations d f) (ltb-true max_model_names (p.n - n) g) (d + 1) p.n names' uses'
      go false f false g = still-within kept (leb-false max_declarations d f) (ltb-false max_model_names (p.n - n) g) w

-- ---- the loop
pub all_start : {s names uses : List ℕ} {i : ℕ} → Skipped s 0 i → length names ≡ max_declarations → length uses ≡ max_declarations * max_model_names + 1 → UpTo s i 0 0 None names names uses
all_start K a b =
    record {
      done = [];
      same = between-skipped K [];
      high = K.high;
      no-blank = K.stop;
      count = refl;
      few = omega arith;
      few-uses = omega arith;
      room = a;
      room-uses = b;
      rest = refl;
      limits = record { free = refl; some = omega arith; small = omega arith; declared-at = refl; used-at = refl; declared-rise = omega arith; used-rise = omega arith };
    }

module _ {s : List ℕ} {i d n : ℕ} {over : Option ℕ} {start names uses : List ℕ} (U : UpTo s i d n over start names uses) where
  parsed : parse s ≡ from (between U.done) s i
  unfolding parse
  parsed = U.same

  pub all_none : length s ≤ i → d ≡ 0 → parse s ≡ departs i
  all_none l e = parsed ∙ at-end schema_machine s i (between U.done) l ∙ go U.done (U.count ∙ e)
    where
      go : (ds : List Declaration) → length ds ≡ 0 → at_end (between ds) i ≡ departs i
      go [] h = refl
      go (x ∷ ds) h = absurd (omega arith)

  pub all-spelt : length s ≤ i → (d ≡ 0 → ⊥) → AllSpelt s (record { d = d; n = n; over = over }) start names uses
  all-spelt l e =
      let h = U.high in
      let g : i ≡ length s = omega arith in
      record {
        declarations = reverse U.done;
        spelt = parsed ∙ at-end schema_machine s i (between U.done) l ∙ go U.done (λ z. e (sym U.count ∙ z));
        count = length-reverse U.done ∙ U.count;
        room = U.room;
        room-uses = U.room-uses;
        rest = U.rest;
        limits = subst (λ (k : ℕ). Limits s (reverse U.done) d n over k names uses) g U.limits;
      }
    where
      go : (ds : List Declaration) → (length ds ≡ 0 → ⊥) → at_end (between ds) i ≡ spells (reverse ds)
      go [] h = absurd (h refl)
      go (x ∷ ds) h = refl

  module _ (l : i < length s) {uses' before after : List ℕ} {r : Result DeclarationEnd ℕ} (D : Declared s i n uses uses' before after r) where
    pub all-fail : {j : ℕ} → r ≡ Err j → parse s ≡ departs j
    all-fail u = parsed ∙ (subst (Declared s i n uses uses' before after) u D).says U.done

    module _ {p : DeclarationEnd} (u : r ≡ Ok p) where
      read : DeclarationRead s i n uses uses' before after p
      read = (subst (Declared s i n uses uses' before after) u D).says

      pub all_known : (n ≤ p.n) × (p.at ≤ length s)
      all_known = (let z = read.noted.counted in omega arith, read.high)

      pub all-next : {over' : Option ℕ} {j : ℕ} {names' : List ℕ} → names' ≡ set names d p.name → over' ≡ option_or over (over_limit d i n p.n uses') → Skipped s p.at j
          → (i < j) × UpTo s j (d + 1) p.n over' start names' uses'
      all-next {over'} {j} {names'} w v K =
          let a = K.low in
          let b = read.low in
          let c = read.named in
          let e = U.few in
          let f = read.few in (
            omega arith,
            record {
              done = new ∷ U.done;
              same = U.same ∙ read.same U.done ∙ between-skipped K (new ∷ U.done);
              high = K.high;
              no-blank = K.stop;
              count = ap suc U.count ∙ sym (add-one d);
              few = omega arith;
              few-uses = omega arith;
              room = ap length w ∙ length-set names d p.name ∙ U.room;
              room-uses = ap length read.noted.wrote ∙ length-sets uses n read.noted.places ∙ U.room-uses;
              rest = rest-next;
              limits =
                  subst (λ (k : Option ℕ). Limits s (reverse (new ∷ U.done)) (d + 1) p.n k j names' uses') (sym v)
                  (subst (λ (ds : List Declaration). Limits s ds (d + 1) p.n (option_or over (over_limit d i n p.n uses')) j names' uses') (sym (reverse-cons new U.done))
                  (limits-next (reverse U.done) names (length-reverse U.done ∙ U.count) U.room U.room-uses l read a over w U.limits));
            },
          )
        where
          new : Declaration
          new = record { place = i; name = use_at s p.name; content = read.content }

          rest-next : drop (d + 1) names' ≡ drop (d + 1) start
          rest-next =
              ap (drop (d + 1)) w ∙ drop-set-lt (d + 1) names d p.name (omega arith)
              ∙ sym (drop-drop 1 d names) ∙ ap (drop 1) U.rest ∙ drop-drop 1 d start
