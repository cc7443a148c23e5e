-- Refusals 5, 6 and 7 are listed exactly at the places where they apply to the declarations.
use Rattle.std.specs.Prelude.{Bool, true, false, cond, not, ◌⊎◌, ◌≡◌, refl, ℕ, suc, T, drop}
use mathlib.Core.List.Memᴰ.{append_cases}
use mathlib.Core.List.Memᴰ.{append_left}
use mathlib.Core.List.Memᴰ.{append_right}
use mathlib.Core.List.Memᴰ.{head as here}
use mathlib.Core.List.Memᴰ.{tail as there}
use mathlib.Core.List.{List, [], ◌∷◌, ◌++◌, map, Memᴰ as In}
use Rattle.std.proofs.Common.{inl, inr, ⊎_elim, sym, ap, subst, ◌∙◌}
use Rattle.schema_spec.specs.Conditions.{OverLimit, declaration, model_name, Twice, twice, Undeclared, undeclared}
use Rattle.schema_spec.specs.Declarations.{Use, Declaration}
use Rattle.schema_spec.specs.Reading.{uses_of, limit_places, twice_places, undeclared_places}
use Rattle.schema_spec.specs.Schemas.{declared_names}
use Rattle.text_laws.specs.Lists.{any-in, in-any, in-filter, filter-in, in-gather, gather-in, in_map, map-in, bytes-equal, bytes_same}
use Rattle.text_laws.specs.Tests.{not-intro, not-elim}
use Rattle.text_laws.specs.Texts.{split-first, split-later, drop-split, split-drop, in_split, split-in}
use Rattle.text_spec.specs.Limits.{max_declarations, max_model_names}
use Rattle.text_spec.specs.Lists.{any_of, filter_by, gather, same_bytes}
use Rattle.text_spec.specs.Texts.{SplitAt}

-- 5. the places of the names too many in a model
abbrev over_names : Declaration → List ℕ
over_names d = map (λ u. u.place) (drop max_model_names (uses_of d))

pub limit-found : (ds : List Declaration) (k : ℕ) → In k (limit_places ds) → OverLimit ds k
limit-found ds k i =
    ⊎_elim declarations models (append_cases (map (λ d. d.place) (drop max_declarations ds)) i)
  where
    declarations : In k (map (λ d. d.place) (drop max_declarations ds)) → OverLimit ds k
    declarations m =
        let x = map-in (λ (d : Declaration). d.place) (drop max_declarations ds) m in
        let r = drop-split max_declarations ds x.1 in
        subst (OverLimit ds) (ap (λ (d : Declaration). d.place) r.3 ∙ sym x.2) (declaration r.1 r.2)

    models : In k (gather over_names ds) → OverLimit ds k
    models m =
        let x = gather-in over_names ds m in
        let y = map-in (λ (u : Use). u.place) (drop max_model_names (uses_of x.0)) x.2 in
        let r = in_split ds x.1 in
        let q = drop-split max_model_names (uses_of r.1.here) (subst (λ (d : Declaration). In y.0 (drop max_model_names (uses_of d))) (sym r.2) y.1) in
        subst (OverLimit ds) (ap (λ (u : Use). u.place) q.3 ∙ sym y.2) (model_name r.1 q.1 q.2)

pub limit-listed : (ds : List Declaration) {k : ℕ} → OverLimit ds k → In k (limit_places ds)
limit-listed ds (declaration s l) =
    append_left (gather over_names ds) (in_map (λ (d : Declaration). d.place) (split-drop max_declarations s l))
limit-listed ds (model_name s u l) =
    append_right (map (λ d. d.place) (drop max_declarations ds))
    (in-gather over_names (split-in s) (in_map (λ (u : Use). u.place) (split-drop max_model_names u l)))

-- 6. a name is among those given, or that of a declaration among those given
abbrev Before : List (List ℕ) → List Declaration → List ℕ → Type 0
Before ns us n = In n ns ⊎ ((d : Declaration) × In d us × (d.name.name ≡ n))

before-further : {ns : List (List ℕ)} {us : List Declaration} {n : List ℕ} (e : Declaration) → Before ns (e ∷ us) n → Before (e.name.name ∷ ns) us n
before-further e (inl i) = inl (there i)
before-further e (inr (d, here m, q)) = inl (here (sym q ∙ ap (λ (c : Declaration). c.name.name) m))
before-further e (inr (d, there m, q)) = inr (d, m, q)

before_back : {ns : List (List ℕ)} {us : List Declaration} {n : List ℕ} (e : Declaration) → Before (e.name.name ∷ ns) us n → Before ns (e ∷ us) n
before_back e (inl (here m)) = inr (e, here refl, sym m)
before_back e (inl (there i)) = inl i
before_back e (inr (d, m, q)) = inr (d, there m, q)

twice-split : (ns : List (List ℕ)) (ds : List Declaration) {k : ℕ} → In k (twice_places ns ds)
    → (i : ℕ) × (s : SplitAt ds i) × (s.here.name.place ≡ k) × Before ns s.before s.here.name.name
twice-split ns [] {k} i = elim i [ ]
twice-split ns (x ∷ ds) {k} i = go (any_of (same_bytes x.name.name) ns) refl i (λ m. twice-split (x.name.name ∷ ns) ds m)
  where
    found : (i : ℕ) × (s : SplitAt ds i) × (s.here.name.place ≡ k) × Before (x.name.name ∷ ns) s.before s.here.name.name
        → (i : ℕ) × (s : SplitAt (x ∷ ds) i) × (s.here.name.place ≡ k) × Before ns s.before s.here.name.name
    found (j, s, e, c) = (suc j, split-later x s, e, before_back x c)

    go : (b : Bool) → any_of (same_bytes x.name.name) ns ≡ b
        → In k (cond b (x.name.place ∷ twice_places (x.name.name ∷ ns) ds) (twice_places (x.name.name ∷ ns) ds))
        → (In k (twice_places (x.name.name ∷ ns) ds) → (i : ℕ) × (s : SplitAt ds i) × (s.here.name.place ≡ k) × Before (x.name.name ∷ ns) s.before s.here.name.name)
        → (i : ℕ) × (s : SplitAt (x ∷ ds) i) × (s.here.name.place ≡ k) × Before ns s.before s.here.name.name
    go true e (here m) rest =
        let r = in-any (same_bytes x.name.name) ns (subst T (sym e) tt) in
        (0, split-first x ds, sym m, inl (subst (λ (n : List ℕ). In n ns) (sym (bytes-equal x.name.name r.0 r.2)) r.1))
    go true e (there m) rest = found (rest m)
    go false e m rest = found (rest m)

split-twice : (ns : List (List ℕ)) (us : List Declaration) (x : Declaration) (vs : List Declaration) → Before ns us x.name.name → In x.name.place (twice_places ns (us ++ (x ∷ vs)))
split-twice ns [] x vs (inl i) = go (any_of (same_bytes x.name.name) ns) (any-in (same_bytes x.name.name) i (bytes_same x.name.name))
  where
    go : (b : Bool) → T b → In x.name.place (cond b (x.name.place ∷ twice_places (x.name.name ∷ ns) vs) (twice_places (x.name.name ∷ ns) vs))
    go true t = here refl
    go false t = absurd t
split-twice ns [] x vs (inr c) = elim c.1 [ ]
split-twice ns (e ∷ us) x vs c = go (any_of (same_bytes e.name.name) ns) (split-twice (e.name.name ∷ ns) us x vs (before-further e c))
  where
    go : (b : Bool) → In x.name.place (twice_places (e.name.name ∷ ns) (us ++ (x ∷ vs)))
        → In x.name.place (cond b (e.name.place ∷ twice_places (e.name.name ∷ ns) (us ++ (x ∷ vs))) (twice_places (e.name.name ∷ ns) (us ++ (x ∷ vs))))
    go true i = there i
    go false i = i

pub twice_found : (ds : List Declaration) (k : ℕ) → In k (twice_places [] ds) → Twice ds k
twice_found ds k i =
    let r = twice-split [] ds i in
    of-before r.1 r.2 r.3
  where
    of-before : {j : ℕ} (s : SplitAt ds j) → s.here.name.place ≡ k → Before [] s.before s.here.name.name → Twice ds k
    of-before s e (inl m) = elim m [ ]
    of-before s e (inr (d, m, q)) = subst (Twice ds) e (twice s d m q)

pub twice-listed : (ds : List Declaration) {k : ℕ} → Twice ds k → In k (twice_places [] ds)
twice-listed ds (twice s d m q) =
    subst (λ (l : List Declaration). In s.here.name.place (twice_places [] l)) (sym s.joined) (split-twice [] s.before s.here s.after (inr (d, m, q)))

-- 7
abbrev is_undeclared : List Declaration → Use → Bool
is_undeclared ds u = not (any_of (same_bytes u.name) (declared_names ds))

pub undeclared-found : (ds : List Declaration) (k : ℕ) → In k (undeclared_places ds) → Undeclared ds k
undeclared-found ds k i =
    let x = map-in (λ (u : Use). u.place) (filter_by (is_undeclared ds) (gather uses_of ds)) i in
    let y = filter-in (is_undeclared ds) (gather uses_of ds) x.1 in
    let z = gather-in uses_of ds y.0 in
    subst (Undeclared ds) (sym x.2)
    (undeclared z.0 x.0 z.1 z.2
    (λ e m q.
    not-elim (any_of (same_bytes x.0.name) (declared_names ds)) y.1
    (any-in (same_bytes x.0.name) (in_map (λ (d : Declaration). d.name.name) m) (subst (λ (n : List ℕ). T (same_bytes x.0.name n)) (sym q) (bytes_same x.0.name)))))

pub undeclared-listed : (ds : List Declaration) {k : ℕ} → Undeclared ds k → In k (undeclared_places ds)
undeclared-listed ds (undeclared d u i j n) =
    in_map (λ (u : Use). u.place)
    (in-filter (is_undeclared ds) (in-gather uses_of i j)
    (not-intro (any_of (same_bytes u.name) (declared_names ds)) (λ t.
    let x = in-any (same_bytes u.name) (declared_names ds) t in
    let y = map-in (λ (d : Declaration). d.name.name) ds x.1 in
    n y.0 y.1 (sym (bytes-equal u.name x.0 x.2 ∙ y.2)))))
