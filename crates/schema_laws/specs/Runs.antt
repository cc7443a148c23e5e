-- A run of the schema machine that spells declarations ends after the last of them, with what its steps keep: the declared names are
-- names.
use Rattle.std.specs.Prelude.{Bool, true, false, cond, ◌&&◌, ◌⊎◌, ◌≡◌, refl, ℕ, suc, ◌<◌, T, eqb, ltb, length}
use mathlib.Core.List.Memᴰ.{head as here}
use mathlib.Core.List.Memᴰ.{tail as there}
use mathlib.Core.List.{List, [], ◌∷◌, ◌++◌, reverse, reverse_aux, reverse-append, Memᴰ as In}
use Rattle.std.proofs.Common.{inl, inr, ⊎_elim, sym, ap, subst, ◌∙◌, arith, ltb→lt}
use Rattle.std.proofs.lemmas.List.{length-reverse}
use Rattle.schema_laws.specs.Machine.{ends-between}
use Rattle.schema_spec.specs.Declarations.{Use, Declaration, element_keyword, empty_keyword, pcdata_keyword, Separator, unparted, by_bar, by_comma, optional, any, one_or_more, indicated}
use Rattle.schema_spec.specs.Machine.{Frame, fresh, holding, Head, State, dead, between, in_keyword, after_keyword, before_name, in_name, before_content, in_empty, after_open, in_pcdata, after_pcdata, expecting, in_use, closed, past, after_content, declared, closing, join, separated, following, indicating, beginning, longer, headed, matching, step, schema_machine, run, parse}
use Rattle.schema_spec.specs.Models.{Particle, named, Content, empty, pcdata, children}
use Rattle.text_laws.specs.Bytes.{one-byte-name, name-snoc}
use Rattle.text_laws.specs.Machines.{final, final-keeps, run-spells}
use Rattle.text_spec.specs.Bytes.{is_blank, starts_name, continues_name, is_name}
use Rattle.text_spec.specs.Limits.{max_name_bytes, max_groups}
use Rattle.text_spec.specs.Machines.{spells}

-- where a run ended that spelt these declarations, in a state with a property that steps keep
pub record Ended (P : State → Type 0) (ds : List Declaration) : Type 0 where
  pub last : Declaration
  pub before : List Declaration
  pub holds : P (between (last ∷ before))
  pub reversed : ds ≡ reverse (last ∷ before)

pub run-ended : (P : State → Type 0) → ((q : State) (k b : ℕ) → P q → P (step q k b)) → (q : State) (text : List ℕ) (k : ℕ) {ds : List Declaration} → P q → run q text k ≡ spells ds → Ended P ds
run-ended P keeps q text k p e =
    let r = ends-between (final schema_machine q text k) (run-spells schema_machine q text k e) in
    record { last = r.0; before = r.1; holds = subst P r.2 (final-keeps schema_machine P keeps q text k p); reversed = r.3 }

-- a property of a choice, from that of its branches
pub by-test : (P : State → Type 0) (b : Bool) (x y : State) → (T b → P x) → P y → P (cond b x y)
by-test P true x y h k = h tt
by-test P false x y h k = k

pub by-match : (P : State → Type 0) (w : List ℕ) (b : ℕ) (whole : State) (part : List ℕ → State) → P dead → P whole → ((v : List ℕ) → P (part v)) → P (matching w b whole part)
by-match P [] b whole part d h k = d
by-match P (c ∷ []) b whole part d h k = by-test P (eqb b c) whole dead (λ t. h) d
by-match P (c ∷ (x ∷ w)) b whole part d h k = by-test P (eqb b c) (part (x ∷ w)) dead (λ t. k (x ∷ w)) d

-- A property of the declarations that were read, which one more keeps if its name has 1 to 31 bytes: each state keeps it.
module _ (Q : List Declaration → Type 0) where
  abbrev KeptHead : Head → Type 0
  KeptHead h = T (is_name h.name.name) × Q h.opening.done

  abbrev KeptState : State → Type 0
  KeptState dead = Unit
  KeptState (between ds) = Q ds
  KeptState (in_keyword w o) = Q o.done
  KeptState (after_keyword o) = Q o.done
  KeptState (before_name o) = Q o.done
  KeptState (in_name j n o) = T (is_name n) × Q o.done
  KeptState (before_content h) = KeptHead h
  KeptState (in_empty w h) = KeptHead h
  KeptState (after_open h) = KeptHead h
  KeptState (in_pcdata w h) = KeptHead h
  KeptState (after_pcdata h) = KeptHead h
  KeptState (expecting f fs h) = KeptHead h
  KeptState (in_use j n f fs h) = KeptHead h
  KeptState (closed c fs h) = KeptHead h
  KeptState (past c fs h) = KeptHead h
  KeptState (after_content c h) = KeptHead h

module _ (Q : List Declaration → Type 0) (grows : (d : Declaration) (ds : List Declaration) → T (is_name d.name.name) → Q ds → Q (d ∷ ds)) where
  closing-kept : (c : Content Use) (h : Head) (b : ℕ) → KeptHead Q h → (KeptState Q) (closing c h b)
  closing-kept c h b g =
      by-test (KeptState Q) (is_blank b) (after_content c h) _ (λ t. g)
      (by-test (KeptState Q) (eqb b 0x3E) (between (declared c h ∷ h.opening.done)) dead (λ t. grows (declared c h) h.opening.done g.0 g.1) tt)

  separated-kept : (s : Separator) (f : Frame) (p : Particle Use) (fs : List Frame) (h : Head) → KeptHead Q h → (KeptState Q) (separated s f p fs h)
  separated-kept s fresh p fs h g = g
  separated-kept by_bar (holding by_bar q) p fs h g = g
  separated-kept by_comma (holding by_comma q) p fs h g = g
  separated-kept by_bar (holding by_comma q) p fs h g = tt
  separated-kept by_comma (holding by_bar q) p fs h g = tt
  separated-kept by_bar (holding unparted q) p fs h g = tt
  separated-kept by_comma (holding unparted q) p fs h g = tt
  separated-kept unparted (holding s q) p fs h g = tt

  following-kept : (p : Particle Use) (fs : List Frame) (h : Head) (b : ℕ) → KeptHead Q h → (KeptState Q) (following p fs h b)
  following-kept p [] h b g = closing-kept (children p) h b g
  following-kept p (f ∷ fs) h b g =
      by-test (KeptState Q) (is_blank b) (past p (f ∷ fs) h) _ (λ t. g)
      (by-test (KeptState Q) (eqb b 0x29) (closed (join f p) fs h) _ (λ t. g)
      (by-test (KeptState Q) (eqb b 0x7C) (separated by_bar f p fs h) _ (λ t. separated-kept by_bar f p fs h g)
      (by-test (KeptState Q) (eqb b 0x2C) (separated by_comma f p fs h) dead (λ t. separated-kept by_comma f p fs h g) tt)))

  indicating-kept : (p : Particle Use) (fs : List Frame) (h : Head) (b : ℕ) → KeptHead Q h → (KeptState Q) (indicating p fs h b)
  indicating-kept p fs h b g =
      by-test (KeptState Q) (eqb b 0x3F) (past (indicated optional p) fs h) _ (λ t. g)
      (by-test (KeptState Q) (eqb b 0x2A) (past (indicated any p) fs h) _ (λ t. g)
      (by-test (KeptState Q) (eqb b 0x2B) (past (indicated one_or_more p) fs h) (following p fs h b) (λ t. g) (following-kept p fs h b g)))

  beginning-kept : (f : Frame) (fs : List Frame) (h : Head) (k b : ℕ) → KeptHead Q h → (KeptState Q) (beginning f fs h k b)
  beginning-kept f fs h k b g =
      by-test (KeptState Q) (is_blank b) (expecting f fs h) _ (λ t. g)
      (by-test (KeptState Q) (starts_name b) (in_use k (b ∷ []) f fs h) _ (λ t. g)
      (by-test (KeptState Q) (eqb b 0x28 && ltb (suc (length fs)) max_groups) (expecting fresh (f ∷ fs) h) dead (λ t. g) tt))

  step_kept : (q : State) (k b : ℕ) → (KeptState Q) q → (KeptState Q) (step q k b)
  unfolding step
  step_kept dead k b g = tt
  step_kept (between ds) k b g =
      by-test (KeptState Q) (is_blank b) (between ds) _ (λ t. g) (by-match (KeptState Q) element_keyword b dead (λ w. in_keyword w (record { place = k; done = ds })) tt tt (λ v. g))
  step_kept (in_keyword w o) k b g = by-match (KeptState Q) w b (after_keyword o) (λ v. in_keyword v o) tt g (λ v. g)
  step_kept (after_keyword o) k b g = by-test (KeptState Q) (is_blank b) (before_name o) dead (λ t. g) tt
  step_kept (before_name o) k b g =
      by-test (KeptState Q) (is_blank b) (before_name o) _ (λ t. g) (by-test (KeptState Q) (starts_name b) (in_name k (b ∷ []) o) dead (λ t. (one-byte-name b t, g)) tt)
  step_kept (in_name j n o) k b g =
      by-test (KeptState Q) (continues_name b) (longer n b (λ m. in_name j m o)) _
      (λ t. by-test (KeptState Q) (ltb (length n) max_name_bytes) (in_name j (n ++ (b ∷ [])) o) dead (λ u. (name-snoc n b g.0 t (ltb→lt (length n) max_name_bytes u), g.1)) tt)
      (by-test (KeptState Q) (is_blank b) (before_content (headed j n o)) dead (λ t. g) tt)
  step_kept (before_content h) k b g =
      by-test (KeptState Q) (is_blank b) (before_content h) _ (λ t. g)
      (by-test (KeptState Q) (eqb b 0x28) (after_open h) _ (λ t. g) (by-match (KeptState Q) empty_keyword b dead (λ w. in_empty w h) tt tt (λ v. g)))
  step_kept (in_empty w h) k b g = by-match (KeptState Q) w b (after_content empty h) (λ v. in_empty v h) tt g (λ v. g)
  step_kept (after_open h) k b g =
      by-test (KeptState Q) (is_blank b) (after_open h) _ (λ t. g)
      (by-test (KeptState Q) (eqb b 0x23) _ _ (λ t. by-match (KeptState Q) pcdata_keyword b dead (λ w. in_pcdata w h) tt tt (λ v. g)) (beginning-kept fresh [] h k b g))
  step_kept (in_pcdata w h) k b g = by-match (KeptState Q) w b (after_pcdata h) (λ v. in_pcdata v h) tt g (λ v. g)
  step_kept (after_pcdata h) k b g =
      by-test (KeptState Q) (is_blank b) (after_pcdata h) _ (λ t. g) (by-test (KeptState Q) (eqb b 0x29) (after_content pcdata h) dead (λ t. g) tt)
  step_kept (expecting f fs h) k b g = beginning-kept f fs h k b g
  step_kept (in_use j n f fs h) k b g =
      by-test (KeptState Q) (continues_name b) (longer n b (λ m. in_use j m f fs h)) _
      (λ t. by-test (KeptState Q) (ltb (length n) max_name_bytes) (in_use j (n ++ (b ∷ [])) f fs h) dead (λ u. g) tt)
      (indicating-kept (named (record { place = j; name = n })) (f ∷ fs) h b g)
  step_kept (closed c fs h) k b g = indicating-kept c fs h b g
  step_kept (past c fs h) k b g = following-kept c fs h b g
  step_kept (after_content c h) k b g = closing-kept c h b g

  -- so it holds of the declarations that a run spells
  run-kept : (done ds : List Declaration) (text : List ℕ) (k : ℕ) → Q done → run (between done) text k ≡ spells ds → Ended (KeptState Q) ds
  run-kept done ds text k q e = run-ended (KeptState Q) step_kept (between done) text k q e

reverse_aux-in : {A : Type 0} (xs r : List A) {x : A} → In x (reverse_aux xs r) → In x xs ⊎ In x r
reverse_aux-in [] r i = inr i
reverse_aux-in (y ∷ xs) r {x} i = pick (reverse_aux-in xs (y ∷ r) i)
  where
    pick : In x xs ⊎ In x (y ∷ r) → In x (y ∷ xs) ⊎ In x r
    pick (inl j) = inl (there j)
    pick (inr (here e)) = inl (here e)
    pick (inr (there j)) = inr j

pub reverse-in : {A : Type 0} (xs : List A) {x : A} → In x (reverse xs) → In x xs
reverse-in xs i = ⊎_elim (λ j. j) (λ j. elim j [ ]) (reverse_aux-in xs [] i)

-- each declared name is a name of 1 to 31 bytes
abbrev pub Named : List Declaration → Type 0
Named ds = (d : Declaration) → In d ds → T (is_name d.name.name)

-- the declarations that a text spells are some, with names of 1 to 31 bytes
pub spelt-named : (text : List ℕ) (ds : List Declaration) → parse text ≡ spells ds → (0 < length ds) × Named ds
unfolding parse
spelt-named text ds e =
    let r = run-kept Named one_more [] ds text 0 (λ d i. elim i [ ]) e in
    let l : length ds ≡ length (r.last ∷ r.before) = ap length r.reversed ∙ length-reverse (r.last ∷ r.before) in
    (omega arith, λ d i. r.holds d (reverse-in (r.last ∷ r.before) (subst (λ (x : List Declaration). In d x) r.reversed i)))
  where
    one_more : (d : Declaration) (es : List Declaration) → T (is_name d.name.name) → Named es → Named (d ∷ es)
    one_more d es t h x (here q) = subst (λ (y : Declaration). T (is_name y.name.name)) (sym q) t
    one_more d es t h x (there i) = h x i

-- what was read before is the beginning of what a text spells
pub run-extends : (done ds : List Declaration) (text : List ℕ) (k : ℕ) → run (between done) text k ≡ spells ds → (more : List Declaration) × (ds ≡ reverse done ++ more)
run-extends done ds text k e =
    let r = run-kept (λ es. (more : List Declaration) × (es ≡ more ++ done)) (λ d es t q. (d ∷ q.0, ap (λ (l : List Declaration). d ∷ l) q.1)) done ds text k ([], refl) e in
    (reverse r.holds.0, r.reversed ∙ ap reverse r.holds.1 ∙ reverse-append r.holds.0 done)
