-- What a schema text spells but for places: the machine never looks at a place, so it can be run without them.
use Rattle.std.specs.Prelude.{Bool, true, false, cond, ◌&&◌, List, [], ◌∷◌, map, reverse, ◌≡◌, refl, ℕ, suc, eqb, ltb, length}
use Rattle.std.proofs.Math.Option.{some}
use Rattle.std.proofs.Common.{sym, ap, ◌∙◌}
use Rattle.std.proofs.lemmas.List.{length-map}
use Rattle.schema_laws.specs.Lists.{map-reverse}
use Rattle.schema_laws.specs.Machine.{schema-dead, ends-between}
use Rattle.schema_spec.specs.Declarations.{Use, Declaration, element_keyword, empty_keyword, pcdata_keyword, Separator, unparted, by_bar, by_comma}
use Rattle.schema_spec.specs.Machine.{Frame, fresh, holding, Opening, Head, State, dead, between, in_keyword, after_keyword, before_name, in_name, before_content, in_empty, after_open, in_pcdata, after_pcdata, expecting, in_use, closed, past, after_content, closing, join, separated, following, indicating, beginning, matching, step, ends, schema_machine, run}
use Rattle.schema_spec.specs.Models.{Particle, named, Content, children, rename_in, rename_content}
use Rattle.text_laws.specs.Machines.{final, run-spells, final-spells}
use Rattle.text_laws.specs.Tests.{never}
use Rattle.text_spec.specs.Bytes.{is_blank, starts_name, continues_name}
use Rattle.text_spec.specs.Limits.{max_name_bytes, max_groups}
use Rattle.text_spec.specs.Machines.{spells}

-- bare: with 0 for each place
abbrev pub bare_use : Use → Use
bare_use u = record { place = 0; name = u.name }

abbrev pub bare_declaration : Declaration → Declaration
bare_declaration d = record { place = 0; name = bare_use d.name; content = rename_content bare_use d.content }

abbrev pub bare_all : List Declaration → List Declaration
bare_all ds = map bare_declaration ds

abbrev bare_frame : Frame → Frame
bare_frame fresh = fresh
bare_frame (holding s p) = holding s (rename_in bare_use p)

abbrev bare_opening : Opening → Opening
bare_opening o = record { place = 0; done = bare_all o.done }

abbrev bare_head : Head → Head
bare_head h = record { opening = bare_opening h.opening; name = bare_use h.name }

abbrev pub bare : State → State
bare dead = dead
bare (between ds) = between (bare_all ds)
bare (in_keyword w o) = in_keyword w (bare_opening o)
bare (after_keyword o) = after_keyword (bare_opening o)
bare (before_name o) = before_name (bare_opening o)
bare (in_name k n o) = in_name 0 n (bare_opening o)
bare (before_content h) = before_content (bare_head h)
bare (in_empty w h) = in_empty w (bare_head h)
bare (after_open h) = after_open (bare_head h)
bare (in_pcdata w h) = in_pcdata w (bare_head h)
bare (after_pcdata h) = after_pcdata (bare_head h)
bare (expecting f fs h) = expecting (bare_frame f) (map bare_frame fs) (bare_head h)
bare (in_use k n f fs h) = in_use 0 n (bare_frame f) (map bare_frame fs) (bare_head h)
bare (closed p fs h) = closed (rename_in bare_use p) (map bare_frame fs) (bare_head h)
bare (past p fs h) = past (rename_in bare_use p) (map bare_frame fs) (bare_head h)
bare (after_content c h) = after_content (rename_content bare_use c) (bare_head h)

abbrev pub is_between : State → Bool
is_between dead = false
is_between (between ds) = true
is_between (in_keyword w o) = false
is_between (after_keyword o) = false
is_between (before_name o) = false
is_between (in_name j n o) = false
is_between (before_content h) = false
is_between (in_empty w h) = false
is_between (after_open h) = false
is_between (in_pcdata w h) = false
is_between (after_pcdata h) = false
is_between (expecting f fs h) = false
is_between (in_use j n f fs h) = false
is_between (closed c fs h) = false
is_between (past c fs h) = false
is_between (after_content c h) = false

-- a choice of states, and the rest of a keyword
by_cond : (t : Bool) (x y : State) {x' y' : State} → bare x ≡ x' → bare y ≡ y' → bare (cond t x y) ≡ cond t x' y'
by_cond true x y e f = e
by_cond false x y e f = f

by-matching : (w : List ℕ) (b : ℕ) (whole : State) (part : List ℕ → State) {whole' : State} {part' : List ℕ → State} → bare whole ≡ whole' → ((v : List ℕ) → bare (part v) ≡ part' v)
    → bare (matching w b whole part) ≡ matching w b whole' part'
by-matching [] b whole part e f = refl
by-matching (c ∷ []) b whole part e f = by_cond (eqb b c) whole dead e refl
by-matching (c ∷ (d ∷ w)) b whole part e f = by_cond (eqb b c) (part (d ∷ w)) dead (f (d ∷ w)) refl

bare-closing : (c : Content Use) (h : Head) (b : ℕ) → bare (closing c h b) ≡ closing (rename_content bare_use c) (bare_head h) b
bare-closing c h b = by_cond (is_blank b) _ _ refl (by_cond (eqb b 0x3E) _ _ refl refl)

bare-join : (f : Frame) (p : Particle Use) → rename_in bare_use (join f p) ≡ join (bare_frame f) (rename_in bare_use p)
bare-join fresh p = refl
bare-join (holding unparted q) p = refl
bare-join (holding by_bar q) p = refl
bare-join (holding by_comma q) p = refl

bare-separated : (s : Separator) (f : Frame) (p : Particle Use) (fs : List Frame) (h : Head)
    → bare (separated s f p fs h) ≡ separated s (bare_frame f) (rename_in bare_use p) (map bare_frame fs) (bare_head h)
bare-separated s fresh p fs h = refl
bare-separated by_bar (holding by_bar q) p fs h = refl
bare-separated by_comma (holding by_comma q) p fs h = refl
bare-separated by_bar (holding by_comma q) p fs h = refl
bare-separated by_comma (holding by_bar q) p fs h = refl
bare-separated by_bar (holding unparted q) p fs h = refl
bare-separated by_comma (holding unparted q) p fs h = refl
bare-separated unparted (holding s q) p fs h = refl

bare-following : (p : Particle Use) (fs : List Frame) (h : Head) (b : ℕ) → bare (following p fs h b) ≡ following (rename_in bare_use p) (map bare_frame fs) (bare_head h) b
bare-following p [] h b = bare-closing (children p) h b
bare-following p (f ∷ fs) h b =
    by_cond (is_blank b) _ _ refl
    (by_cond (eqb b 0x29) _ _ (ap (λ (q : Particle Use). closed q (map bare_frame fs) (bare_head h)) (bare-join f p))
    (by_cond (eqb b 0x7C) _ _ (bare-separated by_bar f p fs h) (by_cond (eqb b 0x2C) _ _ (bare-separated by_comma f p fs h) refl)))

bare-indicating : (p : Particle Use) (fs : List Frame) (h : Head) (b : ℕ) → bare (indicating p fs h b) ≡ indicating (rename_in bare_use p) (map bare_frame fs) (bare_head h) b
bare-indicating p fs h b =
    by_cond (eqb b 0x3F) _ _ refl (by_cond (eqb b 0x2A) _ _ refl (by_cond (eqb b 0x2B) _ _ refl (bare-following p fs h b)))

bare-beginning : (f : Frame) (fs : List Frame) (h : Head) (k b : ℕ) → bare (beginning f fs h k b) ≡ beginning (bare_frame f) (map bare_frame fs) (bare_head h) 0 b
bare-beginning f fs h k b =
    by_cond (is_blank b) _ _ refl
    (by_cond (starts_name b) _ _ refl
    (by_cond (eqb b 0x28 && ltb (suc (length fs)) max_groups) _ _ refl refl
    ∙ ap (λ (n : ℕ). cond (eqb b 0x28 && ltb (suc n) max_groups) (expecting fresh (map bare_frame (f ∷ fs)) (bare_head h)) dead) (sym (length-map fs bare_frame))))

-- no step looks at a place
bare_step : (q : State) (k b : ℕ) → bare (step q k b) ≡ step (bare q) 0 b
unfolding step
bare_step dead k b = refl
bare_step (between ds) k b = by_cond (is_blank b) _ _ refl (by-matching element_keyword b dead (λ w. in_keyword w (record { place = k; done = ds })) refl (λ v. refl))
bare_step (in_keyword w o) k b = by-matching w b _ _ refl (λ v. refl)
bare_step (after_keyword o) k b = by_cond (is_blank b) _ _ refl refl
bare_step (before_name o) k b = by_cond (is_blank b) _ _ refl (by_cond (starts_name b) _ _ refl refl)
bare_step (in_name j n o) k b =
    by_cond (continues_name b) _ _ (by_cond (ltb (length n) max_name_bytes) _ _ refl refl) (by_cond (is_blank b) _ _ refl refl)
bare_step (before_content h) k b = by_cond (is_blank b) _ _ refl (by_cond (eqb b 0x28) _ _ refl (by-matching empty_keyword b dead (λ w. in_empty w h) refl (λ v. refl)))
bare_step (in_empty w h) k b = by-matching w b _ _ refl (λ v. refl)
bare_step (after_open h) k b =
    by_cond (is_blank b) _ _ refl (by_cond (eqb b 0x23) _ _ (by-matching pcdata_keyword b dead (λ w. in_pcdata w h) refl (λ v. refl)) (bare-beginning fresh [] h k b))
bare_step (in_pcdata w h) k b = by-matching w b _ _ refl (λ v. refl)
bare_step (after_pcdata h) k b = by_cond (is_blank b) _ _ refl (by_cond (eqb b 0x29) _ _ refl refl)
bare_step (expecting f fs h) k b = bare-beginning f fs h k b
bare_step (in_use j n f fs h) k b =
    by_cond (continues_name b) _ _ (by_cond (ltb (length n) max_name_bytes) _ _ refl refl)
    (bare-indicating (named (record { place = j; name = n })) (f ∷ fs) h b)
bare_step (closed p fs h) k b = bare-indicating p fs h b
bare_step (past p fs h) k b = bare-following p fs h b
bare_step (after_content c h) k b = bare-closing c h b

-- the state that a text leads to, all places 0
abbrev pub goes : State → List ℕ → State
goes q [] = q
goes q (b ∷ bs) = goes (step q 0 b) bs

-- the machine leads there, but for places
bare-final : (q : State) (bs : List ℕ) (k : ℕ) → bare (final schema_machine q bs k) ≡ goes (bare q) bs
bare-final q [] k = refl
bare-final q (b ∷ bs) k = bare-final (step q k b) bs (suc k) ∙ ap (λ (x : State). goes x bs) (bare_step q k b)

-- a text that spells declarations leads to the state after them, the last one first
pub spells-goes : (q : State) (bs : List ℕ) (k : ℕ) (ds : List Declaration) → run q bs k ≡ spells ds
    → (d : Declaration) × (es : List Declaration) × (ds ≡ reverse (d ∷ es)) × (goes (bare q) bs ≡ between (bare_all (d ∷ es)))
spells-goes q bs k ds e =
    let r = ends-between (final schema_machine q bs k) (run-spells schema_machine q bs k e) in
    (r.0, r.1, r.3, sym (bare-final q bs k) ∙ ap bare r.2)

-- a state that is not between declarations
pub astray : {A : Type 0} (q : State) {ds : List Declaration} → is_between q ≡ false → q ≡ between ds → A
astray q n e =
    let z : is_between q ≡ true = ap is_between e in
    never (cc)

bare_ends : (q : State) (d : Declaration) (es : List Declaration) → bare q ≡ between (d ∷ es) → (ds : List Declaration) × (ends q ≡ some ds) × (bare_all ds ≡ reverse (d ∷ es))
bare_ends dead d es e = astray dead refl e
bare_ends (between []) d es e = never (cc)
bare_ends (between (x ∷ xs)) d es e =
    let z : bare_all (x ∷ xs) ≡ d ∷ es = cc in
    (reverse (x ∷ xs), refl, map-reverse bare_declaration (x ∷ xs) ∙ ap reverse z)
bare_ends (in_keyword w o) d es e = astray (bare (in_keyword w o)) refl e
bare_ends (after_keyword o) d es e = astray (bare (after_keyword o)) refl e
bare_ends (before_name o) d es e = astray (bare (before_name o)) refl e
bare_ends (in_name j n o) d es e = astray (bare (in_name j n o)) refl e
bare_ends (before_content h) d es e = astray (bare (before_content h)) refl e
bare_ends (in_empty w h) d es e = astray (bare (in_empty w h)) refl e
bare_ends (after_open h) d es e = astray (bare (after_open h)) refl e
bare_ends (in_pcdata w h) d es e = astray (bare (in_pcdata w h)) refl e
bare_ends (after_pcdata h) d es e = astray (bare (after_pcdata h)) refl e
bare_ends (expecting f fs h) d es e = astray (bare (expecting f fs h)) refl e
bare_ends (in_use j n f fs h) d es e = astray (bare (in_use j n f fs h)) refl e
bare_ends (closed c fs h) d es e = astray (bare (closed c fs h)) refl e
bare_ends (past c fs h) d es e = astray (bare (past c fs h)) refl e
bare_ends (after_content c h) d es e = astray (bare (after_content c h)) refl e

-- and the other way round
pub goes-spells : (q : State) (bs : List ℕ) (k : ℕ) (d : Declaration) (es : List Declaration) → goes (bare q) bs ≡ between (d ∷ es)
    → (ds : List Declaration) × (run q bs k ≡ spells ds) × (bare_all ds ≡ reverse (d ∷ es))
goes-spells q bs k d es e =
    let r = bare_ends (final schema_machine q bs k) d es (bare-final q bs k ∙ e) in
    (r.0, final-spells schema-dead q bs k r.1, r.2)
