-- The normal form of a schema text is a schema text with the same declarations but for places, and has only the blanks that production 45
-- requires.
use Rattle.std.specs.Prelude.{Bool, true, false, not, cond, List, [], ◌∷◌, ◌++◌, ◌⊎◌, ◌≡◌, refl, ℕ, zero, suc, T, eqb}
use Rattle.std.proofs.Common.{append_assoc, append-nil, inl, inr, sym, ap, subst, ◌∙◌, eqb→eq}
use Rattle.schema_laws.specs.Normal.{no_run, blank-dropped, byte-kept, run-dropped, run_ends, blank-written, byte-before}
use Rattle.schema_laws.specs.Places.{bare_all}
use Rattle.schema_laws.specs.Records.{normal-spells}
use Rattle.schema_laws.specs.reading.Complete.{schema-complete}
use Rattle.schema_laws.specs.reading.Sound.{schema-sound}
use Rattle.schema_spec.specs.Declarations.{Use, Declaration, element_keyword, pcdata_keyword, Separator, Indicator, once, optional, any, one_or_more, spell_indicator}
use Rattle.schema_spec.specs.Grammar.{Blanks, none, blank, Space, space, Parts, first-bar, next-bar, first-comma, next-comma, Kind, Model, a-name, a-group, opened, close, more, ContentText, is-empty, is-pcdata, is-children, DeclarationText, declaration, DeclarationsText, end, next, SchemaText, schema-text}
use Rattle.schema_spec.specs.Models.{Particle, Content}
use Rattle.schema_spec.specs.Records.{normal_from, normal, OnlyRequiredBlanks, no-declaration, next-declaration}
use Rattle.text_laws.specs.Bytes.{each-blank, name-bytes}
use Rattle.text_laws.specs.Lists.{all_append, all_in, in_all, filter-in}
use Rattle.text_laws.specs.Tests.{and_intro, and_cases, not-intro, not-elim, decided, failed, cond-true, cond-false}
use Rattle.text_spec.specs.Bytes.{is_blank, is_name, continues_name}
use Rattle.text_spec.specs.Lists.{all_of, filter_by}

-- ---- content has no `<`
abbrev is_inside : ℕ → Bool
is_inside b = not (eqb b 0x3C)

-- a byte that passes a test which `<` fails
inside-byte : (f : ℕ → Bool) → f 0x3C ≡ false → (b : ℕ) → T (f b) → T (is_inside b)
inside-byte f e b t = not-intro (eqb b 0x3C) (λ u. failed e (subst (λ (x : ℕ). T (f x)) (eqb→eq b 0x3C u) t))

inside-name : (n : List ℕ) → T (is_name n) → T (all_of is_inside n)
inside-name n t = in_all is_inside n (λ b i. inside-byte continues_name refl b (all_in continues_name (name-bytes n t) i))

inside-blanks : {w : List ℕ} → Blanks w → T (all_of is_inside w)
inside-blanks none = tt
inside-blanks (blank {b = b} {w = w} t x) = and_intro (is_inside b) (all_of is_inside w) (inside-byte is_blank refl b t) (inside-blanks x)

inside-indicator : (o : Indicator) → T (all_of is_inside (spell_indicator o))
inside-indicator once = tt
inside-indicator optional = tt
inside-indicator any = tt
inside-indicator one_or_more = tt

inside-separator : {s t : Separator} {x : ℕ} → Parts s x t → T (is_inside x)
inside-separator first-bar = tt
inside-separator next-bar = tt
inside-separator first-comma = tt
inside-separator next-comma = tt

joined : (u v : List ℕ) → T (all_of is_inside u) → T (all_of is_inside v) → T (all_of is_inside (u ++ v))
joined = all_append is_inside

inside-model : {κ : Kind} {d k : ℕ} {w : List ℕ} {p : Particle Use} → Model κ d k w p → T (all_of is_inside w)
inside-model (a-name n t o) = joined n (spell_indicator o) (inside-name n t) (inside-indicator o)
inside-model (a-group {w = w} m o) = joined w (spell_indicator o) (inside-model m) (inside-indicator o)
inside-model (opened {a = a} {u = u} {b = b} {r = r} x m y n) = joined a (u ++ (b ++ r)) (inside-blanks x) (joined u (b ++ r) (inside-model m) (joined b r (inside-blanks y) (inside-model n)))
inside-model close = tt
inside-model (more {x = x} {a = a} {u = u} {b = b} {r = r} s y m z n) =
    and_intro (is_inside x) (all_of is_inside (a ++ (u ++ (b ++ r)))) (inside-separator s)
    (joined a (u ++ (b ++ r)) (inside-blanks y) (joined u (b ++ r) (inside-model m) (joined b r (inside-blanks z) (inside-model n))))

inside-content : {k : ℕ} {w : List ℕ} {c : Content Use} → ContentText k w c → T (all_of is_inside w)
inside-content is-empty = tt
inside-content (is-pcdata {a = a} {b = b} x y) =
    joined a (pcdata_keyword ++ (b ++ (0x29 ∷ []))) (inside-blanks x) (joined pcdata_keyword (b ++ (0x29 ∷ [])) tt (joined b (0x29 ∷ []) (inside-blanks y) tt))
inside-content (is-children {w = w} m o) = joined w (spell_indicator o) (inside-model m) (inside-indicator o)

-- ---- the normal form of each part
abbrev is_solid : ℕ → Bool
is_solid b = not (is_blank b)

-- where no blank is due, blanks are left out up to the next `<`
inside-normal : (i : Bool) (w x : List ℕ) → T (all_of is_inside w) → normal_from zero i (w ++ x) ≡ filter_by is_solid w ++ normal_from zero false x
inside-normal i [] x t = no_run i false x
inside-normal i (b ∷ w) x t =
    let c = and_cases (is_inside b) (all_of is_inside w) t in
    pick c.0 (λ j. inside-normal j w x c.1) (decided (is_blank b))
  where
    kept : List ℕ
    kept = filter_by is_solid w

    later : List ℕ
    later = normal_from zero false x

    pick : T (is_inside b) → ((j : Bool) → normal_from zero j (w ++ x) ≡ kept ++ later) → T (is_blank b) ⊎ (T (is_blank b) → ⊥)
        → normal_from zero i (b ∷ (w ++ x)) ≡ cond (is_solid b) (b ∷ kept) kept ++ later
    pick u rest (inl h) =
        blank-dropped b (w ++ x) i h ∙ (rest true ∙ ap (λ (l : List ℕ). l ++ later) (sym (cond-false (is_solid b) (b ∷ kept) kept (λ v. not-elim (is_blank b) v h))))
    pick u rest (inr h) =
        byte-kept b (w ++ x) i h (λ e. subst (λ (y : ℕ). T (is_inside y)) e u)
        ∙ (ap (λ (l : List ℕ). b ∷ l) (rest false) ∙ ap (λ (l : List ℕ). l ++ later) (sym (cond-true (is_solid b) (b ∷ kept) kept (not-intro (is_blank b) h))))

blanks-dropped : (d : ℕ) {w : List ℕ} (x : List ℕ) → Blanks w → normal_from d true (w ++ x) ≡ normal_from d true x
blanks-dropped d x none = refl
blanks-dropped zero x (blank {b = b} {w = w} t y) = blank-dropped b (w ++ x) true t ∙ blanks-dropped zero x y
blanks-dropped (suc d) x (blank {b = b} {w = w} t y) = run-dropped b (w ++ x) d t ∙ blanks-dropped (suc d) x y

space-kept : (d : ℕ) {w : List ℕ} (x : List ℕ) → Space w → normal_from (suc d) false (w ++ x) ≡ 0x20 ∷ normal_from d true x
space-kept d x (space {b = b} {w = w} t y) = blank-written b (w ++ x) d t ∙ ap (λ (l : List ℕ). 0x20 ∷ l) (blanks-dropped d x y)

no-blank : (b : ℕ) → T (continues_name b) → T (is_blank b) → ⊥
no-blank b t u = failed (each-blank (λ (x : ℕ). continues_name x ≡ false) refl refl refl b u) t

bytes-kept : (d : ℕ) (n x : List ℕ) → T (all_of continues_name n) → normal_from (suc d) false (n ++ x) ≡ n ++ normal_from (suc d) false x
bytes-kept d [] x t = refl
bytes-kept d (b ∷ n) x t =
    let c = and_cases (continues_name b) (all_of continues_name n) t in
    byte-before b (n ++ x) d (no-blank b c.0) ∙ ap (λ (l : List ℕ). b ∷ l) (bytes-kept d n x c.1)

name-kept : (d : ℕ) (n x : List ℕ) → T (is_name n) → normal_from (suc d) true (n ++ x) ≡ n ++ normal_from (suc d) false x
name-kept d [] x t = absurd t
name-kept d (b ∷ n) x t =
    let c = and_cases (continues_name b) (all_of continues_name n) (name-bytes (b ∷ n) t) in
    run_ends b (n ++ x) d (no-blank b c.0) ∙ ap (λ (l : List ℕ). b ∷ l) (bytes-kept d n x c.1)

solid-filtered : (w : List ℕ) → T (all_of is_solid (filter_by is_solid w))
solid-filtered w = in_all is_solid (filter_by is_solid w) (λ b i. (filter-in is_solid w i).1)

declaration-normal : {k : ℕ} {w : List ℕ} {d : Declaration} (i : Bool) (r : List ℕ) → DeclarationText k w d → OnlyRequiredBlanks (normal_from zero false r) → OnlyRequiredBlanks (normal_from zero i (w ++ r))
declaration-normal i r (declaration {a = a} {b = b} {w = w} {e = e} n x t y c z) rest =
    subst OnlyRequiredBlanks (sym whole) (next-declaration n (filter_by is_solid (w ++ e)) t (solid-filtered (w ++ e)) rest)
  where
    after : List ℕ
    after = 0x3E ∷ r

    regrouped : (element_keyword ++ (a ++ (n ++ (b ++ (w ++ (e ++ (0x3E ∷ []))))))) ++ r ≡ element_keyword ++ (a ++ (n ++ (b ++ ((w ++ e) ++ after))))
    regrouped = simp append_assoc

    whole : normal_from zero i ((element_keyword ++ (a ++ (n ++ (b ++ (w ++ (e ++ (0x3E ∷ []))))))) ++ r)
        ≡ element_keyword ++ (0x20 ∷ (n ++ (0x20 ∷ (filter_by is_solid (w ++ e) ++ (0x3E ∷ normal_from zero false r)))))
    whole =
        ap (normal_from zero i) regrouped
        ∙ ap (λ (l : List ℕ). element_keyword ++ l)
        (space-kept 1 (n ++ (b ++ ((w ++ e) ++ after))) x
        ∙ ap (λ (l : List ℕ). 0x20 ∷ l)
        (name-kept 0 n (b ++ ((w ++ e) ++ after)) t
        ∙ ap (λ (l : List ℕ). n ++ l)
        (space-kept 0 ((w ++ e) ++ after) y ∙ ap (λ (l : List ℕ). 0x20 ∷ l) (inside-normal true (w ++ e) after (joined w e (inside-content c) (inside-blanks z))))))

declarations-normal : {k : ℕ} {w : List ℕ} {ds : List Declaration} (i : Bool) → DeclarationsText k w ds → OnlyRequiredBlanks (normal_from zero i w)
declarations-normal i (end {a = a} x) = subst OnlyRequiredBlanks (sym (no_run i true a ∙ (ap (normal_from zero true) (sym (append-nil a)) ∙ blanks-dropped zero [] x))) no-declaration
declarations-normal i (next {a = a} {w = w} {r = r} x d ds) =
    subst OnlyRequiredBlanks (sym (no_run i true (a ++ (w ++ r)) ∙ blanks-dropped zero (w ++ r) x)) (declaration-normal true r d (declarations-normal false ds))

-- THE THEOREM
pub normal-form : {text : List ℕ} {ds : List Declaration} → SchemaText text ds
    → (es : List Declaration) × SchemaText (normal text) es × (bare_all ds ≡ bare_all es) × OnlyRequiredBlanks (normal text)
unfolding normal
normal-form {text} {ds} (schema-text x) =
    let r = normal-spells text ds (schema-complete (schema-text x)) in
    (r.0, schema-sound (normal text) r.0 r.1, r.2, declarations-normal false x)
