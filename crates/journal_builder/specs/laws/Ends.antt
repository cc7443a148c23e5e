-- Laws of end tags.
use Rattle.std.specs.Prelude.{Bool, false, cond, not, ◌≡◌, ℕ, ◌-◌, ◌<◌}
use Rattle.std.proofs.Math.Bool.{true}
use mathlib.Core.List.{List, [], ◌∷◌, ◌++◌}
use Rattle.std.proofs.Math.Path.{refl, sym, ap, ap₂, subst}
use Rattle.std.proofs.Common.{◌∙◌, le-leb}
use native.Mathlib.Omega.{arith}
use Rattle.std.proofs.Math.ListN.{length}
use Rattle.journal_builder.specs.build_state.State.{judged_from, RowsBelow, Built, ended_with}
use Rattle.journal_builder.specs.declared.build_state.Build.{Build}
use Rattle.journal_builder.specs.declared.open_levels.Level.{Level}
use Rattle.journal_builder.specs.laws.Starts.{is_innermost}
use Rattle.journal_builder.specs.laws.StateLaws.{Innermost, innermost, faults-now, placed-now, judged-now, built-as}
use Rattle.journal_builder.specs.open_levels.Levels.{level_at, Opened}
use Rattle.journal_spec.specs.Builder.{Open, Building, building, breaks, fits_at_end, end_of, on_end}
use Rattle.schema_spec.specs.Schemas.{Schema}
use Rattle.text.specs.fault_keys.KeyLaws.{least-given, placed-given, noted-none, noted-from}
use Rattle.text.specs.fault_keys.Keys.{no_key, place_limit, least_key, noted_key}
use Rattle.text_spec.specs.Lists.{is_none, list_of, same_bytes}
use Rattle.text_spec.specs.Refusals.{at, given, bad_nesting, bad_content}

module _ (s : Schema) (b : Building) (levels : List Level) (m : Build) (w : Built s levels m b) (n : List ℕ) (k : ℕ) where
  pub end-outside : m.depth ≡ 0 → on_end n k b ≡ breaks (at bad_nesting k) b
  end-outside z = pick b.opens w.depth
    where
      pick : (os : List Open) → m.depth ≡ length os → end_of os n k b ≡ breaks (at bad_nesting k) b
      pick [] d = refl
      pick (o ∷ os) d = absurd (omega arith)

  -- the innermost open element has another name
  pub end-other : is_innermost b.opens n ≡ false → on_end n k b ≡ breaks (at bad_nesting k) b
  end-other e = pick b.opens e
    where
      pick : (os : List Open) → is_innermost os n ≡ false → end_of os n k b ≡ breaks (at bad_nesting k) b
      pick [] e = refl
      pick (o ∷ os) e = rw e refl

  pub own_name : (p : Innermost s levels m.depth b.opens) → is_innermost b.opens n ≡ same_bytes n p.own.name
  own_name p = ap (λ (os : List Open). is_innermost os n) p.same

  -- it has this name, and ends
  module _ (whole : is_none b.broken ≡ true) (named : is_innermost b.opens n ≡ true) (deep : m.depth ≡ 0 → ⊥) where
    abbrev top : Innermost s levels m.depth b.opens
    top = innermost s levels m.depth b.opens w.depth deep w.opened

    closing : Innermost s levels m.depth b.opens → Building
    closing p = building p.rest b.rooted (given (not (fits_at_end p.own.filling)) (at bad_content p.own.place) ++ b.faults) b.rows b.count

    end-closes : (p : Innermost s levels m.depth b.opens) → on_end n k b ≡ closing p
    unfolding closing
    end-closes p = let e : same_bytes n p.own.name ≡ true = sym (own_name p) ∙ named in ap (λ (os : List Open). end_of os n k b) p.same ∙ rw e refl

    pub end-built : (fits : Bool) (place : ℕ) → fits ≡ fits_at_end top.own.filling → place ≡ (level_at levels m.depth).place
        → Built s levels (ended_with fits (m.depth - 1) place m) (on_end n k b)
    unfolding closing
    end-built fits place f g =
        built-as {n = ended_with fits (m.depth - 1) top.own.place m} {c = closing top} (ap (λ (x : ℕ). ended_with fits (m.depth - 1) x m) own-place) (end-closes top)
        (record {
          depth = omega (arith, w.depth, ap (λ (os : List Open). length os) top.same);
          opened = (subst (Opened s levels) top.same w.opened).1;
          below = (subst (RowsBelow b.count) top.same w.below).1;
          count = w.count;
          listed = w.listed;
          rooted = w.rooted;
          fault =
              ap₂ (λ (x : Bool) (y : ℕ). noted_key (not x) 15 top.own.place y) f (faults-now s b levels m whole w)
              ∙ sym (least-given (not (fits_at_end top.own.filling)) bad_content top.own.place b.faults);
          placed = placed-given (not (fits_at_end top.own.filling)) bad_content top.own.place b.faults low (placed-now s b levels m whole w);
          judged =
              sym (le-leb judged_from (noted_key (not fits) 15 top.own.place m.fault) (noted-from 14 (not fits) 15 top.own.place m.fault (omega arith) (judged-now s b levels m whole w)));
          few = λ z. w.few (noted-none (not fits) 15 top.own.place m.fault (omega arith) low z).1;
        })
      where
        low : top.own.place < place_limit
        low = top.level.placed

        own-place : place ≡ top.own.place
        own-place = g ∙ top.level.place

    -- no refusal applies after it: then none did before
    pub end_none : (r : Build) → Built s levels r (on_end n k b) → r.fault ≡ no_key → m.fault ≡ no_key
    unfolding closing
    end_none r v z =
        let found = subst (λ (c : Building). least_key (list_of c.broken ++ c.faults) ≡ no_key) (end-closes top) (sym v.fault ∙ z) in
        faults-now s b levels m whole w
        ∙ (noted-none (not (fits_at_end top.own.filling)) 15 top.own.place (least_key b.faults) (omega arith) top.level.placed
        (sym (least-given (not (fits_at_end top.own.filling)) bad_content top.own.place b.faults) ∙ found)).1

-- an end tag begins no row
pub end-keeps-rows : (n : List ℕ) (k : ℕ) (b : Building) → (on_end n k b).rows ≡ b.rows
end-keeps-rows n k b = pick b.opens
  where
    same : (t : Bool) (c d : Building) → c.rows ≡ b.rows → d.rows ≡ b.rows → (cond t c d).rows ≡ b.rows
    same true c d p q = p
    same false c d p q = q

    pick : (os : List Open) → (end_of os n k b).rows ≡ b.rows
    pick [] = refl
    pick (o ∷ os) =
        same (same_bytes n o.name) (building os b.rooted (given (not (fits_at_end o.filling)) (at bad_content o.place) ++ b.faults) b.rows b.count) (breaks (at bad_nesting k) b) refl refl
