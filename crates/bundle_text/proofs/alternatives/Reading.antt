-- Laws of reading an alternative.
use Rattle.std.specs.Prelude.{Bool, true, false, List, [], ◌∷◌, reverse, ◌≡◌, refl, ℕ, ◌+◌, ◌≤◌, ◌<◌, length, Result, Ok, Err}
use Rattle.std.proofs.Common.{sym, ap, subst, ◌∙◌, arith, eq-eqb}
use Rattle.std.proofs.lemmas.List.{reverse-append}
use Rattle.bundle_text.specs.alternative_ends.Readings.{plain_past}
use Rattle.bundle_text.specs.alternatives.Readings.{in_alternative, ReadsAlternative}
use Rattle.bundle_text.specs.declared.notes.Notes.{Notes}
use Rattle.bundle_text.specs.declared.steps.StepRead.{StepRead}
use Rattle.bundle_text.specs.notes.Laws.{goes-append, ended-next, inners-none, inners-more}
use Rattle.bundle_text.specs.notes.Notes.{with_inner, with_inners, Ended, Goes}
use Rattle.bundle_text.specs.steps.Readings.{Stands, last_read, ReadsPlain, PlainAs}
use Rattle.path_spec.specs.Machine.{Inner, inside, begin_step, step, bundle_machine}
use Rattle.text_laws.specs.Scans.{step-at}
use Rattle.text_laws.specs.Tests.{cond_yes}
use Rattle.text_spec.specs.Machines.{from}
use Rattle.text_spec.specs.Scans.{byte_at}

-- one more step, the last first
next-inner : (N : Notes) {M : Notes} (p : StepRead) (ps : List StepRead) → M ≡ with_inners N (reverse ps) → with_inner M p ≡ with_inners N (reverse (p ∷ ps))
next-inner N p ps e =
    ap (λ (M : Notes). with_inner M p) e ∙ inners-more N (reverse ps) (p ∷ []) ∙ ap (with_inners N) (sym (reverse-append (p ∷ []) ps))

pub record UpTo (s : List ℕ) (at : ℕ) (N N' : Notes) (i : ℕ) : Type 0 where
  -- the last first
  pub done : List StepRead
  pub low : at ≤ i
  pub high : i ≤ length s
  pub goes : Goes (reverse done)
  pub noted : N' ≡ with_inners N (reverse done)
  pub few : N'.inner_count ≤ i
  pub same : (x : Inner) → from bundle_machine (begin_step (inside (in_alternative s [] x))) s at ≡ from bundle_machine (begin_step (inside (in_alternative s done x))) s i

pub up-to-start : {s : List ℕ} {at : ℕ} {N : Notes} → at ≤ length s → N.inner_count ≤ at → UpTo s at N N at
up-to-start h f = record { done = []; low = omega arith; high = h; goes = tt; noted = inners-none _; few = f; same = λ x. refl }

module _ {s : List ℕ} {at : ℕ} {N N' : Notes} {i : ℕ} (U : UpTo s at N N' i) {r : Result (StepRead × ℕ) ℕ} (P : ReadsPlain s i r) where
  plain-as : {a : Result (StepRead × ℕ) ℕ} → r ≡ a → PlainAs s i a
  plain-as u = (subst (ReadsPlain s i) u P).says

  pub up-to-fails : {j : ℕ} → r ≡ Err j → ReadsAlternative s at N N' (Err j)
  up-to-fails u =
      record { says = (record { inner = reverse U.done; noted = U.noted }, λ x. U.same x ∙ plain-as u (inside (in_alternative s U.done x))) }

  module _ {c : StepRead} {j : ℕ} (u : r ≡ Ok (c, j)) where
    pub up-to-place : (i < j) × (j ≤ length s)
    up-to-place = ((plain-as u).0, (plain-as u).1)

    pub up-to-few : N'.inner_count + 1 ≤ j
    up-to-few =
        let g = (plain-as u).0 in
        let a = U.few in
        omega arith

    pub up-to-ends : {t : Bool} → Stands s j 0x2F t → t ≡ false → {N'' : Notes} → N'' ≡ with_inner N' (last_read c) → ReadsAlternative s at N N'' (Ok j)
    up-to-ends S f {N''} w =
        let g = (plain-as u).0 in
        let l = U.low in
        record {
          says = record {
            last = last_read c;
            before = U.done;
            low = omega arith;
            high = (plain-as u).1;
            stop = S.other f;
            ended = subst Ended (sym (reverse-append (last_read c ∷ []) U.done)) (ended-next (reverse U.done) (last_read c) U.goes refl);
            noted = w ∙ next-inner N (last_read c) U.done U.noted;
            few = subst (λ (M : Notes). M.inner_count ≤ j) (sym w) up-to-few;
            same = λ x. U.same x ∙ (plain-as u).3 (inside (in_alternative s U.done x));
          };
        }

    pub up-to-next : {t : Bool} → Stands s j 0x2F t → t ≡ true → {N'' : Notes} → N'' ≡ with_inner N' c → UpTo s at N N'' (j + 1)
    unfolding step
    up-to-next S f {N''} w =
        let g = (plain-as u).0 in
        let l = U.low in
        let h = (S.here f).0 in
        let a = up-to-few in
        record {
          done = c ∷ U.done;
          low = omega arith;
          high = omega arith;
          goes = subst Goes (sym (reverse-append (c ∷ []) U.done)) (goes-append (reverse U.done) (c ∷ []) U.goes ((plain-as u).2, tt));
          noted = w ∙ next-inner N c U.done U.noted;
          few = subst (λ (M : Notes). M.inner_count ≤ j + 1) (sym w) (omega arith);
          same = λ x. U.same x ∙ (plain-as u).3 (inside (in_alternative s U.done x))
              ∙ step-at bundle_machine s j (plain_past s c (in_alternative s U.done x)) (begin_step (inside (in_alternative s (c ∷ U.done) x))) h
              (cond_yes _ _ (eq-eqb (byte_at s j) 0x2F (S.here f).1)) refl;
        }
