-- Laws of what was read: where it ends, and how any machine judges the text from there on.
use Rattle.std.specs.Prelude.{true, false, List, [], ◌∷◌, ◌≡◌, ℕ, ◌+◌, ◌≤◌, ◌<◌, length, Result, Ok, Err}
use Rattle.std.proofs.Common.{sym, ap, subst, ◌∙◌, arith}
use Rattle.text_laws.specs.Scans.{blanks-same, Spacing, space-same, space-departs, Keyword, due, keyword-spelt, keyword-departs, Naming, name-spelt, name-too-long}
use Rattle.text_spec.specs.Bytes.{is_blank, continues_name}
use Rattle.text_spec.specs.Machines.{departs, Machine, from}
use Rattle.text_spec.specs.Scans.{byte_at, Stops, name_at}
use Rattle.text.specs.scanning.Outcomes.{NoBlank, Skipped, Spaced, SpacedAs, Spelt, SpeltAs, Named, NamedAs}

-- ---- blanks, in a state that they leave as it is
pub skipped-same : {State A : Type 0} (M : Machine State A) {s : List ℕ} {at r : ℕ} → Skipped s at r → (q : State) → M.is_dead q ≡ false
    → ((k b : ℕ) → is_blank b ≡ true → M.step q k b ≡ q) → from M q s at ≡ from M q s r
skipped-same M {s} {at} {r} K q live stays = blanks-same M s q live stays at r K.low K.high K.blanks

-- ---- an answer
module _ {s : List ℕ} {at : ℕ} {r : Result ℕ ℕ} (S : Spaced s at r) where
  spaced : {a : Result ℕ ℕ} → r ≡ a → SpacedAs s at a
  spaced u = (subst (Spaced s at) u S).says

  pub spaced-end : {j : ℕ} → r ≡ Ok j → (at < j) × (j ≤ length s) × NoBlank s j
  spaced-end u = let F = spaced u in (F.0, F.1.high, F.1.stop)

  module _ {State A : Type 0} {M : Machine State A} {dead q t : State} (X : Spacing M dead q t s at) where
    pub spaced-past : {j : ℕ} → r ≡ Ok j → from M q s at ≡ from M t s j
    spaced-past {j} u = let F = spaced u in space-same X j F.0 F.1.high F.1.blanks

    pub spaced-fail : {j : ℕ} → r ≡ Err j → from M q s at ≡ departs j
    spaced-fail u = let F = spaced u in space-departs X F.1 ∙ ap departs (sym F.0)

module _ {w s : List ℕ} {at : ℕ} {r : Result ℕ ℕ} (W : Spelt w s at r) where
  spelt : {a : Result ℕ ℕ} → r ≡ a → SpeltAs w s at a
  spelt u = (subst (Spelt w s at) u W).says

  pub spelt-end : {j : ℕ} → r ≡ Ok j → (at ≤ j) × (j ≤ length s)
  spelt-end u =
      let F = spelt u in
      let e = F.0 in
      let f = F.1.fits in
      (omega arith, omega arith)

  module _ {State A : Type 0} {M : Machine State A} {dead whole : State} {part : List ℕ → State} (K : Keyword M dead whole part) where
    pub spelt-past : {j : ℕ} → r ≡ Ok j → from M (due whole part w) s at ≡ from M whole s j
    spelt-past {j} u = let F = spelt u in keyword-spelt K w s at j F.0 F.1

    pub spelt-fail : {j : ℕ} → r ≡ Err j → from M (due whole part w) s at ≡ departs j
    spelt-fail {j} u = let F = spelt u in keyword-departs K w s at F.0 j F.1 F.2 F.3 F.4

module _ {s : List ℕ} {at : ℕ} {r : Result ℕ ℕ} (N : Named s at r) where
  named : {a : Result ℕ ℕ} → r ≡ a → NamedAs s at a
  named u = (subst (Named s at) u N).says

  pub named_end : {j : ℕ} → r ≡ Ok j → (at < j) × (j ≤ length s) × Stops continues_name s j
  named_end u = let F = named u in (F.0, F.1, F.4)

  module _ {State A : Type 0} {M : Machine State A} {dead : State} {q : List ℕ → State} (Q : Naming M dead q) where
    pub named_past : {j : ℕ} → r ≡ Ok j → from M (q (byte_at s at ∷ [])) s (at + 1) ≡ from M (q (name_at s at)) s j
    named_past {j} u = let F = named u in name-spelt Q s at j F.0 F.1 F.2 F.3 F.4

    pub named-fail : {j : ℕ} → r ≡ Err j → from M (q (byte_at s at ∷ [])) s (at + 1) ≡ departs j
    named-fail {j} u = let F = named u in name-too-long Q s at j F.0 F.1 F.2
