-- Laws of declarations that were read: the blanks between them, and their names by their places.
use Rattle.std.specs.Prelude.{true, List, [], ◌∷◌, map, ◌≡◌, refl, ℕ}
use Rattle.std.proofs.Common.{ap, ap₂}
use Rattle.schema_spec.specs.Declarations.{Use, Declaration}
use Rattle.schema_spec.specs.Machine.{between, step, schema_machine, from}
use Rattle.schema_spec.specs.Schemas.{declared_names}
use Rattle.schema.specs.particles.Readings.{use_at}
use Rattle.text.specs.scanning.OutcomeLaws.{skipped-same}
use Rattle.text.specs.scanning.Outcomes.{Skipped}
use Rattle.text_laws.specs.Tests.{never, cond_yes}
use Rattle.text_spec.specs.Bytes.{is_blank}
use Rattle.text_spec.specs.Scans.{name_at}

between-blank : (ds : List Declaration) (k b : ℕ) → is_blank b ≡ true → step (between ds) k b ≡ between ds
unfolding step
between-blank ds k b e = cond_yes (between ds) _ e

pub between-skipped : {s : List ℕ} {at r : ℕ} → Skipped s at r → (ds : List Declaration) → from (between ds) s at ≡ from (between ds) s r
between-skipped K ds = skipped-same schema_machine K (between ds) refl (between-blank ds)

pub declared-names : (s : List ℕ) (ds : List Declaration) (ps : List ℕ) → map (λ e. e.name) ds ≡ map (use_at s) ps → declared_names ds ≡ map (name_at s) ps
declared-names s [] [] e = refl
declared-names s [] (p ∷ ps) e = never (cc)
declared-names s (d ∷ ds) [] e = never (cc)
declared-names s (d ∷ ds) (p ∷ ps) e =
    let h : d.name ≡ use_at s p = cc in
    let t : map (λ e. e.name) ds ≡ map (use_at s) ps = cc in
    ap₂ (λ (n : List ℕ) (l : List (List ℕ)). n ∷ l) (ap (λ (u : Use). u.name) h) (declared-names s ds ps t)
