-- Laws of reading an accepted text declaration by declaration: its limits, and where it starts.
use Rattle.std.specs.Prelude.{List, [], ◌∷◌, refl, ℕ, zero, suc, ◌≤◌, length, take}
use Rattle.std.proofs.Common.{ap, arith, length-append, length-take}
use Rattle.compiled_schema.specs.element_entry.Reading.{AcceptedWith, AtDeclaration}
use Rattle.schema.specs.Judging.{used_in}
use Rattle.schema.specs.declarations.DeclarationLaws.{between-skipped}
use Rattle.schema_laws.specs.Accepted.{accepted-length}
use Rattle.schema_spec.specs.Models.{uses_in}
use Rattle.schema_spec.specs.Records.{schema_in}
use Rattle.schema_spec.specs.Schemas.{Schema}
use Rattle.text.specs.scanning.Outcomes.{Skipped}
use Rattle.text_spec.specs.Limits.{max_declarations}

pub at_first : {text uses : List ℕ} → AcceptedWith text uses → {i : ℕ} → Skipped text 0 i → AtDeclaration text uses 0 0 i
at_first w K = record { given = w; done = []; same = between-skipped K []; count = refl; used = refl; high = K.high; no-blank = K.stop }

pub elements-few : {text uses : List ℕ} → AcceptedWith text uses → length (schema_in text) ≤ max_declarations
elements-few {text} w = accepted-length text (schema_in text) w.read

used-before : (s : Schema) (d : ℕ) → length (used_in (take d s)) ≤ length (used_in s)
used-before s zero = omega arith
used-before [] (suc d) = omega arith
used-before (e ∷ s) (suc d) =
    let a = length-append (uses_in e.content) (used_in (take d s)) in
    let b = length-append (uses_in e.content) (used_in s) in
    let r = used-before s d in
    omega arith

-- the cells hold the elements of all models
pub uses-enough : {text uses : List ℕ} → AcceptedWith text uses → length (used_in (schema_in text)) ≤ length uses
uses-enough {text} {uses} w =
    let a = length-take (length (used_in (schema_in text))) uses in
    let b = ap length w.elements in
    omega arith

pub used-within : {text uses : List ℕ} {d n i : ℕ} → AtDeclaration text uses d n i → n ≤ length uses
used-within {text} {uses} {d} A =
    let a = uses-enough A.given in
    let b = used-before (schema_in text) d in
    let c = A.used in
    omega arith
