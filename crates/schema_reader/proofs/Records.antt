-- Laws of the record that reading a text hands back.
use mathlib.Core.Bool.{◌||◌}
use mathlib.Core.List.{List, []}
use mathlib.Core.Path.{◌≡◌, refl, sym, ap, ◌∙◌}
use Prim.Native.Nat.{ℕ, ◌≤◌}
use borrow.Author.Tests.{ltb-false}
use lib.Dec.{ltb}
use lib.ListN.{length}
use Rattle.schema.specs.Judging.{sized, JudgedAs}
use Rattle.schema.specs.declared.Schema.{Schema as Cells}
use Rattle.schema_laws.specs.Accepted.{accepted-spelt}
use Rattle.schema_reader.specs.Records.{ReadAs}
use Rattle.schema_reader.specs.record_cells.Recorded.{HandedBack}
use Rattle.schema_spec.specs.Reading.{read_schema}
use Rattle.schema_spec.specs.Records.{normal, record_by, schema_record}
use Rattle.schema_spec.specs.Schemas.{Schema}
use Rattle.std.specs.Prelude.{Result, Ok, Err}
use Rattle.text.specs.declared.refusals.Refusal.{Refusal}
use Rattle.text.specs.refusals.Refusals.{refusal_in}
use Rattle.text_laws.specs.Cells.{padded-zeros}
use Rattle.text_laws.specs.Refusals.{given-free}
use Rattle.text_laws.specs.Tests.{false_of, or_right, never}
use Rattle.text_spec.specs.Cells.{padded}
use Rattle.text_spec.specs.Limits.{max_schema_bytes}
use Rattle.text_spec.specs.Lists.{is_empty}
use Rattle.text_spec.specs.Refusals.{Outcome, accepted, refused, at, bad_length}

-- an accepted text is not too long
accepted-short : (text : List ℕ) (s : Schema) → read_schema text ≡ accepted s → length text ≤ max_schema_bytes
accepted-short text s e =
    let l = (accepted-spelt text s e).right-length in
    let f = false_of (ltb max_schema_bytes (length text)) (λ t. given-free (is_empty text || ltb max_schema_bytes (length text)) (at bad_length 0) l (or_right (is_empty text) (ltb max_schema_bytes (length text)) t)) in
    ltb-false max_schema_bytes (length text) f

pub read_as : (text : List ℕ) (j : Result ℕ Refusal) (s : Cells) → JudgedAs text j → HandedBack text j s → ReadAs text (record { judgement = j; schema = s })
unfolding schema_record
read_as text (Ok n) s J R = go (read_schema text) refl J.outcome
  where
    go : (o : Outcome Schema) → read_schema text ≡ o → accepted n ≡ sized o → ReadAs text (record { judgement = Ok n; schema = s })
    go (accepted t) e q =
        let h = accepted-short text t e in
        let again : schema_record text ≡ normal text = ap (λ (o : Outcome Schema). record_by o (normal text)) e in
        record { outcome = J.outcome; bytes = R.bytes h ∙ ap (padded max_schema_bytes) (sym again); size = R.size h ∙ ap length (sym again) }
    go (refused f) e q = never (cc)
read_as text (Err f) s J R = go (read_schema text) refl J.outcome
  where
    go : (o : Outcome Schema) → read_schema text ≡ o → refused (refusal_in f) ≡ sized o → ReadAs text (record { judgement = Err f; schema = s })
    go (accepted t) e q = never (cc)
    go (refused g) e q =
        let none : schema_record text ≡ [] = ap (λ (o : Outcome Schema). record_by o (normal text)) e in
        record {
          outcome = J.outcome;
          bytes = ap (λ (x : Cells). x.bytes) R ∙ sym (padded-zeros max_schema_bytes) ∙ ap (padded max_schema_bytes) (sym none);
          size = ap (λ (x : Cells). x.len) R ∙ ap length (sym none);
        }
