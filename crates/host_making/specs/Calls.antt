-- The call that makes an extract, by its stages.
use Rattle.std.specs.Prelude.{List, [], ◌≡◌, refl, ℕ, true, false, Result, Ok, Err, length}
use Rattle.std.proofs.Common.{sym, ap, ◌∙◌}
use Rattle.cells.specs.columns.ColumnLaws.{equal-columns}
use Rattle.compiled_paths.specs.Paths.{paths_in}
use Rattle.host_making.specs.accepted.Making.{UnderTexts}
use Rattle.hosts.specs.declared.results.HostResult.{HostResult}
use Rattle.hosts.specs.declared.texts.Texts.{Texts}
use Rattle.hosts.specs.laws.Stages.{made_under, make-unequal, make-refused, make-accepted}
use Rattle.hosts.specs.results.Exits.{lent_of, result_for, Exits, same-exit}
use Rattle.hosts.specs.results.Settled.{refused-out}
use Rattle.hosts.specs.texts.Texts.{TextsTaken, TextsJudged}
use Rattle.library_spec.specs.Hosts.{Lent, make_extract}
use Rattle.schema_spec.specs.Records.{schema_in}
use Rattle.table_spec.specs.Columns.{Columns, columns_of, sizes_of, equal_sizes}
use Rattle.text.specs.declared.refusals.Reason.TheVariants.{BadRecord}
use Rattle.text.specs.declared.refusals.Refusal.{Refusal}
use Rattle.text.specs.refusals.Refusals.{refusal, refusal_in}
use Rattle.text_laws.specs.Tests.{passed}
use Rattle.text_spec.specs.Cells.{padded}
use Rattle.text_spec.specs.Refusals.{refused}

-- ---- definitions
-- before the journal is read: columns of one length and both texts compiled, or what the call answers whatever the journal
abbrev pub CallBy : List ℕ → List ℕ → Columns → Result Texts Refusal → Type 0
CallBy schema bundle c (Ok t) = TextsTaken schema bundle t × (equal_sizes (sizes_of c) ≡ true)
CallBy schema bundle c (Err f) = (journal : List ℕ) (l : Lent) → l.columns ≡ sizes_of c → make_extract schema bundle journal l ≡ refused (refusal_in f)

pub record CallJudged (schema bundle : List ℕ) (c : Columns) (r : Result Texts Refusal) : Type 0 where
  pub says : CallBy schema bundle c r

-- ---- laws
module _ (schema bundle : List ℕ) (c : Columns) where
  -- columns of unequal length
  pub unequal-call : false ≡ equal_sizes (sizes_of c) → CallJudged schema bundle c (Err (refusal BadRecord 0))
  unequal-call e = record { says = λ journal l z. make-unequal schema bundle journal l (ap equal_sizes z ∙ sym e) }

  -- the texts in turn
  pub texts-call : true ≡ equal_sizes (sizes_of c) → (r : Result Texts Refusal) → TextsJudged schema bundle r → CallJudged schema bundle c r
  texts-call e (Ok t) J = record { says = (J.says, sym e) }
  texts-call e (Err f) J = record { says = λ journal l z. make-refused schema bundle journal l (ap equal_sizes z ∙ sym e) (refusal_in f) J.says }

  -- what the later stages ask for
  pub under-texts : (t : Texts) → CallBy schema bundle c (Ok t) → UnderTexts schema t c
  under-texts t h = record { read = h.0.read; made = h.0.compiled; shaped = h.0.shaped; equal = equal-columns c (passed h.1) }

  module _ (journal was : List ℕ) {d : Columns} {out : List ℕ} where
    pub refused-call : (f : Refusal) → CallBy schema bundle c (Err f) → d ≡ columns_of (sizes_of c) [] → out ≡ padded (length was) []
        → Exits (make_extract schema bundle journal (lent_of c was [])) (lent_of c was []) (result_for (Err f)) d out []
    refused-call f h p q = refused-out f (h journal (lent_of c was []) refl) p q refl

    pub accepted-call : (t : Texts) → CallBy schema bundle c (Ok t) → {r : HostResult} → Exits (made_under (schema_in schema) (paths_in t.paths) journal (sizes_of c) (length was)) (lent_of c was []) r d out []
        → Exits (make_extract schema bundle journal (lent_of c was [])) (lent_of c was []) r d out []
    accepted-call t h e = same-exit (make-accepted schema bundle journal (lent_of c was []) h.1 refl (paths_in t.paths) h.0.paths-are) e
