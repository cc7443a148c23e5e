-- The call that selects from an extract, by its stages.
use Rattle.std.specs.Prelude.{List, [], ◌≡◌, refl, ℕ, true, false, Result, Ok, Err, leb, length}
use Rattle.std.proofs.Common.{sym, ap, ◌∙◌, leb→le}
use Rattle.cells.specs.columns.ColumnLaws.{equal-columns}
use Rattle.compiled_paths.specs.Paths.{paths_in}
use Rattle.host_selecting.specs.accepted.Choosing.{EverySchema, UnderSchema}
use Rattle.hosts.specs.declared.results.HostResult.{HostResult}
use Rattle.hosts.specs.declared.texts.Texts.{Texts}
use Rattle.hosts.specs.laws.Stages.{chosen_under, select-unequal, select-out, select-refused, select-accepted}
use Rattle.hosts.specs.results.Exits.{lent_of, result_for, Exits, same-exit}
use Rattle.hosts.specs.results.Settled.{refused-out}
use Rattle.hosts.specs.texts.Texts.{TextsTaken, TextsJudged, range_of, range-is}
use Rattle.library_spec.specs.Hosts.{Lent, bundle_paths, in_range, select_from}
use Rattle.table_spec.specs.Columns.{Columns, columns_of, sizes_of, equal_sizes}
use Rattle.text.specs.declared.refusals.Reason.TheVariants.{BadRecord}
use Rattle.text.specs.declared.refusals.Refusal.{Refusal}
use Rattle.text.specs.refusals.Refusals.{refusal, refusal_in}
use Rattle.text_laws.specs.Tests.{passed}
use Rattle.text_spec.specs.Cells.{padded}
use Rattle.text_spec.specs.Refusals.{refused}

-- ---- definitions
-- before the extract is read: columns of one length, a place that the bundle has and both texts compiled, or what the call answers whatever the
-- extract
abbrev pub CallBy : List ℕ → List ℕ → ℕ → Columns → Result Texts Refusal → Type 0
CallBy schema bundle place c (Ok t) = TextsTaken schema bundle t × (equal_sizes (sizes_of c) ≡ true) × (in_range place (bundle_paths schema bundle) ≡ true)
CallBy schema bundle place c (Err f) = (extract : List ℕ) (l : Lent) → l.columns ≡ sizes_of c → select_from schema bundle place extract l ≡ refused (refusal_in f)

pub record CallJudged (schema bundle : List ℕ) (place : ℕ) (c : Columns) (r : Result Texts Refusal) : Type 0 where
  pub says : CallBy schema bundle place c r

-- ---- laws
module _ (schema bundle : List ℕ) (place : ℕ) (c : Columns) where
  -- columns of unequal length
  pub unequal-call : false ≡ equal_sizes (sizes_of c) → CallJudged schema bundle place c (Err (refusal BadRecord 0))
  unequal-call e = record { says = λ extract l z. select-unequal schema bundle place extract l (ap equal_sizes z ∙ sym e) }

  module _ (same-sizes : true ≡ equal_sizes (sizes_of c)) (r : Result Texts Refusal) (judged : TextsJudged schema bundle r) where
    -- a place that the bundle does not have
    pub out-call : false ≡ range_of place r → CallJudged schema bundle place c (Err (refusal BadRecord 0))
    out-call e =
        record { says = λ extract l z. select-out schema bundle place extract l (ap equal_sizes z ∙ sym same-sizes) (sym (e ∙ range-is schema bundle place r judged)) }

    -- the texts in turn
    pub texts-call : true ≡ range_of place r → CallJudged schema bundle place c r
    texts-call inside = pick r judged (sym (inside ∙ range-is schema bundle place r judged))
      where
        pick : (x : Result Texts Refusal) → TextsJudged schema bundle x → in_range place (bundle_paths schema bundle) ≡ true → CallJudged schema bundle place c x
        pick (Ok t) J i = record { says = (J.says, sym same-sizes, i) }
        pick (Err f) J i = record { says = λ extract l z. select-refused schema bundle place extract l (ap equal_sizes z ∙ sym same-sizes) i (refusal_in f) J.says }

  -- what the later stages ask for
  pub under-schema : (t : Texts) → CallBy schema bundle place c (Ok t) → UnderSchema t place c
  under-schema t h =
      record {
        schema = schema;
        read = h.0.read;
        made = h.0.compiled;
        shaped = h.0.shaped;
        inside = leb→le place t.paths.count (passed (ap (leb place) h.0.counted ∙ sym (ap (in_range place) h.0.paths-are) ∙ h.2));
        equal = equal-columns c (passed h.1);
      }

  module _ (extract items counts : List ℕ) {d : Columns} {items' counts' : List ℕ} where
    pub refused-call : (f : Refusal) → CallBy schema bundle place c (Err f) → d ≡ columns_of (sizes_of c) [] → items' ≡ padded (length items) [] → counts' ≡ padded (length counts) []
        → Exits (select_from schema bundle place extract (lent_of c items counts)) (lent_of c items counts) (result_for (Err f)) d items' counts'
    refused-call f h p q n = refused-out f (h extract (lent_of c items counts) refl) p q n

    pub accepted-call : (t : Texts) → CallBy schema bundle place c (Ok t) → {r : HostResult}
        → EverySchema t.schema (λ s. Exits (chosen_under s (paths_in t.paths) place extract (lent_of c items counts)) (lent_of c items counts) r d items' counts')
        → Exits (select_from schema bundle place extract (lent_of c items counts)) (lent_of c items counts) r d items' counts'
    accepted-call t h e =
        same-exit (select-accepted schema bundle place extract (lent_of c items counts) h.1 h.2 (paths_in t.paths) h.0.paths-are) (e schema h.0.read h.0.compiled)
