-- What a bundle text needs under a schema text, and that the compiled forms of both give it.
use Rattle.std.specs.Prelude.{map, ◌≡◌, ℕ, ◌^◌, Result, Ok, Err}
use mathlib.Core.List.{List, [], ◌∷◌}
use Rattle.std.proofs.Common.{refl, sym, ap, ◌∙◌}
use Rattle.bundle.specs.Judging.{outcome_of, JudgedUnder}
use Rattle.compiled_paths.specs.Paths.{paths_in}
use Rattle.compiled_paths.specs.declared.CompiledPaths.{CompiledPaths}
use Rattle.compiled_schema.specs.Compiled.{CompiledOf}
use Rattle.compiled_schema.specs.Places.{names_at}
use Rattle.compiled_schema.specs.declared.CompiledSchema.{CompiledSchema}
use Rattle.inference.specs.relations.Compiled.{compiled-needed-word}
use Rattle.inference_spec.specs.Needed.{needed, needed_word}
use Rattle.names.specs.Sets.{set_of, every_name}
use Rattle.names.specs.declared.NameSet.{NameSet}
use Rattle.needed_names.specs.Words.{word-of-known}
use Rattle.needed_names.specs.sets.Needs.{NeededIn}
use Rattle.path_spec.specs.Reading.{read_bundle}
use Rattle.schema_spec.specs.Names.{Name, Names, within, code_of, sum_of, word_of_set}
use Rattle.schema_spec.specs.Reading.{read_schema}
use Rattle.schema_spec.specs.Records.{schema_in}
use Rattle.schema_spec.specs.Types.{Types, types_of}
use Rattle.text.specs.declared.refusals.Refusal.{Refusal}
use Rattle.text_spec.specs.Refusals.{accepted, result_or}

-- the bits are those of the bundle in a text, under the schema in an accepted text
unfoldable pub NeededBy : List ℕ → List ℕ → ℕ → Type 0
NeededBy schema text r = read_schema schema ≡ accepted (schema_in schema) → r ≡ needed_word (types_of (schema_in schema)) (result_or [] (read_bundle (schema_in schema) text))

no-names : (names : Names) → within names [] ≡ []
no-names [] = refl
no-names (n ∷ names) = no-names names

-- no path needs a name
needs-nothing : (s : Types) → needed_word s [] ≡ 0
unfolding needed_word needed word_of_set
needs-nothing s =
    ap (λ (l : Names). sum_of (map (λ (n : Name). 2 ^ code_of n) (within s.names l))) (no-names s.names)
    ∙ ap (λ (l : Names). sum_of (map (λ (n : Name). 2 ^ code_of n) l)) (no-names s.names)

module _ (schema text : List ℕ) (t : CompiledSchema) (made : CompiledOf schema (schema_in schema) t) (r : Result CompiledPaths Refusal) (judged : JudgedUnder (names_at schema t) text r) where
  paths-judged : (q : Result CompiledPaths Refusal) → r ≡ q → result_or [] (outcome_of q) ≡ result_or [] (read_bundle (schema_in schema) text)
  paths-judged q e = ap (λ (x : Result CompiledPaths Refusal). result_or [] (outcome_of x)) (sym e) ∙ ap (result_or []) (judged.under (schema_in schema) made.named).outcome

  pub judged-needed : (c : CompiledPaths) → r ≡ Ok c → (x : NameSet) → NeededIn t c x → (word : ℕ) → word ≡ word_of_set every_name (set_of every_name x) → NeededBy schema text word
  unfolding NeededBy needed_word types_of
  judged-needed c ok x need word e read =
      compiled-needed-word schema (schema_in schema) read t made c word
      (λ q k. let is = need.under q k in e ∙ word-of-known q k.small x (needed (types_of q) (paths_in c)) is.1 is.0)
      ∙ ap (needed_word (types_of (schema_in schema))) (paths-judged (Ok c) ok)

  pub refused-needed : (f : Refusal) → r ≡ Err f → NeededBy schema text 0
  unfolding NeededBy
  refused-needed f err read = sym (ap (needed_word (types_of (schema_in schema))) (sym (paths-judged (Err f) err)) ∙ needs-nothing (types_of (schema_in schema)))
