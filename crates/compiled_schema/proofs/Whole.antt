-- The compiled form of a whole text: refused, or accepted with the names that were found in it.
use mathlib.Core.Bool.{Bool, false, true, ◌&&◌}
use mathlib.Core.List.{List, [], map}
use mathlib.Core.Logic.{◌↔◌}
use mathlib.Core.Path.{◌≡◌, refl, sym, ap, subst, ◌∙◌}
use Rattle.std.specs.Prelude.{Ok, Err}
use Prim.Native.Nat.{ℕ}
use native.Mathlib.Omega.{arith}
use lib.Dec.{T, eqb}
use lib.ListN.{length, take, replicate, length-map, get_or-replicate}
use lib.Seq.{take_all}
use Rattle.compiled_schema.proofs.entries.Filling.{unheld-at}
use Rattle.compiled_schema.specs.Compiled.{CompiledOf}
use Rattle.compiled_schema.specs.declared.entries.Elements.{Elements}
use Rattle.compiled_schema.specs.declared.entry_parts.ElementEntry.{ElementEntry}
use Rattle.compiled_schema.specs.element_entry.Reading.{AcceptedWith}
use Rattle.compiled_schema.specs.entries.Entries.{ElementsOf}
use Rattle.compiled_schema.specs.entry_parts.Entries.{EntryOf, empty_entry}
use Rattle.compiled_schema.specs.entry_parts.EntryLaws.{empty-entry}
use Rattle.names.specs.Sets.{member}
use Rattle.names.specs.closures.Relations.{relates, Reachable, NonePast}
use Rattle.names.specs.closures.Schemas.{RelationOf, reachability-is_below, holds-none-past}
use Rattle.names.specs.declared.NameSet.{NameSet}
use Rattle.names.specs.declared.relations.Relations.{Relations}
use Rattle.schema.specs.Judging.{sized, declared_at, JudgedInto}
use Rattle.schema_laws.specs.Accepted.{Spelt, accepted-spelt, accepted-closed}
use Rattle.schema_laws.specs.Closure.{Closed}
use Rattle.schema_spec.specs.Declarations.{Declaration}
use Rattle.schema_spec.specs.Machine.{parse}
use Rattle.schema_spec.specs.Models.{empty}
use Rattle.schema_spec.specs.Names.{Name, element, text as text_name}
use Rattle.schema_spec.specs.Reading.{read_schema}
use Rattle.schema_spec.specs.Records.{schema_in}
use Rattle.schema_spec.specs.Schemas.{Schema, declared_names, resolved, schema_of}
use Rattle.schema_spec.specs.Types.{holds, types_of, is_below}
use Rattle.text.specs.declared.refusals.Refusal.{Refusal}
use Rattle.text.specs.refusals.Refusals.{refusal_in}
use Rattle.text_laws.specs.Cells.{padded-zeros}
use Rattle.text_laws.specs.Tests.{never}
use Rattle.text_spec.specs.Cells.{padded}
use Rattle.text_spec.specs.Limits.{max_declarations}
use Rattle.text_spec.specs.Machines.{Parsed}
use Rattle.text_spec.specs.Refusals.{Outcome, accepted, refused, result_or}
use Rattle.text_spec.specs.Scans.{name_at}

-- what `Relations::of` says of its answer
abbrev pub Below : ℕ → List NameSet → Relations → Type 0
Below n sets r = NonePast n sets → (a : ℕ) (b : Name) → T (relates r.below a b) ↔ Reachable sets n a b

module _ (s : Schema) (closed : Closed s) (n : ℕ) (count : n ≡ length s) (sets : List NameSet) (held : RelationOf (holds s) sets) (r : Relations) where
  below-of : Below n sets r → RelationOf (is_below (types_of s)) r.below
  below-of lies = reachability-is_below s closed sets n (omega arith) held r.below (lies (holds-none-past s n count sets held))

none-held : (a b : Name) → holds [] a b ≡ false
unfolding «holds»
none-held (element a) (element b) = refl
none-held (element a) (text_name b) = pick (eqb a b)
  where
    pick : (t : Bool) → (t && false) ≡ false
    pick false = refl
    pick true = refl
none-held (text_name a) b = refl

pub empty-compiled : (e : ElementEntry) → e ≡ empty_entry → (x : NameSet) → ((n : Name) → member x n ≡ false) → (r : Relations) → r.count ≡ 0 → r.«holds» ≡ replicate max_declarations x
    → Below 0 (replicate max_declarations x) r → (text : List ℕ)
    → CompiledOf text [] (record { names = replicate max_declarations 0; entries = replicate max_declarations e; relations = r })
empty-compiled e q x none r zero same lies text =
    record {
      counted = zero;
      places = sym (padded-zeros max_declarations);
      named = ap (λ (k : ℕ). map (name_at text) (take k (replicate max_declarations 0))) zero;
      entries = record { each = λ a l. subst (EntryOf empty) (sym (get_or-replicate max_declarations a e empty_entry l ∙ q)) empty-entry };
      held = λ a b. ap (λ (sets : List NameSet). relates sets a b) same ∙ held a b;
      beneath = below-of [] (λ a b i. elim i [ ]) 0 refl (replicate max_declarations x) held r lies;
    }
  where
    held : RelationOf (holds []) (replicate max_declarations x)
    held a b = unheld-at x none max_declarations a b ∙ sym (none-held (element a) b)

-- a refused text has the schema with no element
pub refused-schema : (text : List ℕ) (f : Refusal) → read_schema text ≡ refused (refusal_in f) → schema_in text ≡ []
unfolding schema_in
refused-schema text f u = ap (result_or []) u

module _ (text : List ℕ) {names uses : List ℕ} where
  pub refused-read : {f : Refusal} → JudgedInto text names uses (Err f) → read_schema text ≡ refused (refusal_in f)
  refused-read {f} J = pick (read_schema text) J.outcome
    where
      pick : (o : Outcome Schema) → refused (refusal_in f) ≡ sized o → o ≡ refused (refusal_in f)
      pick (accepted s) e = never (cc)
      pick (refused g) e = let h : g ≡ refusal_in f = cc in ap refused h

  module _ {n : ℕ} (J : JudgedInto text names uses (Ok n)) where
    pub schema-read : read_schema text ≡ accepted (schema_in text)
    unfolding schema_in
    schema-read = pick (read_schema text) J.outcome
      where
        pick : (o : Outcome Schema) → accepted n ≡ sized o → o ≡ accepted (result_or [] o)
        pick (accepted s) e = refl
        pick (refused f) e = never (cc)

    pub schema-count : n ≡ length (schema_in text)
    schema-count =
        let z : accepted n ≡ accepted (length (schema_in text)) = J.outcome ∙ ap sized schema-read in
        cc

    pub schema-with : AcceptedWith text uses
    schema-with = record { read = schema-read; elements = (J.located (schema_in text) schema-read).elements }

    -- a place for each element
    places-many : length (declared_at (parse text)) ≡ length (schema_in text)
    unfolding schema_of
    places-many =
        let spelling : Spelt text (schema_in text) = accepted-spelt text (schema_in text) schema-read in
        let ds : List Declaration = spelling.declarations in
        ap (λ (q : Parsed (List Declaration)). length (declared_at q)) spelling.spelt ∙ length-map ds (λ d. d.name.place)
        ∙ sym (length-map ds (resolved (declared_names ds))) ∙ ap length spelling.gives

    -- the entries, and what lies below each element by what each holds
    pub schema-compiled : (t : Elements) (r : Relations) → ElementsOf (schema_in text) t → r.count ≡ n → r.«holds» ≡ t.«holds» → Below n t.«holds» r
        → CompiledOf text (schema_in text) (record { names = names; entries = t.entries; relations = r })
    schema-compiled t r made counted same lies =
        let count = schema-count in
        let located = J.located (schema_in text) schema-read in
        let many = places-many in
        record {
          counted = counted ∙ count;
          places = located.places ∙ ap (padded max_declarations) (sym (take_all (length (schema_in text)) (declared_at (parse text)) (omega arith)));
          named = ap (λ (k : ℕ). map (name_at text) (take k names)) (counted ∙ count) ∙ located.named;
          entries = made.entries;
          held = λ a b. ap (λ (sets : List NameSet). relates sets a b) same ∙ made.held a b;
          beneath = below-of (schema_in text) (accepted-closed text (schema_in text) schema-read) n count t.«holds» made.held r lies;
        }
