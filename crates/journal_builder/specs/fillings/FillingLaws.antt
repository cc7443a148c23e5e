-- What one child more and the end make of an element's content.
use Rattle.std.specs.Prelude.{◌≡◌, refl, ℕ, ◌<◌, length, Option as CodeOption, Some}
use Rattle.std.proofs.Math.Option.{some}
use Rattle.std.proofs.Common.{sym, ap, subst, ◌∙◌}
use Rattle.compiled_schema.specs.entry_parts.Entries.{ends_in}
use Rattle.journal_builder.specs.declared.fillings.Filling.{Filling}
use Rattle.journal_builder.specs.declared.fillings.Filling.TheVariants.{Unfilled, ByText, ByChildren}
use Rattle.journal_builder.specs.declared.journal_schema.JournalSchema.{JournalSchema}
use Rattle.journal_builder.specs.fillings.Fillings.{Modelled, Declared, FillingOf}
use Rattle.journal_builder.specs.journal_schema.Schemas.{entry_of, IsAutomaton, KindOf, KindsOf, ModelEnds, ModelsOf}
use Rattle.journal_spec.specs.Builder.{Filling as Contained, filled_by_children, filling_of, filling_for, with_child, fits_at_end}
use Rattle.models.specs.Automaton.{AutomatonOf}
use Rattle.models.specs.declared.Content.{Content}
use Rattle.models.specs.declared.Content.TheVariants.{Empty, Pcdata, Children}
use Rattle.models.specs.declared.Ends.{Ends}
use Rattle.models.specs.declared.fitting.Automaton.{Automaton}
use Rattle.models.specs.declared.fitting.State.{State}
use Rattle.models.specs.declared.fitting.State.TheVariants.{Start}
use Rattle.models.specs.fitting.Fitting.{step-advances, may_end-complete}
use Rattle.models.specs.fitting.Steps.{Stepped, may_end}
use Rattle.schema_spec.specs.Schemas.{Schema, content_at}
use Rattle.text.specs.lookup.Lookup.{found}

-- nothing yet, in the element e of some content
abbrev pub fresh : ℕ → Content → Filling
fresh e Empty = Unfilled
fresh e Pcdata = ByText e
fresh e (Children ends) = ByChildren e Start

module _ (s : Schema) (t : JournalSchema) where
  -- a new element's content
  fresh-content : (e : ℕ) (c : Content) → e < length s → KindOf (content_at s e) c → FillingOf s (fresh e c) (filling_of e (content_at s e))
  fresh-content e Empty l h = rw h refl
  fresh-content e Pcdata l h = (l, rw h refl)
  fresh-content e (Children ends) l h = record { declared = l; model = h.0; content = h.1; progress = rw h.1 refl }

  pub new-filling : KindsOf s t → (e : ℕ) (o : CodeOption ℕ) (c : Content) → o ≡ Some e → Declared s o → c ≡ (entry_of t e).content → FillingOf s (fresh e c) (filling_for s (found o))
  new-filling k e o c q d h =
      let l = d e (ap found q) in
      subst (λ (y : CodeOption ℕ). FillingOf s (fresh e c) (filling_for s (found y))) (sym q)
      (fresh-content e c l (subst (KindOf (content_at s e)) (sym h) (k.kind e l)))

  module _ (e : ℕ) (state : State) (x : Contained) (h : Modelled s e state x) where
    -- its end
    pub end-decides : ModelEnds s t → (ends : Ends) → ends ≡ ends_in (entry_of t e).content → may_end ends state ≡ fits_at_end x
    end-decides k ends q =
        let a = k.ends e h.declared h.model h.content in
        ap (λ (y : Ends). may_end y state) q
        ∙ may_end-complete h.model _ a.0 a.1 a.2 state
        ∙ sym (ap fits_at_end h.progress)

    module _ (k : ModelsOf s t) (r : Automaton) (own : IsAutomaton (entry_of t e) r) where
      automaton : AutomatonOf h.model r.ends r.elements.now r.predecessors.now
      automaton = rw (own.ends, own.elements, own.predecessors) (k.automata e h.declared h.model h.content)

      -- a child in an element with a model
      pub child-advances : (child : ℕ) (next : State) → Stepped r.ends r.elements.now r.predecessors.now state child next → Modelled s e next (with_child (some child) x)
      child-advances child next st =
          record {
            declared = h.declared;
            model = h.model;
            content = h.content;
            progress = ap (with_child (some child)) h.progress ∙ ap filled_by_children (sym (step-advances h.model _ _ _ automaton state child next st));
          }
