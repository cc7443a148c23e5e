-- Laws of filling the entries one by one.
use Rattle.std.proofs.Common.{⊎_elim, ℕ, zero, suc, ◌+◌, ◌≤◌, ◌<◌, ◌≡◌, false, List, [], ◌∷◌, refl, sym, ap, subst, ◌∙◌, arith, length, set, replicate, length-set, get_or-set_same, get_or-set_other}
use Rattle.std.proofs.lemmas.List.{length-replicate}
use Rattle.std.proofs.Math.ListN.{get_or-replicate}
use Rattle.std.proofs.Math.Nat.{eq-or-lt_of_le}
use Rattle.compiled_schema.specs.declared.element_entry.DeclaredElement.{DeclaredElement}
use Rattle.compiled_schema.specs.declared.entry_parts.ElementEntry.{ElementEntry}
use Rattle.compiled_schema.specs.element_entry.Reading.{EntryMade}
use Rattle.compiled_schema.specs.entries.Entries.{entry_at, ElementsOf}
use Rattle.compiled_schema.specs.entry_parts.Entries.{EntryOf, empty_entry}
use Rattle.compiled_schema.specs.entry_parts.EntryLaws.{empty-entry}
use Rattle.names.specs.SetLaws.{nothing-in}
use Rattle.names.specs.Sets.{member, nothing}
use Rattle.names.specs.closures.Relations.{relates}
use Rattle.names.specs.declared.NameSet.{NameSet}
use Rattle.schema_laws.specs.Closure.{holder_in}
use Rattle.schema_laws.specs.Names.{in-element}
use Rattle.schema_spec.specs.Models.{Content, empty}
use Rattle.schema_spec.specs.Names.{Name, element}
use Rattle.schema_spec.specs.Records.{schema_in}
use Rattle.schema_spec.specs.Schemas.{Schema, content_at}
use Rattle.schema_spec.specs.Types.{holds}
use Rattle.text_laws.specs.Searches.{below-or-past}
use Rattle.text_laws.specs.Tests.{false_of}
use Rattle.text_spec.specs.Limits.{max_declarations}

-- the first n entries are those of the schema, and the others are zeros
pub record Filled (s : Schema) (n : ℕ) (entries : List ElementEntry) (sets : List NameSet) : Type 0 where
  pub made : (a : ℕ) → a < n → EntryOf (content_at s a) (entry_at entries a)
  pub held : (a : ℕ) → a < n → (b : Name) → relates sets a b ≡ holds s (element a) b
  pub clear : (a : ℕ) → n ≤ a → a < max_declarations → entry_at entries a ≡ empty_entry
  pub unheld : (a : ℕ) → n ≤ a → (b : Name) → relates sets a b ≡ false
  pub long : length entries ≡ max_declarations
  pub wide : length sets ≡ max_declarations

-- a relation of empty sets relates nothing
pub unheld-at : (x : NameSet) → ((n : Name) → member x n ≡ false) → (n a : ℕ) (b : Name) → relates (replicate n x) a b ≡ false
unheld-at x none zero a b = nothing-in b
unheld-at x none (suc n) zero b = none b
unheld-at x none (suc n) (suc a) b = unheld-at x none n a b

pub filled-first : (s : Schema) (e : ElementEntry) → e ≡ empty_entry → (x : NameSet) → ((n : Name) → member x n ≡ false) → Filled s 0 (replicate max_declarations e) (replicate max_declarations x)
filled-first s e q x none =
    record {
      made = λ a l. absurd (omega arith);
      held = λ a l b. absurd (omega arith);
      clear = λ a l h. get_or-replicate max_declarations a e empty_entry h ∙ q;
      unheld = λ a l b. unheld-at x none max_declarations a b;
      long = length-replicate max_declarations e;
      wide = length-replicate max_declarations x;
    }

module _ (text uses : List ℕ) (d n : ℕ) (entries : List ElementEntry) (sets : List NameSet) (x : DeclaredElement) (small : d < max_declarations) (filled : Filled (schema_in text) d entries sets) (made : EntryMade text uses d n x) where
  other : (a : ℕ) → (a ≡ d → ⊥) → entry_at (set entries d x.entry) a ≡ entry_at entries a
  other a o = get_or-set_other entries d a x.entry empty_entry o

  at_most : (a : ℕ) → a < d + 1 → a ≤ d
  at_most a l = omega arith

  pub filled_next : Filled (schema_in text) (d + 1) (set entries d x.entry) (set sets d x.«holds»)
  filled_next =
      let l = filled.long in
      let w = filled.wide in
      record {
        made =
            λ a h.
            ⊎_elim
            (λ e. subst (λ (k : ℕ). EntryOf (content_at (schema_in text) k) (entry_at (set entries d x.entry) k)) (sym e)
            (subst (EntryOf (content_at (schema_in text) d)) (sym (get_or-set_same entries d x.entry empty_entry (omega arith))) made.entry))
            (λ g. subst (EntryOf (content_at (schema_in text) a)) (sym (other a (λ e. omega arith))) (filled.made a g)) (eq-or-lt_of_le (at_most a h));
        held =
            λ a h b.
            ⊎_elim
            (λ e. subst (λ (k : ℕ). relates (set sets d x.«holds») k b ≡ holds (schema_in text) (element k) b) (sym e)
            (ap (λ (y : NameSet). member y b) (get_or-set_same sets d x.«holds» nothing (omega arith)) ∙ made.held b))
            (λ g. ap (λ (y : NameSet). member y b) (get_or-set_other sets d a x.«holds» nothing (λ e. omega arith)) ∙ filled.held a g b) (eq-or-lt_of_le (at_most a h));
        clear = λ a h g. other a (λ e. omega arith) ∙ filled.clear a (omega arith) g;
        unheld =
            λ a h b.
            ap (λ (y : NameSet). member y b) (get_or-set_other sets d a x.«holds» nothing (λ e. omega arith)) ∙ filled.unheld a (omega arith) b;
        long = length-set entries d x.entry ∙ l;
        wide = length-set sets d x.«holds» ∙ w;
      }

-- an element past the last has no content
content-past : (s : Schema) (a : ℕ) → length s ≤ a → content_at s a ≡ empty
content-past [] a l = refl
content-past (e ∷ s) zero l = absurd (omega arith)
content-past (e ∷ s) (suc a) l = content-past s a (omega arith)

-- all entries are filled
pub filled-all : (s : Schema) (n : ℕ) (entries : List ElementEntry) (sets : List NameSet) → n ≡ length s → Filled s n entries sets → ElementsOf s (record { entries = entries; «holds» = sets })
filled-all s n entries sets count filled =
    record {
      entries =
          record {
            each =
                λ a l.
                ⊎_elim (filled.made a)
                (λ past. subst (λ (c : Content ℕ). EntryOf c (entry_at entries a)) (sym (content-past s a (omega arith))) (subst (EntryOf empty) (sym (filled.clear a past l)) empty-entry))
                (below-or-past a n);
          };
      held = λ a b. ⊎_elim (λ l. filled.held a l b) (λ past. filled.unheld a past b ∙ sym (none a b past)) (below-or-past a n);
    }
  where
    none : (a : ℕ) (b : Name) → n ≤ a → holds s (element a) b ≡ false
    none a b past =
        false_of (holds s (element a) b) (λ t.
        let l = in-element s a (holder_in s (element a) b t) in
        omega arith)
