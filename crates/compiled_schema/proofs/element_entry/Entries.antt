-- The entry of an element, from the declaration that was read.
use mathlib.Core.List.{List, ◌++◌}
use mathlib.Core.Logic.{⊎_elim}
use mathlib.Core.Path.{◌≡◌, refl, sym, ap, subst, ◌∙◌}
use Rattle.std.specs.Prelude.{Result, Ok, Err}
use Prim.Native.Nat.{ℕ, ◌+◌, ◌-◌, ◌≤◌, ◌<◌}
use native.Mathlib.Omega.{arith}
use lib.ListN.{length, take, drop, get_or, replicate, length-map, length-replicate}
use lib.Seq.{sets, sets-eq}
use Rattle.compiled_schema.proofs.element_entry.Reading.{index, departs-not, model-within, model-cells, model-small, cell-small, element-small, content-here, model-size, uses-few, at_next}
use Rattle.compiled_schema.specs.element_entry.Reading.{AtDeclaration, EntryMade}
use Rattle.compiled_schema.specs.entry_parts.Entries.{EntryOf, is_held}
use Rattle.compiled_schema.specs.entry_parts.EntryLaws.{clear-bit, is_held-holds}
use Rattle.models.specs.PositionLaws.{not-next}
use Rattle.models.specs.Positions.{size}
use Rattle.models.specs.declared.Content.{Content as ContentRead}
use Rattle.names.specs.Sets.{member}
use Rattle.names.specs.declared.NameSet.{NameSet}
use Rattle.schema.specs.contents.Contents.{ContentBuilt, built-empty, built-pcdata, built-children}
use Rattle.schema.specs.declarations.Declarations.{DeclarationRead, Declared}
use Rattle.schema.specs.declared.declarations.DeclarationEnd.{DeclarationEnd}
use Rattle.schema.specs.particles.Readings.{use_at}
use Rattle.schema_laws.specs.Accepted.{uses_in-rename}
use Rattle.schema_spec.specs.Declarations.{Use, Declaration}
use Rattle.schema_spec.specs.Models.{Content, children, uses, uses_in, rename_in, rename_content}
use Rattle.schema_spec.specs.Names.{Name}
use Rattle.schema_spec.specs.Records.{schema_in}
use Rattle.schema_spec.specs.Schemas.{content_at, model_at}
use Rattle.text.specs.scanning.Outcomes.{Skipped}
use Rattle.text_laws.specs.Cells.{drop-replicate, padded-content}
use Rattle.text_laws.specs.Searches.{below-or-past}
use Rattle.text_spec.specs.Cells.{padded}
use Rattle.text_spec.specs.Limits.{max_model_names}

-- ---- cells
-- cells that were 0, after the first are set
set-padded : (n : ℕ) (cells vs : List ℕ) → cells ≡ replicate n 0 → length vs ≤ n → sets cells 0 vs ≡ padded n vs
set-padded n cells vs e h =
    let long : length cells ≡ n = ap length e ∙ length-replicate {A = ℕ} n 0 in
    sets-eq vs cells 0 (omega arith)
    ∙ ap (λ (l : List ℕ). vs ++ l) (ap (drop (0 + length vs)) e ∙ drop-replicate (0 + length vs) n 0 ∙ ap (λ (k : ℕ). replicate (n - k) 0) (let z : 0 + length vs ≡ length vs = omega arith in z))
    ∙ sym (padded-content n vs h)

-- ---- what was built of a content is its entry
module _ {before after : List ℕ} (clear : before ≡ replicate max_model_names 0) (f : Use → ℕ) {elements : List ℕ} where
  entry-built : {content : Content Use} {c : ContentRead} → ContentBuilt before after content c → length (uses_in content) ≤ max_model_names → elements ≡ padded max_model_names (uses_in (rename_content f content))
      → EntryOf (rename_content f content) (record { content = c; size = length (uses_in content); elements = elements; predecessors = after })
  entry-built (built-empty e) l cells =
      record {
        few = l;
        content = refl;
        size = refl;
        elements = cells;
        room = ap length e ∙ ap length clear;
        next = λ i j h. clear-bit max_model_names (e ∙ clear) i j;
      }
  entry-built (built-pcdata e) l cells =
      record {
        few = l;
        content = refl;
        size = refl;
        elements = cells;
        room = ap length e ∙ ap length clear;
        next = λ i j h. clear-bit max_model_names (e ∙ clear) i j;
      }
  entry-built (built-children {p = tree} {e = e} b) l cells =
      let n : length before ≡ max_model_names = ap length clear in
      let many : length (uses (rename_in f tree)) ≡ length (uses tree) = ap length (uses_in-rename f (children tree)) ∙ length-map (uses tree) f in
      let r = b.right (omega arith) (omega arith) (λ i j h. clear-bit max_model_names clear i j) f in
      record {
        few = omega arith;
        content = (rename_in f tree, refl, r.ends);
        size = sym many;
        elements = cells;
        room = b.long ∙ n;
        next =
            λ i j h.
            ⊎_elim (λ below. r.linked i j h (omega arith) (omega arith))
            (λ past. r.clear i j (omega arith) ∙ sym (not-next 0 (rename_in f tree) j (λ within. omega (arith, within.1)) i)) (below-or-past j (size (rename_in f tree)));
      }

module _ {text uses : List ℕ} {d n i : ℕ} (A : AtDeclaration text uses d n i) {cells cells' before after : List ℕ} {r : Result DeclarationEnd ℕ} (D : Declared text i 0 cells cells' before after r) where
  pub entry-fails : {j : ℕ} → r ≡ Err j → ⊥
  entry-fails u = departs-not A ((subst (Declared text i 0 cells cells' before after) u D).says A.done)

  module _ {p : DeclarationEnd} (u : r ≡ Ok p) where
    read : DeclarationRead text i 0 cells cells' before after p
    read = (subst (Declared text i 0 cells cells' before after) u D).says

    abbrev here : Declaration
    here = record { place = i; name = use_at text p.name; content = read.content }

    -- as many names are used as the model has positions
    counted : p.n ≡ length (uses_in read.content)
    counted =
        let a = read.noted.counted in
        let b : length (uses_in read.content) ≡ length read.noted.places = ap length read.noted.names ∙ length-map read.noted.places (use_at text) in
        omega arith

    sized : length (model_at (schema_in text) d) ≡ p.n
    sized = model-size A here p.at (read.same A.done) ∙ sym counted

    pub entry-few : p.n ≤ max_model_names
    entry-few =
        let a = uses-few A here p.at (read.same A.done) in
        let b = counted in
        omega arith

    pub entry-high : p.at ≤ length text
    entry-high = read.high

    module _ (l : d < length (schema_in text)) where
      -- its elements are lent
      pub entry-within : n + p.n ≤ length uses
      entry-within =
          let a = model-within A l in
          let b = sized in
          omega arith

      module _ (model : List ℕ) (lent : model ≡ take (n + p.n - n) (drop n uses)) where
        pub entry-model : model ≡ model_at (schema_in text) d
        entry-model =
            let e : n + p.n - n ≡ length (model_at (schema_in text) d) = (let b = sized in omega arith) in
            lent ∙ ap (λ (k : ℕ). take k (drop n uses)) e ∙ model-cells A l

        pub entry-small : (j : ℕ) → j < length model → get_or model j 0 < 256
        entry-small j h =
            let a = cell-small A model entry-model j h in
            omega arith

        pub entry_length : length model ≡ p.n
        entry_length = ap length entry-model ∙ sized

        pub entry-made : before ≡ replicate max_model_names 0 → {start elements : List ℕ} → start ≡ replicate max_model_names 0 → elements ≡ sets start 0 model
            → {k : ℕ} {set : NameSet} → ((m : Name) → member set m ≡ is_held d p.content model m) → Skipped text p.at k
            → EntryMade text uses d n (record { entry = record { content = p.content; size = p.n; elements = elements; predecessors = after }; «holds» = set; next = k })
        entry-made clear {start} {elements} zeros copied {k} {set} eh K =
            record {
              next = at_next A here p.at (read.same A.done) l p.n counted K;
              entry = entry-here;
              held =
                  λ m.
                  let s = element-small A l in
                  eh m ∙ is_held-holds (schema_in text) d p.content model (omega arith) entry-here.content entry-model (λ b h. let t = model-small A b h in omega arith) m;
            }
          where
            here-content : content_at (schema_in text) d ≡ rename_content (index A) read.content
            here-content = content-here A here p.at (read.same A.done)

            cells-here : elements ≡ padded max_model_names (uses_in (rename_content (index A) read.content))
            cells-here =
                let f = entry-few in
                let e = entry_length in
                copied ∙ set-padded max_model_names start model zeros (omega arith) ∙ ap (padded max_model_names) (entry-model ∙ ap uses_in here-content)

            entry-here : EntryOf (content_at (schema_in text) d) (record { content = p.content; size = p.n; elements = elements; predecessors = after })
            entry-here =
                subst (λ (c : Content ℕ). EntryOf c (record { content = p.content; size = p.n; elements = elements; predecessors = after })) (sym here-content)
                (subst (λ (m : ℕ). EntryOf (rename_content (index A) read.content) (record { content = p.content; size = m; elements = elements; predecessors = after })) (sym counted)
                (entry-built clear (index A) read.built (uses-few A here p.at (read.same A.done)) cells-here))
