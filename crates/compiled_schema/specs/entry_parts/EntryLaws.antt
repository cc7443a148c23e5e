-- Laws of entries: that of EMPTY is zeros, and that of a children model is its position automaton.
use Rattle.std.specs.Prelude.{Bool, false, ◌&&◌, ◌||◌, ◌≡◌, refl, ℕ, zero, suc, ◌≤◌, ◌<◌, eqb, ltb, length, take, get_or, replicate}
use Rattle.std.proofs.Math.Bool.{and-true}
use mathlib.Core.List.Memᴰ.{head as here}
use mathlib.Core.List.Memᴰ.{tail as there}
use mathlib.Core.List.{List, [], ◌∷◌, Memᴰ as In}
use Rattle.std.proofs.Common.{sym, ap, ap₂, subst, ◌∙◌, arith, lt-ltb, length-take-le, get_or-take}
use Rattle.std.proofs.lemmas.List.{length-replicate}
use Rattle.compiled_schema.specs.declared.entry_parts.ElementEntry.{ElementEntry}
use Rattle.compiled_schema.specs.entry_parts.Entries.{ContentOf, EntryOf, empty_entry, ends_in, is_text, is_held}
use Rattle.models.specs.Automaton.{AutomatonOf}
use Rattle.models.specs.Building.{EndsOf}
use Rattle.models.specs.PositionLaws.{size-uses}
use Rattle.models.specs.declared.Content.{Content as ContentRead}
use Rattle.models.specs.declared.Content.TheVariants.{Empty, Pcdata, Children}
use Rattle.names.specs.bits.Bits.{bit-none}
use Rattle.schema_spec.specs.Models.{Particle, Content, empty, children, uses, uses_in}
use Rattle.schema_spec.specs.Names.{Name, element, text, has_bit}
use Rattle.schema_spec.specs.Schemas.{Schema, content_at, model_at, is_pcdata}
use Rattle.schema_spec.specs.Types.{holds}
use Rattle.text_laws.specs.Cells.{padded-length, padded-take, padded-zeros}
use Rattle.text_laws.specs.Tests.{never, eqb-sym}
use Rattle.text_spec.specs.Limits.{max_model_names}
use Rattle.text_spec.specs.Lists.{any_of}

-- cells that are 0 have no bit
pub clear-bit : (n : ℕ) {cells : List ℕ} → cells ≡ replicate n 0 → (i j : ℕ) → has_bit (get_or cells j 0) i ≡ false
clear-bit n e i j = ap (λ (t : List ℕ). has_bit (get_or t j 0) i) e ∙ ap (λ (w : ℕ). has_bit w i) (cell n j) ∙ bit-none i
  where
    cell : (n j : ℕ) → ◌≡◌ {A = ℕ} (get_or (replicate n 0) j 0) 0
    cell zero j = refl
    cell (suc n) zero = refl
    cell (suc n) (suc j) = cell n j

pub empty-entry : EntryOf empty empty_entry
empty-entry =
    record {
      few = omega arith;
      content = refl;
      size = refl;
      elements = sym (padded-zeros max_model_names);
      room = length-replicate {A = ℕ} max_model_names 0;
      next = λ i j l. clear-bit max_model_names refl i j;
    }

pub entry-size : {c : Content ℕ} {x : ElementEntry} → EntryOf c x → x.size ≤ max_model_names
entry-size E =
    let a = E.few in
    let b = E.size in
    omega arith

-- there are cells for as many positions as a model may have
pub entry-room : {c : Content ℕ} {x : ElementEntry} → EntryOf c x → (length x.elements ≡ max_model_names) × (length x.predecessors ≡ max_model_names)
entry-room {c = c} E = (ap length E.elements ∙ padded-length max_model_names (uses_in c), E.room)

-- where a children model may begin and end
children-ends : (p : Particle ℕ) (k : ContentRead) → ContentOf (children p) k → EndsOf 0 p (ends_in k)
children-ends p Empty e = never (cc)
children-ends p Pcdata e = never (cc)
children-ends p (Children e) (q, f, E) =
    let g : q ≡ p = cc in
    subst (λ (r : Particle ℕ). EndsOf 0 r e) g E

-- the cells of its own positions
pub entry-automaton : {c : Content ℕ} {x : ElementEntry} → EntryOf c x → (p : Particle ℕ) → c ≡ children p
    → AutomatonOf p (ends_in x.content) (take x.size x.elements) (take x.size x.predecessors)
entry-automaton {x = x} E p e = made (subst (λ (d : Content ℕ). EntryOf d x) e E)
  where
    made : EntryOf (children p) x → AutomatonOf p (ends_in x.content) (take x.size x.elements) (take x.size x.predecessors)
    made F =
        let ends = children-ends p x.content F.content in
        let few = F.few in
        let n = size-uses p in
        let m = F.size in
        let long = (entry-room F).0 in
        let deep = F.room in
        let a = length-take-le x.size x.elements (omega arith) in
        let b = length-take-le x.size x.predecessors (omega arith) in
        let own : take x.size x.elements ≡ uses p = ap₂ take m F.elements ∙ padded-take max_model_names (uses p) few in
        record {
          few = omega arith;
          room = (omega arith, omega arith);
          named = λ j l. ap (λ (us : List ℕ). get_or us j 0) own;
          first = λ j l. ends.first j (omega arith);
          last = ends.last;
          next = λ i j l h. ap (λ (w : ℕ). has_bit w i) (get_or-take x.size x.predecessors j 0 (omega arith)) ∙ F.next i j l;
          absent = ends.absent;
        }

-- ---- what an element holds
any_same : (f g : ℕ → Bool) (xs : List ℕ) → ((x : ℕ) → In x xs → f x ≡ g x) → any_of f xs ≡ any_of g xs
any_same f g [] h = refl
any_same f g (x ∷ xs) h = ap₂ ◌||◌ (h x (here refl)) (any_same f g xs (λ y i. h y (there i)))

content-text : (d : Content ℕ) (c : ContentRead) → ContentOf d c → is_text c ≡ is_pcdata d
content-text d Empty e = sym (ap is_pcdata e)
content-text d Pcdata e = sym (ap is_pcdata e)
content-text d (Children e) (p, f, E) = sym (ap is_pcdata f)

-- what is made from an element's content and the elements of its model is what it holds
pub is_held-holds : (s : Schema) (a : ℕ) (c : ContentRead) (elements : List ℕ) → a < 64 → ContentOf (content_at s a) c → elements ≡ model_at s a
    → ((b : ℕ) → In b (model_at s a) → b < 64) → (n : Name) → is_held a c elements n ≡ holds s (element a) n
unfolding holds
is_held-holds s a c elements l k e small (element b) =
    ap (any_of (λ x. eqb b x && ltb x 64)) e
    ∙ any_same (λ x. eqb b x && ltb x 64) (eqb b) (model_at s a) (λ x i. ap (λ (t : Bool). eqb b x && t) (lt-ltb x 64 (small x i)) ∙ and-true (eqb b x))
is_held-holds s a c elements l k e small (text b) =
    ap₂ ◌&&◌ (ap₂ ◌&&◌ (eqb-sym b a) (lt-ltb a 64 l) ∙ and-true (eqb a b)) (content-text (content_at s a) c k)
