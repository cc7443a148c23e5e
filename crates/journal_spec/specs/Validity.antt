-- Valid trees (XML 1.0, 3; source document 000, definition 2.4).
use Rattle.std.specs.Prelude.{List, [], ◌∷◌, ◌≡◌, ℕ, T}
use Rattle.std.proofs.Math.Option.{some}
use Rattle.journal_spec.specs.Trees.{Forest, nothing, data-node, element-node}
use Rattle.schema_spec.specs.Models.{Particle, Content, empty, pcdata, children, Fits}
use Rattle.schema_spec.specs.Schemas.{Schema, element_named, content_at}
use Rattle.text_spec.specs.Bytes.{all_blank}

-- the children's names in order, by the elements' indices; "in a children model, blank-only text makes no node"
pub data ChildElements (s : Schema) : Forest → List ℕ → Type 0 where
  no-children : ChildElements s nothing []
  blanks : {k : ℕ} {w : List ℕ} {f : Forest} {es : List ℕ} → T (all_blank w) → ChildElements s f es → ChildElements s (data-node k w f) es
  child : {k e : ℕ} {n : List ℕ} {c f : Forest} {es : List ℕ} → element_named s n ≡ some e → ChildElements s f es → ChildElements s (element-node k n c f) (e ∷ es)

-- character data alone
pub data OnlyData : Forest → Type 0 where
  no-data : OnlyData nothing
  more : {k : ℕ} {w : List ℕ} {f : Forest} → OnlyData f → OnlyData (data-node k w f)

-- the content of an element fits what is declared of it
pub data ContentFits (s : Schema) : Content ℕ → Forest → Type 0 where
  -- "in `EMPTY` even a blank is an error"
  fits-empty : ContentFits s empty nothing
  fits-pcdata : {f : Forest} → OnlyData f → ContentFits s pcdata f
  fits-children : {p : Particle ℕ} {f : Forest} {es : List ℕ} → ChildElements s f es → Fits p es → ContentFits s (children p) f

-- an element of a forest, at any depth: its place, its name and its content
pub data Occurs : ℕ → List ℕ → Forest → Forest → Type 0 where
  here : {k : ℕ} {n : List ℕ} {c f : Forest} → Occurs k n c (element-node k n c f)
  inside : {j k : ℕ} {m n : List ℕ} {c d f : Forest} → Occurs k n c d → Occurs k n c (element-node j m d f)
  after-element : {j k : ℕ} {m n : List ℕ} {c d f : Forest} → Occurs k n c f → Occurs k n c (element-node j m d f)
  after-data : {j k : ℕ} {w n : List ℕ} {c f : Forest} → Occurs k n c f → Occurs k n c (data-node j w f)

-- an element of the tree whose root is given
pub data InTree (root : ℕ) (name : List ℕ) (content : Forest) : ℕ → List ℕ → Forest → Type 0 where
  the-root : InTree root name content root name content
  below : {k : ℕ} {n : List ℕ} {c : Forest} → Occurs k n c content → InTree root name content k n c

-- "valid": the root is the schema's, each element is declared, and its content fits
pub record Valid (s : Schema) (root : ℕ) (name : List ℕ) (content : Forest) : Type 0 where
  pub root_element : element_named s name ≡ some 0
  pub each : (k : ℕ) (n : List ℕ) (c : Forest) → InTree root name content k n c → (e : ℕ) × (element_named s n ≡ some e) × ContentFits s (content_at s e) c
