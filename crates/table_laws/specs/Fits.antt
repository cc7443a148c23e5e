-- The test of well-formed tables, taken apart: the root, a later row, a text inside its text.
use Rattle.std.specs.Prelude.{Bool, ◌&&◌, ◌||◌, ◌⊎◌, ◌≡◌, refl, ℕ, ◌<◌, ◌≤◌, T, leb, ltb}
use mathlib.Core.List.Memᴰ.{head as here}
use mathlib.Core.List.Memᴰ.{tail as there}
use mathlib.Core.List.{List, [], ◌∷◌, ◌++◌, Memᴰ as In}
use Rattle.std.proofs.Common.{inl, inr, sym, subst, leb→le, le→leb, ltb→lt, lt→ltb}
use Rattle.std.proofs.Math.Option.{Option, none, some}
use Rattle.std.proofs.Math.Dec.{eqb, eqb→eq}
use Rattle.std.proofs.Math.ListN.{get_elem?}
use Rattle.schema_laws.specs.Names.{same-equal, same-name}
use Rattle.schema_spec.specs.Names.{Name, same_name}
use Rattle.schema_spec.specs.Types.{Types}
use Rattle.table_spec.specs.Nodes.{Node, top, node_number, name_of, same, is_above, depth_of, attach_to, node_at}
use Rattle.table_spec.specs.Rows.{Row, characters_of}
use Rattle.table_spec.specs.Tables.{parent_open, parent_holds, first_text, text_fits, row_fits, later_rows, well_formed}
use Rattle.text_laws.specs.Tests.{and_cases, and_intro}
use Rattle.text_spec.specs.Limits.{max_nodes, max_depth}
use Rattle.text_spec.specs.Lists.{all_of}

-- the node of a row: its number, and its parent where one is open
pub attached-number : (k : ℕ) (n : Name) (w : List ℕ) (o : Option Node) → node_number (attach_to k n w o) ≡ k
attached-number k n w none = refl
attached-number k n w (some p) = refl

pub parent-found : (previous : Node) (k : ℕ) (n : Name) (w : List ℕ) (o : Option Node) → T (parent_open previous (attach_to k n w o)) → (p : Node) × (o ≡ some p)
parent-found previous k n w none t = absurd t
parent-found previous k n w (some p) t = (p, refl)

-- the seven parts of the test of a later row
pub record RowFits (s : Types) (before : List Node) (previous : Node) (r : Row) (y : Node) : Type 0 where
  pub rises : node_number previous < r.number
  pub small : r.number < max_nodes
  pub is_open : T (parent_open previous y)
  pub held : T (parent_holds s y)
  pub shallow : depth_of y ≤ max_depth
  pub one_text : T (first_text before y)
  pub cells : T (text_fits r.name r)

module _ (s : Types) (before : List Node) (previous : Node) (r : Row) (y : Node) where
  pub row_fits_lem : T (row_fits s before previous r y) → RowFits s before previous r y
  row_fits_lem t =
      let rest₅ = text_fits r.name r in
      let rest₄ = first_text before y && rest₅ in
      let rest₃ = leb (depth_of y) max_depth && rest₄ in
      let rest₂ = parent_holds s y && rest₃ in
      let rest₁ = parent_open previous y && rest₂ in
      let c₀ = and_cases (ltb (node_number previous) r.number) (ltb r.number max_nodes && rest₁) t in
      let c₁ = and_cases (ltb r.number max_nodes) rest₁ c₀.1 in
      let c₂ = and_cases (parent_open previous y) rest₂ c₁.1 in
      let c₃ = and_cases (parent_holds s y) rest₃ c₂.1 in
      let c₄ = and_cases (leb (depth_of y) max_depth) rest₄ c₃.1 in
      let c₅ = and_cases (first_text before y) rest₅ c₄.1 in
      record { rises = ltb→lt _ _ c₀.0; small = ltb→lt _ _ c₁.0; is_open = c₂.0; held = c₃.0; shallow = leb→le _ _ c₄.0; one_text = c₅.0; cells = c₅.1 }

  pub fits-row : RowFits s before previous r y → T (row_fits s before previous r y)
  fits-row f =
      and_intro (ltb (node_number previous) r.number) _ (lt→ltb _ _ f.rises)
      (and_intro (ltb r.number max_nodes) _ (lt→ltb _ _ f.small)
      (and_intro (parent_open previous y) _ f.is_open
      (and_intro (parent_holds s y) _ f.held
      (and_intro (leb (depth_of y) max_depth) _ (le→leb _ _ f.shallow) (and_intro (first_text before y) (text_fits r.name r) f.one_text f.cells)))))

-- the parts of the test of a table that has rows
pub record Rooted (s : Types) (r : Row) (rs : List Row) : Type 0 where
  pub number : r.number ≡ 0
  pub name : r.name ≡ s.root
  pub parent : r.parent ≡ 0
  pub cells : T (text_fits r.name r)
  pub later : T (later_rows s (top r.number r.name ∷ []) (top r.number r.name) rs)

module _ (s : Types) (r : Row) (rs : List Row) where
  pub rooted : T (well_formed s (r ∷ rs)) → Rooted s r rs
  unfolding well_formed
  rooted t =
      let y = top r.number r.name in
      let rest₃ = later_rows s (y ∷ []) y rs in
      let rest₂ = text_fits r.name r && rest₃ in
      let rest₁ = eqb r.parent 0 && rest₂ in
      let c₀ = and_cases (eqb r.number 0) (same_name r.name s.root && rest₁) t in
      let c₁ = and_cases (same_name r.name s.root) rest₁ c₀.1 in
      let c₂ = and_cases (eqb r.parent 0) rest₂ c₁.1 in
      let c₃ = and_cases (text_fits r.name r) rest₃ c₂.1 in
      record { number = eqb→eq _ _ c₀.0; name = same-equal _ _ c₁.0; parent = eqb→eq _ _ c₂.0; cells = c₃.0; later = c₃.1 }

  pub rooted-fits : Rooted s r rs → T (well_formed s (r ∷ rs))
  unfolding well_formed
  rooted-fits c =
      and_intro (eqb r.number 0) _ (rw c.number tt)
      (and_intro (same_name r.name s.root) _ (rw c.name (same-name s.root))
      (and_intro (eqb r.parent 0) _ (rw c.parent tt)
      (and_intro (text_fits r.name r) (later_rows s (top r.number r.name ∷ []) (top r.number r.name) rs) c.cells c.later)))

-- a later row that fits has its parent among the nodes before it: the node before or one above that
pub record Fitting (s : Types) (before : List Node) (previous : Node) (r : Row) : Type 0 where
  pub parent : Node
  pub parent_at : get_elem? before r.parent ≡ some parent
  pub is_open : T (same parent previous || is_above parent previous)
  pub held : T (s.holds (name_of parent) r.name)

pub fitting : (s : Types) (before : List Node) (previous : Node) (r : Row) → RowFits s before previous r (node_at [] before r) → Fitting s before previous r
fitting s before previous r f = pick (get_elem? before r.parent) refl f
  where
    pick : (o : Option Node) → get_elem? before r.parent ≡ o → RowFits s before previous r (attach_to r.number r.name (characters_of [] r) o)
        → Fitting s before previous r
    pick none e c = absurd c.is_open
    pick (some p) e c = record { parent = p; parent_at = e; is_open = c.is_open; held = c.held }

-- each row of a well-formed table has the text cells that its name asks for
abbrev pub cells_fit : Row → Bool
cells_fit r = text_fits r.name r

later-cells : (s : Types) (before : List Node) (previous : Node) (rs : List Row) → T (later_rows s before previous rs) → T (all_of cells_fit rs)
later-cells s before previous [] t = tt
later-cells s before previous (r ∷ rs) t =
    let y = node_at [] before r in
    let u = and_cases (row_fits s before previous r y) (later_rows s (before ++ (y ∷ [])) y rs) t in
    and_intro (cells_fit r) (all_of cells_fit rs) (row_fits_lem s before previous r y u.0).cells (later-cells s (before ++ (y ∷ [])) y rs u.1)

pub all-cells : (s : Types) (rows : List Row) → T (well_formed s rows) → T (all_of cells_fit rows)
all-cells s [] t = tt
all-cells s (r ∷ rs) t =
    let c = rooted s r rs t in
    and_intro (cells_fit r) (all_of cells_fit rs) c.cells (later-cells s (top r.number r.name ∷ []) (top r.number r.name) rs c.later)

-- each row of a well-formed table has the root's name or one that some name holds
abbrev pub RootOrHeld : Types → Name → Type 0
RootOrHeld s n = (n ≡ s.root) ⊎ ((a : Name) × T (s.holds a n))

later-held : (s : Types) (before : List Node) (previous : Node) (rs : List Row) {r : Row} → T (later_rows s before previous rs) → In r rs → RootOrHeld s r.name
later-held s before previous (q ∷ rs) t i =
    let y = node_at [] before q in
    let u = and_cases (row_fits s before previous q y) (later_rows s (before ++ (y ∷ [])) y rs) t in
    let f = fitting s before previous q (row_fits_lem s before previous q y u.0) in
    pick i (inr (name_of f.parent, f.held)) (later-held s (before ++ (y ∷ [])) y rs u.1)
  where
    pick : {r : Row} → In r (q ∷ rs) → RootOrHeld s q.name → (In r rs → RootOrHeld s r.name) → RootOrHeld s r.name
    pick (here e) h later = subst (λ (x : Row). RootOrHeld s x.name) (sym e) h
    pick (there j) h later = later j
later-held s before previous [] {r = r} t i = elim i [ ]

pub row-held : (s : Types) (rows : List Row) {r : Row} → T (well_formed s rows) → In r rows → RootOrHeld s r.name
row-held s (q ∷ rs) t (here e) = subst (λ (x : Row). RootOrHeld s x.name) (sym e) (inl (rooted s q rs t).name)
row-held s (q ∷ rs) t (there i) = later-held s (top q.number q.name ∷ []) (top q.number q.name) rs (rooted s q rs t).later i
row-held s [] {r = r} t x'' = elim x'' [ ]
