-- Names by their codes, and what each element holds as words of bits.
use Rattle.std.specs.Prelude.{Bool, true, false, cond, ◌&&◌, List, ◌≡◌, refl, ℕ, suc, ◌+◌, ◌-◌, ◌<◌, ◌≤◌, eqb, ltb, get_or}
use Rattle.std.proofs.Math.Bool.{not}
use Rattle.std.proofs.Math.Option.{Option, none, some}
use Rattle.std.proofs.Common.{sym, ap, ◌∙◌, le-leb, ltb-true, ltb-false, leb→le, le→leb, lt→ltb}
use Rattle.std.proofs.Math.Path.{subst}
use Rattle.std.proofs.lemmas.Bool.{lt-leb}
use Rattle.std.proofs.Math.Dec.{T, leb, ltb→lt}
use Rattle.schema_laws.specs.Words.{code_of-name_of_code}
use Rattle.schema_spec.specs.Names.{Name, element, text, is_text, has_bit, code_of, name_of_code}
use Rattle.schema_spec.specs.Types.{Types}
use Rattle.table_laws.specs.passes.Passes.{is_text_code, depth_under, text_cells_fit, later_fits, later_cells}
use Rattle.table_spec.specs.Nodes.{deeper}
use Rattle.table_spec.specs.Rows.{Row, cells_of}
use Rattle.table_spec.specs.Tables.{text_fits}
use Rattle.text_laws.specs.Tests.{never, and_intro, and_cases, not-intro, not-elim}
use Rattle.text_spec.specs.Limits.{max_declarations, max_nodes, max_depth, max_text_bytes}

-- What a pass is handed of a schema: the names that each element holds, as the bits of a word. A text name holds nothing, and an element that
-- holds its text name holds no element.
pub record HeldWords (s : Types) (words : List ℕ) : Type 0 where
  pub root : s.root ≡ element 0
  pub leaf : (a : ℕ) (b : Name) → T (s.holds (text a) b) → ⊥
  pub apart : (a b e : ℕ) → T (s.holds (element a) (element b)) → T (s.holds (element a) (text e)) → ⊥
  pub held : (a code : ℕ) (n : Name) → name_of_code code ≡ some n → has_bit (get_or words a 0) code ≡ s.holds (element a) n
  pub unnamed : (a code : ℕ) → name_of_code code ≡ none → has_bit (get_or words a 0) code ≡ false

-- ---- a name by its code
named_by : ℕ → Bool → Bool → Option Name
named_by code low high = cond low (some (element code)) (cond high (some (text (code - max_declarations))) none)

named-text : (code : ℕ) (n : Name) (low high : Bool) → ltb code max_declarations ≡ low → named_by code low high ≡ some n → is_text_code code ≡ is_text n
unfolding named_by
named-text code n true high l e = let q : element code ≡ n = cc in lt-leb max_declarations code (ltb-true code max_declarations l) ∙ ap is_text q
named-text code n false true l e =
    let q : text (code - max_declarations) ≡ n = cc in
    le-leb max_declarations code (ltb-false code max_declarations l) ∙ ap is_text q
named-text code n false false l e = never (cc)

pub code-text : (code : ℕ) (n : Name) → name_of_code code ≡ some n → is_text_code code ≡ is_text n
unfolding named_by
code-text code n e = named-text code n (ltb code max_declarations) (ltb code (max_declarations + max_declarations)) refl e

depth-by : (n : Name) (d : ℕ) → cond (is_text n) d (suc d) ≡ deeper n d
depth-by (element e) d = refl
depth-by (text e) d = refl

pub code-depth : (code : ℕ) (n : Name) (d : ℕ) → name_of_code code ≡ some n → depth_under code d ≡ deeper n d
code-depth code n d e = ap (λ (b : Bool). cond b d (suc d)) (code-text code n e) ∙ depth-by n d

-- the name has a code of its own
abbrev pub Coded : Name → Type 0
Coded n = name_of_code (code_of n) ≡ some n

pub named-coded : (code : ℕ) (n : Name) → name_of_code code ≡ some n → Coded n
named-coded code n e = rw (code_of-name_of_code code n e) e

-- the cells of a text fit, or those of an element
abbrev cells_fit : Row → Bool → Bool
cells_fit r b =
    cond b (leb 1 r.size && (leb r.size max_text_bytes && (leb 1 r.decoded && leb r.decoded r.size))) (eqb r.start 0 && (eqb r.size 0 && eqb r.decoded 0))

fit-by : (r : Row) (n : Name) → r.name ≡ n → cells_fit r (is_text n) ≡ text_fits n r
fit-by r (element e) q = refl
fit-by r (text e) q = refl

code-cells : (r : Row) → Coded r.name → text_cells_fit (code_of r.name) r.start r.size r.decoded ≡ text_fits r.name r
code-cells r k =
    ap (cells_fit r) (code-text (code_of r.name) r.name k) ∙ fit-by r r.name refl

-- ---- a row after another, part by part
pub record FitsAfter (q : Row) (word depth : ℕ) (r : Row) : Type 0 where
  pub rises : q.number < r.number
  pub small : r.number < max_nodes
  pub held : T (has_bit word (code_of r.name))
  pub shallow : deeper r.name depth ≤ max_depth
  pub lone : T (is_text r.name) → T (is_text q.name) → ⊥
  pub cells : T (text_fits r.name r)

module _ (q : Row) (word depth : ℕ) (r : Row) (before : Coded q.name) (this : Coded r.name) where
  bits : Bool
  bits = has_bit word (code_of r.name)

  both : Bool
  both = is_text_code (code_of r.name) && is_text_code (code_of q.name)

  is-text : is_text_code (code_of r.name) ≡ is_text r.name
  is-text = code-text (code_of r.name) r.name this

  was-text : is_text_code (code_of q.name) ≡ is_text q.name
  was-text = code-text (code_of q.name) q.name before

  pub later-parts : T (later_cells (cells_of q) word depth (cells_of r)) → FitsAfter q word depth r
  unfolding later_fits bits both
  later-parts t =
      let rest₄ = text_cells_fit (code_of r.name) r.start r.size r.decoded in
      let rest₃ = not both && rest₄ in
      let rest₂ = leb (depth_under (code_of r.name) depth) max_depth && rest₃ in
      let rest₁ = bits && rest₂ in
      let c₀ = and_cases (ltb q.number r.number) (ltb r.number max_nodes && rest₁) t in
      let c₁ = and_cases (ltb r.number max_nodes) rest₁ c₀.1 in
      let c₂ = and_cases bits rest₂ c₁.1 in
      let c₃ = and_cases (leb (depth_under (code_of r.name) depth) max_depth) rest₃ c₂.1 in
      let c₄ = and_cases (not both) rest₄ c₃.1 in
      record {
        rises = ltb→lt _ _ c₀.0;
        small = ltb→lt _ _ c₁.0;
        held = c₂.0;
        shallow = rw (← code-depth (code_of r.name) r.name depth this) (leb→le _ _ c₃.0);
        lone = λ u v. not-elim both c₄.0 (and_intro (is_text_code (code_of r.name)) (is_text_code (code_of q.name)) (subst T (sym is-text) u) (subst T (sym was-text) v));
        cells = subst T (code-cells r this) c₄.1;
      }

  pub parts-later : FitsAfter q word depth r → T (later_cells (cells_of q) word depth (cells_of r))
  unfolding later_fits bits both
  parts-later f =
      and_intro (ltb q.number r.number) _ (lt→ltb _ _ f.rises)
      (and_intro (ltb r.number max_nodes) _ (lt→ltb _ _ f.small)
      (and_intro bits _ f.held
      (and_intro (leb (depth_under (code_of r.name) depth) max_depth) _
      (le→leb (depth_under (code_of r.name) depth) max_depth (rw (code-depth (code_of r.name) r.name depth this) f.shallow))
      (and_intro (not both) (text_cells_fit (code_of r.name) r.start r.size r.decoded) (not-intro both alone) (subst T (sym (code-cells r this)) f.cells)))))
    where
      alone : T (is_text_code (code_of r.name) && is_text_code (code_of q.name)) → ⊥
      alone t =
          let c = and_cases (is_text_code (code_of r.name)) (is_text_code (code_of q.name)) t in
          f.lone (subst T is-text c.0) (subst T was-text c.1)

-- a row that fits is not too deep
pub fits-depth : (before : ℕ) (follows : Bool) (word depth number code start size decoded : ℕ) → T (later_fits before follows word depth number code start size decoded)
    → depth_under code depth ≤ max_depth
unfolding later_fits
fits-depth before follows word depth number code start size decoded t =
    let c₀ = and_cases (ltb before number) _ t in
    let c₁ = and_cases (ltb number max_nodes) _ c₀.1 in
    let c₂ = and_cases (has_bit word code) _ c₁.1 in
    leb→le _ _ (and_cases (leb (depth_under code depth) max_depth) _ c₂.1).0
