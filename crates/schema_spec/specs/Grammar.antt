-- The grammar of schema texts: XML 1.0 productions 45 to 51 as document 01 cuts them down, as a relation between a text, the place
-- where it starts and what it declares.
use Rattle.std.specs.Prelude.{List, [], ◌∷◌, ◌++◌, ℕ, suc, ◌+◌, T, length}
use Rattle.schema_spec.specs.Declarations.{Use, Declaration, element_keyword, empty_keyword, pcdata_keyword, Indicator, spell_indicator, indicated, Separator, unparted, by_bar, by_comma, join_by}
use Rattle.schema_spec.specs.Models.{Particle, named, Content, empty, pcdata, children}
use Rattle.text_spec.specs.Bytes.{is_blank, is_name}
use Rattle.text_spec.specs.Limits.{max_groups}

-- S?
pub data Blanks : List ℕ → Type 0 where
  none : Blanks []
  blank : {b : ℕ} {w : List ℕ} → T (is_blank b) → Blanks w → Blanks (b ∷ w)

-- S
pub data Space : List ℕ → Type 0 where
  space : {b : ℕ} {w : List ℕ} → T (is_blank b) → Blanks w → Space (b ∷ w)

-- a byte may part a group that is parted so; then it is parted so
pub data Parts : Separator → ℕ → Separator → Type 0 where
  first-bar : Parts unparted 0x7C by_bar
  next-bar : Parts by_bar 0x7C by_bar
  first-comma : Parts unparted 0x2C by_comma
  next-comma : Parts by_comma 0x2C by_comma

pub data Kind : Type 0 where
  -- [48] cp
  particle : Kind
  -- [49] choice, [50] seq
  group : Kind
  -- the rest of a group after its particles so far, to its `)`
  rest : Separator → Particle Use → Kind

-- `Model kind d k w p`: the text w, which starts at the place k, is of that kind and spells p, with at most d parentheses open at once
pub data Model : Kind → ℕ → ℕ → List ℕ → Particle Use → Type 0 where
  -- [48] Name ('?' | '*' | '+')?
  a-name : {d k : ℕ} (n : List ℕ) → T (is_name n) → (o : Indicator) → Model particle d k (n ++ spell_indicator o) (indicated o (named (record { place = k; name = n })))
  -- [48] (choice | seq) ('?' | '*' | '+')?
  a-group : {d k : ℕ} {w : List ℕ} {p : Particle Use} → Model group d k w p → (o : Indicator) → Model particle d k (w ++ spell_indicator o) (indicated o p)
  -- '(' S? cp S? and the rest
  opened : {d k : ℕ} {a u b r : List ℕ} {p q : Particle Use} → Blanks a → Model particle d (suc k + length a) u p → Blanks b
      → Model (rest unparted p) d (suc k + length a + length u + length b) r q → Model group (suc d) k (0x28 ∷ (a ++ (u ++ (b ++ r)))) q
  -- ')'
  close : {d k : ℕ} {s : Separator} {p : Particle Use} → Model (rest s p) d k (0x29 ∷ []) p
  -- '|' S? cp S? or ',' S? cp S? and the rest
  more : {d k x : ℕ} {s t : Separator} {a u b r : List ℕ} {p q z : Particle Use} → Parts s x t → Blanks a → Model particle d (suc k + length a) u q → Blanks b
      → Model (rest t (join_by t p q)) d (suc k + length a + length u + length b) r z → Model (rest s p) d k (x ∷ (a ++ (u ++ (b ++ r)))) z

-- [46] contentspec, cut down, with [47] children and [51] Mixed
pub data ContentText : ℕ → List ℕ → Content Use → Type 0 where
  is-empty : {k : ℕ} → ContentText k empty_keyword empty
  is-pcdata : {k : ℕ} {a b : List ℕ} → Blanks a → Blanks b → ContentText k (0x28 ∷ (a ++ (pcdata_keyword ++ (b ++ (0x29 ∷ []))))) pcdata
  is-children : {k : ℕ} {w : List ℕ} {p : Particle Use} → Model group max_groups k w p → (o : Indicator)
      → ContentText k (w ++ spell_indicator o) (children (indicated o p))

-- [45] elementdecl
pub data DeclarationText : ℕ → List ℕ → Declaration → Type 0 where
  declaration : {k : ℕ} {a b w e : List ℕ} {c : Content Use} (n : List ℕ) → Space a → T (is_name n) → Space b
      → ContentText (k + length element_keyword + length a + length n + length b) w c → Blanks e
      → DeclarationText k (element_keyword ++ (a ++ (n ++ (b ++ (w ++ (e ++ (0x3E ∷ [])))))))
      (record { place = k; name = record { place = k + length element_keyword + length a; name = n }; content = c })

-- "Blanks (space, tab, line feed) may also stand between declarations", and before the first and after the last
pub data DeclarationsText : ℕ → List ℕ → List Declaration → Type 0 where
  end : {k : ℕ} {a : List ℕ} → Blanks a → DeclarationsText k a []
  next : {k : ℕ} {a w r : List ℕ} {d : Declaration} {ds : List Declaration} → Blanks a → DeclarationText (k + length a) w d
      → DeclarationsText (k + length a + length w) r ds → DeclarationsText k (a ++ (w ++ r)) (d ∷ ds)

-- "There is at least one declaration"
pub data SchemaText : List ℕ → List Declaration → Type 0 where
  schema-text : {w : List ℕ} {d : Declaration} {ds : List Declaration} → DeclarationsText 0 w (d ∷ ds) → SchemaText w (d ∷ ds)
