-- Well-formed tables.
use Rattle.std.specs.Prelude.{Bool, true, false, not, ◌&&◌, ◌||◌, List, [], ◌∷◌, ◌++◌, ℕ, eqb, leb, ltb, length}
use Rattle.std.proofs.Math.Option.{Option, none, some}
use Rattle.schema_spec.specs.Names.{Name, element, text, is_text, same_name}
use Rattle.schema_spec.specs.Types.{Types}
use Rattle.table_spec.specs.Nodes.{Node, top, under, name_of, node_number, same, is_above, depth_of, node_at}
use Rattle.table_spec.specs.Rows.{Row, text_of}
use Rattle.text_spec.specs.Bytes.{is_foreign}
use Rattle.text_spec.specs.Limits.{max_nodes, max_depth, max_text_bytes}
use Rattle.text_spec.specs.Lists.{any_of, all_of}
use Rattle.token_spec.specs.Texts.{decoded_size}

-- "each later parent is the row before or one above that"
abbrev pub parent_open : Node → Node → Bool
parent_open previous (top k n) = false
parent_open previous (under k n w p) = same p previous || is_above p previous

-- "each parent holds the name"
abbrev pub parent_holds : Types → Node → Bool
parent_holds s (top k n) = false
parent_holds s (under k n w p) = s.holds (name_of p) n

-- "an element has at most one text row": this one is no second text of its parent
abbrev pub same_parent : Node → Node → Bool
same_parent (top k n) y = false
same_parent (under k n w p) (top l m) = false
same_parent (under k n w p) (under l m v q) = same p q

abbrev pub first_text : List Node → Node → Bool
first_text before y = not (is_text (name_of y) && any_of (λ z. is_text (name_of z) && same_parent z y) before)

-- "an element .. carries text 0, 0; a text row has length 1 to 4,096". Document 02, R-2: "an element's decoded length is 0, a text's 1 to its raw length".
abbrev pub text_fits : Name → Row → Bool
text_fits (element e) r = eqb r.start 0 && (eqb r.size 0 && eqb r.decoded 0)
text_fits (text e) r = leb 1 r.size && (leb r.size max_text_bytes && (leb 1 r.decoded && leb r.decoded r.size))

-- a later row, given the nodes before it, of which `previous` is the last; "later numbers rise, to 65,534 at most"; "depth is at most 64"
abbrev pub row_fits : Types → List Node → Node → Row → Node → Bool
row_fits s before previous r y =
    ltb (node_number previous) r.number && (ltb r.number max_nodes
    && (parent_open previous y && (parent_holds s y && (leb (depth_of y) max_depth && (first_text before y && text_fits r.name r)))))

abbrev pub later_rows : Types → List Node → Node → List Row → Bool
later_rows s before previous [] = true
later_rows s before previous (r ∷ rs) =
    let y = node_at [] before r in
    row_fits s before previous r y && later_rows s (before ++ (y ∷ [])) y rs

-- "A table is well formed if it is empty, or row 0 is the root element with number 0 and parent row 0", and each later row fits
unfoldable pub well_formed : Types → List Row → Bool
well_formed s [] = true
well_formed s (r ∷ rs) =
    let y = top r.number r.name in
    eqb r.number 0 && (same_name r.name s.root && (eqb r.parent 0 && (text_fits r.name r && later_rows s (y ∷ []) y rs)))

-- Refusal 1: "a text row points outside its text or at a byte that fails 3"
abbrev pub bytes_inside : List ℕ → Row → Bool
bytes_inside lent r = leb r.start (length lent) && (eqb (length (text_of lent r)) r.size && all_of (λ b. not (is_foreign b)) (text_of lent r))

-- Document 02, R-2: "a row with two equal lengths is copied, the bytes of any other must be one journal text that decodes to its decoded length, else refusal 1".
abbrev pub is_size : ℕ → Option ℕ → Bool
is_size n none = false
is_size n (some m) = eqb m n

abbrev pub copied_or_decoded : List ℕ → Row → Bool
copied_or_decoded lent r = eqb r.decoded r.size || is_size r.decoded (decoded_size (text_of lent r))

abbrev pub text_inside : List ℕ → Row → Bool
text_inside lent r = not (is_text r.name) || (bytes_inside lent r && copied_or_decoded lent r)

-- a table with the text lent beside it
unfoldable pub well_formed_with : Types → List ℕ → List Row → Bool
well_formed_with s lent rows = well_formed s rows && all_of (text_inside lent) rows
