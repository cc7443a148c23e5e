-- The whole of `listing`: from three files' bytes, a missing one as empty, to the bytes printed.
use Rattle.std.specs.Prelude.{Bool, cond, List, [], ◌∷◌, ◌++◌, map, ℕ, zero, suc, ◌+◌, ◌/◌, ◌%◌, eqb, ltb, length}
use Rattle.extract_spec.specs.Cut.{cut}
use Rattle.inference_spec.specs.Needed.{needed}
use Rattle.journal_spec.specs.Reading.{read_journal}
use Rattle.library_spec.specs.Chains.{chain}
use Rattle.path_spec.specs.Paths.{LocationPath}
use Rattle.path_spec.specs.Reading.{read_bundle}
use Rattle.path_spec.specs.Selection.{select}
use Rattle.schema_spec.specs.Reading.{read_schema}
use Rattle.schema_spec.specs.Schemas.{Schema}
use Rattle.schema_spec.specs.Types.{types_of}
use Rattle.table_spec.specs.Nodes.{Node, node_number, nodes_of}
use Rattle.table_spec.specs.Rows.{Row}
use Rattle.text_spec.specs.Calls.{in_room}
use Rattle.text_spec.specs.Cells.{too_small}
use Rattle.text_spec.specs.Limits.{listing_journal_bytes, listing_rows}
use Rattle.text_spec.specs.Lists.{bytes, any_of, filter_by, gather}
use Rattle.text_spec.specs.Refusals.{Refusal, Outcome, accepted, refused, and_then, number_of}

-- a number in decimal; 20 digits are enough for 64 bits
abbrev pub decimal_in : ℕ → ℕ → List ℕ
decimal_in zero n = []
decimal_in (suc digits) n =
    let high = decimal_in digits (n / 10) in
    cond (ltb n 10) ((48 + n) ∷ []) (high ++ ((48 + (n % 10)) ∷ []))

abbrev pub decimal : ℕ → List ℕ
decimal n = decimal_in 20 n

abbrev pub line_feed : List ℕ
line_feed = bytes "\n"

-- what the three files give
pub record FilesRead : Type 0 where
  pub schema : Schema
  pub paths : List (LocationPath ℕ)
  pub rows : List Row

-- "It lends 4,096 rows for the whole journal, reads at most 32,768 bytes of journal"
unfoldable pub judge_files : List ℕ → List ℕ → List ℕ → Outcome FilesRead
judge_files schema bundle journal =
    and_then (read_schema schema) (λ s.
    and_then (read_bundle s bundle) (λ ps.
    and_then (read_journal listing_journal_bytes s journal) (λ rows.
    in_room (too_small listing_rows rows) (record { schema = s; paths = ps; rows = rows }))))

-- what is listed: the schema, the nodes of the journal, the rows kept, and the numbers that each path selects
pub record ListingData : Type 0 where
  pub schema : Schema
  pub nodes : List Node
  pub kept : ℕ
  pub selections : List (List ℕ)

abbrev pub listing_data : List ℕ → FilesRead → ListingData
listing_data journal f =
    let doc = nodes_of journal f.rows in
    record {
      schema = f.schema;
      nodes = doc;
      kept = length (cut (needed (types_of f.schema) f.paths) f.rows);
      selections = map (select doc) f.paths;
    }

abbrev pub is_in : ℕ → List ℕ → Bool
is_in k ks = any_of (eqb k) ks

-- the nodes that some path selects, each once, in document order
abbrev pub selected_nodes : ListingData → List Node
selected_nodes l = filter_by (λ y. any_of (is_in (node_number y)) l.selections) l.nodes

-- "place in the bundle (from 1) of the first path that selects it"
abbrev pub first_selecting : ℕ → ℕ → List (List ℕ) → ℕ
first_selecting i k [] = i
first_selecting i k (ks ∷ kss) = cond (is_in k ks) i (first_selecting (suc i) k kss)

-- "number, place in the bundle .., and the chain"
abbrev pub node_line : Schema → Node → ℕ → List ℕ
node_line s y place = decimal (node_number y) ++ (bytes " " ++ (decimal place ++ (bytes " " ++ (chain s y ++ line_feed))))

unfoldable pub listing_line : ListingData → Node → List ℕ
listing_line l y = node_line l.schema y (first_selecting 1 (node_number y) l.selections)

-- "a header: nodes selected, rows kept, rows in all"
abbrev pub header : ℕ → ℕ → ℕ → List ℕ
header chosen kept rows = bytes "selected " ++ (decimal chosen ++ (bytes " kept " ++ (decimal kept ++ (bytes " of " ++ (decimal rows ++ line_feed)))))

unfoldable pub header_of : ListingData → List ℕ
header_of l = header (length (selected_nodes l)) l.kept (length l.nodes)

-- "the first file refused prints `refused N at P` alone"
unfoldable pub refused_line : Refusal → List ℕ
refused_line f = bytes "refused " ++ (decimal (number_of f.reason) ++ (bytes " at " ++ (decimal f.place ++ line_feed)))

-- the header and then a line for each selected node
abbrev pub listed : ListingData → List ℕ
listed l = header_of l ++ gather (listing_line l) (selected_nodes l)

abbrev pub printed : List ℕ → Outcome FilesRead → List ℕ
printed journal (refused f) = refused_line f
printed journal (accepted f) = listed (listing_data journal f)

unfoldable pub listing : List ℕ → List ℕ → List ℕ → List ℕ
listing schema bundle journal = printed journal (judge_files schema bundle journal)
