-- Every limit of document 01, in one place.
use Rattle.std.specs.Prelude.{ℕ}

-- Schema: declarations, names in a model, bytes, open parentheses, bytes of a name
abbrev pub max_declarations : ℕ
max_declarations = 32

abbrev pub max_model_names : ℕ
max_model_names = 64

abbrev pub max_schema_bytes : ℕ
max_schema_bytes = 8192

abbrev pub max_groups : ℕ
max_groups = 8

abbrev pub max_name_bytes : ℕ
max_name_bytes = 31

-- Journal: bytes, depth of elements, nodes, raw bytes in a text
abbrev pub max_journal_bytes : ℕ
max_journal_bytes = 1048576

abbrev pub max_depth : ℕ
max_depth = 64

abbrev pub max_nodes : ℕ
max_nodes = 65535

abbrev pub max_text_bytes : ℕ
max_text_bytes = 4096

-- Paths: steps outside brackets, alternatives, steps in an alternative, bytes without the line feed; paths and bytes of a bundle
abbrev pub max_steps : ℕ
max_steps = 16

abbrev pub max_alternatives : ℕ
max_alternatives = 4

abbrev pub max_alternative_steps : ℕ
max_alternative_steps = 4

abbrev pub max_path_bytes : ℕ
max_path_bytes = 512

abbrev pub max_paths : ℕ
max_paths = 8

abbrev pub max_bundle_bytes : ℕ
max_bundle_bytes = 4104

-- `listing`: bytes of journal that it reads, rows that it lends
abbrev pub listing_journal_bytes : ℕ
listing_journal_bytes = 32768

abbrev pub listing_rows : ℕ
listing_rows = 4096
