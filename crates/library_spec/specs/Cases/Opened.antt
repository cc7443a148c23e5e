-- One name that opens all definitions with which a case computes: `unfolding computing`.
use Rattle.extract_spec.specs.Cases.Opened.{computing as extracts}
use Rattle.inference_spec.specs.Cases.Opened.{computing as inference}
use Rattle.journal_spec.specs.Cases.Opened.{computing as journals}
use Rattle.library_spec.specs.Calls.{columns_after, record_after, schema_read, bundle_read, journal_read, needed_names, table_cut, extract_written, extract_read, nodes_selected, row_text, part_after, row_chain, structs_after, journal_read_rows, table_cut_rows, nodes_selected_rows}
use Rattle.library_spec.specs.Hosts.{extract_of, make_extract, bundle_paths, select_from, result_of}
use Rattle.library_spec.specs.Listing.{judge_files, listing_line, header_of, refused_line, listing}
use Rattle.library_spec.specs.Records.{passes_schema, passes_bundle, schema_held, bundle_held, table_held, table_beside}

unfoldable pub computing : Unit {0}
unfolding inference extracts journals extract_of make_extract bundle_paths select_from result_of judge_files listing_line header_of refused_line listing passes_schema passes_bundle schema_held bundle_held table_held table_beside columns_after record_after schema_read bundle_read journal_read needed_names table_cut extract_written extract_read nodes_selected row_text part_after row_chain structs_after journal_read_rows table_cut_rows nodes_selected_rows
computing = tt
