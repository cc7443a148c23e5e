-- Theorems: the refusal and the record that `bundle_reader` answers and its test are the library's `bundle_read`, `record_after` and `passes_bundle`
-- (`Records`).
pub mod Records
pub mod Compiled
