-- The names of codes.
pub use Rattle.axis_passes.specs.name_tests.Tests.{name_with_code, names_in}
pub use Rattle.table_laws.specs.Columns.{Coded}
