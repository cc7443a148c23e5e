-- The axes over the column of parents (`Parents`), siblings (`Siblings`), passes down (`Forward`), up (`Backward`), what each pass asks and finds at
-- a row (`Passes`), the axes from the root and from no row (`Roots`), a path on columns with its conditions judged for all rows by inverse axes
-- (`Selection`), document order by siblings (`Order`): definitions that contracts cite, and their laws.
pub mod Parents
pub mod Siblings
pub mod Forward
pub mod Backward
pub mod Passes
pub mod Roots
pub mod Selection
pub mod Order
