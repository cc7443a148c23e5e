-- Theorems: on the columns of a well-formed table the code selects what the path selects (`Selected`), and for the paths asked for what the
-- library's definition answers (`Asked`).
pub mod Selected
pub mod Asked
