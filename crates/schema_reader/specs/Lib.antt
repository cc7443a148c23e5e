pub mod Records
pub mod Sizes
pub mod declared_names
pub mod judging_laws
pub mod normal_form
pub mod record_cells
