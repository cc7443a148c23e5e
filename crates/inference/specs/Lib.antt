pub mod back_steps
pub mod plain_steps
pub mod relations
pub mod type_steps
pub mod written_steps
