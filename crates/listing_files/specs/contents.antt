pub mod Files
pub mod FileLaws
