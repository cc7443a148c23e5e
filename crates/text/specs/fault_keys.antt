pub mod Keys
pub mod KeyLaws
