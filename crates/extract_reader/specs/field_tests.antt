pub mod Tests
pub mod TestLaws
