-- Schema texts on the way to their judgement (`Spellings`), the order of their refusals (`Order`), and what each step of judging answers
-- (`Outcomes`).
pub mod Spellings
pub mod Order
pub mod Outcomes
