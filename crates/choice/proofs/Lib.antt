-- Laws of the rules, and of the choice.
pub mod ChoiceCases
