pub mod Texts
pub mod Rules
pub mod Answers
pub mod StepsTexts
