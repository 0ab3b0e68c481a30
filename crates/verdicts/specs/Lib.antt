pub mod Answers
pub mod Censuses
pub mod Comparisons
pub mod Names
pub mod Outcomes
pub mod Rules
pub mod Surveys
pub mod Verdicts
