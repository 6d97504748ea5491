-- What the check of an arena answers.
pub mod Verdict
