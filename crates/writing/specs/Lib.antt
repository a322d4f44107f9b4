-- What a settled learner wants, as it stands in out.
pub mod Wants
