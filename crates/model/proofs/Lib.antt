-- Lemmas on digits, observations and learners.
pub mod Digits
pub mod Lists
pub mod Tabulating
pub mod Extends
pub mod Appends
pub mod Telling
pub mod Hypotheses
pub mod Filling
pub mod Bisecting
pub mod Refuting
pub mod Splitting
pub mod Outcomes
pub mod Spans
pub mod Paging
pub mod Turning
