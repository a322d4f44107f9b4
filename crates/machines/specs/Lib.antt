-- Words, boxes, tables and answers, and the theorems on them.
pub mod Words
pub mod Tables
pub mod Answers
pub mod Borne
pub mod Theorems
pub mod Lamp
