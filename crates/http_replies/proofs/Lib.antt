mod Examples
mod InTwo
mod Joins
mod PlainBytes
pub mod ReadBack
mod StatusFacts
