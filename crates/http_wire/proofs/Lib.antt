pub mod BlockSteps
pub mod Decided
pub mod EveryFront
pub mod EveryHead
mod Examples
pub mod FieldSteps
pub mod FrontSteps
pub mod HoweverCut
pub mod ItemSteps
pub mod Lawful
pub mod Room
pub mod SameRequest
pub mod Sayings
pub mod Told
pub mod Unique
pub mod Waiting
pub mod WholeBlock
