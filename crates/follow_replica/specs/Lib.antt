pub mod FaultTexts
pub mod Laws
pub mod Numbers
pub mod Opening
pub mod Takes
