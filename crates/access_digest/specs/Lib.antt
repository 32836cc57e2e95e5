pub mod Access
pub mod AccessLaw
pub mod DenialNames
pub mod Who
pub mod WhoLaw
