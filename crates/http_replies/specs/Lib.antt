pub mod HeadTexts
pub mod Laws
pub mod Replies
