pub mod QueryTexts
pub mod ReadLine
pub mod ReadRoute
pub mod ReplyText
pub mod ReplyTokens
pub mod WellFormed
