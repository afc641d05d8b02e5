pub mod HandBooks
pub mod ShortTerms
