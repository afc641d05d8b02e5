-- Begin with Lines and Spelling. Tokens scans as the code does; laws say by Spelling what it comes to.
pub mod Characters
pub mod Columns
pub mod Contents
pub mod LineLaws
pub mod Lines
pub mod Names
pub mod Numerals
pub mod Skipped
pub mod Spelling
pub mod TextKeys
pub mod Tokens
pub mod Words
