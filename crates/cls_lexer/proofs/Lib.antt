pub mod Columns
pub mod Feeds
mod KeyedTexts
pub mod FirstBytes
pub mod LineEndings
pub mod LinePieces
pub mod Numerals
pub mod Positions
pub mod Runs
mod TextKeys
pub mod TextTables
pub mod TokenCuts
pub mod TokenPlaces
pub mod TokenSpelling
pub mod TokenSteps
pub mod TokenTexts
