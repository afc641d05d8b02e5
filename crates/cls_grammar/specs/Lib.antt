-- Begin with Grammars and Ranks.
pub mod Climbs
pub mod Faults
pub mod Grammars
pub mod GrammarTexts
pub mod Meanings
pub mod Numberings
pub mod Ranks
pub mod Trimming
pub mod WaitingLists
