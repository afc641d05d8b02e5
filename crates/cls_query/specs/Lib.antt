-- Begin with QueryForms, Queries and QueryErrors, and for changes with Changes and ChangeErrors.
pub mod ChangeErrors
pub mod ChangeLaws
pub mod ChangeSteps
pub mod Changes
pub mod Comparisons
pub mod FormAnswers
pub mod Laws
pub mod Queries
pub mod QueryErrors
pub mod QueryForms
pub mod QueryReading
pub mod ReadChanges
pub mod ReadQueries
pub mod Readable
pub mod Steps
pub mod TypeCounts
