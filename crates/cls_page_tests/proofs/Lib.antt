pub mod HandSteps
