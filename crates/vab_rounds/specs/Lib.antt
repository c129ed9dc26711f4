pub mod Folds
pub mod Merges
pub mod Rounds
pub mod Runs
pub mod Ended
pub mod Finished
pub mod Chains
pub mod Alone
