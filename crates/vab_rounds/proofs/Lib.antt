mod Folding
mod Given
mod Lasting
mod Merging
mod Running
pub mod Ended
pub mod Chains
pub mod Alone
