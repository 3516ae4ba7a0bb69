-- The marked examples of the scope paper, examples of Figure 1 and its guards and of the order of the refusals, and examples of 02 §1 to §8.
pub mod Marked
pub mod Taking
pub mod Guarding
pub mod Refusing
pub mod Waiting
pub mod Retrying
pub mod Dispatching
pub mod Watching
pub mod Writing
pub mod Measuring
pub mod Noting
pub mod Restarting
