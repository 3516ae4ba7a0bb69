-- What a writer's look leaves.
pub mod Looks
