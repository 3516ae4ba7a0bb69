-- Which event a code stands for, and the plan of an event in exclusive.
pub mod EventCodes
pub mod Around
