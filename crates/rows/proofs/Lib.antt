-- Bounds of rows; what a word tells of its thread; what the total of all rows and all bits seen tell; and a pass over the threads in whatever order.
pub mod RowBounds
pub mod Words
pub mod Packed
pub mod Collected
