pub mod Citations
