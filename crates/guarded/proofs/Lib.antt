-- Theorems: run_taken, feed_taken, end_taken.
pub mod Guards
