-- Definitions of how a line reads as an event, and of the line that is printed for an event.
pub mod Outcomes
pub mod Words
pub mod Lines
pub mod Printed
