-- Laws about reading a line and printing an event; `reads_back` joins the two.
pub mod Outcomes
pub mod Table
pub mod Steps
pub mod Printing
pub mod ReadBack
mod Examples
