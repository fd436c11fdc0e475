-- Laws about what tables prints. Theorems: shown_theorem (Text) and open_shown (Lines).
pub mod Lines
pub mod Text
