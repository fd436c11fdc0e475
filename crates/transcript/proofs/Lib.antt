-- Laws about scripts in chunks. Theorems: text_theorem (Text), open_line (Feeding), all_printed,
-- feeds_coincide, calls_move and texts_answered (Calls).
pub mod Text
pub mod Chunk
pub mod Carry
pub mod Answering
pub mod Turning
pub mod Feeding
pub mod Calls
