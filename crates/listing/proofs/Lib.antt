-- Laws about the lines of the tables: how they are put item by item, and how long they are.
pub mod Items
pub mod Bounds
