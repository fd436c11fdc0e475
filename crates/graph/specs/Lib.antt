-- The wait-for graph: walks and cycles, the search for a path, what the rules do to a graph, and the promises.
pub mod Ways
pub mod Search
pub mod Graph
pub mod Code
pub mod Promises
