-- What the definition means, then the laws of the shift register that the functions' proofs cite, by subject.
pub mod Division
pub mod Example
pub mod Xor
pub mod Steps
pub mod Definition
pub mod Receiver
pub mod Octets
pub mod Linear
pub mod Sparse
pub mod Words
pub mod WideTurn
