-- What the functions of this crate promise of words, trees and chains.
pub mod Grown
