pub mod Laws
pub mod MaxMin
pub mod Stacks
pub mod Theorems
pub mod Texts
