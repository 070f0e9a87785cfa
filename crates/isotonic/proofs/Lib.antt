mod Derived
mod Towers
mod Means
mod Fit
mod Pieces
pub mod Pushed
pub mod Agree
pub mod Falling
pub mod Mirror
pub mod Maps
pub mod Bulks
pub mod Fronts
