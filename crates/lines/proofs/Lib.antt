mod Ends
mod Grammar
mod Pairs
mod Parting
mod Reading
