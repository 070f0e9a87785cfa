mod Notes
mod Gathered
mod Written
mod Fitted
