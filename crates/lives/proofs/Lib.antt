mod Places
mod Turned
mod Written
mod OneByOne
mod Decoded
mod RoundTrip
mod Loaded
