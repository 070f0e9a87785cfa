mod Quarters
mod HoursMeant
