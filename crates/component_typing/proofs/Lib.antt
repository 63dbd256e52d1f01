mod Levels
mod Steps
mod Visits
