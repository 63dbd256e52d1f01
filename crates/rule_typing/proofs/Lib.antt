mod FirstFaults
mod PointRules
mod Uses
mod Walked
