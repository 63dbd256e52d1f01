mod OfParts
mod OnGroups
mod Steps
mod Structures
