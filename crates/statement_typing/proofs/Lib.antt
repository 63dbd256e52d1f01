mod Aliases
mod Inside
mod Leaves
mod Levels
mod OnSets
mod Operands
mod Steps
mod Walks
