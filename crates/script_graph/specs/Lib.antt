pub mod Words
pub mod Mentions
pub mod Scopes
pub mod ScopeViews
pub mod Orders
pub mod Faults
