pub mod CharBytes
pub mod LongestLemmas
pub mod PieceLemmas
pub mod PlaceLemmas
pub mod ReadTokens
pub mod ScanLemmas
pub mod SharedTexts
pub mod TextLemmas
