mod PlainNumbers
mod ItemLists
mod GroupWords
mod SegmentWords
mod RowWords
pub mod ArgumentWords
pub mod Rows
