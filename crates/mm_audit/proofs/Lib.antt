pub mod Sharing
pub mod Reading
pub mod Granted
pub mod Crossings
pub mod Words
pub mod Judgements
pub mod Leaving
pub mod OwnPages
pub mod Touches
mod KeyOrder
mod PointerSegments
mod MarkedSpans
mod Spanning
mod Outermost
mod SharedSets
mod Servers
mod EmptyRows
mod Bits
mod Collecting
mod Noting
mod Opens
mod Meetings
pub mod MaximalSpans
pub mod LeastTable
pub mod HeldSpans
mod GrantedSpans
pub mod AuditSets
mod Rows
pub mod GroupSegments
