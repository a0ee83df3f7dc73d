pub mod Backing
pub mod Backwards
pub mod Recalled
pub mod RecalledStands
pub mod LinesHandled
pub mod RingTotals
