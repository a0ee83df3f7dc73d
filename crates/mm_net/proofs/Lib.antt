pub mod Errors
pub mod Parts
pub mod EventWords
pub mod LinkWords
pub mod Ends
pub mod Nodes
pub mod PortCalls
pub mod CarriedFits
pub mod LinkEnds
pub mod BothNets
pub mod NodeSteps
pub mod ItemSteps
pub mod TwoNets
pub mod Steps
mod Order
mod IntegersAlone
pub mod Granted
mod Acting
mod Telling
mod OwnRuns
mod GroupItems
pub mod ListPlaces
pub mod Stepping
pub mod NetKeeping
pub mod Carrying
pub mod Finding
pub mod NetRuns
pub mod Beginning
pub mod IdleSteps
pub mod Written
pub mod SentCounts
pub mod Wiring
