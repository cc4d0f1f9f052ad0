mod DateNumbers
mod DateOrders
mod DateParts
mod DateReadings
mod DateReadsBack
mod DateRows
pub mod DurationBacks
pub mod DurationGrammars
pub mod DurationLaws
pub mod DurationNumbers
pub mod DurationOrders
mod DurationRows
mod DurationsKept
pub mod DurationScans
mod PrintedParts
mod TextFronts
