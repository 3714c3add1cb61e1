mod Disks
mod Dry
mod Applying
mod Taking
mod Completing
pub mod Settling
pub mod Upkeep
mod Rules
pub mod KeepingUp
mod GroupMoves
mod Mending
mod Shedding
mod Looking
mod Seeing
mod LookingRules
mod Finding
mod Asking
mod Turning
mod Standing
mod StandingRules
mod Counting
mod Covering
mod Holding
mod Laying
mod Lasting
mod Wearing
mod Placing
mod PlacingOpening
mod Giving
mod GroupPlaces
