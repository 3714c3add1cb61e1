mod Above
mod Asking
mod Known
mod Pieces
mod Settling
mod Shown
