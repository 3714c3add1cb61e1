mod Fits
mod Twins
mod Words
mod Seeing
mod Effects
mod Laws
mod Damage
mod Rows
