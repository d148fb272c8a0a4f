mod Summing
mod Slots
mod Waiting
mod Claiming
mod Reaches
mod Sides
mod Staying
