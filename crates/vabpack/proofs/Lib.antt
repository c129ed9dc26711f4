mod Images
mod Refusals
