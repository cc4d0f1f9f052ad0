mod Hits
mod Inputs
mod Texts
mod Turns
