mod Faults
mod Lines
mod Parts
mod OneOutput
