mod Parts
mod Fields
mod Spelled
mod OfText
