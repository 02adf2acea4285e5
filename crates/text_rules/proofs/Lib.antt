pub mod TableReads
mod Booleans
mod Leaves
mod Rows
mod Spaces
mod Defs
mod Parts
mod Wraps
mod Passes
mod CoreWords
pub mod MadeParts
mod Utf8
mod Sound
mod Whole
mod Refused
pub mod Texts
mod WorkedTexts
mod WorkedComponent
mod WorkedCanons
mod WorkedFields
mod WorkedWords
mod WorkedRefusals
mod WorkedDepth
