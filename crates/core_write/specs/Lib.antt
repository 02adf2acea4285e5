pub mod Runs
pub mod Written
pub mod Fits
pub mod Exports
pub mod NamesWritten
pub mod Module
