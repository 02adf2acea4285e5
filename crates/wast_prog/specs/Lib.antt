pub mod Command
pub mod Answer
pub mod Ends
pub mod ExitCode
