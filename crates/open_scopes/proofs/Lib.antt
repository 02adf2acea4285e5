pub mod Settled
pub mod Keys
pub mod Lookups
pub mod Stacks
pub mod AliasNoted
pub mod Denoting
