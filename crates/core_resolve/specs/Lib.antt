pub mod Signatures
pub mod Order
pub mod Tables
pub mod LocalIds
pub mod AddedFields
