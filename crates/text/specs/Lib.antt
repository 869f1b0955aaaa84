pub mod Decimal
pub mod DecimalLaws
pub mod Text
pub mod Pieces
pub mod Worked
