pub mod Exact
pub mod InRange
pub mod RowByRow
