-- ---- sums and products of polynomials
pub mod Sums
pub mod Products
-- ---- bytes added, and compared
pub mod ByteSums
pub mod Differences
