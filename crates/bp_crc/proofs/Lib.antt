-- ---- long division, on lists of coefficients and on numbers
pub mod Lengths
pub mod Numbers
pub mod Quotient
-- ---- the register, byte by byte and by tables
pub mod Register
pub mod Entries
pub mod Words
pub mod Groups
