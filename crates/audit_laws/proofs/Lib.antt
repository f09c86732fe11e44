pub mod Keyless
pub mod Suites
pub mod SharedVector
