pub mod Search
pub mod Members
pub mod Memberships
pub mod NumeralLemmas
