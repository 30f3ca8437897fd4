pub mod Talkers
pub mod Places
pub mod Exchanges
pub mod Expected
pub mod Effects
