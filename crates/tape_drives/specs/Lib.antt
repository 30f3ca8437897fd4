pub mod Lending
pub mod Making
pub mod SystemMaking
