mod Said
pub mod Fronts
pub mod Rooms
