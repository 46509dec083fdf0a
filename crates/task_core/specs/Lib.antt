pub mod Board
pub mod Log
pub mod Sound
pub mod Rules
pub mod Laws
