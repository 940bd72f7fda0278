pub mod Alone
pub mod Gain
pub mod Loss
pub mod Arrows
pub mod Idle
pub mod inner
