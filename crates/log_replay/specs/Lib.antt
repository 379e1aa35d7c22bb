pub mod Numbers
pub mod Live
pub mod Changes
pub mod Force
pub mod Replay
pub mod StepsForce
pub mod StepsLive
