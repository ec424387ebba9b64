-- From calls to turns, and from turns to what serving a link did.
pub mod Progress
pub mod Turning
pub mod Runs
pub mod Serving
pub mod Visits
pub mod FewWords
pub mod Replying
pub mod Telling
pub mod Tasks
