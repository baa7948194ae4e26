-- SPDX-License-Identifier: Apache-2.0 OR BSD-3-Clause
pub mod Asked
pub mod Examples
pub mod Input
pub mod Output
pub mod Point
pub mod Port
pub mod Raised
pub mod Ring
pub mod Room
pub mod Saved
pub mod Send
pub mod Taken
pub mod Through
pub mod Turns
pub mod Wanted
