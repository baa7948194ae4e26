-- SPDX-License-Identifier: Apache-2.0 OR BSD-3-Clause
pub mod Bits
pub mod I8042
pub mod Rtc
pub mod Saved
pub mod Serial
pub mod Sizes
