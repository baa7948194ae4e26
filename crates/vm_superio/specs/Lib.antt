-- SPDX-License-Identifier: Apache-2.0 OR BSD-3-Clause
pub mod Claims
pub mod Links
pub mod Rtc
pub mod Saved
pub mod Serial
