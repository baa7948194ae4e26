-- SPDX-License-Identifier: Apache-2.0 OR BSD-3-Clause
pub mod Rtc
pub mod Serial
