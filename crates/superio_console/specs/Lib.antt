-- SPDX-License-Identifier: Apache-2.0 OR BSD-3-Clause
pub mod Console
pub mod Driver
pub mod Laws
pub mod OutputRing
pub mod Saved
