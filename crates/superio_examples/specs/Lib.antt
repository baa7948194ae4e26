-- SPDX-License-Identifier: Apache-2.0 OR BSD-3-Clause
pub mod Bus
pub mod Echo
pub mod ManyCalls
pub mod Mmio
pub mod Monitor
pub mod Queues
pub mod SavedMonitor
pub mod Traced
pub mod Triggers
pub mod TwoPorts
