-- SPDX-License-Identifier: Apache-2.0 OR BSD-3-Clause
pub mod EchoLemmas
pub mod MonitorLemmas
pub mod QueueLemmas
mod TracedLemmas
mod TwoPortsLemmas
