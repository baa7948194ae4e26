-- SPDX-License-Identifier: Apache-2.0 OR BSD-3-Clause
pub mod Devices
pub mod Driver
pub mod Fields
pub mod Reply
pub mod Script
pub mod SerialScript
