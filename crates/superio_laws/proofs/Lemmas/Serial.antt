-- SPDX-License-Identifier: Apache-2.0 OR BSD-3-Clause
-- Lemmas on the laws of the serial port.
pub mod Laws
