-- SPDX-License-Identifier: Apache-2.0 OR BSD-3-Clause
pub mod DriverLemmas
pub mod Examples
pub mod LineLemmas
pub mod RestoreLine
pub mod ScriptLemmas
pub mod SerialScriptLemmas
