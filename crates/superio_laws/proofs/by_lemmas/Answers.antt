-- SPDX-License-Identifier: Apache-2.0 OR BSD-3-Clause
use Rattle.superio_laws.proofs.Lemmas.Rtc.{set_time_law}
use Rattle.superio_laws.proofs.Lemmas.Serial.Laws.InterruptDriver.{timeouts_show_law}
use Rattle.superio_laws.proofs.Lemmas.Serial.Laws.Interrupts.{interrupt_law, line_of_history}
use Rattle.superio_laws.proofs.Lemmas.Serial.Laws.StepsOfHistory.{step_law, call_law, retry_law}
use Rattle.superio_laws.proofs.by_lemmas.Goals as goal

pub returns : goal.returns
returns c = record {
  interrupts = interrupt_law;
  steps = step_law;
  calls = call_law;
  retries = retry_law;
  timeouts = timeouts_show_law;
  line = line_of_history;
  set_time = set_time_law;
}
