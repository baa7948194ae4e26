-- SPDX-License-Identifier: Apache-2.0 OR BSD-3-Clause
-- The history theorem: what a run from a coherent start shows, by the history alone. It says what every call responds,
-- which bytes are read and held, when the trigger is called, which calls each object has, and the state at the end. The
-- records say which restores succeed. A restore can fail if memory is refused; the old objects then have the calls
-- after it.
use Rattle.std.specs.Prelude.{◌≡◌, List, [], ◌++◌, IsTrue}
use Rattle.std.specs.List.{AllByRecursion}
use Rattle.vm_superio.specs.Serial.{SerialView, State, TraceEntry, Trace, Coherent, sent_by}
use Rattle.vm_superio.specs.Links.Writer.{SerialLinks}
use Rattle.superio_laws.specs.Serial.History.{ResponsesAre, bytes_read, state_of_history, conditions_due_after, history_events, decode_at, is_fitting, IsWithinBound, RdaCoversWaitingBytes, RdaFollowsTimeouts, read_out_bytes, accepted_bytes}
use Rattle.vm_superio.specs.Serial.Run.{Call, Done, RecordsOf, entries_of, trace_of, without_restores, ReadsAre}
use Rattle.vm_superio.specs.Serial.Run.Segments.{Account, segments_of, TakesOutput, SegmentsAre}

-- a port by the history: a search of the start and of the trace
abbrev pub by_history : (start : State) → Account
by_history start = record {
  state = state_of_history start;
  due = conditions_due_after start;
  events = history_events start;
  bytes = λ (trace : Trace) (entry : TraceEntry). sent_by (decode_at start trace entry.op);
}

-- a run of these calls with these records, from a port to a port
pub record HistoryTheorem
    {T E EV W : Type 0} (links : SerialLinks T E EV W) (start : SerialView T EV W) (calls : List (Call T EV W))
    (records : List (Done T EV W E)) (end : SerialView T EV W) : Type 0 where
  -- there is a record of each call
  pub records_of_calls : RecordsOf calls records
  -- every byte that a guest reads is a function of the start, the earlier calls and the trigger's answers
  pub reads : ReadsAre start.state [] records
  -- so is every other response, to a write and to an enqueue, given the outcome of the byte that a write sends
  pub responses : ResponsesAre start.state [] (entries_of records)
  -- the bytes that a guest reads from the FIFO, followed by those held, are those held at the start, followed by those
  -- accepted
  pub read_bytes :
      bytes_read start.state [] (entries_of records) ++ end.state.in_buffer
      ≡ start.state.in_buffer ++ accepted_bytes start.state (trace_of records)
  -- the bytes taken, followed by those held, are that list too
  pub received_bytes :
      read_out_bytes start.state (trace_of records) ++ end.state.in_buffer
      ≡ start.state.in_buffer ++ accepted_bytes start.state (trace_of records)
  -- each trigger call outside restores is one condition that becomes pending; their number is bounded; and at the end
  -- of the run RDA is pending if bytes are held and IER enables it, and if neither IIR nor RBR was read since a byte
  -- was accepted, IER was written or a timeout was made
  pub trigger_calls : IsTrue (is_fitting start.state (trace_of records))
  pub bound : IsWithinBound start.state (trace_of records)
  pub waiting : RdaCoversWaitingBytes start.state (trace_of records)
  -- a character timeout makes RDA pending while bytes are held and enabled, and calls the trigger once for it
  pub timeouts : RdaFollowsTimeouts start.state (trace_of records)
  -- each object of a segment had the calls that the history says, in order, and no other. The trigger of a restore
  -- first had the calls that are due. The old port comes back in its state. A refused restore hands back its own
  -- objects
  pub objects : SegmentsAre links (by_history start.state) start calls records end
  -- so a writer of known contents took the output of its segment, byte for byte, while none is recorded lost
  pub known_output :
      AllByRecursion (TakesOutput links start.state) (segments_of (by_history start.state) start calls records end)
  -- restores change no read: without them the reads are the same
  pub reads_alone : ReadsAre start.state [] (without_restores records)
  -- the end is the state that the trace leads to, and it is coherent
  pub end_state : end.state ≡ state_of_history start.state (trace_of records)
  pub end_coherent : Coherent end.state
