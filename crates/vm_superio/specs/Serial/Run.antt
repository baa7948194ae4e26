-- SPDX-License-Identifier: Apache-2.0 OR BSD-3-Clause
-- The calls of a run and their records: each record as an entry of a trace, and what the reads show.
pub mod HistoryTheorem
pub mod Segments
pub mod Steps
use Rattle.std.specs.Prelude.{◌≡◌, ⊤, ℕ, List, [], ◌∷◌, Bool, true, false, not, Option, None, filter, sum_by}
pub use Rattle.vm_superio.specs.declared.run.Act.{Act}
pub use Rattle.vm_superio.specs.declared.run.Reply.{Reply}
pub use Rattle.vm_superio.specs.declared.run.Reply.TheVariants.{Byte, Wrote, Enqueued, TimedOut, Restored, NotRestored}
pub use Rattle.vm_superio.specs.declared.run.Call.{Call}
pub use Rattle.vm_superio.specs.declared.run.Done.{Done}
use Rattle.vm_superio.specs.Serial.{write_response, enqueue_response, timeout_response, refusal_in_result, Op, Read, Write, Enqueue, CharacterTimeout, Restore, TraceEntry, Response, ByteRead, NoResponse, Trace, trace_after, State, answer_count, acknowledged_at}
use Rattle.superio_laws.specs.Serial.History.{guest_read}

abbrev pub op_of : (act : Act) → Op
op_of (Act.Read offset) = Read offset
op_of (Act.Write offset value) = Write offset value
op_of (Act.Enqueue bytes) = Enqueue bytes.items
op_of Act.CharacterTimeout = CharacterTimeout
op_of Act.Restore = Restore

abbrev pub is_restore : (act : Act) → Bool
is_restore Act.Restore = true
is_restore _ = false

-- the call without its objects
abbrev pub act_of : {T EV W : Type 0} → (call : Call T EV W) → Act
act_of (Call.Read offset) = Act.Read offset
act_of (Call.Write offset value) = Act.Write offset value
act_of (Call.Enqueue bytes) = Act.Enqueue bytes
act_of Call.CharacterTimeout = Act.CharacterTimeout
act_of (Call.Restore trigger events out) = Act.Restore

module _ {T E EV W : Type 0} where
  -- a reply is of the kind that belongs to the act
  abbrev pub IsReplyTo : (act : Act) (reply : Reply T EV W E) → Type 0
  IsReplyTo (Act.Read offset) (Byte byte) = ⊤
  IsReplyTo (Act.Write offset value) (Wrote answer) = ⊤
  IsReplyTo (Act.Enqueue bytes) (Enqueued answer) = ⊤
  IsReplyTo Act.CharacterTimeout (TimedOut answer) = ⊤
  IsReplyTo Act.Restore (Restored old) = ⊤
  IsReplyTo Act.Restore (NotRestored refused) = ⊤
  IsReplyTo _ _ = ⊥

  -- there is one record for each call, in order
  abbrev pub RecordsOf : (calls : List (Call T EV W)) (records : List (Done T EV W E)) → Type 0
  RecordsOf [] [] = ⊤
  RecordsOf (call ∷ calls) (done ∷ later) =
      (done.act ≡ act_of call) × IsReplyTo (act_of call) done.reply × RecordsOf calls later
  RecordsOf _ _ = ⊥

  abbrev pub entry_of : (done : Done T EV W E) → TraceEntry
  entry_of done = record { op = op_of done.act; asked = done.asked; sent = done.sent }

  abbrev pub response_of : (reply : Reply T EV W E) → Response
  response_of (Byte byte) = ByteRead byte
  response_of (Wrote answer) = write_response answer
  response_of (Enqueued answer) = enqueue_response answer
  response_of (TimedOut answer) = timeout_response answer
  response_of _ = NoResponse

  -- the refusal in a reply, if the port's own trigger refused an interrupt
  abbrev pub refusal_in_reply : (reply : Reply T EV W E) → Option E
  refusal_in_reply (Wrote answer) = refusal_in_result answer
  refusal_in_reply (Enqueued answer) = refusal_in_result answer
  refusal_in_reply (TimedOut answer) = refusal_in_result answer
  refusal_in_reply _ = None

  abbrev pub entries_of : (records : List (Done T EV W E)) → List (TraceEntry × Response)
  entries_of [] = []
  entries_of (done ∷ later) = (entry_of done, response_of done.reply) ∷ entries_of later

  -- the trace at the end of a run
  abbrev pub trace_of : (records : List (Done T EV W E)) → Trace
  trace_of records = trace_after [] (entries_of records)

  abbrev pub without_restores : (records : List (Done T EV W E)) → List (Done T EV W E)
  without_restores records = filter (λ (done : Done T EV W E). not (is_restore done.act)) records

-- ---- what a guest reads over a run from a coherent start, by the history alone

module _ {T E EV W : Type 0} where
  -- the reply to each read is the guest read at its point of the trace
  abbrev pub ReadIs : (start : State) (trace : Trace) (act : Act) (reply : Reply T EV W E) → Type 0
  ReadIs start trace (Act.Read offset) reply = reply ≡ Byte (guest_read start trace offset)
  ReadIs start trace _ reply = ⊤

  abbrev pub ReadsAre : (start : State) (trace : Trace) (records : List (Done T EV W E)) → Type 0
  ReadsAre start trace [] = ⊤
  ReadsAre start trace (done ∷ later) =
      ReadIs start trace done.act done.reply × ReadsAre start (entry_of done ∷ trace) later

-- ---- how often the trigger is called, not counting restores

module _ {T E EV W : Type 0} where
  -- the answers of the trigger in some records. The record of a restore has none
  abbrev pub answers_in_records : (records : List (Done T EV W E)) → ℕ
  answers_in_records records = sum_by (λ (done : Done T EV W E). answer_count done.asked) records

module _ {T EV W : Type 0} where
  -- how many conditions a call acknowledges at most
  abbrev pub acknowledged_by : (call : Call T EV W) → ℕ
  acknowledged_by (Call.Read offset) = acknowledged_at offset
  acknowledged_by _ = 0

  -- two for each `Read(2)`, and one for each `Read(0)`
  abbrev pub acknowledged_in : (calls : List (Call T EV W)) → ℕ
  acknowledged_in calls = sum_by acknowledged_by calls
