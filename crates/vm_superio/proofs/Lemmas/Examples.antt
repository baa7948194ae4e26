-- SPDX-License-Identifier: Apache-2.0 OR BSD-3-Clause
-- Worked examples of definitions that contracts only suppose, or use as bounds. If such a definition were wrong, the
-- contracts would say less, and no proof would fail.
use Rattle.std.proofs.Common.{◌≡◌, ℕ, [], ◌∷◌, ◌++◌, replicate, refl, sym, subst, ap, ◌∙◌, arith, Ok, append-nil}
use Rattle.std.proofs.lemmas.Bool.{false≢true}
use Rattle.vm_superio.specs.Serial.{Asked, Sent, State, fresh_state, SerialView, Memory, Write, conditions_due, step, is_dlab, is_loopback, has_bits}
use Rattle.vm_superio.specs.Claims.{is_fresh, dlab_clear, not_in_loopback, in_loopback, ier_zero}
use Rattle.vm_superio.specs.Links.{Link, TriggerAnswer, all_ok}
use Rattle.vm_superio.specs.Serial.Run.{Act, Call, Done, Reply, Byte, Wrote, Restored, NotRestored, entry_of, without_restores}
use Rattle.vm_superio.specs.Serial.Run.Segments.{Account, Segment, segments_of, SegmentsAre}
use Rattle.vm_superio.specs.Serial.Run.Steps.{by_steps}
use Rattle.vm_superio.specs.Links.Writer.{SerialLinks, WriterLink}
use Rattle.vm_superio.specs.declared.serial.errors.Refused.{Refused}
use Rattle.vm_superio.specs.Serial.Step.{RefusesRestore}

-- ---- the calls by which the reads of a run are determined

no_restore_is_left : {T E EV W : Type 0} (done : Done T EV W E) → done.act ≡ Act.Restore → without_restores (done ∷ []) ≡ []
no_restore_is_left done restored = simp (restored)

-- ---- a run, split at the restores that succeed

-- a call that calls no trigger and sends no byte
abbrev done : {T E EV W : Type 0} → (act : Act) (reply : Reply T EV W E) → Done T EV W E
done act reply = record { act = act; asked = Asked.Nothing; sent = Sent.Nothing; reply = reply }

-- a read; a restore that is refused, and one that succeeds, of the objects with an `s`; and a read
module _
    {T E EV W : Type 0} (account : Account) (start old end : SerialView T EV W) (trigger triggers : T) (event events : EV)
    (out outs : W) (byte : ℕ) (refused : Refused T EV W E) where
  two_segments :
      let reads = done (Act.Read 0) (Byte byte) in
      let fails = done Act.Restore (NotRestored refused) in
      let succeeds = done Act.Restore (Restored old) in
      let first : Segment T E EV W =
      record { before = []; trigger = start.trigger; events = start.events; out = start.out; restoring = []; records = reads ∷ fails ∷ []; end = old } in
      let second : Segment T E EV W =
      record {
        before = entry_of succeeds ∷ entry_of fails ∷ entry_of reads ∷ [];
        trigger = triggers;
        events = events;
        out = outs;
        restoring = all_ok (account.due (entry_of fails ∷ entry_of reads ∷ []));
        records = reads ∷ [];
        end = end;
      } in
      segments_of account start (Call.Read 0 ∷ Call.Restore trigger event out ∷ Call.Restore triggers events outs ∷ Call.Read 0 ∷ [])
      (reads ∷ fails ∷ succeeds ∷ reads ∷ []) end
      ≡ first ∷ second ∷ []
  two_segments = refl

-- the guest sends a byte, the port is restored, and the guest sends another, from any state. Each writer took the byte
-- that was sent while it served; the new trigger had the calls due for the state of the old port, which comes back
module _
    {T E EV W : Type 0} (links : SerialLinks T E EV W) (start old end : SerialView T EV W) (trigger : T) (events : EV)
    (out : W) where
  abbrev sent : (value : ℕ) → Done T EV W E
  sent value = record { act = Act.Write 0 value; asked = Asked.Nothing; sent = Sent.Out; reply = Wrote (Ok tt) }

  record EachServes : Type 0 where
    first_writer : WriterLink links.contents (Sent.Out ∷ []) (0x41 ∷ []) start.out old.out
    second_writer : WriterLink links.contents (Sent.Out ∷ []) (0x42 ∷ []) out end.out
    first_trigger : links.trigger start.trigger [] old.trigger
    second_trigger : links.trigger trigger (all_ok (conditions_due old.state)) end.trigger
    old_state : old.state ≡ step start.state (Write 0 0x41) Asked.Nothing
    end_state : end.state ≡ step old.state (Write 0 0x42) Asked.Nothing

  each_serves :
      SegmentsAre links (by_steps start.state) start
      (Call.Write 0 0x41 ∷ Call.Restore trigger events out ∷ Call.Write 0 0x42 ∷ [])
      (sent 0x41 ∷ done Act.Restore (Restored old) ∷ sent 0x42 ∷ []) end
      → EachServes
  each_serves are =
      let first = are.served.0 in
      let second = are.served.1.0 in
      record {
        first_writer = first.out;
        second_writer = second.out;
        first_trigger = first.trigger;
        second_trigger =
            subst (λ answers. links.trigger trigger answers end.trigger) (append-nil (all_ok (conditions_due old.state)))
            (subst (λ s. links.trigger trigger (all_ok (conditions_due s) ++ []) end.trigger) (sym first.state) second.trigger);
        old_state = first.state;
        end_state = second.state ∙ ap (λ s. step s (Write 0 0x42) Asked.Nothing) (sym first.state);
      }

-- ---- restores

-- it is refused with one byte more than 64
one_more_is_full : {T E : Type 0} (link : Link T (TriggerAnswer E)) (old new : T)
    → RefusesRestore link (record fresh_state { in_buffer = replicate 65 0x61 }) Memory old new → ⊥
one_more_is_full link old new refuses = omega (arith, refuses.0)

-- ---- words for claims

module _ {T EV W : Type 0} (port : SerialView T EV W) where
  fresh_shows_data : is_fresh port → dlab_clear port
  unfolding has_bits
  fresh_shows_data fresh = ap (λ (s : State). is_dlab s.line_control) fresh

  fresh_is_outside : is_fresh port → not_in_loopback port
  unfolding has_bits
  fresh_is_outside fresh = ap (λ (s : State). is_loopback s.modem_control) fresh

  fresh_is_masked : is_fresh port → ier_zero port
  fresh_is_masked fresh = ap (λ (s : State). s.interrupt_enable) fresh

  inside_or_outside : in_loopback port → not_in_loopback port → ⊥
  inside_or_outside inside outside = false≢true (sym outside ∙ inside)
