-- SPDX-License-Identifier: Apache-2.0 OR BSD-3-Clause
-- A read of LCR or LSR changes nothing, and a read of RBR is the next one of those that take all bytes.
use Rattle.std.proofs.Common.{[], ◌∷◌, ◌++◌, sym, ap, ◌∙◌, subst, append_assoc, append-nil, refl, arith}
use Rattle.vm_superio.specs.Serial.{SerialView, has_bits, Other, State, is_dlab}
use Rattle.superio_script.specs.Driver.{ReadsWhileReady}
use Rattle.superio_script.proofs.DriverLemmas.{reads_left-few, lcr_read, lsr_read, polled_read, coherent_after, takes_all}
use Rattle.superio_script.proofs.driver.drain.Goals as goal

pub loop-bytes-init : goal.loop-bytes-init
loop-bytes-init g c =
    let T = g.row.T.Denot in
    let EV = g.row.EV.Denot in
    let W = g.row.W.Denot in
    let same = c.read.ensures.rest_unchanged (refl {a = Other}) in
    let value = lcr_read c.read.ensures.step in
    record {
      hidden = ap (λ (port : SerialView T EV W). is_dlab port.state.line_control) same
          ∙ ap (λ byte. has_bits byte 0x80) (sym value) ∙ sym c.shows_latch.ensures ∙ c.if-shows_latch.false;
      room = rw c.new-bytes.ensures (omega (arith, reads_left-few c.read.new.self.state c.read.ensures.at_most_64));
      whole = λ later end h. rw c.new-bytes.ensures
          (subst (λ (port : SerialView T EV W). ReadsWhileReady g.T.Trigger.link g.EV.SerialEvents.link g.W.Write.contents later port end) same h);
      trigger = c.read.ensures.trigger;
      out = c.read.ensures.out;
    }

pub loop-bytes-smaller : goal.loop-bytes-smaller
loop-bytes-smaller g c =
    let one = polled_read c.loop-bytes.invariant.hidden c.read-in-loop-bytes.ensures.step
    (c.read-in-loop-bytes.ensures.rest_unchanged (refl {a = Other})) (sym c.has_data_ready.ensures ∙ c.loop-bytes-test.true) c.read-in-loop-bytes-2.ensures.step in
    omega (arith, one.less)

pub loop-bytes-preserved : goal.loop-bytes-preserved
loop-bytes-preserved g c =
    let before = c.loop-bytes.invariant in
    let one = polled_read c.loop-bytes.invariant.hidden c.read-in-loop-bytes.ensures.step
    (c.read-in-loop-bytes.ensures.rest_unchanged (refl {a = Other})) (sym c.has_data_ready.ensures ∙ c.loop-bytes-test.true) c.read-in-loop-bytes-2.ensures.step in
    record {
      hidden = one.hidden;
      room = omega (arith, before.room, c.push.ensures.len, one.less);
      whole = λ later end h. rw (c.push.ensures.items, append_assoc)
          (before.whole (c.read-in-loop-bytes-2.result ∷ later) end (one.ready, (c.read-in-loop-bytes-2.new.self, one.made, h)));
      trigger = c.read-in-loop-bytes-2.ensures.trigger ∙ c.read-in-loop-bytes.ensures.trigger ∙ before.trigger;
      out = c.read-in-loop-bytes-2.ensures.out ∙ c.read-in-loop-bytes.ensures.out ∙ before.out;
    }

pub returns-clause-reads : goal.returns-clause-reads
returns-clause-reads g c = rw (← append-nil c.loop-bytes.bytes.items)
    (c.loop-bytes.invariant.whole [] c.read-in-loop-bytes.new.self (c.read-in-loop-bytes.ensures.rest_unchanged (refl {a = Other})))

pub returns-clause-stops_when_not_ready : goal.returns-clause-stops_when_not_ready
returns-clause-stops_when_not_ready g c = λ hidden.
    let value = lsr_read c.read-in-loop-bytes.ensures.step in
    ap (λ (port : SerialView g.row.T.Denot g.row.EV.Denot g.row.W.Denot). has_bits port.state.line_status 0x01) (c.read-in-loop-bytes.ensures.rest_unchanged (refl {a = Other}))
    ∙ ap (λ byte. has_bits byte 0x01) (sym value) ∙ sym c.has_data_ready.ensures ∙ c.loop-bytes-test.false

pub returns-clause-all : goal.returns-clause-all
returns-clause-all g c = λ is hidden.
    takes_all g.T.Trigger.link g.EV.SerialEvents.link g.W.Write.contents g.met.EV.SerialEvents.empty g.met.EV.SerialEvents.append
    c.loop-bytes.bytes.items c.args.serial.now c.read-in-loop-bytes.new.self is hidden (returns-clause-reads g c)
    (returns-clause-stops_when_not_ready g c hidden)

pub returns-clause-no_loss : goal.returns-clause-no_loss
returns-clause-no_loss g c = λ is.
    let value = lcr_read c.read.ensures.step in
    let clear = ap (λ byte. has_bits byte 0x80) (sym value) ∙ sym c.shows_latch.ensures ∙ c.if-shows_latch.false in
    let all = returns-clause-all g c is clear in
    ap (λ (s : State). c.loop-bytes.bytes.items ++ s.in_buffer) all.state ∙ append-nil c.loop-bytes.bytes.items ∙ all.bytes

pub returns-clause-coherent : goal.returns-clause-coherent
returns-clause-coherent g c = λ is.
    coherent_after g.T.Trigger.link g.EV.SerialEvents.link g.W.Write.contents g.met.EV.SerialEvents.empty g.met.EV.SerialEvents.append
    c.loop-bytes.bytes.items c.args.serial.now c.read-in-loop-bytes.new.self is (returns-clause-reads g c)
