-- SPDX-License-Identifier: Apache-2.0 OR BSD-3-Clause
-- The encoding of a saved console.
use Rattle.std.proofs.Common.{◌≡◌, ℕ, zero, suc, ◌+◌, ◌-◌, ◌<◌, ◌≤◌, ◌^◌, ◌==◌, ◌*◌, ◌%◌, ◌/◌, Bool, true, false, not, ◌||◌, nat_lt, if◌then◌else◌, bit_and, List, []}
use Rattle.std.proofs.Common.{◌∷◌, ◌++◌, length, take, drop, slice_index, Option, Some, None, refl, sym, ap, subst, ◌∙◌, arith, length-append, length-drop, length-take, min, append_assoc, take-append-drop, take_all}
use Rattle.std.proofs.Math.Seq.{drop-drop}
use Rattle.std.proofs.lemmas.List.{take_at, drop_at, drop_more, get_or-drop}
use Rattle.std.proofs.lemmas.Bool.Decides.{nat_tests}
use Rattle.std.proofs.lemmas.Nat.Bits.{and_high}
use Rattle.std.proofs.lemmas.Nat.{le_bytes_2, le_bytes_8, from_le_bytes-to_le_bytes_2, from_le_bytes-to_le_bytes_8}
use Rattle.std.specs.Option.{option_or}
use Rattle.std.specs.Int.{w16, w64, to_le_bytes, from_le_bytes}
use Rattle.superio_core.specs.declared.saved.SavedStateError.{SavedStateError}
use Rattle.superio_core.specs.declared.saved.SavedStateError.TheVariants.{WrongLength, InvalidFlags}
use Rattle.superio_core.specs.Saved.{header, encoding, header_fault, console_kind, serial_encoding, serial_fault}
use Rattle.superio_core.specs.declared.serial.Uart.{Uart}
use Rattle.superio_core.specs.Serial.{state_of_bytes, state_of_uart, ring_from}
use Rattle.superio_core.proofs.Lemmas.Saved.{serial_encoding_has_no_fault}
use Rattle.superio_console.specs.Console.{ConsoleState, Console, state_of}
use Rattle.superio_console.specs.Saved.{flags_of, bit_if, console_prefix, console_contents, console_encoding, output_count, console_contents_fault, console_fault, IsConsole, ConsoleEncodingLaw, OneConsoleStateLaw}

-- ---- what is written

-- parts that are written one behind the other
pub all-written :
    (first second third last prefix older newer output port : List ℕ) (count_1 count_2 count_3 count : ℕ)
    → take count_1 first ≡ prefix → take count_2 second ≡ take count_1 first ++ older
    → take count_3 third ≡ take count_2 second ++ newer → take count last ≡ take count_3 third ++ port
    → older ++ newer ≡ output → take count last ≡ prefix ++ (output ++ port)
all-written first second third last prefix older newer output port count_1 count_2 count_3 count is_1 is_2 is_3 is both =
    is
    ∙ ap (λ l. l ++ port) (is_3 ∙ ap (λ l. l ++ newer) (is_2 ∙ ap (λ l. l ++ older) is_1) ∙ append_assoc prefix older newer)
    ∙ append_assoc prefix (older ++ newer) port
    ∙ ap (λ l. prefix ++ (l ++ port)) both

-- bytes that are alike from a place on are so from a later one on
pub alike-later : (place later : ℕ) (a b : List ℕ) → place ≤ later → drop place a ≡ drop place b → drop later a ≡ drop later b
alike-later place later a b before same =
    let apart : later ≡ place + (later - place) = omega (arith, before) in
    ap (λ n. drop n a) apart
    ∙ sym (drop-drop (later - place) place a)
    ∙ ap (drop (later - place)) same
    ∙ drop-drop (later - place) place b
    ∙ ap (λ n. drop n b) (sym apart)

contents-length : (c : ConsoleState) → 11 + length c.output + length (serial_encoding c.port) ≡ length (console_contents c)
contents-length c = omega (arith, length-append c.output (serial_encoding c.port))

pub prefix-then : (c : ConsoleState) (waiting port : ℕ) → waiting ≡ length c.output → port ≡ length (serial_encoding c.port)
    → console_prefix c waiting port ++ (c.output ++ serial_encoding c.port) ≡ console_encoding c
prefix-then c waiting port is_waiting is_port =
    ap (λ n. console_prefix c n port ++ (c.output ++ serial_encoding c.port)) is_waiting
    ∙ ap (λ n. console_prefix c (length c.output) n ++ (c.output ++ serial_encoding c.port)) is_port
    ∙ ap (λ n. header console_kind n ++ console_contents c) (contents-length c)

-- ---- the flags, as bits of a number

bit-1 : (n : ℕ) → n < 2 → bit_if (not (n * 1 == 0)) 1 ≡ n * 1
bit-1 n bit = grind (arith, nat_tests)

bit-2 : (n : ℕ) → n < 2 → bit_if (not (n * 2 == 0)) 2 ≡ n * 2
bit-2 n bit = grind (arith, nat_tests)

bit-4 : (n : ℕ) → n < 2 → bit_if (not (n * 4 == 0)) 4 ≡ n * 4
bit-4 n bit = grind (arith, nat_tests)

bit-8 : (n : ℕ) → n < 2 → bit_if (not (n * 8 == 0)) 8 ≡ n * 8
bit-8 n bit = grind (arith, nat_tests)

-- the bits of a number below 16 make it
pub flags-back : (flags : ℕ) → flags ≤ 15
    → bit_if (not (bit_and flags 1 == 0)) 1 + bit_if (not (bit_and flags 2 == 0)) 2 + bit_if (not (bit_and flags 4 == 0)) 4
    + bit_if (not (bit_and flags 8 == 0)) 8 ≡ flags
flags-back flags few =
    let polled = ap (λ n. bit_if (not (n == 0)) 1) (and_high flags 1 0) ∙ bit-1 (flags / 1 % 2) (omega arith) in
    let ready = ap (λ n. bit_if (not (n == 0)) 2) (and_high flags 1 1) ∙ bit-2 (flags / 2 % 2) (omega arith) in
    let asleep = ap (λ n. bit_if (not (n == 0)) 4) (and_high flags 1 2) ∙ bit-4 (flags / 4 % 2) (omega arith) in
    let refused = ap (λ n. bit_if (not (n == 0)) 8) (and_high flags 1 3) ∙ bit-8 (flags / 8 % 2) (omega arith) in
    omega (arith, few, polled, ready, asleep, refused)

polled-back : (a b c d : Bool) → ((bit_if a 1 + bit_if b 2 + bit_if c 4 + bit_if d 8) % 2 == 1) ≡ a
polled-back a b c d = grind (arith, nat_tests)

ready-back : (a b c d : Bool) → ((bit_if a 1 + bit_if b 2 + bit_if c 4 + bit_if d 8) / 2 % 2 == 1) ≡ b
ready-back a b c d = grind (arith, nat_tests)

asleep-back : (a b c d : Bool) → ((bit_if a 1 + bit_if b 2 + bit_if c 4 + bit_if d 8) / 4 % 2 == 1) ≡ c
asleep-back a b c d = grind (arith, nat_tests)

refused-back : (a b c d : Bool) → ((bit_if a 1 + bit_if b 2 + bit_if c 4 + bit_if d 8) / 8 % 2 == 1) ≡ d
refused-back a b c d = grind (arith, nat_tests)

at-most-15 : (a b c d : Bool) → bit_if a 1 + bit_if b 2 + bit_if c 4 + bit_if d 8 ≤ 15
at-most-15 a b c d = grind arith

-- ---- what is read

-- the console of these contents
abbrev state_in : (contents : List ℕ) → ConsoleState
state_in contents =
    let flags = slice_index contents 0 in
    let rest = drop 11 contents in
    record {
      port = state_of_bytes (drop 8 (drop (output_count contents) rest));
      output = take (output_count contents) rest;
      dropped = from_le_bytes w64 (drop 1 contents);
      is_polled = flags % 2 == 1;
      is_ready = flags / 2 % 2 == 1;
      is_asleep = flags / 4 % 2 == 1;
      is_refused = flags / 8 % 2 == 1;
    }

count-back : (c : ConsoleState) → length c.output ≤ 4096 → output_count (console_contents c) ≡ length c.output
count-back c few = from_le_bytes-to_le_bytes_2 (length c.output) (omega (arith, few))

pub state_in-contents : (c : ConsoleState) → IsConsole c → state_in (console_contents c) ≡ c
state_in-contents c fits =
    let count = count-back c fits.waiting in
    let port = ap (λ n. state_of_bytes (drop 8 (drop n (c.output ++ serial_encoding c.port)))) count
    ∙ ap (λ bytes. state_of_bytes (drop 8 bytes)) (drop_at c.output (serial_encoding c.port) (length c.output) refl) in
    let output = ap (λ n. take n (c.output ++ serial_encoding c.port)) count ∙ take_at c.output (serial_encoding c.port) (length c.output) refl in
    let dropped = from_le_bytes-to_le_bytes_8 c.dropped fits.dropped in
    let polled = polled-back c.is_polled c.is_ready c.is_asleep c.is_refused in
    let ready = ready-back c.is_polled c.is_ready c.is_asleep c.is_refused in
    let asleep = asleep-back c.is_polled c.is_ready c.is_asleep c.is_refused in
    let refused = refused-back c.is_polled c.is_ready c.is_asleep c.is_refused in
    (λ i. record {
      port = port i;
      output = output i;
      dropped = dropped i;
      is_polled = polled i;
      is_ready = ready i;
      is_asleep = asleep i;
      is_refused = refused i;
    })

pub one_console_state : OneConsoleStateLaw
one_console_state a b a_fits b_fits same =
    sym (state_in-contents a a_fits) ∙ ap (λ bytes. state_in (drop 8 bytes)) same ∙ state_in-contents b b_fits

-- ---- the checks

eq-self : (n : ℕ) → (n == n) ≡ true
eq-self n = grind (arith, nat_tests)

length-passes : (n : ℕ) → n < 2 ^ 16 → ◌≡◌ {A = Option SavedStateError}
    (if not (from_le_bytes w16 (n % 256 ∷ n / 256 % 256 ∷ []) == n) then Some WrongLength else None) None
length-passes n fits =
    ap (λ m. if not (m == n) then Some WrongLength else None) (from_le_bytes-to_le_bytes_2 n fits)
    ∙ ap (λ same. if not same then Some WrongLength else None) (eq-self n)

header-passes : (contents : List ℕ) → length contents < 2 ^ 16 → header_fault console_kind (encoding console_kind contents) ≡ None
header-passes contents fits = length-passes (length contents) fits

not-below : (n m : ℕ) → m ≤ n → nat_lt n m ≡ false
not-below n m least = grind (arith, nat_tests)

none-wrong : (short many cut wrong : Bool) (fault : Option SavedStateError) → short ≡ false → many ≡ false → cut ≡ false → wrong ≡ false
    → (if short || many || cut then Some WrongLength else (if wrong then Some InvalidFlags else fault)) ≡ fault
none-wrong short many cut wrong fault is_1 is_2 is_3 is_4 = rw (is_1, is_2, is_3, is_4) refl

-- if the console's own bytes pass, the port's are checked
pub contents-pass : (contents : List ℕ) → 11 + output_count contents ≤ length contents → output_count contents ≤ 4096
    → slice_index contents 0 ≤ 15 → console_contents_fault contents ≡ serial_fault (drop (11 + output_count contents) contents)
contents-pass contents all few known =
    none-wrong (nat_lt (length contents) 11) (nat_lt 4096 (output_count contents)) (nat_lt (length contents) (11 + output_count contents))
    (nat_lt 15 (slice_index contents 0)) (serial_fault (drop (11 + output_count contents) contents))
    (not-below (length contents) 11 (omega (arith, all))) (not-below 4096 (output_count contents) few)
    (not-below (length contents) (11 + output_count contents) all) (not-below 15 (slice_index contents 0) known)

pub console_encoding_has_no_fault : ConsoleEncodingLaw
console_encoding_has_no_fault c fits =
    let contents = console_contents c in
    let port = serial_encoding c.port in
    let count = count-back c fits.waiting in
    let size = contents-length c in
    let few : length port ≤ 81 = omega (arith, fits.held) in
    let small : length contents < 2 ^ 16 = omega (arith, size, few, fits.waiting) in
    ap (λ fault. option_or fault (console_contents_fault contents)) (header-passes contents small)
    ∙ contents-pass contents (omega (arith, size, count)) (omega (arith, count, fits.waiting)) (at-most-15 c.is_polled c.is_ready c.is_asleep c.is_refused)
    ∙ ap (λ n. serial_fault (drop (11 + n) contents)) count
    ∙ ap serial_fault (sym (drop-drop (length c.output) 11 contents) ∙ drop_at c.output port (length c.output) refl)
    ∙ serial_encoding_has_no_fault c.port fits.held

-- ---- contents in parts

next : (contents rest : List ℕ) (place : ℕ) → place < length contents → drop (place + 1) contents ≡ rest
    → drop place contents ≡ slice_index contents place ∷ rest
next contents rest place inside is = drop_more contents place 0 inside ∙ ap (λ l. slice_index contents place ∷ l) is

-- eight bytes from the second on, and then two
abbrev number_of_8 : (contents : List ℕ) → List ℕ
number_of_8 contents =
    slice_index contents 1 ∷ slice_index contents 2 ∷ slice_index contents 3 ∷ slice_index contents 4 ∷ slice_index contents 5
    ∷ slice_index contents 6 ∷ slice_index contents 7 ∷ slice_index contents 8 ∷ []

abbrev number_of_2 : (contents : List ℕ) → List ℕ
number_of_2 contents = slice_index contents 9 ∷ slice_index contents 10 ∷ []

in-parts : (contents : List ℕ) → 11 ≤ length contents
    → contents ≡ slice_index contents 0 ∷ number_of_8 contents ++ number_of_2 contents ++ drop 11 contents
in-parts contents long =
    next contents _ 0 (omega (arith, long)) (next contents _ 1 (omega (arith, long)) (next contents _ 2 (omega (arith, long))
    (next contents _ 3 (omega (arith, long)) (next contents _ 4 (omega (arith, long)) (next contents _ 5 (omega (arith, long))
    (next contents _ 6 (omega (arith, long)) (next contents _ 7 (omega (arith, long)) (next contents _ 8 (omega (arith, long))
    (next contents _ 9 (omega (arith, long)) (next contents (drop 11 contents) 10 (omega (arith, long)) refl))))))))))

small-8 : (contents : List ℕ) → ((i : ℕ) → slice_index contents i < 256) → (i : ℕ) → slice_index (number_of_8 contents) i < 256
small-8 contents small zero = small 1
small-8 contents small (suc zero) = small 2
small-8 contents small (suc (suc zero)) = small 3
small-8 contents small (suc (suc (suc zero))) = small 4
small-8 contents small (suc (suc (suc (suc zero)))) = small 5
small-8 contents small (suc (suc (suc (suc (suc zero))))) = small 6
small-8 contents small (suc (suc (suc (suc (suc (suc zero)))))) = small 7
small-8 contents small (suc (suc (suc (suc (suc (suc (suc zero))))))) = small 8
small-8 contents small (suc (suc (suc (suc (suc (suc (suc (suc i)))))))) = omega arith

small-2 : (contents : List ℕ) → ((i : ℕ) → slice_index contents i < 256) → (i : ℕ) → slice_index (number_of_2 contents) i < 256
small-2 contents small zero = small 9
small-2 contents small (suc zero) = small 10
small-2 contents small (suc (suc i)) = omega arith

-- what is left behind eleven bytes
pub rest-of : (contents : List ℕ) → take (length contents - 11) (drop 11 contents) ≡ drop 11 contents
rest-of contents = take_all (length contents - 11) (drop 11 contents) (omega (arith, length-drop 11 contents))

pub split-back : (n : ℕ) (front back rest : List ℕ) → front ≡ take n rest → back ≡ drop n rest → front ++ back ≡ rest
split-back n front back rest is_front is_back = ap (λ l. l ++ back) is_front ∙ ap (λ l. take n rest ++ l) is_back ∙ take-append-drop n rest

-- they are the parts of the encoding
pub parts-back : (contents output port : List ℕ) (dropped : ℕ) → 11 ≤ length contents → ((i : ℕ) → slice_index contents i < 256)
    → dropped ≡ from_le_bytes w64 (number_of_8 contents) → length output ≡ output_count contents → output ++ port ≡ drop 11 contents
    → contents ≡ slice_index contents 0 ∷ to_le_bytes w64 dropped ++ to_le_bytes w16 (length output) ++ (output ++ port)
parts-back contents output port dropped long small is_dropped is_count is_rest =
    in-parts contents long
    ∙ ap (λ l. slice_index contents 0 ∷ l ++ number_of_2 contents ++ drop 11 contents)
    (sym (le_bytes_8 (number_of_8 contents) dropped refl (small-8 contents small) is_dropped))
    ∙ ap (λ l. slice_index contents 0 ∷ to_le_bytes w64 dropped ++ l ++ drop 11 contents)
    (sym (le_bytes_2 (number_of_2 contents) (length output) refl (small-2 contents small) is_count))
    ∙ ap (λ l. slice_index contents 0 ∷ to_le_bytes w64 dropped ++ to_le_bytes w16 (length output) ++ l) (sym is_rest)

-- what a byte of the contents is among all bytes
pub contents-small : (kind : ℕ) (bytes contents : List ℕ) → bytes ≡ encoding kind contents → ((i : ℕ) → slice_index bytes i < 256)
    → (i : ℕ) → slice_index contents i < 256
contents-small kind bytes contents is small i =
    subst (λ n. n < 256) (sym (get_or-drop 8 bytes i 0) ∙ ap (λ l. slice_index (drop 8 l) i) is) (small (8 + i))

pub passes-on : (bytes contents port : List ℕ) → None ≡ header_fault console_kind bytes → bytes ≡ encoding console_kind contents
    → 11 + output_count contents ≤ length contents → output_count contents ≤ 4096 → slice_index contents 0 ≤ 15
    → port ≡ drop (output_count contents) (drop 11 contents) → console_fault bytes ≡ serial_fault port
passes-on bytes contents port none is all few known is_port =
    ap (λ fault. option_or fault (console_contents_fault (drop 8 bytes))) (sym none)
    ∙ ap (λ l. console_contents_fault (drop 8 l)) is
    ∙ contents-pass contents all few known
    ∙ ap serial_fault (sym (drop-drop (output_count contents) 11 contents) ∙ sym is_port)

-- ---- a console that is read

pub encoded : (bytes output port : List ℕ) (flags dropped : ℕ) (c : ConsoleState)
    → bytes ≡ encoding console_kind (flags ∷ to_le_bytes w64 dropped ++ to_le_bytes w16 (length output) ++ (output ++ port))
    → flags_of c ≡ flags → c.dropped ≡ dropped → c.output ≡ output → port ≡ serial_encoding c.port → bytes ≡ console_encoding c
encoded bytes output port flags dropped c is is_flags is_dropped is_output is_port =
    is
    ∙ ap (λ n. encoding console_kind (n ∷ to_le_bytes w64 dropped ++ to_le_bytes w16 (length output) ++ (output ++ port))) (sym is_flags)
    ∙ ap (λ n. encoding console_kind (flags_of c ∷ to_le_bytes w64 n ++ to_le_bytes w16 (length output) ++ (output ++ port))) (sym is_dropped)
    ∙ ap (λ l. encoding console_kind (flags_of c ∷ to_le_bytes w64 c.dropped ++ to_le_bytes w16 (length l) ++ (l ++ port))) (sym is_output)
    ∙ ap (λ l. encoding console_kind (flags_of c ∷ to_le_bytes w64 c.dropped ++ to_le_bytes w16 (length c.output) ++ (c.output ++ l))) is_port

pub at-most-64 : (port : Uart) → length (state_of_uart port).in_buffer ≤ 64
at-most-64 port = omega (arith, length-take (min port.in_buffer.len 64) (ring_from port.in_buffer.head port.in_buffer.bytes))

-- what is read of the encoding of a state is this state
pub read-back : (bytes : List ℕ) (console : Console) (state : ConsoleState) → IsConsole (state_of console) → IsConsole state
    → bytes ≡ console_encoding (state_of console) → bytes ≡ console_encoding state → state_of console ≡ state
read-back bytes console state fits state_fits is state_is =
    one_console_state (state_of console) state fits state_fits (sym is ∙ state_is)

-- and it is read
pub not-refused : (bytes : List ℕ) (error : SavedStateError) (state : ConsoleState) → IsConsole state
    → bytes ≡ console_encoding state → console_fault bytes ≡ Some error → ⊥
not-refused bytes error state fits is fault =
    let none : ◌≡◌ {A = Option SavedStateError} None (Some error) = sym (console_encoding_has_no_fault state fits) ∙ ap console_fault (sym is) ∙ fault in cc
