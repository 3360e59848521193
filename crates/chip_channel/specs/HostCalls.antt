-- N10's calls through the C interface: which call of rcs956.h each is, by its number.
use Rattle.std.specs.Prelude.{◌≡◌, Bool, false, cond, List, ℕ}
use Rattle.std.proofs.Math.Path.{refl, ap}
use Rattle.std.proofs.Math.Option.{Option, some}
use Rattle.protocol.specs.Arguments.{flag, ms_of, is_long_wait}
use Rattle.protocol.specs.Calls.{DeviceCall, ReaderCall, device, unknown, detect_type_a_of, detect_type_b_of, detect_type_f_of, detect_dep_of, transceive, read_without_encryption, write_without_encryption}
use Rattle.calls.specs.Numbers.{call_of}
use Rattle.calls.specs.declared.start.Numbers.{Numbers}
use Rattle.engine.specs.Inputs.{Input, opens, asks}
use Rattle.session_host.specs.Entries.{host_call, host_input}

module _ (n : Numbers) (first second third fourth b : List ℕ) where
  -- rcs956_call with this number is this call
  abbrev Calls : ℕ → DeviceCall → Type 0
  Calls number d = host_input (host_call number n first second third fourth b) ≡ some (asks n.caller (device d) b)

  pub host-opens : host_input (host_call 0 n first second third fourth b) ≡ some (opens n.caller n.x b)
  unfolding call_of
  host-opens = refl

  pub host_detect_a : Calls 19 (detect_type_a_of first second)
  unfolding call_of
  host_detect_a = refl

  pub host_detect_b : Calls 20 (detect_type_b_of first second)
  unfolding call_of
  host_detect_b = refl

  pub host_detect_f : Calls 21 (detect_type_f_of first n.word n.x n.y)
  unfolding call_of
  host_detect_f = refl

  pub host_detect_dep : Calls 22 (detect_dep_of first second)
  unfolding call_of
  host_detect_dep = refl

  pub host_transceive : Calls 23 (transceive first second (flag n.x) third (ms_of (flag n.y) n.word))
  unfolding call_of
  host_transceive = refl

  -- of ms that are not given, or fit 16 bits
  abbrev IsShortWait : Type 0
  IsShortWait = is_long_wait (flag n.y) n.ms ≡ false

  asked : ReaderCall → Bool → Option Input
  asked c long = some (asks n.caller (cond long unknown c) b)

  pub host_read : IsShortWait → Calls 26 (read_without_encryption first n.word second (ms_of (flag n.y) n.ms))
  unfolding call_of asked
  host_read h = ap (asked (device (read_without_encryption first n.word second (ms_of (flag n.y) n.ms)))) h

  pub host_write : IsShortWait → Calls 27 (write_without_encryption first n.word second third (ms_of (flag n.y) n.ms))
  unfolding call_of asked
  host_write h = ap (asked (device (write_without_encryption first n.word second third (ms_of (flag n.y) n.ms)))) h
