-- How each call starts.
use Rattle.std.specs.Prelude.{get_or}
use Rattle.errors.specs.declared.Refusal.TheVariants.{BadArgument}
use Rattle.protocol.specs.Discovery.{sensf_req}
use Rattle.protocol.specs.Calls.{DeviceCall, detect_type_a_of, detect_type_a_split, detect_type_b_of, detect_type_f_of, poll_type_f, detect_dep_of, transceive, read_without_encryption, write_without_encryption}
use Rattle.protocol.specs.Calls.{ReaderCall, request, device, unknown, Call, opening, reader}
use Rattle.protocol.specs.Starts.{type_a_code, type_b_code, type_f_code, clock_of}
use Rattle.stages.specs.Starts.{Start, refuses}
use Rattle.stages.specs.Bitrates.{code_for}
use Rattle.chipset.specs.Commands.{first_of}
use Rattle.device.specs.Transceive.{transceive_first}
use Rattle.device.specs.Blocks.{read_first, write_first}
use Rattle.discovery.specs.Firsts.{type_a_first, split_first, type_b_first, type_f_first, poll_asserted, dep_asserted}

unfoldable pub device_first : DeviceCall → Start
device_first (detect_type_a_of text uid) = code_for type_a_code text (type_a_first uid)
device_first (detect_type_a_split text uid) = code_for type_a_code text (split_first uid)
device_first (detect_type_b_of text sensbReq) = code_for type_b_code text (type_b_first (get_or sensbReq 0 0))
device_first (detect_type_f_of text systemCode requestCode timeSlots) = code_for type_f_code text (type_f_first (sensf_req systemCode requestCode timeSlots))
device_first (poll_type_f text words) = poll_asserted text words
device_first (detect_dep_of text atrReq) = dep_asserted text atrReq
device_first (transceive text selRes ridRes bytes ms) = transceive_first text selRes ridRes bytes (clock_of ms)
device_first (read_without_encryption idm service blocks ms) = read_first idm service blocks (clock_of ms)
device_first (write_without_encryption idm service blocks bytes ms) = write_first idm service blocks bytes (clock_of ms)

unfoldable pub start_for : ReaderCall → Start
start_for (request q) = first_of q
start_for (device d) = device_first d
start_for unknown = refuses BadArgument

-- an opening is no call of an open reader
abbrev pub start_by : Call → Start
start_by (opening mode) = refuses BadArgument
start_by (reader c) = start_for c
