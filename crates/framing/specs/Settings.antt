-- The six settings in document 01's order. A setting's payload limit is the longest that its length form can carry.
use Rattle.std.specs.Prelude.{ℕ, ◌+◌, ◌%◌, List, ◌∷◌, ◌==◌, Option, Some, None}
use Rattle.framing.specs.Frames.{longest}
use Rattle.errors.specs.Choice.{pick}
use Rattle.framing.specs.declared.ErrorDetection.{ErrorDetection}
use Rattle.framing.specs.declared.ErrorDetection.TheVariants.{ErrorFrame, StatusByte}
use Rattle.framing.specs.declared.FrameFormat.{FrameFormat}
use Rattle.framing.specs.declared.LengthEncoding.{LengthEncoding}
use Rattle.framing.specs.declared.LengthEncoding.TheVariants.{Normal, ExtendedLittleEndian, NormalOrExtendedBigEndian}
use Rattle.framing.specs.Names.{host_to_controller, controller_to_host}

abbrev pub format_with : LengthEncoding → ErrorDetection → ℕ → FrameFormat
format_with e d n = record { length = e; error = d; limit = n }

abbrev pub format_of : LengthEncoding → ErrorDetection → FrameFormat
format_of e d = record { length = e; error = d; limit = longest e }

unfoldable pub setting_of : ℕ → Option FrameFormat
setting_of n =
    pick (n == 0) (Some (format_of Normal ErrorFrame))
    (pick (n == 1) (Some (format_of Normal StatusByte))
    (pick (n == 2) (Some (format_of ExtendedLittleEndian ErrorFrame))
    (pick (n == 3) (Some (format_of ExtendedLittleEndian StatusByte))
    (pick (n == 4) (Some (format_of NormalOrExtendedBigEndian ErrorFrame))
    (pick (n == 5) (Some (format_of NormalOrExtendedBigEndian StatusByte)) None)))))

-- the RC-S956's own
abbrev pub rcs956 : FrameFormat
rcs956 = format_of NormalOrExtendedBigEndian ErrorFrame

-- a payload's TFI says where it goes; a code and bytes follow
abbrev pub payload_from : ℕ → ℕ → List ℕ → List ℕ
payload_from direction code bytes = direction ∷ code ∷ bytes

-- a command's payload: TFI D4, the code, the data
abbrev pub command_payload : ℕ → List ℕ → List ℕ
command_payload code bytes = payload_from host_to_controller code bytes

-- its response's: TFI D5, the code plus 1 as a byte, the bytes
abbrev pub response_payload : ℕ → List ℕ → List ℕ
response_payload code bytes = payload_from controller_to_host ((code + 1) % 256) bytes
