-- The parameter byte, and the layout of a super frame that follows from it.
use Rattle.std.specs.Prelude.{ℕ, ◌+◌, ◌*◌, Bool, true, false, cond, not, ◌&&◌, ◌||◌, [], ◌∷◌, Ok, Err, Result, ◌==◌, nat_le}
use Rattle.gf.specs.declared.refusal.Refusal.{Refusal}
use Rattle.gf.specs.declared.refusal.Refusal.TheVariants as refusals
use Rattle.block.specs.declared.fault.HeaderFault.{HeaderFault}
use Rattle.block.specs.declared.fault.HeaderFault.TheVariants as faults
use Rattle.block.specs.declared.parameters.DacRate.{DacRate}
use Rattle.block.specs.declared.parameters.DacRate.TheVariants.{Khz32, Khz48}
use Rattle.block.specs.declared.parameters.ChannelMode.{ChannelMode}
use Rattle.block.specs.declared.parameters.ChannelMode.TheVariants.{Mono, Stereo}
use Rattle.block.specs.declared.parameters.Parameters.{Parameters}
use Rattle.block.specs.declared.parameters.Layout.{Layout}
use Rattle.block.specs.Bytes.{bit}

-- the refusal that a header's fault is
abbrev pub refused : HeaderFault → Refusal
refused faults.Fire = refusals.Fire
refused faults.Parameters = refusals.Parameters
refused (faults.Alignment byte) = refusals.Alignment byte
refused (faults.Starts number) = refusals.Starts number

-- whether a bit of the byte is 1, the top bit being bit 0
abbrev pub flag : ℕ → ℕ → Bool
flag byte place = bit (byte ∷ []) place == 1

abbrev pub rate : Bool → DacRate
rate true = Khz48
rate false = Khz32

abbrev pub channels : Bool → ChannelMode
channels true = Stereo
channels false = Mono

-- what the bits behind the first say: dac, sbr, mode, ps and three bits of surround
abbrev pub parameters : ℕ → Parameters
parameters byte = record {
  dac = rate (flag byte 1);
  sbr = flag byte 2;
  mode = channels (flag byte 3);
  ps = flag byte 4;
  surround = bit (byte ∷ []) 5 * 4 + bit (byte ∷ []) 6 * 2 + bit (byte ∷ []) 7;
}

abbrev pub is_mono : ChannelMode → Bool
is_mono Mono = true
is_mono Stereo = false

-- ps goes only with sbr and mono
abbrev pub keeps_ps_rule : Parameters → Bool
keeps_ps_rule p = not p.ps || (p.sbr && is_mono p.mode)

-- a header can say this: the reserved bit is 0, and ps goes only with sbr and mono
abbrev pub right : ℕ → Bool
right byte = not (flag byte 0) && keeps_ps_rule (parameters byte)

-- a parameter byte as it is read
abbrev pub read : ℕ → Result Parameters HeaderFault
read byte = cond (right byte) (Ok (parameters byte)) (Err faults.Parameters)

-- units in a super frame, bytes in its header, and whether four bits fill the header's last byte
abbrev pub layout : DacRate → Bool → Layout
layout Khz32 true = record { units = 2; header_length = 5; aligned = true }
layout Khz48 true = record { units = 3; header_length = 6; aligned = false }
layout Khz32 false = record { units = 4; header_length = 8; aligned = true }
layout Khz48 false = record { units = 6; header_length = 11; aligned = true }

-- settings can say this: surround has three bits, and ps goes only with sbr and mono
abbrev pub sendable : Parameters → Bool
sendable p = nat_le p.surround 7 && keeps_ps_rule p
