-- How the parameters of a super frame are printed.
use Rattle.std.specs.Prelude.{ℕ, cond, List, ◌++◌, codes, decimal}
use Rattle.block.specs.declared.parameters.DacRate.{DacRate}
use Rattle.block.specs.declared.parameters.DacRate.TheVariants.{Khz32, Khz48}
use Rattle.block.specs.declared.parameters.ChannelMode.{ChannelMode}
use Rattle.block.specs.declared.parameters.ChannelMode.TheVariants.{Mono, Stereo}
use Rattle.block.specs.declared.parameters.Parameters.{Parameters}

abbrev pub rate_text : DacRate → List ℕ
rate_text Khz32 = codes "32 kHz"
rate_text Khz48 = codes "48 kHz"

abbrev pub mode_text : ChannelMode → List ℕ
mode_text Mono = codes "mono"
mode_text Stereo = codes "stereo"

-- as in "48 kHz, sbr, mono, no ps, surround 0"
abbrev pub parameters_text : Parameters → List ℕ
parameters_text p =
    rate_text p.dac ++ (codes ", " ++ (cond p.sbr (codes "sbr") (codes "no sbr") ++ (codes ", " ++ (mode_text p.mode ++ (codes ", "
    ++ (cond p.ps (codes "ps") (codes "no ps") ++ (codes ", surround " ++ decimal p.surround)))))))
