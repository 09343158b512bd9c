-- The pause after so many pauses in a row: 1 to 64 spins, then 32 times the processor is left to
-- others, then sleeps: 64 of 32 microseconds, 32 of 128, 16 of 512, and from then on of 2,048.
use Rattle.std.specs.Prelude.{ℕ, ◌^◌, nat_lt, if◌then◌else◌}
use Rattle.stage_threads.specs.declared.back_off.Pause.{Pause}
use Rattle.stage_threads.specs.declared.back_off.Pause.TheVariants.{Spin, Yield, Sleep}

abbrev pub pause_after : ℕ → Pause
pause_after n =
    if nat_lt n 7 then Spin (2 ^ n)
    else if nat_lt n 39 then Yield
    else if nat_lt n 103 then Sleep 32
    else if nat_lt n 135 then Sleep 128
    else if nat_lt n 151 then Sleep 512
    else Sleep 2048
