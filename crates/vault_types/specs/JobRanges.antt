-- The ranges of a backup's settings.
use Rattle.std.specs.Prelude.{◌≤◌, ◌<◌}
use Rattle.vault_types.specs.declared.Cutting.{Cutting}
use Rattle.vault_types.specs.declared.Cutting.TheVariants.{Fixed, Ae}
use Rattle.vault_types.specs.declared.JobConfig.{JobConfig}

-- a cutting by a size of 1 to 65,536 bytes, or by a window of at least one byte below a greatest
-- length of up to 65,536
abbrev pub IsCuttable : Cutting → Type 0
IsCuttable (Fixed size) = (1 ≤ size) × (size ≤ 65536)
IsCuttable (Ae window most) = (1 ≤ window) × (window < most) × (most ≤ 65536)

-- the settings of a backup are in their ranges
pub record IsInRange (config : JobConfig) : Type 0 where
  pub cutting : IsCuttable config.cutting
  pub container_low : 1 ≤ config.container
  pub container_high : config.container ≤ 4194304
