-- The limits of a program's run, and the settings of a backup that none is given.
use Rattle.vault_types.specs.declared.Cutting.TheVariants.{Ae}
use Rattle.vault_types.specs.declared.Rewrite.TheVariants.{Har}
use Rattle.vault_types.specs.declared.JobConfig.{JobConfig}
use Rattle.vault_types.specs.declared.Limits.{Limits}

abbrev pub standard_limits : Limits
standard_limits = record { chunks = 4194304; last = 4294967294; script = 1048576 }

abbrev pub standard_config : JobConfig
standard_config =
    record {
      cutting = Ae 4096 65536;
      rewrite = Har;
      segment = 4194304;
      cap = 16;
      threshold = 50;
      limit = 5;
      container = 4194304;
    }
