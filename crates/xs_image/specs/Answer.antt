-- What a refusal stands for. This project's own.
use Rattle.xs_base.specs.RegisterSet.{SetResult}
use Rattle.xs_base.specs.RegisterSet as sets
use Rattle.xs_image.specs.declared.checking.RegsetError.{RegsetError}
use Rattle.xs_image.specs.declared.checking.RegsetError.TheVariants.{Fault, Count, Header}

abbrev pub refused_as : RegsetError → SetResult
refused_as Fault = sets.Fault
refused_as Count = sets.Count
refused_as (Header error) = sets.Header error
