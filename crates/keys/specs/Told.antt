-- The two readings, as the rules name them.
use Rattle.rules.specs.Reading as rules
use Rattle.rules.specs.Reading.{as_map, as_set}
use Rattle.keys.specs.declared.Reading.{Reading}
use Rattle.keys.specs.declared.Reading.TheVariants as is

abbrev pub reading : Reading → rules.Reading
reading is.AsMap = as_map
reading is.AsSet = as_set
