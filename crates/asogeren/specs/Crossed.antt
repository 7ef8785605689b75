-- How what a call says crosses to C: two numbers. Definitions only.
use Rattle.bitmap.specs.Answer.{Said, given, refused}
use Rattle.asogeren.specs.declared.crossing.Answer.{Answer}

-- a value with refusal 0, and a refusal with value 0
abbrev pub crossed : Said → Answer
crossed (given v) = record { refusal = 0; value = v }
crossed (refused n) = record { refusal = n; value = 0 }
