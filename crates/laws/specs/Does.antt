-- What a call does to the words lent to it, as the theorems have it. Definitions only.
use Rattle.std.specs.Prelude.{◌≡◌, ◌↔◌, List, ℕ}
use Rattle.bitmap.specs.Answer.{Said, given}
use Rattle.bitmap.specs.Calls.{answer, after}
use Rattle.asogeren.specs.declared.crossing.Answer.{Answer}
use Rattle.asogeren.specs.Crossed.{crossed}
use Rattle.laws.specs.Call.{Call, call_says, call_after}

-- x is what the call c says of the words at entry, and the words at exit are those that it makes of them
abbrev pub Does : Call → Said → List ℕ → List ℕ → Type 0
Does c x entry exit = (x ≡ answer (call_says c) entry) × (exit ≡ after (call_after c) entry)

-- a call as C has it answers in two numbers: they are what x crosses as, and refusal 0 means exactly that x gives a value
pub record Crosses (x : Said) (r : Answer) : Type 0 where
  pub is : r ≡ crossed x
  pub given-exactly : (r.refusal ≡ 0) ↔ ((v : ℕ) × (x ≡ given v))

-- the call c as C has it, which is how it is exported
abbrev pub Exported : Call → Answer → List ℕ → List ℕ → Type 0
Exported c r entry exit = Crosses (answer (call_says c) entry) r × (exit ≡ after (call_after c) entry)
