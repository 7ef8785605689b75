-- What a contract means of every call that meets it, and that it leaves one answer. Definitions only.
use Rattle.std.specs.Prelude.{◌≡◌}
use contract.Lifetimes.{Lfts}
use denote.Triple.Clauses.{Ended, Lasts, AtExit, at_exit}
use borrow.Fn.World.{ArgsD, ResD}

-- what a contract says of a call: its lifetimes and parameters, its result, and the parameters at exit
abbrev pub Contract : Ended → Type 1
Contract T = (κs : Lfts T.signature.lifetimes) → ArgsD T.signature κs → ResD T.signature κs → AtExit T κs → Type 0

-- every result and every exit that meets the contract P meets Q too
abbrev pub Means : (T : Ended) → Contract T → Contract T → Type 0
Means T P Q =
    (κs : Lfts T.signature.lifetimes) (a : ArgsD T.signature κs) (r : ResD T.signature κs) (e : AtExit T κs) → P κs a r e → Q κs a r e

-- two results, and two lots of last words and bytes, that both meet it for the same arguments are the same
abbrev pub OneAnswer : (T : Ended) → Contract T → Type 0
OneAnswer T Post =
    (κs : Lfts T.signature.lifetimes) (a : ArgsD T.signature κs) (r₁ r₂ : ResD T.signature κs) (w₁ w₂ : Lasts T κs a)
    → Post κs a r₁ (at_exit T κs a w₁)
    → Post κs a r₂ (at_exit T κs a w₂)
    → (r₁ ≡ r₂) × (w₁ ≡ w₂)
